-- The player's desk, which is the board with the sessions that stand beside it, and the buffers: the changes that a line makes to the desk, and the
-- waiting frames, which lie in slots of 104 words, 32 to an office, each a frame's length and then its words. Assumes nothing.
use Rattle.std.specs.Prelude.{ℕ, suc, zero, ◌%◌, ◌*◌, ◌+◌, ◌-◌, ◌/◌, ◌<◌, ◌≤◌, ◌≡◌, List, [], ◌∷◌, get_or, set}
use Rattle.std.proofs.lemmas.List.Edits.{sets}
use Rattle.causal.specs.Lists.{part}
use Rattle.frame.specs.declared.session.Session.{Session}
use Rattle.player.specs.declared.board.Board.{Board}

pub record Desk : Type 0 where
  pub sessions : List Session
  pub place : List ℕ
  pub first : List ℕ
  pub count : List ℕ

abbrev pub desk : List Session → Board → Desk
desk ss b = record { sessions = ss; place = b.place; first = b.first; count = b.count }

-- what `get_or` gives past the end of a row of sessions
abbrev pub no_session : Session
no_session = record { offices = 0; clock = []; read = []; count = 0; own = [] }

abbrev pub session_at : Desk → ℕ → Session
session_at d i = get_or d.sessions i no_session

abbrev pub place_at : Desk → ℕ → ℕ
place_at d i = get_or d.place i 0

abbrev pub first_at : Desk → ℕ → ℕ
first_at d o = get_or d.first o 0

abbrev pub count_at : Desk → ℕ → ℕ
count_at d o = get_or d.count o 0

abbrev pub with_session : Desk → ℕ → Session → Desk
with_session d i s = record { sessions = set d.sessions i s; place = d.place; first = d.first; count = d.count }

abbrev pub with_place : Desk → ℕ → ℕ → Desk
with_place d i o = record { sessions = d.sessions; place = set d.place i o; first = d.first; count = d.count }

-- n frames more wait at the office o
abbrev pub with_frames : Desk → ℕ → ℕ → Desk
with_frames d o n = record { sessions = d.sessions; place = d.place; first = d.first; count = set d.count o (count_at d o + n) }

-- the oldest frame of the office o waits no longer
abbrev pub without_oldest : Desk → ℕ → Desk
without_oldest d o =
    record { sessions = d.sessions; place = d.place; first = set d.first o ((first_at d o + 1) % 32); count = set d.count o (count_at d o - 1) }

-- ---- the waiting frames

-- the word at which slot q of the office o begins
abbrev pub slot_at : ℕ → ℕ → ℕ
slot_at o q = 104 * (32 * o + q)

-- the words of the frame that begins at word i of a row, in a ring of three, by its head
abbrev pub length_at : List ℕ → ℕ → ℕ
length_at ws i = 7 + get_or ws i 0 % 256

-- its hops left
abbrev pub hops_at : List ℕ → ℕ → ℕ
hops_at ws i = get_or ws i 0 / 4096 % 16

-- the word at which frame k of a row begins
unfoldable pub start_of : List ℕ → ℕ → ℕ
start_of ws zero = 0
start_of ws (suc k) = start_of ws k + length_at ws (start_of ws k)

abbrev pub frame_len : List ℕ → ℕ → ℕ
frame_len ws k = length_at ws (start_of ws k)

-- the row has n frames in its first words
pub record Cut (ws : List ℕ) (words n : ℕ) : Type 0 where
  pub whole : start_of ws n ≡ words
  pub short : (k : ℕ) → k < n → frame_len ws k ≤ 103

-- the slots after the first n frames of a row were put into those of the office o from q on, one behind the other
unfoldable pub pushed : List ℕ → ℕ → ℕ → List ℕ → ℕ → List ℕ
pushed lines o q row zero = lines
pushed lines o q row (suc n) =
    sets (pushed lines o q row n) (slot_at o ((q + n) % 32)) (frame_len row n ∷ part row (start_of row n) (frame_len row n))
