-- The steps of a write as code takes them, on words: the refusals before the room is known, the frames in the row. proofs/EarlyCodes.antt,
-- proofs/Sends.antt: they are what Calls says. Assumes nothing.
use Rattle.std.specs.Prelude.{ℕ, ◌+◌, ◌-◌, ◌<◌, ◌≡◌, Bool, true, false, cond, List, [], ◌∷◌, ◌++◌, ltb, length}
use Rattle.causal.specs.Codes.{check, or_else}
use Rattle.causal.specs.Sets.{is_in, subset_of}
use Rattle.frame.specs.declared.entry.Entry.{Entry}
use Rattle.frame.specs.declared.entry.Frame.{Frame}
use Rattle.frame.specs.Entries.{id_of}
use Rattle.frame.specs.Frames.{framed, frame_ok, frame_words}
use Rattle.frame.specs.Sessions.{Content, session_ok}
use Rattle.store.specs.Offices.{Office, made}
use Rattle.office.specs.Calls.{own_code}
use Rattle.office.specs.Steps.{own_at}

-- ---- refusals: 3, 4, 5; then 7, 6, 12; then for each own write in order 10 and 11

unfoldable pub first_codes : ℕ → ℕ → Content → ℕ → ℕ → ℕ
first_codes n p s plot value = check (session_ok n p s) 3 (check (ltb plot p) 4 (check (ltb value 268435456) 5 0))

unfoldable pub second_codes : Office → ℕ → List ℕ → ℕ
second_codes O count read = check (ltb count 16) 7 (check (ltb (made O) 32) 6 (check (subset_of read O.held) 12 0))

unfoldable pub early_code : Office → Content → ℕ → ℕ → ℕ
early_code O s plot value =
    or_else (first_codes O.offices O.plots s plot value) (or_else (second_codes O (length s.own) s.read) (own_code O s.own))

-- ---- the frames of a write

-- the frame in which an entry starts its way
abbrev pub started : ℕ → Entry → Frame
started n e = framed n (n - 2) e

-- nothing of what is held
abbrev pub frame_if : Bool → ℕ → Entry → List ℕ
frame_if true n e = []
frame_if false n e = frame_words (started n e)

unfoldable pub frames_in : List ℕ → ℕ → List Entry → List ℕ
frames_in held n [] = []
frames_in held n (e ∷ es) = frame_if (is_in held (id_of e)) n e ++ frames_in held n es

unfoldable pub all_frames : List ℕ → ℕ → List Entry → Entry → List ℕ
all_frames held n es e = frames_in held n es ++ frame_words (started n e)

-- how many of them make a frame
unfoldable pub outside : List ℕ → List Entry → ℕ
outside held [] = 0
outside held (e ∷ es) = cond (is_in held (id_of e)) 0 1 + outside held es

-- each own write makes a frame
abbrev pub Framed : ℕ → List Entry → Type 0
Framed n own = (i : ℕ) → i < length own → frame_ok n 64 (started n (own_at own i)) ≡ true
