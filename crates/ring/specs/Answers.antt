-- What really crosses in a run, and what is read off an answer: nothing but the answer. What it leaves is said in specs/Run.antt, and
-- specs/Claim.antt makes a run of it. Assumes nothing.
use Rattle.std.specs.Prelude.{ℕ, ◌+◌, suc, zero, Bool, cond, false, true, List, [], ◌∷◌, map, eqb, drop, get_or, length, take, None, Some}
use Rattle.frame.specs.Entries.{blank_entry, name_of}
use Rattle.frame.specs.Frames.{count_in, offices_in}
use Rattle.frame.specs.Refusals.{Reply}
use Rattle.frame.specs.Sessions.{content_of, fresh_content, session_of}
use Rattle.frame.specs.declared.entry.Entry.{Entry}
use Rattle.frame.specs.declared.session.Session.{Session}
use Rattle.store.specs.Offices.{Found}
use Rattle.ring.specs.Run.{Made, SaidAs, State, StateAs, Tracked, TrackedAs, token_left}

-- ---- what crosses

-- a session as the struct that crosses, with its past; the ring, with stores, frames and tokens as words; an answer of a call
abbrev pub Carried : Type 0
Carried = TrackedAs Session

abbrev pub Ring : Type 0
Ring = StateAs Session (List ℕ) (List ℕ) (List ℕ)

abbrev pub Said : Type 0
Said = SaidAs Session (List ℕ) (List ℕ)

abbrev pub own_of : Session → List Entry
own_of s = (content_of s).own

-- what it says: of each session its content (the slots beyond its count mean nothing: a promise fixes them too, and the run does not look)
abbrev pub content_in : Carried → Tracked
content_in s = record { session = content_of s.session; past = s.past }

abbrev pub shown : Ring → State (List ℕ) (List ℕ) (List ℕ)
shown σ =
    record {
      stores = σ.stores;
      lines = σ.lines;
      sessions = map content_in σ.sessions;
      tokens = σ.tokens;
      log = σ.log;
      events = σ.events;
    }

-- what a call answers, as its promise speaks of it: by value, lent or as C has it, the same numbers, entry and session. A call that hands back words
-- alone answers a `Reply`
pub record WriteAnswer : Type 0 where
  pub reply : Reply
  pub session : Session

pub record ReadAnswer : Type 0 where
  pub code : ℕ
  pub found : Bool
  pub entry : Entry
  pub session : Session

pub record SessionAnswer : Type 0 where
  pub code : ℕ
  pub session : Session

-- ---- what is read off an answer

-- the words of a row's first frame, by its head: offices of the ring, dependencies, and four more
abbrev pub first_words : List ℕ → ℕ
first_words ws = offices_in ws + count_in ws + 4

-- at most k frames, each right after the one before
unfoldable pub cut_to : ℕ → List ℕ → List (List ℕ)
cut_to zero ws = []
cut_to (suc k) [] = []
cut_to (suc k) (w ∷ ws) = take (first_words (w ∷ ws)) (w ∷ ws) ∷ cut_to k (drop (first_words (w ∷ ws)) (w ∷ ws))

-- "An accepted write or hearing sends the frames it wrote, in row order": the frames of a row
unfoldable pub frames_in : List ℕ → List (List ℕ)
frames_in ws = cut_to (length ws) ws

-- what a single reading handed back, of its refusal number and its answer: a refused one nothing, not even none
unfoldable pub handed_back : ℕ → Bool → Entry → List Found
handed_back zero true e = Some e ∷ []
handed_back zero false e = None ∷ []
handed_back (suc c) f e = []

-- the entry made under a name (as a payload, 256 × office + serial)
unfoldable pub named_in : List Made → ℕ → Entry
named_in [] k = blank_entry
named_in (m ∷ ms) k = cond (eqb (name_of m.entry) k) m.entry (named_in ms k)

-- "three words each: 1, value, name payload; or 0, 0, 0". The row does not have the entry's clock and deps: the log has
unfoldable pub found_as : List Made → ℕ → ℕ → Found
found_as log zero name = None
found_as log (suc b) name = Some (named_in log name)

unfoldable pub found_in : List Made → List ℕ → List ℕ → List Found
found_in log [] row = []
found_in log (q ∷ qs) row = found_as log (get_or row 0 0) (get_or row 2 0) ∷ found_in log qs (drop 3 row)

-- what a joint reading handed back, of its refusal number
unfoldable pub joint_back : ℕ → List Made → List ℕ → List ℕ → List Found
joint_back zero log plots row = found_in log plots row
joint_back (suc c) log plots row = []

abbrev pub wrote_said : WriteAnswer → List ℕ → List ℕ → Said
wrote_said r ws' row' =
    record {
      code = r.reply.code;
      count = r.reply.words;
      found = [];
      store = ws';
      session = r.session;
      row = row';
      sent = frames_in (take r.reply.words row');
    }

abbrev pub read_said : ReadAnswer → List ℕ → Said
read_said r ws' =
    record {
      code = r.code;
      count = 0;
      found = handed_back r.code r.found r.entry;
      store = ws';
      session = r.session;
      row = [];
      sent = [];
    }

abbrev pub joint_said : List Made → List ℕ → SessionAnswer → List ℕ → List ℕ → Said
joint_said log plots r ws' row' =
    record {
      code = r.code;
      count = 0;
      found = joint_back r.code log plots row';
      store = ws';
      session = r.session;
      row = row';
      sent = [];
    }

-- a receive has no session: that field is a fixed blank
abbrev pub received_said : Reply → List ℕ → List ℕ → Said
received_said r ws' row' =
    record {
      code = r.code;
      count = r.words;
      found = [];
      store = ws';
      session = session_of (fresh_content 0);
      row = row';
      sent = frames_in (take r.words row');
    }

-- a token is the words written in front of the row
abbrev pub token_written : Ring → Carried → Reply → List ℕ → ℕ → Ring
token_written σ s r row' c = token_left σ (take r.words row') s.past r.words row' c
