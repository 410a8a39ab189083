-- Runs of calls. `step` uses an office's store only through the calls that it is given: with the calls on words it is the run of paper 01,
-- "Runs"; with the same calls on contents (no words in stores, lines and tokens) it is the protocol by its rules alone. Assumes nothing.
use Rattle.std.specs.Prelude.{ℕ, suc, zero, cond, List, [], ◌++◌, ◌∷◌, eqb, ltb, length, set, None, Some}
use Rattle.causal.specs.Codes.{check}
use Rattle.frame.specs.Entries.{blank_entry, id_of}
use Rattle.frame.specs.Frames.{accepts, frame_of, ring_ok}
use Rattle.frame.specs.Sessions.{Content, fresh_content, session_ok}
use Rattle.frame.specs.TokenCalls.{read_token_code, write_token_code, write_token_row}
use Rattle.frame.specs.Tokens.{content_from, token_words}
use Rattle.frame.specs.declared.entry.Entry.{Entry}
use Rattle.frame.specs.declared.entry.Frame.{Frame}
use Rattle.joining.specs.Joins.{join_code, joined}
use Rattle.store.specs.Offices.{Found, Office, empty_office}
use Rattle.office.specs.Calls.{Result, fresh_code, joint_on, open_office, parsed, read_joint, read_on, read_plot, receive, receive_on, write, write_on}

-- ---- what there is about

-- a session (S: its content, or the struct that crosses) with its past, as ids
pub record TrackedAs (S : Type 0) : Type 0 where
  pub session : S
  pub past : List ℕ

abbrev pub Tracked : Type 0
Tracked = TrackedAs Content

-- a token (C: its words, or its content) with its past
pub record TrackedToken (C : Type 0) : Type 0 where
  pub token : C
  pub past : List ℕ

-- an entry made, with its writer's past
pub record Made : Type 0 where
  pub entry : Entry
  pub past : List ℕ

-- a call that was made: its reply; the lent row afterwards; and of an accepted reading what was handed back on each plot, and the
-- session's past, which "counts what that reading hands back"
pub record Event : Type 0 where
  pub code : ℕ
  pub count : ℕ
  pub row : List ℕ
  pub reads : List (ℕ × Found)
  pub past : List ℕ

-- the ring at a moment: stores A, lines of frames B, sessions S, tokens C; the entries made and the calls made so far, oldest first
pub record StateAs (S A B C : Type 0) : Type 0 where
  pub stores : ℕ → A
  pub lines : ℕ → List B
  pub sessions : List (TrackedAs S)
  pub tokens : List (TrackedToken C)
  pub log : List Made
  pub events : List Event

abbrev pub State : Type 0 → Type 0 → Type 0 → Type 0
State A B C = StateAs Content A B C

-- an answer as a run takes it: `Result` of office/specs/Calls.antt, with any form S of session
pub record SaidAs (S A B : Type 0) : Type 0 where
  pub code : ℕ
  pub count : ℕ
  pub found : List Found
  pub store : A
  pub session : S
  pub row : List ℕ
  pub sent : List B

-- "any list of writes, single and joint readings, hearings, fresh errands, slip writings and slip readings, with any numbers and room"; 02, (iv):
-- "the third demand's list takes in the join"
pub data Call : Type 0 where
  writing : (o i plot value : ℕ) (row : List ℕ) → Call
  reading : (o i plot : ℕ) → Call
  joint : (o i : ℕ) (plots row : List ℕ) → Call
  receiving : (o : ℕ) (row : List ℕ) → Call
  receiving_words : (o : ℕ) (words row : List ℕ) → Call
  fresh : (m : ℕ) → Call
  token_writing : (i : ℕ) (row : List ℕ) → Call
  token_reading : (t m p : ℕ) → Call
  copy_session : (i : ℕ) → Call
  copy_token : (t : ℕ) → Call
  joining : (i j m p : ℕ) → Call

-- the calls of an office, whose stores are A, frames B, tokens C
pub record Calls (A B C : Type 0) : Type 0 where
  pub on_write : A → Content → ℕ → ℕ → List ℕ → Result A B
  pub on_read : A → Content → ℕ → Result A B
  pub on_joint : A → Content → List ℕ → List ℕ → Result A B
  pub on_receive : A → B → List ℕ → Result A B
  -- the receive of words that nobody sent
  pub on_words : A → List ℕ → List ℕ → Result A B
  pub token_of : Content → C
  pub token_read : C → Content
  pub token_code : ℕ → ℕ → C → ℕ

-- ---- helpers

module _ {A : Type 0} where
  -- the element at i, or none
  unfoldable pub at : List A → ℕ → List A
  at [] i = []
  at (x ∷ l) zero = x ∷ []
  at (x ∷ l) (suc i) = at l i

  unfoldable pub upd : (ℕ → A) → ℕ → A → ℕ → A
  upd f i a o = cond (eqb o i) a (f o)

-- "its predecessor (one number lower; for office 0, the last)": whom an office sends to
unfoldable pub next_of : ℕ → ℕ → ℕ
next_of n o = cond (ltb (suc o) n) (suc o) 0

unfoldable pub writer_past : List Made → ℕ → List ℕ
writer_past [] k = []
writer_past (m ∷ ms) k = cond (eqb (id_of m.entry) k) m.past (writer_past ms k)

-- "An accepted reading adds each entry handed back, with its writer's past"
unfoldable pub gained : List Made → List Found → List ℕ → List ℕ
gained log [] past = past
gained log (None ∷ fs) past = gained log fs past
gained log (Some e ∷ fs) past = gained log fs (id_of e ∷ (writer_past log (id_of e) ++ past))

unfoldable pub together : List ℕ → List Found → List (ℕ × Found)
together [] fs = []
together (q ∷ qs) [] = []
together (q ∷ qs) (f ∷ fs) = (q, f) ∷ together qs fs

unfoldable pub last_of : List Entry → Entry
last_of [] = blank_entry
last_of (e ∷ []) = e
last_of (e ∷ (f ∷ es)) = last_of (f ∷ es)

abbrev pub answered : ℕ → ℕ → List ℕ → Event
answered c k row = record { code = c; count = k; row = row; reads = []; past = [] }

abbrev pub event_of : {A B : Type 0} → Result A B → Event
event_of r = answered r.code r.count r.row

-- ---- what an answer leaves, with any form S of session

module _ {S A B C : Type 0} (g : StateAs S A B C) where
  abbrev pub left : (ℕ → A) → (ℕ → List B) → List (TrackedAs S) → List Made → Event → StateAs S A B C
  left stores lines sessions log v =
      record { stores = stores; lines = lines; sessions = sessions; tokens = g.tokens; log = log; events = g.events ++ (v ∷ []) }

  abbrev pub noted_event : Event → StateAs S A B C
  noted_event v = left g.stores g.lines g.sessions g.log v

  abbrev pub with_session : TrackedAs S → StateAs S A B C
  with_session r =
      record { stores = g.stores; lines = g.lines; sessions = g.sessions ++ (r ∷ []); tokens = g.tokens; log = g.log; events = g.events }

  abbrev pub with_token : TrackedToken C → StateAs S A B C
  with_token r =
      record { stores = g.stores; lines = g.lines; sessions = g.sessions; tokens = g.tokens ++ (r ∷ []); log = g.log; events = g.events }

  -- after a refused call, without a session and with one, "A call gets store and errand as the last call on them left them"
  abbrev pub turned : ℕ → SaidAs S A B → StateAs S A B C
  turned o a = left (upd g.stores o a.store) g.lines g.sessions g.log (answered a.code a.count a.row)

  abbrev pub refused : ℕ → ℕ → TrackedAs S → SaidAs S A B → StateAs S A B C
  refused o i r a =
      left (upd g.stores o a.store) g.lines (set g.sessions i (record { session = a.session; past = r.past })) g.log
      (answered a.code a.count a.row)

  -- an accepted reading of plots
  abbrev pub read_plots : ℕ → ℕ → TrackedAs S → List ℕ → SaidAs S A B → StateAs S A B C
  read_plots o i r plots a =
      left (upd g.stores o a.store) g.lines
      (set g.sessions i (record { session = a.session; past = gained g.log a.found r.past }))
      g.log
      (record {
        code = a.code;
        count = a.count;
        row = a.row;
        reads = together plots a.found;
        past = gained g.log a.found r.past;
      })

  abbrev pub read_left : ℕ → ℕ → TrackedAs S → List ℕ → SaidAs S A B → ℕ → StateAs S A B C
  read_left o i r plots a zero = read_plots o i r plots a
  read_left o i r plots a (suc c) = refused o i r a

module _ {S A B C : Type 0} (own : S → List Entry) (n : ℕ) (g : StateAs S A B C) where
  -- an accepted write: "adds the new entry, whose writer's past is the errand's just before"; it is the last of the session's own
  abbrev pub wrote_left : ℕ → ℕ → TrackedAs S → SaidAs S A B → StateAs S A B C
  wrote_left o i r a =
      left g (upd g.stores o a.store) (upd g.lines (next_of n o) (g.lines (next_of n o) ++ a.sent))
      (set g.sessions i (record { session = a.session; past = id_of (last_of (own a.session)) ∷ r.past }))
      (g.log ++ (record { entry = last_of (own a.session); past = r.past } ∷ []))
      (answered a.code a.count a.row)

  abbrev pub write_left : ℕ → ℕ → TrackedAs S → SaidAs S A B → ℕ → StateAs S A B C
  write_left o i r a zero = wrote_left o i r a
  write_left o i r a (suc c) = refused g o i r a

module _ {S A B C : Type 0} (n : ℕ) (g : StateAs S A B C) where
  abbrev pub received_left : ℕ → List B → SaidAs S A B → StateAs S A B C
  received_left o rest a =
      left g (upd g.stores o a.store) (upd (upd g.lines o rest) (next_of n o) (g.lines (next_of n o) ++ a.sent)) g.sessions g.log
      (answered a.code a.count a.row)

  -- "A frame whose hearing is refused has not been heard": its line is as it was
  abbrev pub receive_left : ℕ → List B → SaidAs S A B → ℕ → StateAs S A B C
  receive_left o rest a zero = received_left o rest a
  receive_left o rest a (suc c) = turned g o a

module _ {S A B C : Type 0} (g : StateAs S A B C) where
  -- a session handed out, fresh, read from a token or joined from two; a refused call hands none out
  abbrev pub begins : S → List ℕ → ℕ → StateAs S A B C
  begins s past zero = with_session (noted_event g (answered 0 0 [])) (record { session = s; past = past })
  begins s past (suc c) = noted_event g (answered (suc c) 0 [])

  -- "Copies, slips and errands read from them keep the past of their origin"
  abbrev pub token_left : C → List ℕ → ℕ → List ℕ → ℕ → StateAs S A B C
  token_left t past k row zero = with_token (noted_event g (answered 0 k row)) (record { token = t; past = past })
  token_left t past k row (suc c) = noted_event g (answered (suc c) k row)

-- ---- a step, with the calls F

abbrev said : {A B : Type 0} → Result A B → SaidAs Content A B
said R =
    record {
      code = R.code;
      count = R.count;
      found = R.found;
      store = R.store;
      session = R.session;
      row = R.row;
      sent = R.sent;
    }

module _ {A B C : Type 0} (F : Calls A B C) (n : ℕ) where
  abbrev pub turned_by : State A B C → ℕ → Result A B → State A B C
  turned_by g o R = turned g o (said R)

  abbrev pub refused_by : State A B C → ℕ → ℕ → Tracked → Result A B → State A B C
  refused_by g o i r R = refused g o i r (said R)

  abbrev pub wrote : State A B C → ℕ → ℕ → Tracked → Result A B → State A B C
  wrote g o i r R = wrote_left (λ (s : Content). s.own) n g o i r (said R)

  abbrev pub write_by : State A B C → ℕ → ℕ → Tracked → Result A B → ℕ → State A B C
  write_by g o i r R c = write_left (λ (s : Content). s.own) n g o i r (said R) c

  abbrev pub read_in : State A B C → ℕ → ℕ → Tracked → List ℕ → Result A B → State A B C
  read_in g o i r plots R = read_plots g o i r plots (said R)

  abbrev pub read_by : State A B C → ℕ → ℕ → Tracked → List ℕ → Result A B → ℕ → State A B C
  read_by g o i r plots R c = read_left g o i r plots (said R) c

  abbrev pub received : State A B C → ℕ → List B → Result A B → State A B C
  received g o rest R = received_left n g o rest (said R)

  abbrev pub receive_by : State A B C → ℕ → List B → Result A B → ℕ → State A B C
  receive_by g o rest R c = receive_left n g o rest (said R) c

  abbrev pub write_at : State A B C → ℕ → ℕ → ℕ → ℕ → List ℕ → List Tracked → State A B C
  write_at g o i plot value row [] = g
  write_at g o i plot value row (r ∷ rs) =
      write_by g o i r (F.on_write (g.stores o) r.session plot value row) (F.on_write (g.stores o) r.session plot value row).code

  abbrev pub read_at : State A B C → ℕ → ℕ → ℕ → List Tracked → State A B C
  read_at g o i plot [] = g
  read_at g o i plot (r ∷ rs) =
      read_by g o i r (plot ∷ []) (F.on_read (g.stores o) r.session plot) (F.on_read (g.stores o) r.session plot).code

  abbrev pub joint_at : State A B C → ℕ → ℕ → List ℕ → List ℕ → List Tracked → State A B C
  joint_at g o i plots row [] = g
  joint_at g o i plots row (r ∷ rs) =
      read_by g o i r plots (F.on_joint (g.stores o) r.session plots row) (F.on_joint (g.stores o) r.session plots row).code

  -- "a hearing gets, unaltered, the oldest one that its office hasn't heard from its predecessor .. with none waiting, no frame is heard"
  abbrev pub receive_at : State A B C → ℕ → List ℕ → List B → State A B C
  receive_at g o row [] = g
  receive_at g o row (f ∷ rest) = receive_by g o rest (F.on_receive (g.stores o) f row) (F.on_receive (g.stores o) f row).code

  -- "a fresh errand ..; its past is empty"
  abbrev pub start_by : State A B C → ℕ → ℕ → State A B C
  start_by g m c = begins g (fresh_content m) [] c

  abbrev pub token_by : State A B C → Tracked → List ℕ → ℕ → State A B C
  token_by g r row zero = token_left g (F.token_of r.session) r.past (length (token_words r.session)) (write_token_row r.session row) 0
  token_by g r row (suc c) = token_left g (F.token_of r.session) r.past 0 (write_token_row r.session row) (suc c)

  abbrev pub token_at : State A B C → List ℕ → List Tracked → State A B C
  token_at g row [] = g
  token_at g row (r ∷ rs) = token_by g r row (write_token_code r.session (length row))

  abbrev pub from_token : State A B C → TrackedToken C → ℕ → State A B C
  from_token g r c = begins g (F.token_read r.token) r.past c

  abbrev pub from_token_at : State A B C → ℕ → ℕ → List (TrackedToken C) → State A B C
  from_token_at g m p [] = g
  from_token_at g m p (r ∷ rs) = from_token g r (F.token_code m p r.token)

  abbrev pub copied_session : State A B C → List Tracked → State A B C
  copied_session g [] = g
  copied_session g (r ∷ rs) = with_session g r

  abbrev pub copied_token : State A B C → List (TrackedToken C) → State A B C
  copied_token g [] = g
  copied_token g (r ∷ rs) = with_token g r

  -- "The joined errand is returned and the two given stay as they are. Its past is both pasts". No store and no words are in it, so the run on words
  -- and that on contents take the same; what really crosses is tied to it in specs/Claim.antt
  abbrev pub join_by : State A B C → Tracked → Tracked → ℕ → State A B C
  join_by g a b c = begins g (joined a.session b.session) (a.past ++ b.past) c

  abbrev pub join_at : State A B C → ℕ → ℕ → List Tracked → List Tracked → State A B C
  join_at g m p [] bs = g
  join_at g m p (a ∷ l) [] = g
  join_at g m p (a ∷ l) (b ∷ bs) = join_by g a b (join_code m p a.session b.session)

  -- "or else words that it refuses with 9": other words are no call of a run
  abbrev pub words_by : State A B C → ℕ → Result A B → State A B C
  words_by g o R = cond (eqb R.code 9) (turned_by g o R) g

  unfoldable pub step : State A B C → Call → State A B C
  step g (writing o i plot value row) = cond (ltb o n) (write_at g o i plot value row (at g.sessions i)) g
  step g (reading o i plot) = cond (ltb o n) (read_at g o i plot (at g.sessions i)) g
  step g (joint o i plots row) = cond (ltb o n) (joint_at g o i plots row (at g.sessions i)) g
  step g (receiving o row) = cond (ltb o n) (receive_at g o row (g.lines o)) g
  step g (receiving_words o words row) = cond (ltb o n) (words_by g o (F.on_words (g.stores o) words row)) g
  step g (fresh m) = start_by g m (fresh_code m)
  step g (token_writing i row) = token_at g row (at g.sessions i)
  step g (token_reading t m p) = from_token_at g m p (at g.tokens t)
  step g (copy_session i) = copied_session g (at g.sessions i)
  step g (copy_token t) = copied_token g (at g.tokens t)
  step g (joining i j m p) = join_at g m p (at g.sessions i) (at g.sessions j)

  -- the calls in order
  unfoldable pub run : State A B C → List Call → State A B C
  run g [] = g
  run g (c ∷ cs) = run (step g c) cs

-- "It starts with every office of one ring freshly opened and no errand, slip or frame about"
abbrev pub starting : {A B C : Type 0} → (ℕ → A) → State A B C
starting stores = record { stores = stores; lines = λ o. []; sessions = []; tokens = []; log = []; events = [] }

-- ---- on words, and on contents

unfoldable pub over_words : Calls (List ℕ) (List ℕ) (List ℕ)
over_words =
    record {
      on_write = write;
      on_read = read_plot;
      on_joint = read_joint;
      on_receive = receive;
      on_words = receive;
      token_of = token_words;
      token_read = content_from;
      token_code = read_token_code;
    }

unfoldable pub over_contents : Calls Office Frame Content
over_contents =
    record {
      on_write = write_on;
      on_read = read_on;
      on_joint = joint_on;
      on_receive = receive_on;
      on_words = λ O words row. parsed (accepts O.offices O.plots words) O row (receive_on O (frame_of words) row);
      token_of = λ s. s;
      token_read = λ s. s;
      token_code = λ n p s. check (ring_ok n p) 1 (check (session_ok n p s) 9 0);
    }

-- rows o is any row long enough for office o
unfoldable pub words_run : ℕ → ℕ → (ℕ → List ℕ) → List Call → State (List ℕ) (List ℕ) (List ℕ)
words_run n p rows cs = run over_words n (starting (λ o. (open_office n o p (rows o)).1)) cs

unfoldable pub contents_run : ℕ → ℕ → List Call → State Office Frame Content
contents_run n p cs = run over_contents n (starting (λ o. empty_office n o p)) cs
