-- THE CLAIM OVER ANSWERS (paper 01, "Runs"): promises → run → Holds. `Step` is one call on what really crosses: stores, frames, tokens and
-- lent rows as words, sessions as structs. It is made with ANY answer that keeps the call's promise (frame/specs/Promises.antt,
-- joining/specs/Promises.antt, office/specs/Promises.antt), and leaves what that answer says, read off it by specs/Answers.antt. `Claim`: from offices opened by answers
-- that keep their promise, every chain of such steps leads to what `words_run` says, so `Holds`. `Answered`: there is such a chain for every
-- list of calls. That the promises are the contracts of the code, and the code keeps them: specs/Demand.antt. Assumes nothing.
use Rattle.std.specs.Prelude.{ℕ, ◌<◌, ◌≤◌, cond, List, [], ◌++◌, ◌∷◌, ◌⊎◌, ◌≡◌, eqb, ltb, length}
use Rattle.frame.specs.Promises.{ReadTokenPromise, WriteTokenPromise}
use Rattle.frame.specs.Refusals.{Reply}
use Rattle.joining.specs.Promises.{JoinPromise}
use Rattle.store.specs.Offices.{need}
use Rattle.office.specs.Promises.{FreshPromise, JointPromise, OpenPromise, ReadPromise, ReceivePromise, WritePromise}
use Rattle.ring.specs.Holds.{Holds}
use Rattle.ring.specs.Run.{Call, TrackedToken, at, begins, contents_run, copy_session, copy_token, fresh, joining, joint, read_left, reading, receive_left, receiving, receiving_words, token_reading, token_writing, turned, with_session, with_token, words_run, write_left, writing}
use Rattle.ring.specs.Answers.{ReadAnswer, SessionAnswer, WriteAnswer, Carried, Ring, joint_said, own_of, read_said, received_said, shown, token_written, wrote_said}

-- ---- one call

-- no call: no office of the ring; no such session or token ("errands and slips (or copies) from earlier calls only"); "with none waiting, no
-- frame is heard"
unfoldable pub Absent : ℕ → Ring → Call → Type 0
Absent n σ (writing o i plot value row) = (n ≤ o) ⊎ (at σ.sessions i ≡ [])
Absent n σ (reading o i plot) = (n ≤ o) ⊎ (at σ.sessions i ≡ [])
Absent n σ (joint o i plots row) = (n ≤ o) ⊎ (at σ.sessions i ≡ [])
Absent n σ (receiving o row) = (n ≤ o) ⊎ (σ.lines o ≡ [])
Absent n σ (receiving_words o words row) = n ≤ o
Absent n σ (fresh m) = ⊥
Absent n σ (token_writing i row) = at σ.sessions i ≡ []
Absent n σ (token_reading t m p) = at σ.tokens t ≡ []
Absent n σ (copy_session i) = at σ.sessions i ≡ []
Absent n σ (copy_token t) = at σ.tokens t ≡ []
Absent n σ (joining i j m p) = (at σ.sessions i ≡ []) ⊎ (at σ.sessions j ≡ [])

-- In each: the answer r and the lent rows as they are left (ws', row'), which keep the promise; then the ring that they leave. The numbers and
-- the lent row are any. "A call gets store and errand as the last call on them left them": refused or accepted, what is left is what the answer
-- says
pub data Step (n : ℕ) (σ : Ring) : Call → Ring → Type 0 where
  absent : (c : Call) → Absent n σ c → Step n σ c σ
  writes : (o i plot value : ℕ) (row : List ℕ) (s : Carried) (r : WriteAnswer) (ws' row' : List ℕ) → o < n → at σ.sessions i ≡ s ∷ []
      → WritePromise (σ.stores o) s.session plot value row r.reply r.session ws' row'
      → Step n σ (writing o i plot value row) (write_left own_of n σ o i s (wrote_said r ws' row') r.reply.code)
  reads : (o i plot : ℕ) (s : Carried) (r : ReadAnswer) (ws' : List ℕ) → o < n → at σ.sessions i ≡ s ∷ []
      → ReadPromise (σ.stores o) s.session plot r.code r.found r.entry r.session ws'
      → Step n σ (reading o i plot) (read_left σ o i s (plot ∷ []) (read_said r ws') r.code)
  -- its row has the name of an entry, not the entry: that is looked up in the log, where each id is once (`Holds`, distinct), and so each name of a
  -- serial from 1 to 32
  reads_jointly : (o i : ℕ) (plots row : List ℕ) (s : Carried) (r : SessionAnswer) (ws' row' : List ℕ) → o < n → at σ.sessions i ≡ s ∷ []
      → JointPromise (σ.stores o) s.session plots row r.code r.session ws' row'
      → Step n σ (joint o i plots row) (read_left σ o i s plots (joint_said σ.log plots r ws' row') r.code)
  -- "a hearing gets, unaltered, the oldest one that its office hasn't heard from its predecessor"; refused, it stays the oldest
  receives : (o : ℕ) (row f : List ℕ) (rest : List (List ℕ)) (r : Reply) (ws' row' : List ℕ) → o < n → σ.lines o ≡ f ∷ rest
      → ReceivePromise (σ.stores o) f row r ws' row' → Step n σ (receiving o row) (receive_left n σ o rest (received_said r ws' row') r.code)
  -- "or else words that it refuses with 9", whether or not a frame waits: other words are no call of a run
  receives_words : (o : ℕ) (words row : List ℕ) (r : Reply) (ws' row' : List ℕ) → o < n → ReceivePromise (σ.stores o) words row r ws' row'
      → Step n σ (receiving_words o words row) (cond (eqb r.code 9) (turned σ o (received_said r ws' row')) σ)
  -- of any ring size: one that the ring does not have makes a session that its offices refuse
  begins_fresh : (m : ℕ) (r : SessionAnswer) → FreshPromise m r.code r.session → Step n σ (fresh m) (begins σ r.session [] r.code)
  writes_token : (i : ℕ) (row : List ℕ) (s : Carried) (r : Reply) (row' : List ℕ) → at σ.sessions i ≡ s ∷ []
      → WriteTokenPromise s.session row r row' → Step n σ (token_writing i row) (token_written σ s r row' r.code)
  -- with any ring size and plots, of the words that were written as that token
  reads_token : (t m p : ℕ) (x : TrackedToken (List ℕ)) (r : SessionAnswer) → at σ.tokens t ≡ x ∷ [] → ReadTokenPromise x.token m p r.code r.session
      → Step n σ (token_reading t m p) (begins σ r.session x.past r.code)
  copies_session : (i : ℕ) (s : Carried) → at σ.sessions i ≡ s ∷ [] → Step n σ (copy_session i) (with_session σ s)
  copies_token : (t : ℕ) (x : TrackedToken (List ℕ)) → at σ.tokens t ≡ x ∷ [] → Step n σ (copy_token t) (with_token σ x)
  -- with any ring size and plots, of any two sessions, also of one with itself; they stay
  joins : (i j m p : ℕ) (s t : Carried) (r : SessionAnswer) → at σ.sessions i ≡ s ∷ [] → at σ.sessions j ≡ t ∷ []
      → JoinPromise m p s.session t.session r.code r.session
      → Step n σ (joining i j m p) (begins σ r.session (s.past ++ t.past) r.code)

-- ---- a list of calls

pub data Runs (n : ℕ) : Ring → List Call → Ring → Type 0 where
  none : {σ : Ring} → Runs n σ [] σ
  more : {σ τ υ : Ring} {c : Call} {cs : List Call} → Step n σ c τ → Runs n τ cs υ → Runs n σ (c ∷ cs) υ

-- each office of the ring was opened over its row, and accepted; ws o is the store that the opening left
abbrev pub Opened : ℕ → ℕ → (ℕ → List ℕ) → (ℕ → List ℕ) → Type 0
Opened n p rows ws = (o : ℕ) → o < n → OpenPromise n o p (rows o) 0 (ws o)

-- "every office of one ring freshly opened and no errand, slip or frame about" (a number that no office has keeps its row)
abbrev pub begun : ℕ → (ℕ → List ℕ) → (ℕ → List ℕ) → Ring
begun n rows ws =
    record { stores = λ o. cond (ltb o n) (ws o) (rows o); lines = λ o. []; sessions = []; tokens = []; log = []; events = [] }

-- THE CLAIM: whatever the answers, if they keep the promises. A ring has an office; that its openings were accepted says the rest of the
-- settings: sizes in range, and rows long enough
abbrev pub Claim : Type 0
Claim =
    (n p : ℕ) → 1 ≤ n → (rows ws : ℕ → List ℕ) → Opened n p rows ws → (cs : List Call) (τ : Ring) → Runs n (begun n rows ws) cs τ →
    (shown τ ≡ words_run n p rows cs) × Holds n rows (shown τ) (contents_run n p cs)

-- .. and it is not empty: such offices can be opened, and whatever was answered so far, each call has an answer that keeps its promise
pub record Answered : Type 0 where
  pub opened : (n p : ℕ) → 2 ≤ n → n ≤ 8 → 1 ≤ p → p ≤ 64 → (rows : ℕ → List ℕ) → ((o : ℕ) → o < n → need n ≤ length (rows o)) →
      (ws : ℕ → List ℕ) × Opened n p rows ws
  pub called : (n : ℕ) (σ : Ring) (cs : List Call) → (τ : Ring) × Runs n σ cs τ
