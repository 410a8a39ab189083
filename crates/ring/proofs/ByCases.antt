-- A step of a run, by the kinds of call: what holds of each outcome holds of the step. Assumes nothing.
use Prim.Native.Nat.{ℕ, ◌<◌, suc, zero}
use mathlib.Core.Bool.{Bool, cond, false, true}
use mathlib.Core.List.{List, Memᴰ, [], ◌∷◌}
use mathlib.Core.Path.{◌≡◌, refl}
use lib.Dec.{eqb, ltb}
use lib.ListN.{length}
use borrow.Author.Tests.{ltb-true}
use Rattle.frame.specs.TokenCalls.{write_token_code}
use Rattle.joining.specs.Joins.{join_code}
use Rattle.office.specs.Calls.{Result, fresh_code}
use Rattle.ring.specs.Run.{Call, Calls, Made, State, Tracked, TrackedToken, at, copy_session, copy_token, copied_session, copied_token, fresh, from_token, from_token_at, join_at, join_by, joining, joint, joint_at, read_at, read_by, reading, receive_at, receive_by, receiving, receiving_words, start_by, step, token_reading, token_writing, token_at, token_by, turned_by, with_session, with_token, words_by, write_at, write_by, writing}
use Rattle.ring.proofs.Fit.{mem_at}

module _ {A B C : Type 0} (F : Calls A B C) (n : ℕ) (g : State A B C) where
  -- what has to hold of each kind of call
  pub record Each (Q : State A B C → Type 0) : Type 0 where
    pub none : Q g
    pub writes : (o i plot value : ℕ) (row : List ℕ) (r : Tracked) → o < n → Memᴰ r g.sessions
        → Q (write_by F n g o i r (F.on_write (g.stores o) r.session plot value row) (F.on_write (g.stores o) r.session plot value row).code)
    pub reads : (o i plot : ℕ) (r : Tracked) → o < n → Memᴰ r g.sessions
        → Q (read_by F n g o i r (plot ∷ []) (F.on_read (g.stores o) r.session plot) (F.on_read (g.stores o) r.session plot).code)
    pub joint_reads : (o i : ℕ) (plots row : List ℕ) (r : Tracked) → o < n → Memᴰ r g.sessions
        → Q (read_by F n g o i r plots (F.on_joint (g.stores o) r.session plots row) (F.on_joint (g.stores o) r.session plots row).code)
    pub receives : (o : ℕ) (row : List ℕ) (f : B) (rest : List B) → o < n → g.lines o ≡ f ∷ rest
        → Q (receive_by F n g o rest (F.on_receive (g.stores o) f row) (F.on_receive (g.stores o) f row).code)
    pub words : (o : ℕ) (words row : List ℕ) → o < n → Q (words_by F n g o (F.on_words (g.stores o) words row))
    pub starts : (m : ℕ) → Q (start_by F n g m (fresh_code m))
    pub token_writes : (r : Tracked) (row : List ℕ) → Memᴰ r g.sessions
        → Q (token_by F n g r row (write_token_code r.session (length row)))
    pub token_reads : (r : TrackedToken C) (m p : ℕ) → Memᴰ r g.tokens → Q (from_token F n g r (F.token_code m p r.token))
    pub copies : (r : Tracked) → Memᴰ r g.sessions → Q (with_session g r)
    pub token_copies : (r : TrackedToken C) → Memᴰ r g.tokens → Q (with_token g r)
    pub joins : (a b : Tracked) (m p : ℕ) → Memᴰ a g.sessions → Memᴰ b g.sessions
        → Q (join_by F n g a b (join_code m p a.session b.session))

  module _ (Q : State A B C → Type 0) (E : Each Q) where
    -- a call at an office of the ring
    at_office : (o : ℕ) (h : State A B C) → (o < n → Q h) → Q (cond (ltb o n) h g)
    at_office o h q = go (ltb o n) refl
      where
        go : (t : Bool) → ltb o n ≡ t → Q (cond t h g)
        go true t = q (ltb-true o n t)
        go false t = E.none

    pub step_each : (c : Call) → Q (step F n g c)
    unfolding step
    step_each (writing o i plot value row) =
        at_office o (write_at F n g o i plot value row (at g.sessions i))
        (λ lt. by lt (at g.sessions i) (λ r m. mem_at g.sessions i r m))
      where
        by : o < n → (l : List Tracked) → ((r : Tracked) → Memᴰ r l → Memᴰ r g.sessions) → Q (write_at F n g o i plot value row l)
        by lt [] mem = E.none
        by lt (r ∷ rs) mem = E.writes o i plot value row r lt (mem r (Memᴰ.head refl))
    step_each (reading o i plot) =
        at_office o (read_at F n g o i plot (at g.sessions i)) (λ lt. by lt (at g.sessions i) (λ r m. mem_at g.sessions i r m))
      where
        by : o < n → (l : List Tracked) → ((r : Tracked) → Memᴰ r l → Memᴰ r g.sessions) → Q (read_at F n g o i plot l)
        by lt [] mem = E.none
        by lt (r ∷ rs) mem = E.reads o i plot r lt (mem r (Memᴰ.head refl))
    step_each (joint o i plots row) =
        at_office o (joint_at F n g o i plots row (at g.sessions i)) (λ lt. by lt (at g.sessions i) (λ r m. mem_at g.sessions i r m))
      where
        by : o < n → (l : List Tracked) → ((r : Tracked) → Memᴰ r l → Memᴰ r g.sessions) → Q (joint_at F n g o i plots row l)
        by lt [] mem = E.none
        by lt (r ∷ rs) mem = E.joint_reads o i plots row r lt (mem r (Memᴰ.head refl))
    step_each (receiving o row) = at_office o (receive_at F n g o row (g.lines o)) (λ lt. by lt (g.lines o) refl)
      where
        by : o < n → (l : List B) → g.lines o ≡ l → Q (receive_at F n g o row l)
        by lt [] e = E.none
        by lt (f ∷ rest) e = E.receives o row f rest lt e
    step_each (receiving_words o words row) =
        at_office o (words_by F n g o (F.on_words (g.stores o) words row)) (λ lt. E.words o words row lt)
    step_each (fresh m) = E.starts m
    step_each (token_writing i row) = by (at g.sessions i) (λ r m. mem_at g.sessions i r m)
      where
        by : (l : List Tracked) → ((r : Tracked) → Memᴰ r l → Memᴰ r g.sessions) → Q (token_at F n g row l)
        by [] mem = E.none
        by (r ∷ rs) mem = E.token_writes r row (mem r (Memᴰ.head refl))
    step_each (token_reading t m p) = by (at g.tokens t) (λ r j. mem_at g.tokens t r j)
      where
        by : (l : List (TrackedToken C)) → ((r : TrackedToken C) → Memᴰ r l → Memᴰ r g.tokens) → Q (from_token_at F n g m p l)
        by [] mem = E.none
        by (r ∷ rs) mem = E.token_reads r m p (mem r (Memᴰ.head refl))
    step_each (copy_session i) = by (at g.sessions i) (λ r m. mem_at g.sessions i r m)
      where
        by : (l : List Tracked) → ((r : Tracked) → Memᴰ r l → Memᴰ r g.sessions) → Q (copied_session F n g l)
        by [] mem = E.none
        by (r ∷ rs) mem = E.copies r (mem r (Memᴰ.head refl))
    step_each (copy_token t) = by (at g.tokens t) (λ r m. mem_at g.tokens t r m)
      where
        by : (l : List (TrackedToken C)) → ((r : TrackedToken C) → Memᴰ r l → Memᴰ r g.tokens) → Q (copied_token F n g l)
        by [] mem = E.none
        by (r ∷ rs) mem = E.token_copies r (mem r (Memᴰ.head refl))
    step_each (joining i j m p) =
        by (at g.sessions i) (at g.sessions j) (λ r k. mem_at g.sessions i r k) (λ r k. mem_at g.sessions j r k)
      where
        by : (l k : List Tracked) → ((r : Tracked) → Memᴰ r l → Memᴰ r g.sessions)
            → ((r : Tracked) → Memᴰ r k → Memᴰ r g.sessions) → Q (join_at F n g m p l k)
        by [] k first second = E.none
        by (a ∷ l) [] first second = E.none
        by (a ∷ l) (b ∷ k) first second = E.joins a b m p (first a (Memᴰ.head refl)) (second b (Memᴰ.head refl))

  -- ---- only a write adds to the log

  pub read_log : (o i : ℕ) (r : Tracked) (plots : List ℕ) (R : Result A B) (c : ℕ) → (read_by F n g o i r plots R c).log ≡ g.log
  read_log o i r plots R zero = refl
  read_log o i r plots R (suc c) = refl

  pub receive_log : (o : ℕ) (rest : List B) (R : Result A B) (c : ℕ) → (receive_by F n g o rest R c).log ≡ g.log
  receive_log o rest R zero = refl
  receive_log o rest R (suc c) = refl

  pub words_log : (o : ℕ) (R : Result A B) → (words_by F n g o R).log ≡ g.log
  words_log o R = go (eqb R.code 9)
    where
      go : (t : Bool) → (cond t (turned_by F n g o R) g).log ≡ g.log
      go true = refl
      go false = refl

  pub fresh_log : (m c : ℕ) → (start_by F n g m c).log ≡ g.log
  fresh_log m zero = refl
  fresh_log m (suc c) = refl

  pub token_log : (r : Tracked) (row : List ℕ) (c : ℕ) → (token_by F n g r row c).log ≡ g.log
  token_log r row zero = refl
  token_log r row (suc c) = refl

  pub from_log : (r : TrackedToken C) (c : ℕ) → (from_token F n g r c).log ≡ g.log
  from_log r zero = refl
  from_log r (suc c) = refl

  pub join_log : (a b : Tracked) (c : ℕ) → (join_by F n g a b c).log ≡ g.log
  join_log a b zero = refl
  join_log a b (suc c) = refl

  -- what holds of the log, of the log after a write too, holds of it after a step
  pub log_each : (L : List Made → Type 0) → L g.log
      → ((o i plot value : ℕ) (row : List ℕ) (r : Tracked) → o < n → Memᴰ r g.sessions
      → L (write_by F n g o i r (F.on_write (g.stores o) r.session plot value row) (F.on_write (g.stores o) r.session plot value row).code).log)
      → (c : Call) → L (step F n g c).log
  log_each L same wrote =
      step_each (λ (h : State A B C). L h.log)
      (record {
        none = same;
        writes = wrote;
        reads =
            λ o i plot r lt m.
            rw (read_log o i r (plot ∷ []) (F.on_read (g.stores o) r.session plot) (F.on_read (g.stores o) r.session plot).code) same;
        joint_reads =
            λ o i plots row r lt m.
            rw
            (read_log o i r plots (F.on_joint (g.stores o) r.session plots row) (F.on_joint (g.stores o) r.session plots row).code) same;
        receives =
            λ o row f rest lt e. rw (receive_log o rest (F.on_receive (g.stores o) f row) (F.on_receive (g.stores o) f row).code) same;
        words = λ o words row lt. rw (words_log o (F.on_words (g.stores o) words row)) same;
        starts = λ m. rw (fresh_log m (fresh_code m)) same;
        token_writes = λ r row m. rw (token_log r row (write_token_code r.session (length row))) same;
        token_reads = λ r m p i. rw (from_log r (F.token_code m p r.token)) same;
        copies = λ r m. same;
        token_copies = λ r m. same;
        joins = λ a b m p i j. rw (join_log a b (join_code m p a.session b.session)) same;
      })
