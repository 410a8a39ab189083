-- Each session of a run goes on from what it was, whatever calls come. Assumes nothing.
use Prim.Native.Nat.{ℕ, suc, zero}
use mathlib.Core.Bool.{Bool, cond, false, true}
use mathlib.Core.List.{List, Memᴰ, [], ◌++◌, ◌∷◌}
use mathlib.Core.Logic.{⊎_elim}
use mathlib.Core.Path.{◌≡◌, ap, refl}
use native.Mathlib.Omega.{arith}
use lib.Dec.{eqb, ltb}
use lib.ListN.{length, set}
use Rattle.frame.specs.Sessions.{Content}
use Rattle.frame.specs.TokenCalls.{write_token_code}
use Rattle.joining.specs.Joins.{join_code}
use Rattle.joining.specs.Orders.{GoneOn}
use Rattle.joining.proofs.Orders.{gone_self, gone_then}
use Rattle.office.specs.Calls.{Result, fresh_code, open_office, read_joint, read_plot, receive, write}
use Rattle.ring.specs.Carrying.{KeepsOn}
use Rattle.ring.specs.Run.{Call, Tracked, TrackedToken, at, begins, copy_session, copy_token, copied_session, copied_token, fresh, from_token_at, join_at, joining, joint, joint_at, over_words, read_at, read_by, reading, receive_at, receive_by, receiving, receiving_words, run, starting, step, token_reading, token_writing, token_at, token_by, turned_by, words_by, words_run, write_at, write_by, writing}
use Rattle.ring.proofs.Chain.{at_one}
use Rattle.ring.proofs.GoesOn.{goes_on}
use Rattle.ring.proofs.ReadKeeps.{gained_keeps}
use Rattle.ring.proofs.RunAppend.{run_append}
use Rattle.ring.proofs.SameRun.{WState}

-- u goes on from r, and its past has what r's had
abbrev On : Tracked → Tracked → Type 0
On r u = GoneOn r.session u.session × ((k : ℕ) → Memᴰ k r.past → Memᴰ k u.past)

on_self : (r : Tracked) → On r r
on_self r = (gone_self r.session, λ k m. m)

-- what stands at each place of the one list has gone on at that place of the other
abbrev Lists : List Tracked → List Tracked → Type 0
Lists l m = (j : ℕ) (r : Tracked) → at l j ≡ r ∷ [] → (u : Tracked) × (at m j ≡ u ∷ []) × On r u

same_lists : (l : List Tracked) → Lists l l
same_lists l j r e = (r, e, on_self r)

then_lists : (l m k : List Tracked) → Lists l m → Lists m k → Lists l k
then_lists l m k A B j r e =
    let a = A j r e in
    let b = B j a.0 a.1 in
    (b.0, b.1, (gone_then _ _ _ a.2.0 b.2.0, λ x i. b.2.1 x (a.2.1 x i)))

nothing_there : (r : Tracked) → ◌≡◌ {A = List Tracked} [] (r ∷ []) → ⊥
nothing_there r e = let z = ap length e in omega (arith, z)

more_lists : (l m : List Tracked) → Lists l (l ++ m)
unfolding at
more_lists [] m j r e = absurd (nothing_there r e)
more_lists (x ∷ l) m zero r e = (r, e, on_self r)
more_lists (x ∷ l) m (suc j) r e = more_lists l m j r e

set_lists : (l : List Tracked) (i : ℕ) (x y : Tracked) → at l i ≡ x ∷ [] → On x y → Lists l (set l i y)
unfolding at
set_lists [] i x y e o j r f = absurd (nothing_there r f)
set_lists (z ∷ l) zero x y e o zero r f = let q : x ≡ r = cc in (y, refl, (rw (← q) o.0, rw (← q) o.1))
set_lists (z ∷ l) zero x y e o (suc j) r f = (r, f, on_self r)
set_lists (z ∷ l) (suc i) x y e o zero r f = (r, f, on_self r)
set_lists (z ∷ l) (suc i) x y e o (suc j) r f = set_lists l i x y e o j r f

module _ (n : ℕ) (g : WState) where
  abbrev Keeps : WState → Type 0
  Keeps h = Lists g.sessions h.sessions

  keeps_self : Keeps g
  keeps_self = same_lists g.sessions

  at_office : (o : ℕ) (h : WState) → Keeps h → Keeps (cond (ltb o n) h g)
  at_office o h K = go (ltb o n)
    where
      go : (t : Bool) → Keeps (cond t h g)
      go true = K
      go false = keeps_self

  -- a call that takes session i
  by_session : (i : ℕ) (f : List Tracked → WState) → f [] ≡ g → ((x : Tracked) → at g.sessions i ≡ x ∷ [] → Keeps (f (x ∷ [])))
      → Keeps (f (at g.sessions i))
  by_session i f none one =
      ⊎_elim (λ (e : at g.sessions i ≡ []). rw (e, none) keeps_self) (λ a. rw a.1 (one a.0 a.1)) (at_one g.sessions i)

  begins_keeps : (s : Content) (past : List ℕ) (c : ℕ) → Keeps (begins g s past c)
  begins_keeps s past zero = more_lists g.sessions _
  begins_keeps s past (suc c) = keeps_self

  write_keeps : (o i : ℕ) (x : Tracked) → at g.sessions i ≡ x ∷ [] → (R : Result (List ℕ) (List ℕ)) → GoneOn x.session R.session → (c : ℕ)
      → Keeps (write_by over_words n g o i x R c)
  write_keeps o i x e R G zero = set_lists g.sessions i x _ e (G, λ k m. Memᴰ.tail m)
  write_keeps o i x e R G (suc c) = set_lists g.sessions i x _ e (G, λ k m. m)

  read_keeps : (o i : ℕ) (x : Tracked) → at g.sessions i ≡ x ∷ [] → (plots : List ℕ) (R : Result (List ℕ) (List ℕ)) → GoneOn x.session R.session
      → (c : ℕ) → Keeps (read_by over_words n g o i x plots R c)
  read_keeps o i x e plots R G zero = set_lists g.sessions i x _ e (G, λ k m. gained_keeps g.log R.found x.past k m)
  read_keeps o i x e plots R G (suc c) = set_lists g.sessions i x _ e (G, λ k m. m)

  receive_keeps : (o : ℕ) (rest : List (List ℕ)) (R : Result (List ℕ) (List ℕ)) (c : ℕ) → Keeps (receive_by over_words n g o rest R c)
  receive_keeps o rest R zero = keeps_self
  receive_keeps o rest R (suc c) = keeps_self

  heard_keeps : (o : ℕ) (row : List ℕ) (l : List (List ℕ)) → Keeps (receive_at over_words n g o row l)
  heard_keeps o row [] = keeps_self
  heard_keeps o row (f ∷ rest) = receive_keeps o rest (over_words.on_receive (g.stores o) f row) (over_words.on_receive (g.stores o) f row).code

  words_keeps : (o : ℕ) (R : Result (List ℕ) (List ℕ)) → Keeps (words_by over_words n g o R)
  words_keeps o R = go (eqb R.code 9)
    where
      go : (t : Bool) → Keeps (cond t (turned_by over_words n g o R) g)
      go true = keeps_self
      go false = keeps_self

  token_keeps : (x : Tracked) (row : List ℕ) (c : ℕ) → Keeps (token_by over_words n g x row c)
  token_keeps x row zero = keeps_self
  token_keeps x row (suc c) = keeps_self

  from_keeps : (m p : ℕ) (l : List (TrackedToken (List ℕ))) → Keeps (from_token_at over_words n g m p l)
  from_keeps m p [] = keeps_self
  from_keeps m p (r ∷ l) = begins_keeps (over_words.token_read r.token) r.past (over_words.token_code m p r.token)

  copied_keeps : (l : List (TrackedToken (List ℕ))) → Keeps (copied_token over_words n g l)
  copied_keeps [] = keeps_self
  copied_keeps (r ∷ l) = keeps_self

  join_keeps : (m p : ℕ) (l k : List Tracked) → Keeps (join_at over_words n g m p l k)
  join_keeps m p [] k = keeps_self
  join_keeps m p (a ∷ l) [] = keeps_self
  join_keeps m p (a ∷ l) (b ∷ k) = begins_keeps _ _ (join_code m p a.session b.session)

  pub step_keeps : (c : Call) → Keeps (step over_words n g c)
  unfolding step over_words
  step_keeps (writing o i plot value row) =
      at_office o _
      (by_session i (write_at over_words n g o i plot value row) refl
      (λ x e. write_keeps o i x e (write (g.stores o) x.session plot value row) (goes_on.writes (g.stores o) x.session plot value row)
      (write (g.stores o) x.session plot value row).code))
  step_keeps (reading o i plot) =
      at_office o _
      (by_session i (read_at over_words n g o i plot) refl
      (λ x e. read_keeps o i x e (plot ∷ []) (read_plot (g.stores o) x.session plot) (goes_on.reads (g.stores o) x.session plot)
      (read_plot (g.stores o) x.session plot).code))
  step_keeps (joint o i plots row) =
      at_office o _
      (by_session i (joint_at over_words n g o i plots row) refl
      (λ x e. read_keeps o i x e plots (read_joint (g.stores o) x.session plots row) (goes_on.reads_jointly (g.stores o) x.session plots row)
      (read_joint (g.stores o) x.session plots row).code))
  step_keeps (receiving o row) = at_office o _ (heard_keeps o row (g.lines o))
  step_keeps (receiving_words o words row) = at_office o _ (words_keeps o (receive (g.stores o) words row))
  step_keeps (fresh m) = begins_keeps _ [] (fresh_code m)
  step_keeps (token_writing i row) =
      by_session i (token_at over_words n g row) refl (λ x e. token_keeps x row (write_token_code x.session (length row)))
  step_keeps (token_reading t m p) = from_keeps m p (at g.tokens t)
  step_keeps (copy_session i) = by_session i (copied_session over_words n g) refl (λ x e. more_lists g.sessions (x ∷ []))
  step_keeps (copy_token t) = copied_keeps (at g.tokens t)
  step_keeps (joining i j m p) = join_keeps m p (at g.sessions i) (at g.sessions j)

run_keeps : (n : ℕ) (cs : List Call) (g : WState) → Lists g.sessions (run over_words n g cs).sessions
unfolding run
run_keeps n [] g = same_lists g.sessions
run_keeps n (c ∷ cs) g = then_lists _ _ _ (step_keeps n g c) (run_keeps n cs (step over_words n g c))

pub keeps_on : KeepsOn
unfolding words_run
keeps_on n p rows cs ds i r e =
    let g = run over_words n (starting (λ o. (open_office n o p (rows o)).1)) cs in
    let t = run_keeps n ds g i r e in
    rw (run_append over_words n (starting (λ o. (open_office n o p (rows o)).1)) cs ds) (t.0, t.1, t.2.0, t.2.1)
