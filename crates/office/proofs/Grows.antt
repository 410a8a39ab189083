-- No call loses an entry: what is held stays held. Assumes nothing.
use Prim.Native.Nat.{ℕ, suc, zero}
use mathlib.Core.Bool.{Bool, cond, false, true}
use mathlib.Core.List.{List, [], ◌∷◌}
use mathlib.Core.Path.{◌≡◌}
use lib.Dec.{eqb}
use lib.ListN.{length}
use Rattle.causal.specs.Lists.{zeros}
use Rattle.causal.specs.Sets.{has, inserted, is_in}
use Rattle.frame.specs.Entries.{id_of}
use Rattle.frame.specs.Sessions.{Content, fresh_content}
use Rattle.frame.specs.declared.entry.Entry.{Entry}
use Rattle.frame.specs.declared.entry.Frame.{Frame}
use Rattle.frame.proofs.Ids.{inserted_keeps}
use Rattle.store.specs.Offices.{Office, hold, reveal}
use Rattle.office.specs.Calls.{Result, given, hold_all, hold_new, joint_code, joint_on, read_code, read_on, receive_code, receive_on, received_by, sent_of, write_code, write_on}

abbrev pub Grows : Office → Office → Type 0
Grows O O' = (k : ℕ) → has O.held k ≡ 1 → has O'.held k ≡ 1

-- a property of the office before and of the one that an accepted call leaves
pub given_by : (Q : Office → Type 0) (c : ℕ) (O : Office) (s : Content) (row : List ℕ) (R : Result Office Frame) → Q O → Q R.store
    → Q (given c O s row R).store
given_by Q zero O s row R a b = b
given_by Q (suc c) O s row R a b = a

hold_grows : (O : Office) (e : Entry) → Grows O (hold O e)
unfolding hold
hold_grows O e k h = inserted_keeps O.held (id_of e) k h

reveal_grows : (O : Office) (seeds : List ℕ) → Grows O (reveal O seeds)
unfolding reveal
reveal_grows O seeds k h = h

all_grows : (es : List Entry) (O : Office) → Grows O (hold_all O es)
unfolding hold_all
all_grows [] O k h = h
all_grows (e ∷ es) O k h = all_grows es (hold O e) k (hold_grows O e k h)

got_grows : (O : Office) (f : Frame) → Grows O (received_by O f)
unfolding received_by hold_new
got_grows O f k h = go (eqb f.hops 0) (is_in O.held (id_of f.entry))
  where
    new : (u : Bool) → has (cond u O (hold O f.entry)).held k ≡ 1
    new true = h
    new false = hold_grows O f.entry k h

    go : (t u : Bool)
        → has (cond t (reveal (cond u O (hold O f.entry)) (inserted zeros (id_of f.entry))) (cond u O (hold O f.entry))).held k ≡ 1
    go true u = reveal_grows (cond u O (hold O f.entry)) (inserted zeros (id_of f.entry)) k (new u)
    go false u = new u

pub read_grows : (O : Office) (s : Content) (plot : ℕ) → Grows O (read_on O s plot).store
unfolding read_on
read_grows O s plot = given_by (Grows O) (read_code O s plot) O s [] _ (λ k h. h) (reveal_grows O s.read)

pub joint_grows : (O : Office) (s : Content) (plots row : List ℕ) → Grows O (joint_on O s plots row).store
unfolding joint_on
joint_grows O s plots row = given_by (Grows O) (joint_code O s plots (length row)) O s row _ (λ k h. h) (reveal_grows O s.read)

pub write_grows : (O : Office) (s : Content) (plot value : ℕ) (row : List ℕ) → Grows O (write_on O s plot value row).store
unfolding write_on
write_grows O s plot value row =
    given_by (Grows O) (write_code O s plot value (length row)) O s row _ (λ k h. h) (all_grows (sent_of O s plot value) O)

pub receive_grows : (O : Office) (f : Frame) (row : List ℕ) → Grows O (receive_on O f row).store
unfolding receive_on
receive_grows O f row = given_by (Grows O) (receive_code O f (length row)) O (fresh_content 0) row _ (λ k h. h) (got_grows O f)
