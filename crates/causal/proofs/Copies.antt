-- What `to[b..e].copy_from_slice(..)` leaves, in std's words `put_mid b (e - b) to vs`: the run of stores `sets to b vs`. Assumes nothing.
use Prim.Native.Nat.{ℕ, ◌+◌, ◌-◌, ◌≤◌}
use mathlib.Core.Path.{◌≡◌, sym, ap, ◌∙◌}
use mathlib.Core.List.{List, ◌++◌, append_assoc}
use native.Mathlib.Omega.{arith}
use lib.ListN.{length, take, drop}
use lib.Seq.{sets, sets-eq, drop-drop}
use borrow.Rule.Slice.PartMut.{put_mid}
use Rattle.std.specs.List.{between}
use Rattle.causal.specs.Lists.{part}
use Rattle.causal.proofs.Lists.{part_length}

-- all of vs, to b and what follows
pub stored : (to : List ℕ) (b k : ℕ) (vs : List ℕ) → k ≡ length vs → b + length vs ≤ length to → put_mid b k to vs ≡ sets to b vs
stored to b k vs e h =
    rw e
    (ap (λ (l : List ℕ). take b to ++ (vs ++ l)) (drop-drop (length vs) b to)
    ∙ sym (append_assoc (take b to) vs (drop (b + length vs) to))
    ∙ sym (sets-eq vs to b h))

-- the same where what was copied is known by an equation
pub stored_as : (to : List ℕ) (b k : ℕ) (vs new : List ℕ) → new ≡ vs → k ≡ length vs → b + length vs ≤ length to → put_mid b k to new ≡ sets to b vs
stored_as to b k vs new v e h = rw v (stored to b k vs e h)

-- `ws[a..e]`
pub between_part : (ws : List ℕ) (a n e : ℕ) → e ≡ a + n → between a e ws ≡ part ws a n
unfolding part
between_part ws a n e q = let m : e - a ≡ n = omega arith in ap (λ (i : ℕ). take i (drop a ws)) m

-- the n words of another row from a on
pub copied : (to : List ℕ) (b k : ℕ) (vs from : List ℕ) (a n e : ℕ)
    → vs ≡ between a e from → e ≡ a + n → k ≡ n → a + n ≤ length from → b + n ≤ length to → put_mid b k to vs ≡ sets to b (part from a n)
copied to b k vs from a n e v p q h l =
    let s : length (part from a n) ≡ n = part_length from a n h in
    stored_as to b k (part from a n) vs (v ∙ between_part from a n e p) (omega arith) (omega arith)
