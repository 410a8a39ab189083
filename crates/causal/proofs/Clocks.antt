-- Laws of vector clocks: the join of two is the least clock that covers both. Assumes nothing.
use Prim.Native.Nat.{ℕ, ◌<◌, max}
use mathlib.Core.Path.{◌≡◌}
use mathlib.Core.List.{List}
use native.Mathlib.Omega.{arith}
use lib.ListN.{get_or}
use Rattle.causal.specs.Clocks.{Covers, join}
use Rattle.causal.proofs.Lists.{zip8_at}

pub join_at : (a b : List ℕ) (j : ℕ) → j < 8 → get_or (join a b) j 0 ≡ max (get_or a j 0) (get_or b j 0)
unfolding join
join_at a b = zip8_at max a b

pub join_covers : (a b : List ℕ) → Covers (join a b) a × Covers (join a b) b
join_covers a b = (λ j h. omega (arith, join_at a b j h), λ j h. omega (arith, join_at a b j h))

pub join_least : (a b c : List ℕ) → Covers c a → Covers c b → Covers c (join a b)
join_least a b c p q j h = omega (arith, join_at a b j h, p j h, q j h)
