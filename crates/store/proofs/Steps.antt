-- The walk over the first words of a set, and over the set bits of one, as the iterators take them. Assumes nothing.
use Rattle.std.proofs.Common.{◌≡◌, ℕ, ◌<◌, ◌≤◌, List, length, get_or, take, Some, arith}
use Rattle.std.proofs.lemmas.List.{get_or-take, length-take}
use Rattle.causal.proofs.Walk.{Passed, Next, next}
use Rattle.store.specs.Bits.{TakesLowest}

-- the bit that it takes is the next one
pub taken : (w b rest t left : ℕ) → Passed w b rest → TakesLowest rest (Some t) left → Next w b rest t
taken w b rest t left p h = rw h.1 (next w b rest p (λ (z : rest ≡ 0). omega arith))

-- word i of the first n words of v, which has eight, and where they end
pub front_at : (v : List ℕ) (n i : ℕ) → i < length (take n v) → get_or (take n v) i 0 ≡ get_or v i 0
front_at v n i h = get_or-take n v i 0 (omega (arith, length-take n v))

pub front_end : (v : List ℕ) (n i : ℕ) → length v ≡ 8 → n ≤ 8 → i ≤ length (take n v) → length (take n v) ≤ i → i ≡ n
front_end v n i e l a b = omega (arith, length-take n v)

pub front_in : (v : List ℕ) (n i : ℕ) → i < length (take n v) → i < n
front_in v n i h = omega (arith, length-take n v)

pub front_all : (v : List ℕ) (n : ℕ) → length v ≡ 8 → n ≤ 8 → n ≡ length (take n v)
front_all v n e l = omega (arith, length-take n v)
