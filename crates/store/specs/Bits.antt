-- A step of the walk over the set bits of a word, lowest first: what is left before, the bit, what is left after. Assumes nothing.
use Rattle.std.specs.Prelude.{◌≡◌, ℕ, ◌-◌, ◌<◌, Option, MatchOption, bit_and}
use Rattle.std.specs.Int.Count.{count_trailing_zeros}

abbrev pub TakesLowest : ℕ → Option ℕ → ℕ → Type 0
TakesLowest rest r left = MatchOption r (rest ≡ 0) (λ b. (0 < rest) × (b ≡ count_trailing_zeros 32 rest) × (left ≡ bit_and rest (rest - 1)))
