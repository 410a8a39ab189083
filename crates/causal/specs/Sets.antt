-- Sets of ids (01: of names). An id is a number k < 256, 32 to an office; a set is eight words of 32 bits, k at bit k % 32 of word k / 32.
-- Assumes nothing.
use Rattle.std.specs.Prelude.{ℕ, ◌+◌, ◌/◌, ◌%◌, ◌^◌, ◌<◌, ◌≡◌, Bool, cond, List, [], ◌∷◌, eqb, length, get_or, set, Option, None, Some}
use Rattle.std.specs.Int.Bits.{bit_or, bit_xor}
use Rattle.std.specs.Int.Count.{count_trailing_zeros}
use Rattle.causal.specs.Tests.{all_below}
use Rattle.causal.specs.Lists.{zip8, sum_below}

-- bit i of a word, 0 or 1
unfoldable pub bit : ℕ → ℕ → ℕ
bit w i = w / 2 ^ i % 2

-- 1 where k is a member, else 0
unfoldable pub has : List ℕ → ℕ → ℕ
has s k = bit (get_or s (k / 32) 0) (k % 32)

unfoldable pub is_in : List ℕ → ℕ → Bool
is_in s k = eqb (has s k) 1

-- the list is a set of ids: eight words, each below 2 ^ 32
pub record IdSet (s : List ℕ) : Type 0 where
  pub eight : length s ≡ 8
  pub fits : (i : ℕ) → get_or s i 0 < 2 ^ 32

unfoldable pub unite : List ℕ → List ℕ → List ℕ
unite a b = zip8 bit_or a b

unfoldable pub minus : List ℕ → List ℕ → List ℕ
minus a b = zip8 (λ x y. bit_xor (bit_or x y) y) a b

unfoldable pub inserted : List ℕ → ℕ → List ℕ
inserted s k = set s (k / 32) (bit_or (get_or s (k / 32) 0) (2 ^ (k % 32)))

-- no member
unfoldable pub is_empty : List ℕ → Bool
is_empty s = all_below 8 (λ i. eqb (get_or s i 0) 0)

-- word i of a adds nothing to word i of b
unfoldable pub word_in : List ℕ → List ℕ → ℕ → Bool
word_in a b i = eqb (bit_or (get_or a i 0) (get_or b i 0)) (get_or b i 0)

unfoldable pub subset_of : List ℕ → List ℕ → Bool
subset_of a b = all_below 8 (word_in a b)

-- how many members
unfoldable pub size_of : List ℕ → ℕ
size_of s = sum_below 256 (has s)

-- every member of a is one of b
abbrev pub Within : List ℕ → List ℕ → Type 0
Within a b = (k : ℕ) → has a k ≡ 1 → has b k ≡ 1

-- the lowest member of the words s, the first of which stands for base and what follows
unfoldable pub lowest_in : List ℕ → ℕ → Option ℕ
lowest_in [] base = None
lowest_in (w ∷ ws) base = cond (eqb w 0) (lowest_in ws (base + 32)) (Some (base + count_trailing_zeros 32 w))

unfoldable pub lowest_of : List ℕ → Option ℕ
lowest_of s = lowest_in s 0
