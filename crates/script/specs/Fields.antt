-- The fields of a line: the bytes between its spaces, and the number that a field writes. Assumes nothing.
use Rattle.std.specs.Prelude.{ℕ, ◌+◌, ◌-◌, ◌*◌, Bool, true, false, cond, not, eqb, leb, ltb}
use mathlib.Core.List.{List, [], ◌∷◌, foldl}
use Rattle.causal.specs.Tests.{both}

-- b in front of the first field
unfoldable pub in_front : ℕ → List (List ℕ) → List (List ℕ)
in_front b [] = (b ∷ []) ∷ []
in_front b (f ∷ fs) = (b ∷ f) ∷ fs

-- what stands before, between and behind the spaces (byte 32): two spaces in a row have an empty field between them
unfoldable pub fields : List ℕ → List (List ℕ)
fields [] = [] ∷ []
fields (b ∷ l) = cond (eqb b 32) ([] ∷ fields l) (in_front b (fields l))

-- `0` to `9`
unfoldable pub is_digit : ℕ → Bool
is_digit b = both (leb 48 b) (leb b 57)

unfoldable pub all_digits : List ℕ → Bool
all_digits [] = true
all_digits (b ∷ f) = both (is_digit b) (all_digits f)

-- "Fields are decimal .. no leading zeros": digits, at least one, and the first of several is not `0`
unfoldable pub proper : List ℕ → Bool
proper [] = false
proper (b ∷ []) = is_digit b
proper (b ∷ d ∷ f) = both (not (eqb b 48)) (all_digits (b ∷ d ∷ f))

-- one digit more
abbrev pub with_digit : ℕ → ℕ → ℕ
with_digit v b = 10 * v + (b - 48)

-- the number that digits write
unfoldable pub value_of : List ℕ → ℕ
value_of f = foldl with_digit 0 f

-- the field is a number, and below n
unfoldable pub is_below : ℕ → List ℕ → Bool
is_below n f = both (proper f) (ltb (value_of f) n)
