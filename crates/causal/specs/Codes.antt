-- Refusals as numbers, 0 for none. "Each refusal is given if and only if its condition holds and no earlier one does":
-- a chain of checks gives the number of the first that fails. Assumes nothing.
use Rattle.std.specs.Prelude.{ℕ, zero, suc, Bool, true, false}

-- the refusal c where the test fails, else what the rest says
unfoldable pub check : Bool → ℕ → ℕ → ℕ
check true c rest = rest
check false c rest = c

-- the refusal a, or where there is none, b
unfoldable pub or_else : ℕ → ℕ → ℕ
or_else zero b = b
or_else (suc a) b = suc a

-- the first refusal of p 0, p 1, .., p (n - 1)
unfoldable pub first_code : ℕ → (ℕ → ℕ) → ℕ
first_code zero p = 0
first_code (suc n) p = or_else (first_code n p) (p n)
