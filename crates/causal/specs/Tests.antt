-- Tests as truth values: two tests, a test that another one asks for, and a test at each number below a bound.
-- They are `unfoldable` and no `abbrev`, so that a chain of tests keeps its shape in a goal. Assumes nothing.
use Rattle.std.specs.Prelude.{ℕ, zero, suc, Bool, true, false}

unfoldable pub both : Bool → Bool → Bool
both true b = b
both false b = false

unfoldable pub either : Bool → Bool → Bool
either true b = true
either false b = b

unfoldable pub implies : Bool → Bool → Bool
implies true b = b
implies false b = true

-- p 0, p 1, .., p (n - 1) are all true; the last one last, as a loop that counts up asks them
unfoldable pub all_below : ℕ → (ℕ → Bool) → Bool
all_below zero p = true
all_below (suc n) p = both (all_below n p) (p n)
