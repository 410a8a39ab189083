-- Rank: "An entry outranks another if its clock is greater at the first office where they differ. Equal clocks: the greater office outranks."
-- Assumes nothing.
use Rattle.std.specs.Prelude.{ℕ, Bool, true, false, cond, List, [], ◌∷◌, ◌++◌, ltb}

-- the first place at which two lists differ decides
unfoldable pub higher : List ℕ → List ℕ → Bool
higher [] ys = false
higher (x ∷ xs) [] = true
higher (x ∷ xs) (y ∷ ys) = cond (ltb y x) true (cond (ltb x y) false (higher xs ys))

-- a clock, and behind it the office that decides between equal clocks
abbrev pub rank_of : List ℕ → ℕ → List ℕ
rank_of clock office = clock ++ (office ∷ [])

unfoldable pub ranks_above : List ℕ → ℕ → List ℕ → ℕ → Bool
ranks_above c o d p = higher (rank_of c o) (rank_of d p)
