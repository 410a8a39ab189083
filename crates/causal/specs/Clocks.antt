-- Vector clocks: eight numbers, one for each office. Assumes nothing.
use Rattle.std.specs.Prelude.{ℕ, ◌<◌, ◌≤◌, max, List, get_or}
use Rattle.causal.specs.Lists.{zip8}

-- "place by place the greater"
unfoldable pub join : List ℕ → List ℕ → List ℕ
join a b = zip8 max a b

-- each number of b is at least the corresponding one of a
abbrev pub Covers : List ℕ → List ℕ → Type 0
Covers b a = (j : ℕ) → j < 8 → get_or a j 0 ≤ get_or b j 0
