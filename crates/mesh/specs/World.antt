-- The state of the ring at the level of ids, its three transitions, and the invariant. Assumes nothing.
use Rattle.std.specs.Prelude.{ℕ, ◌+◌, ◌<◌, ◌≤◌, suc, zero, ◌≢◌, ◌⊎◌, ◌≡◌}
use mathlib.Core.List.{List, Memᴰ, [], ◌++◌, ◌∷◌, map}
use Rattle.mesh.specs.Ring.{Shape, iter}

pub record World : Type 1 where
  pub made : ℕ → Type 0
  pub held : ℕ → ℕ → Type 0
  pub visible : ℕ → ℕ → Type 0
  pub line : ℕ → List (ℕ × ℕ)

-- what an office passes on after it received (x, t)
abbrev pub passes : ℕ → ℕ → List (ℕ × ℕ)
passes x zero = []
passes x (suc u) = (x, u) ∷ []

-- the frames of the ids ys, each with t hops left
abbrev pub frames : ℕ → List ℕ → List (ℕ × ℕ)
frames t ys = map (λ (y : ℕ). (y, t)) ys

module _ (S : Shape) where
  -- z is x, or something that x depends on, or that this depends on, ..
  pub data Reach (x : ℕ) : ℕ → Type 0 where
    self : Reach x x
    via : {y d : ℕ} → Reach x y → S.deps y d → Reach x d

  -- the office j steps after Y holds d, or a frame of d is on its way there: before a given place of Y's line
  -- (bef is what stands before it), or in a line further on
  pub data Cov (W : World) (bef : List (ℕ × ℕ)) (Y j d : ℕ) : Type 0 where
    has : W.held (iter S j Y) d → Cov W bef Y j d
    ahead : (s : ℕ) → Memᴰ (d, s) bef → j ≤ s → Cov W bef Y j d
    beyond : (i s : ℕ) → Memᴰ (d, s) (W.line (iter S (suc i) Y)) → suc i ≤ j → j ≤ suc i + s → Cov W bef Y j d

  pub record Inv (W : World) : Type 0 where
    pub visible_held : (o x p : ℕ) → p < S.n → W.visible o x → W.held p x
    pub visible_down : (o x d : ℕ) → W.visible o x → S.deps x d → W.visible o d
    pub held_down : (o x d : ℕ) → W.held o x → S.deps x d → W.held o d
    pub held_made : (o x : ℕ) → W.held o x → W.made x
    pub low : (Y x t : ℕ) → Memᴰ (x, t) (W.line Y) → t ≤ S.top
    pub behind : (Y x t k : ℕ) → Memᴰ (x, t) (W.line Y) → t < k → k < S.n → W.held (iter S k Y) x
    pub order : (Y : ℕ) (bef : List (ℕ × ℕ)) (x t : ℕ) (aft : List (ℕ × ℕ)) → W.line Y ≡ bef ++ (x, t) ∷ aft →
        (d : ℕ) → S.deps x d → (j : ℕ) → j ≤ t → Cov W bef Y j d
    pub cover : (C d j : ℕ) → W.held C d → j < S.n → Cov W [] C j d

  -- the start: nothing is made, held or visible, and nothing waits
  pub record Fresh (W : World) : Type 0 where
    pub no_made : (x : ℕ) → ¬ (W.made x)
    pub no_held : (o x : ℕ) → ¬ (W.held o x)
    pub no_visible : (o x : ℕ) → ¬ (W.visible o x)
    pub no_line : (o : ℕ) → W.line o ≡ []

  -- what a write at C does: C holds the ids ds and e from now on, sends them on in this order, and e is made
  pub record Written (W W' : World) (C : ℕ) (ds : List ℕ) (e : ℕ) : Type 0 where
    pub made_to : (x : ℕ) → W.made x → W'.made x
    pub made_new : W'.made e
    pub made_from : (x : ℕ) → W'.made x → W.made x ⊎ (x ≡ e)
    pub held_to : (o x : ℕ) → W.held o x → W'.held o x
    pub held_new : (y : ℕ) → Memᴰ y (ds ++ e ∷ []) → W'.held C y
    pub held_from : (o x : ℕ) → W'.held o x → W.held o x ⊎ ((o ≡ C) × Memᴰ x (ds ++ e ∷ []))
    pub visible_to : (o x : ℕ) → W.visible o x → W'.visible o x
    pub visible_from : (o x : ℕ) → W'.visible o x → W.visible o x
    pub sent : W'.line (S.next C) ≡ W.line (S.next C) ++ frames S.top (ds ++ e ∷ [])
    pub others : (o : ℕ) → o ≢ S.next C → W'.line o ≡ W.line o

  -- a write: the ids that it carries are made, and each id depends on what C holds or on earlier ids of the write
  pub record Write (W W' : World) (C : ℕ) (ds : List ℕ) (e : ℕ) : Type 0 where
    pub in_ring : C < S.n
    pub carried : (d : ℕ) → Memᴰ d ds → W.made d
    pub ready : (bef : List ℕ) (y : ℕ) (aft : List ℕ) → ds ++ e ∷ [] ≡ bef ++ y ∷ aft →
        (d : ℕ) → S.deps y d → W.held C d ⊎ Memᴰ d bef
    pub does : Written W W' C ds e

  -- Y receives the oldest frame that waits for it, (x, t)
  pub record Receive (W W' : World) (Y x t : ℕ) (rest : List (ℕ × ℕ)) : Type 0 where
    pub in_ring : Y < S.n
    pub first : W.line Y ≡ (x, t) ∷ rest
    pub made_to : (z : ℕ) → W.made z → W'.made z
    pub made_from : (z : ℕ) → W'.made z → W.made z
    pub held_to : (o z : ℕ) → W.held o z → W'.held o z
    pub held_new : W'.held Y x
    pub held_from : (o z : ℕ) → W'.held o z → W.held o z ⊎ ((o ≡ Y) × (z ≡ x))
    pub visible_to : (o z : ℕ) → W.visible o z → W'.visible o z
    pub visible_new : (z : ℕ) → t ≡ 0 → Reach x z → W'.visible Y z
    pub visible_from : (o z : ℕ) → W'.visible o z → W.visible o z ⊎ ((o ≡ Y) × (t ≡ 0) × Reach x z)
    pub popped : W'.line Y ≡ rest
    pub passed : W'.line (S.next Y) ≡ W.line (S.next Y) ++ passes x t
    pub others : (o : ℕ) → o ≢ Y → o ≢ S.next Y → W'.line o ≡ W.line o

  -- O reveals the ids R, each visible at some office, with all that is reached from them
  pub record Reveal (W W' : World) (O : ℕ) (R : ℕ → Type 0) : Type 0 where
    pub seen : (r : ℕ) → R r → (o : ℕ) × W.visible o r
    pub made_to : (z : ℕ) → W.made z → W'.made z
    pub made_from : (z : ℕ) → W'.made z → W.made z
    pub held_to : (o z : ℕ) → W.held o z → W'.held o z
    pub held_from : (o z : ℕ) → W'.held o z → W.held o z
    pub visible_to : (o z : ℕ) → W.visible o z → W'.visible o z
    pub visible_new : (r z : ℕ) → R r → Reach r z → W'.visible O z
    pub visible_from : (o z : ℕ) → W'.visible o z → W.visible o z ⊎ ((o ≡ O) × ((r : ℕ) × R r × Reach r z))
    pub others : (o : ℕ) → W'.line o ≡ W.line o
