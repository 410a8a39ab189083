-- Sessions on ids: what a session has read and written, when it is sound, what a reading, a write and a join do to it. Assumes nothing.
use Rattle.std.specs.Prelude.{ℕ, ◌<◌, ◌⊎◌, ◌≡◌}
use mathlib.Core.List.{List, Memᴰ, [], ◌++◌, ◌∷◌}
use Rattle.mesh.specs.Ring.{Shape}
use Rattle.mesh.specs.World.{Reach, World, Written}

-- a session: what it read, its own writes in order, its past
pub record IdSession : Type 1 where
  pub reads : ℕ → Type 0
  pub own : List ℕ
  pub past : ℕ → Type 0

-- m has the ids of l, in order, but for some of Q
pub data Without (Q : ℕ → Type 0) : List ℕ → List ℕ → Type 0 where
  without_nil : Without Q [] []
  without_keep : {y : ℕ} {l m : List ℕ} → Without Q l m → Without Q (y ∷ l) (y ∷ m)
  without_drop : {y : ℕ} {l m : List ℕ} → Q y → Without Q l m → Without Q (y ∷ l) m

-- ds are the ids of own, in order, that C need not hold
abbrev pub Picked : World → ℕ → List ℕ → List ℕ → Type 0
Picked W C own ds = Without (W.held C) own ds

-- s is the join of a and b: it has read what either has read, carries what a wrote, then what b wrote but for some that a wrote (rest), and has no
-- past but theirs
pub record Joins (a b s : IdSession) (rest : List ℕ) : Type 0 where
  pub reads_from : (r : ℕ) → s.reads r → a.reads r ⊎ b.reads r
  pub reads_first : (r : ℕ) → a.reads r → s.reads r
  pub reads_second : (r : ℕ) → b.reads r → s.reads r
  pub left_out : Without (λ (y : ℕ). Memᴰ y a.own) b.own rest
  pub own_are : s.own ≡ a.own ++ rest
  pub past_from : (q : ℕ) → s.past q → a.past q ⊎ b.past q

module _ (S : Shape) (wpast : ℕ → ℕ → Type 0) where
  -- the past of who wrote e is reached from what e depends on
  abbrev pub Law : World → Type 0
  Law W = (e q : ℕ) → W.made e → wpast e q → (d : ℕ) × S.deps e d × Reach S d q

  pub record SoundSession (W : World) (s : IdSession) : Type 0 where
    pub reads_visible : (r : ℕ) → s.reads r → (o : ℕ) × W.visible o r
    pub own_made : (y : ℕ) → Memᴰ y s.own → W.made y
    pub own_deps : (bef : List ℕ) (y : ℕ) (aft : List ℕ) → s.own ≡ bef ++ y ∷ aft →
        (d : ℕ) → S.deps y d → s.reads d ⊎ Memᴰ d bef
    pub past_from : (q : ℕ) → s.past q → (a : ℕ) × (s.reads a ⊎ Memᴰ a s.own) × Reach S a q

  -- a reading at O: the ids R, all visible at O, join what s has read; each id of H, one of R or its own, joins the past with its writer's past
  pub record TakesIn (W : World) (s s' : IdSession) (O : ℕ) (R H : ℕ → Type 0) : Type 0 where
    pub visible : (x : ℕ) → R x → W.visible O x
    pub handed : (x : ℕ) → H x → R x ⊎ Memᴰ x s.own
    pub reads_from : (r : ℕ) → s'.reads r → R r ⊎ s.reads r
    pub reads_to : (r : ℕ) → s.reads r → s'.reads r
    pub reads_new : (r : ℕ) → R r → s'.reads r
    pub own_are : s'.own ≡ s.own
    pub past_are : (q : ℕ) → s'.past q → s.past q ⊎ ((x : ℕ) × H x × ((q ≡ x) ⊎ wpast x q))

  -- a write of e at C by a session: e depends on all that the session read and wrote; it carries those own writes that C need not hold
  pub record Writes (W W' : World) (s s' : IdSession) (C : ℕ) (ds : List ℕ) (e : ℕ) : Type 0 where
    pub in_ring : C < S.n
    pub picked : Picked W C s.own ds
    pub deps_in : (d : ℕ) → S.deps e d → s.reads d ⊎ Memᴰ d s.own
    pub deps_all : (d : ℕ) → s.reads d ⊎ Memᴰ d s.own → S.deps e d
    pub wpast_is : (q : ℕ) → wpast e q → s.past q
    pub does : Written S W W' C ds e
    pub reads_from : (r : ℕ) → s'.reads r → s.reads r
    pub reads_to : (r : ℕ) → s.reads r → s'.reads r
    pub own_are : s'.own ≡ s.own ++ e ∷ []
    pub past_are : (q : ℕ) → s'.past q → s.past q ⊎ (q ≡ e)
