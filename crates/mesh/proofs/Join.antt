-- The join of two sessions is sound. Assumes nothing.
use Prim.Native.Nat.{ℕ}
use mathlib.Core.List.Memᴰ
use mathlib.Core.List.{List, Memᴰ, ◌++◌}
use mathlib.Core.Logic.{◌⊎◌, inl, inr, ⊎_elim}
use mathlib.Core.Path.{◌∙◌, sym}
use Rattle.mesh.specs.Ring.{Shape}
use Rattle.mesh.specs.Sessions.{IdSession, Joins, SoundSession}
use Rattle.mesh.specs.World.{Reach, World}
use Rattle.mesh.proofs.Lists.{Side, left, right, side}
use Rattle.mesh.proofs.Without.{without_all, without_in, without_split}

module _ (a b s : IdSession) (rest : List ℕ) (T : Joins a b s rest) where
  pub own_first : (y : ℕ) → Memᴰ y a.own → Memᴰ y s.own
  own_first y i = rw T.own_are (Memᴰ.append_left rest i)

  pub own_second : (y : ℕ) → Memᴰ y b.own → Memᴰ y s.own
  own_second y i = rw T.own_are (⊎_elim (λ j. Memᴰ.append_left rest j) (λ j. Memᴰ.append_right a.own j) (without_all T.left_out y i))

  pub own_from : (y : ℕ) → Memᴰ y s.own → Memᴰ y a.own ⊎ Memᴰ y b.own
  own_from y i =
      ⊎_elim (λ j. inl j) (λ j. inr (without_in T.left_out y j)) (Memᴰ.append_cases a.own (rw T.own_are at i))

  module _ (S : Shape) (wpast : ℕ → ℕ → Type 0) (W : World) (A : SoundSession S wpast W a) (B : SoundSession S wpast W b) where
    pub join_sound : SoundSession S wpast W s
    join_sound =
        record {
          reads_visible = λ r m. ⊎_elim (λ i. A.reads_visible r i) (λ i. B.reads_visible r i) (T.reads_from r m);
          own_made = λ y m. ⊎_elim (λ i. A.own_made y i) (λ i. B.own_made y i) (own_from y m);
          own_deps = λ bef y aft e d m. deps bef y aft d m (side a.own rest bef y aft (sym T.own_are ∙ e));
          past_from = λ q h. past q (T.past_from q h);
        }
      where
        first : (bef : List ℕ) (d : ℕ) → a.reads d ⊎ Memᴰ d bef → s.reads d ⊎ Memᴰ d bef
        first bef d (inl i) = inl (T.reads_first d i)
        first bef d (inr i) = inr i

        second : (bef : List ℕ) (d : ℕ) → Memᴰ d a.own ⊎ Memᴰ d bef → Memᴰ d (a.own ++ bef)
        second bef d (inl i) = Memᴰ.append_left bef i
        second bef d (inr i) = Memᴰ.append_right a.own i

        deps : (bef : List ℕ) (y : ℕ) (aft : List ℕ) (d : ℕ) → S.deps y d → Side a.own rest bef y aft → s.reads d ⊎ Memᴰ d bef
        deps bef y aft d m (left aft' p) = first bef d (A.own_deps bef y aft' p d m)
        deps bef y aft d m (right bef' p p') =
            let r = without_split T.left_out bef' y aft p' in
            rw p (⊎_elim (λ i. inl (T.reads_second d i)) (λ i. inr (second bef' d (r.3 d i))) (B.own_deps r.0 y r.1 r.2 d m))

        past : (q : ℕ) → a.past q ⊎ b.past q → (x : ℕ) × (s.reads x ⊎ Memᴰ x s.own) × Reach S x q
        past q (inl h) =
            let t = A.past_from q h in (t.0, ⊎_elim (λ i. inl (T.reads_first t.0 i)) (λ i. inr (own_first t.0 i)) t.1, t.2)
        past q (inr h) =
            let t = B.past_from q h in (t.0, ⊎_elim (λ i. inl (T.reads_second t.0 i)) (λ i. inr (own_second t.0 i)) t.1, t.2)
