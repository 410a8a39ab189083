-- A list without some of its ids: what is in it, and what stands before what. Assumes nothing.
use Prim.Native.Nat.{ℕ}
use mathlib.Core.List.Memᴰ
use mathlib.Core.List.{List, Memᴰ, [], ◌++◌, ◌∷◌}
use mathlib.Core.Logic.{◌⊎◌, inl, inr, ⊎_elim}
use mathlib.Core.Path.{◌∙◌, ◌≡◌, ap}
use Rattle.mesh.specs.Sessions.{Without, without_drop, without_keep, without_nil}
use Rattle.mesh.proofs.Lists.{nil_split}

module _ {Q : ℕ → Type 0} where
  -- each id was left out, being one of Q, or is still there
  pub without_all : {l m : List ℕ} → Without Q l m → (y : ℕ) → Memᴰ y l → Q y ⊎ Memᴰ y m
  without_all without_nil y i = absurd (Memᴰ.not-nil i)
  without_all (without_keep k) y i =
      ⊎_elim (λ e. inr (Memᴰ.head e)) (λ j. ⊎_elim (λ h. inl h) (λ t. inr (Memᴰ.tail t)) (without_all k y j)) (Memᴰ.cases_cons i)
  without_all (without_drop h k) y i = ⊎_elim (λ e. inl (rw e h)) (λ j. without_all k y j) (Memᴰ.cases_cons i)

  pub without_in : {l m : List ℕ} → Without Q l m → (y : ℕ) → Memᴰ y m → Memᴰ y l
  without_in without_nil y i = i
  without_in (without_keep k) y i = ⊎_elim (λ e. Memᴰ.head e) (λ j. Memᴰ.tail (without_in k y j)) (Memᴰ.cases_cons i)
  without_in (without_drop h k) y i = Memᴰ.tail (without_in k y i)

  -- what stands before y in l is one of Q, or stands before y in m
  pub without_split : {l m : List ℕ} → Without Q l m → (bef : List ℕ) (y : ℕ) (aft : List ℕ) → m ≡ bef ++ y ∷ aft →
      (b : List ℕ) × (a : List ℕ) × (l ≡ b ++ y ∷ a) × ((d : ℕ) → Memᴰ d b → Q d ⊎ Memᴰ d bef)
  without_split without_nil bef y aft e = absurd (nil_split bef y aft e)
  without_split (without_keep {l = l} k) [] y aft e = ([], l, cc, λ d i. absurd (Memᴰ.not-nil i))
  without_split (without_keep {y = c} k) (x ∷ bef) y aft e =
      let r = without_split k bef y aft (cc) in
      let q : c ≡ x = cc in (
        c ∷ r.0,
        r.1,
        ap (λ (z : List ℕ). c ∷ z) r.2,
        λ d i.
            ⊎_elim (λ j. inr (Memᴰ.head (j ∙ q))) (λ j. ⊎_elim (λ h. inl h) (λ t. inr (Memᴰ.tail t)) (r.3 d j)) (Memᴰ.cases_cons i),
      )
  without_split (without_drop {y = c} h k) bef y aft e =
      let r = without_split k bef y aft e in
      (c ∷ r.0, r.1, ap (λ (z : List ℕ). c ∷ z) r.2, λ d i. ⊎_elim (λ j. inl (rw j h)) (λ j. r.3 d j) (Memᴰ.cases_cons i))
