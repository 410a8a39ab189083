-- What a reading hands back, beside its plots: which pairs there are. Assumes nothing.
use Prim.Native.Nat.{ℕ}
use mathlib.Core.List.Memᴰ
use mathlib.Core.List.{List, Memᴰ, [], ◌∷◌, map}
use mathlib.Core.Logic.{⊎_elim}
use mathlib.Core.Path.{◌∙◌, ◌≡◌, ap, refl, sym}
use Rattle.store.specs.Offices.{Found}
use Rattle.ring.specs.Run.{together}

-- where each plot q hands back c q: the pairs have the plots, in order
pub together_plots : (c : ℕ → Found) (qs : List ℕ) → map (λ (r : ℕ × Found). r.0) (together qs (map c qs)) ≡ qs
unfolding together
together_plots c [] = refl
together_plots c (q ∷ qs) = ap (λ (l : List ℕ). q ∷ l) (together_plots c qs)

-- of one plot
pub together_one : (q : ℕ) (x f : Found) → Memᴰ f (x ∷ []) → Memᴰ (q, f) (together (q ∷ []) (x ∷ []))
unfolding together
together_one q x f m = Memᴰ.head (ap (λ (y : Found). (q, y)) (Memᴰ.eq_of_singleton m))

pub together_in : (qs : List ℕ) (fs : List Found) (q : ℕ) (f : Found) → Memᴰ (q, f) (together qs fs) → Memᴰ f fs
unfolding together
together_in [] fs q f m = absurd (Memᴰ.not-nil m)
together_in (x ∷ qs) [] q f m = absurd (Memᴰ.not-nil m)
together_in (x ∷ qs) (y ∷ fs) q f m =
    ⊎_elim (λ (e : ◌≡◌ {A = ℕ × Found} (q, f) (x, y)). Memᴰ.head (ap (λ (z : ℕ × Found). z.1) e)) (λ i. Memᴰ.tail (together_in qs fs q f i))
    (Memᴰ.cases_cons m)

-- where each plot q hands back c q
pub together_from : (c : ℕ → Found) (qs : List ℕ) (q : ℕ) (f : Found) → Memᴰ (q, f) (together qs (map c qs)) → Memᴰ q qs × (f ≡ c q)
unfolding together
together_from c [] q f m = absurd (Memᴰ.not-nil m)
together_from c (x ∷ qs) q f m =
    ⊎_elim
    (λ (e : ◌≡◌ {A = ℕ × Found} (q, f) (x, c x)).
    let a : q ≡ x = ap (λ (y : ℕ × Found). y.0) e in (Memᴰ.head a, ap (λ (y : ℕ × Found). y.1) e ∙ ap c (sym a)))
    (λ i. let t = together_from c qs q f i in (Memᴰ.tail t.0, t.1)) (Memᴰ.cases_cons m)

pub together_to : (c : ℕ → Found) (qs : List ℕ) (q : ℕ) → Memᴰ q qs → Memᴰ (q, c q) (together qs (map c qs))
unfolding together
together_to c [] q m = absurd (Memᴰ.not-nil m)
together_to c (x ∷ qs) q m =
    ⊎_elim (λ (e : q ≡ x). Memᴰ.head (ap (λ (y : ℕ). (y, c y)) e)) (λ i. Memᴰ.tail (together_to c qs q i)) (Memᴰ.cases_cons m)
