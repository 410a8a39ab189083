-- A sum of digits grows by one where one digit turns from 0 to 1; digits without gaps are 1 just below their sum. Assumes nothing.
use Rattle.std.proofs.Common.{◌≡◌, ℕ, zero, suc, ◌+◌, ◌<◌, ◌≤◌, max, ◌⊎◌, sym, refl, ap, ◌∙◌, inl, inr, ⊎_elim, arith}
use Rattle.causal.specs.Lists.{sum_below}
use Rattle.causal.proofs.Bits.{same, same_eq, same_ne}
use Rattle.causal.proofs.Lists.{sum_le}
use Rattle.causal.proofs.Tests.{eq_or_ne, split}

module _ (f g : ℕ → ℕ) (k : ℕ) (z : f k ≡ 0) (e : (j : ℕ) → g j ≡ max (f j) (same j k)) where
  sum_same : (n : ℕ) → n ≤ k → sum_below n g ≡ sum_below n f
  unfolding sum_below
  sum_same zero h = refl
  sum_same (suc n) h = omega (arith, sum_same n (omega arith), e n, same_ne n k (λ p. omega arith))

  pub sum_more : (n : ℕ) → k < n → sum_below n g ≡ sum_below n f + 1
  unfolding sum_below
  sum_more zero h = absurd (omega arith)
  sum_more (suc n) h = ⊎_elim (λ l. there l (sum_more n l)) here (split k n h)
    where
      here : k ≡ n → sum_below (suc n) g ≡ sum_below (suc n) f + 1
      here p =
          let zn : f n ≡ 0 = ap f (sym p) ∙ z in
          omega (arith, sum_same n (omega arith), e n, same_eq n k (sym p))

      there : k < n → sum_below n g ≡ sum_below n f + 1 → sum_below (suc n) g ≡ sum_below (suc n) f + 1
      there l ih = omega (arith, e n, same_ne n k (λ p. omega arith))

-- ---- a count without gaps

module _ (f : ℕ → ℕ) (two : (i : ℕ) → f i < 2) where
  pub record Counted (m : ℕ) : Type 0 where
    pub below : (s : ℕ) → s < m → f s ≡ 1 → s < sum_below m f
    pub all : (s : ℕ) → s < sum_below m f → f s ≡ 1

  pub counted : (m : ℕ) → ((s : ℕ) → suc s < m → f (s + 1) ≡ 1 → f s ≡ 1) → Counted m
  unfolding sum_below
  counted zero gap = record { below = λ s l h. absurd (omega arith); all = λ s l. absurd (omega arith) }
  counted (suc m) gap = go (counted m (λ s l h. gap s (omega arith) h)) (eq_or_ne (f m) 1)
    where
      full : (j : ℕ) → m ≡ j → Counted m → f m ≡ 1 → sum_below m f ≡ m
      full zero e c h = rw e
      full (suc j) e c h =
          let q : j + 1 ≡ m = omega arith in
          let g : f j ≡ 1 = gap j (omega arith) (ap f q ∙ h) in
          omega (arith, c.below j (omega arith) g, sum_le f two m)

      go : Counted m → (f m ≡ 1) ⊎ (f m ≡ 1 → ⊥) → Counted (suc m)
      go c (inl h) =
          let u = full m refl c h in
          record {
            below = λ s l x. omega arith;
            all = λ s l. ⊎_elim (λ (y : s < m). c.all s (omega arith)) (λ (y : s ≡ m). rw y h) (split s m (omega arith));
          }
      go c (inr h) =
          let z : f m ≡ 0 = omega (arith, two m) in
          record {
            below = λ s l x. ⊎_elim (λ (y : s < m). omega (arith, c.below s y x)) (λ (y : s ≡ m). absurd (h (rw y at x))) (split s m l);
            all = λ s l. c.all s (omega arith);
          }
