-- w & (w + 1) is 0 just where the bits of w that are set are the lowest ones. Assumes nothing.
use Rattle.std.proofs.Common.{◌≡◌, ℕ, zero, suc, ◌+◌, ◌*◌, ◌/◌, ◌%◌, ◌^◌, ◌<◌, ◌≤◌, min, Bool, true, eqb, sym, refl, ap, ◌∙◌, ap₂, ⊎_elim, mod-eq_of_lt, pow-suc, add-one, arith, pow_pos, eq-eqb, eqb-true}
use lib.Bits.{bit_and, and_step, and_le_l, and_self}
use Rattle.causal.specs.Tests.{both, implies, all_below}
use Rattle.causal.specs.Sets.{bit}
use Rattle.causal.proofs.Tests.{lt_or_le, same_test, all_at, all_intro, all_ext, implies_intro, implies_elim, all_front}
use Rattle.causal.proofs.Bits.{bit_lt, bit_low, bit_suc, bit_zero_word, bits_ext}
use Rattle.store.specs.Slots.{no_gap}

-- bit s is set where the next one is
unfoldable gap : ℕ → ℕ → Bool
gap w s = implies (eqb (bit w (s + 1)) 1) (eqb (bit w s) 1)

-- no bit is set above a clear lowest one
all_clear : (w n : ℕ) → w % 2 ≡ 0 → all_below n (gap w) ≡ true → (s : ℕ) → s ≤ n → bit w s ≡ 0
unfolding gap
all_clear w n e a zero l = bit_low w ∙ e
all_clear w n e a (suc s) l =
    let below : bit w s ≡ 0 = all_clear w n e a s (omega arith) in
    let g = all_at (gap w) n a s (omega arith) in
    ⊎_elim
    (λ (h : bit w (suc s) ≡ 1).
    let one : bit w (s + 1) ≡ 1 = ap (bit w) (add-one s) ∙ h in
    let z = eqb-true (bit w s) 1 (implies_elim _ _ g (eq-eqb _ 1 one)) in
    absurd (omega arith))
    (λ (h : bit w (suc s) ≡ 1 → ⊥). omega (arith, bit_lt w (suc s)))
    (Rattle.causal.proofs.Tests.eq_or_ne (bit w (suc s)) 1)

even_case : (k w : ℕ) → w < 2 ^ suc k → w % 2 ≡ 0 → eqb (bit_and w (w + 1)) 0 ≡ all_below k (gap w)
unfolding gap
even_case k w h e = ap (λ (x : ℕ). eqb x 0) whole ∙ same_test _ _ none all
  where
    whole : bit_and w (w + 1) ≡ w
    whole =
        let q : (w + 1) / 2 ≡ w / 2 = omega arith in
        let s = and_step w (w + 1) in
        let s' : bit_and w (w + 1) ≡ bit_and (w / 2) (w / 2) * 2 + min (w % 2) ((w + 1) % 2) = rw q at s in
        omega (arith, and_self (w / 2))

    none : eqb w 0 ≡ true → all_below k (gap w) ≡ true
    none z = let q : w ≡ 0 = eqb-true w 0 z in all_intro (gap w) k (λ s l. implies_intro _ _ (λ t. absurd (clash q s t)))
      where
        clash : w ≡ 0 → (s : ℕ) → eqb (bit w (s + 1)) 1 ≡ true → ⊥
        clash q s t =
            let o = eqb-true (bit w (s + 1)) 1 t in
            let z : bit w (s + 1) ≡ 0 = ap (λ (x : ℕ). bit x (s + 1)) q ∙ bit_zero_word (s + 1) in
            omega arith

    all : all_below k (gap w) ≡ true → eqb w 0 ≡ true
    all a = eq-eqb w 0 (bits_ext (suc k) w 0 h (pow_pos (suc k)) (λ i l. all_clear w k e a i (omega arith) ∙ sym (bit_zero_word i)))

low_test : (k w : ℕ) → w < 2 ^ suc k → eqb (bit_and w (w + 1)) 0 ≡ all_below k (gap w)
unfolding all_below both gap
low_test zero w h = let l : w < 2 = h in eq-eqb (bit_and w (w + 1)) 0 (omega (arith, and_step w (w + 1), and_le_l (w / 2) ((w + 1) / 2)))
low_test (suc k) w h = ⊎_elim (even_case (suc k) w h) (odd_case (low_test k (w / 2))) (Rattle.causal.proofs.Tests.eq_or_ne (w % 2) 0)
  where
    half : w < 2 ^ suc k * 2
    half = rw pow-suc at h

    odd_case : (w / 2 < 2 ^ suc k → eqb (bit_and (w / 2) (w / 2 + 1)) 0 ≡ all_below k (gap (w / 2))) → (w % 2 ≡ 0 → ⊥) → eqb (bit_and w (w + 1)) 0 ≡ all_below (suc k) (gap w)
    odd_case ih o =
        ap (λ (x : ℕ). eqb x 0) twice ∙ doubled (bit_and (w / 2) (w / 2 + 1)) ∙ ih (omega (arith, half))
        ∙ all_ext (gap (w / 2)) (λ s. gap w (suc s)) k (λ s l. shifted s) ∙ sym (first (gap w 0) (all_below k (λ s. gap w (suc s))) low) ∙ sym (all_front (gap w) k)
      where
        twice : bit_and w (w + 1) ≡ bit_and (w / 2) (w / 2 + 1) * 2
        twice =
            let q : (w + 1) / 2 ≡ w / 2 + 1 = omega arith in
            let s = and_step w (w + 1) in
            let s' : bit_and w (w + 1) ≡ bit_and (w / 2) (w / 2 + 1) * 2 + min (w % 2) ((w + 1) % 2) = rw q at s in
            omega arith

        doubled : (x : ℕ) → eqb (x * 2) 0 ≡ eqb x 0
        doubled x =
            same_test _ _ (λ e. eq-eqb x 0 (let z : x * 2 ≡ 0 = eqb-true (x * 2) 0 e in omega arith))
            (λ e. eq-eqb (x * 2) 0 (let z : x ≡ 0 = eqb-true x 0 e in omega arith))

        shifted : (s : ℕ) → gap (w / 2) s ≡ gap w (suc s)
        shifted s =
            let a : bit (w / 2) (s + 1) ≡ bit w (suc s + 1) = sym (bit_suc w (s + 1)) ∙ ap (bit w) (let z : suc (s + 1) ≡ suc s + 1 = omega arith in z) in
            let b : bit (w / 2) s ≡ bit w (suc s) = sym (bit_suc w s) in
            ap₂ (λ (x y : ℕ). implies (eqb x 1) (eqb y 1)) a b

        low : gap w 0 ≡ true
        low = implies_intro _ _ (λ t. eq-eqb (bit w 0) 1 (bit_low w ∙ (let z : w % 2 ≡ 1 = omega arith in z)))

        first : (a b : Bool) → a ≡ true → both a b ≡ b
        first a b e = rw e

full : no_gap 4294967295 ≡ true
unfolding no_gap all_below both implies bit
full = refl

-- as the machine adds
pub no_gap_lem : (w : ℕ) → w < 2 ^ 32 → eqb (bit_and w ((w + 1) % 2 ^ 32)) 0 ≡ no_gap w
unfolding no_gap gap
no_gap_lem w h = ⊎_elim within over (lt_or_le (w + 1) (2 ^ 32))
  where
    within : w + 1 < 2 ^ 32 → eqb (bit_and w ((w + 1) % 2 ^ 32)) 0 ≡ no_gap w
    within l = ap (λ (x : ℕ). eqb (bit_and w x) 0) (mod-eq_of_lt l) ∙ low_test 31 w h

    over : 2 ^ 32 ≤ w + 1 → eqb (bit_and w ((w + 1) % 2 ^ 32)) 0 ≡ no_gap w
    over l = let q : w ≡ 4294967295 = omega arith in rw q (sym full)
