-- Laws of bits: of a | b, of a & b, of a without b, of 2 ^ j; words with the same bits are equal; what count_trailing_zeros says. Assumes nothing.
use mathlib.Core.Path.{◌≡◌, refl, sym, ap, ◌∙◌}
use mathlib.Core.Bool.{Bool, true, false}
use Prim.Native.Nat.{ℕ, zero, suc, ◌-◌, ◌*◌, ◌/◌, ◌%◌, ◌^◌, ◌<◌, min, max, suc-le-suc}
use native.Mathlib.Nat.{zero-div, pow-suc, one-mul, mod-eq_of_lt, not-suc-le-zero, le_of_suc-le-suc}
use native.Mathlib.Numerals.{one-add}
use native.Mathlib.Omega.{arith}
use lib.Bits.{bit_and, bit_or, bit_xor, differ, and_step, or_step, xor_step, and_shr, or_shr, xor_shr, or_add_and, xor_add_and, or_lt, xor_lt, xor_self, and_le_l, and_le_r}
use mir.Syntax.{w32}
use Rattle.std.specs.Int.{bit_not}
use Rattle.std.proofs.lemmas.Nat.Bits.{bit_at_not}
use lib.Pow.{pow-lt, shr-shr}
use lib.Count.{count_trailing_zeros, under}
use Rattle.causal.specs.Sets.{bit}
use Rattle.causal.specs.Tests.{both}
use Rattle.causal.proofs.Tests.{same_test, both_true, both_intro}
use lib.Dec.{eqb, eqb-zero-suc, eqb-suc-zero, eqb-suc-suc}
use borrow.Author.Tests.{eq-eqb, ne_eqb, eqb-true}

pub bit_lt : (w i : ℕ) → bit w i < 2
unfolding bit
bit_lt w i = omega arith

pub bit_zero_word : (i : ℕ) → bit 0 i ≡ 0
unfolding bit
bit_zero_word i = simp zero-div

pub bit_or_lem : (a b i : ℕ) → bit (bit_or a b) i ≡ max (bit a i) (bit b i)
unfolding bit
bit_or_lem a b i = rw or_shr (omega (arith, or_step (a / 2 ^ i) (b / 2 ^ i)))

pub bit_and_lem : (a b i : ℕ) → bit (bit_and a b) i ≡ min (bit a i) (bit b i)
unfolding bit
bit_and_lem a b i = rw and_shr (omega (arith, and_step (a / 2 ^ i) (b / 2 ^ i)))

-- the lowest bit, and the others
pub bit_low : (w : ℕ) → bit w 0 ≡ w % 2
unfolding bit
bit_low w = omega arith

pub bit_suc : (w i : ℕ) → bit w (suc i) ≡ bit (w / 2) i
unfolding bit
bit_suc w i = ap (λ (n : ℕ). n % 2) (ap (λ (n : ℕ). w / 2 ^ n) (sym (one-add i)) ∙ sym (shr-shr w 1 i))

-- 1 where the test holds, 0 where it does not
abbrev pub flag : Bool → ℕ
flag true = 1
flag false = 0

-- 1 where i is j, else 0
unfoldable pub same : ℕ → ℕ → ℕ
same i j = flag (eqb i j)

pub same_eq : (i j : ℕ) → i ≡ j → same i j ≡ 1
unfolding same
same_eq i j e = ap flag (eq-eqb i j e)

pub same_ne : (i j : ℕ) → (i ≡ j → ⊥) → same i j ≡ 0
unfolding same
same_ne i j e = ap flag (ne_eqb i j e)

-- bit i of 2 ^ j
pub bit_pow : (j i : ℕ) → bit (2 ^ j) i ≡ same i j
unfolding same
bit_pow zero zero = bit_low 1
bit_pow zero (suc i) = bit_suc 1 i ∙ bit_zero_word i ∙ ap flag (sym (eqb-suc-zero i))
bit_pow (suc j) zero = bit_low (2 ^ suc j) ∙ rw pow-suc (simp eqb-zero-suc (omega arith))
bit_pow (suc j) (suc i) =
    let e : 2 ^ suc j / 2 ≡ 2 ^ j = rw pow-suc (omega arith) in
    bit_suc (2 ^ suc j) i ∙ ap (λ (n : ℕ). bit n i) e ∙ bit_pow j i ∙ ap flag (sym (eqb-suc-suc i j))

-- words of n bits with the same bits are equal
pub bits_ext : (n x y : ℕ) → x < 2 ^ n → y < 2 ^ n → ((i : ℕ) → i < n → bit x i ≡ bit y i) → x ≡ y
bits_ext zero x y p q f = omega arith
bits_ext (suc n) x y p q f =
    let p' : x < 2 ^ n * 2 = rw pow-suc at p in
    let q' : y < 2 ^ n * 2 = rw pow-suc at q in
    let halves : x / 2 ≡ y / 2 = bits_ext n (x / 2) (y / 2) (omega arith) (omega arith) (λ i h. sym (bit_suc x i) ∙ f (suc i) (suc-le-suc h) ∙ bit_suc y i) in
    let low : x % 2 ≡ y % 2 = sym (bit_low x) ∙ f 0 (omega arith) ∙ bit_low y in
    omega arith

-- bit i of (a | b) ^ b: a's bit, unless b has it
pub bit_minus : (a b i : ℕ) → bit (bit_xor (bit_or a b) b) i ≡ bit a i - bit b i
unfolding bit
bit_minus a b i =
    rw (xor_shr, or_shr)
    (go (a / 2 ^ i) (b / 2 ^ i) (bit_or (a / 2 ^ i) (b / 2 ^ i)) (omega (arith, or_step (a / 2 ^ i) (b / 2 ^ i))))
  where
    digit : (x y : ℕ) → x < 2 → y < 2 → differ (max x y) y ≡ x - y
    digit zero zero p q = refl
    digit zero (suc zero) p q = refl
    digit (suc zero) zero p q = refl
    digit (suc zero) (suc zero) p q = refl
    digit zero (suc (suc y)) p q = omega arith
    digit (suc zero) (suc (suc y)) p q = omega arith
    digit (suc (suc x)) y p q = omega arith

    go : (x y o : ℕ) → o % 2 ≡ max (x % 2) (y % 2) → bit_xor o y % 2 ≡ x % 2 - y % 2
    go x y o e =
        let d : differ (o % 2) (y % 2) ≡ x % 2 - y % 2 = rw e (digit (x % 2) (y % 2) (omega arith) (omega arith)) in
        omega (arith, xor_step o y)

not_bit : (b i : ℕ) → b < 2 ^ 32 → i < 32 → bit (bit_not w32 b) i ≡ 1 - bit b i
unfolding bit
not_bit b i h l = bit_at_not w32 b i h l

-- the same as a & !b
pub and_not : (a b : ℕ) → a < 2 ^ 32 → b < 2 ^ 32 → bit_and a (bit_not w32 b) ≡ bit_xor (bit_or a b) b
and_not a b p q =
    bits_ext 32 _ _ (omega (arith, and_le_l a (bit_not w32 b))) (xor_lt 32 _ _ (or_lt 32 a b p q) q)
    (λ i h. omega (arith, bit_and_lem a (bit_not w32 b) i, not_bit b i q h, bit_minus a b i, bit_lt a i, bit_lt b i))

-- ---- what count_trailing_zeros says

-- all bits below it are clear
pub tz_below : (k w i : ℕ) → i < count_trailing_zeros k w → bit w i ≡ 0
unfolding count_trailing_zeros
tz_below zero w i h = absurd (not-suc-le-zero h)
tz_below (suc k) w i h = go (λ j l. tz_below k (w / 2) j l) (w % 2) refl i h
  where
    go : ((j : ℕ) → j < count_trailing_zeros k (w / 2) → bit (w / 2) j ≡ 0) → (d : ℕ) → w % 2 ≡ d
        → (j : ℕ) → j < under d (count_trailing_zeros k (w / 2)) → bit w j ≡ 0
    go ih zero e zero l = bit_low w ∙ e
    go ih zero e (suc j) l = bit_suc w j ∙ ih j (le_of_suc-le-suc l)
    go ih (suc d) e j l = absurd (not-suc-le-zero l)

-- the bit at it is set, where the word is not 0; and it is below the width then
pub tz_at : (k w : ℕ) → 0 < w → w < 2 ^ k → (count_trailing_zeros k w < k) × (bit w (count_trailing_zeros k w) ≡ 1)
unfolding count_trailing_zeros
tz_at zero w p q = omega arith
tz_at (suc k) w p q = go (λ l r. tz_at k (w / 2) l r) (w % 2) refl
  where
    q' : w < 2 ^ k * 2
    q' = rw pow-suc at q

    go : (0 < w / 2 → w / 2 < 2 ^ k → (count_trailing_zeros k (w / 2) < k) × (bit (w / 2) (count_trailing_zeros k (w / 2)) ≡ 1)) → (d : ℕ) → w % 2 ≡ d
        → (under d (count_trailing_zeros k (w / 2)) < suc k) × (bit w (under d (count_trailing_zeros k (w / 2))) ≡ 1)
    go ih zero e =
        let r = ih (omega arith) (omega (arith, q')) in
        (suc-le-suc r.0, bit_suc w (count_trailing_zeros k (w / 2)) ∙ r.1)
    go ih (suc d) e = (omega arith, bit_low w ∙ omega arith)

-- `1u32 << b`, as the machine has it
pub one_shl : (b : ℕ) → b < 32 → (1 * 2 ^ b) % 2 ^ 32 ≡ 2 ^ b
one_shl b h = rw one-mul (mod-eq_of_lt (pow-lt {i = b} {j = 32} h))

-- ---- nothing left

pub or_is_zero : (x y : ℕ) → eqb (bit_or x y) 0 ≡ both (eqb x 0) (eqb y 0)
or_is_zero x y = same_test _ _ none all
  where
    none : eqb (bit_or x y) 0 ≡ true → both (eqb x 0) (eqb y 0) ≡ true
    none e =
        let z = eqb-true (bit_or x y) 0 e in
        let s = or_add_and x y in
        both_intro _ _ (eq-eqb x 0 (omega (arith, and_le_l x y, and_le_r x y))) (eq-eqb y 0 (omega (arith, and_le_l x y, and_le_r x y)))

    all : both (eqb x 0) (eqb y 0) ≡ true → eqb (bit_or x y) 0 ≡ true
    all e =
        let h = both_true (eqb x 0) (eqb y 0) e in
        let p : x ≡ 0 = eqb-true x 0 h.0 in
        let q : y ≡ 0 = eqb-true y 0 h.1 in
        eq-eqb (bit_or x y) 0 (rw (p, q) refl)

-- nothing of x is left without y, where x adds nothing to y
pub none_left : (x y : ℕ) → eqb (bit_xor (bit_or x y) y) 0 ≡ eqb (bit_or x y) y
none_left x y = same_test _ _ none all
  where
    none : eqb (bit_xor (bit_or x y) y) 0 ≡ true → eqb (bit_or x y) y ≡ true
    none e =
        let z = eqb-true (bit_xor (bit_or x y) y) 0 e in
        eq-eqb (bit_or x y) y (omega (arith, xor_add_and (bit_or x y) y, and_le_l (bit_or x y) y, and_le_r (bit_or x y) y))

    all : eqb (bit_or x y) y ≡ true → eqb (bit_xor (bit_or x y) y) 0 ≡ true
    all e = eq-eqb (bit_xor (bit_or x y) y) 0 (rw (eqb-true (bit_or x y) y e) (xor_self y))
