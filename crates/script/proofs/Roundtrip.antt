-- A number that is written in decimal is read back: as a field it is a number, and the same one. Assumes nothing.
use Prim.Native.Nat.{ℕ, zero, suc, ◌+◌, ◌-◌, ◌*◌, ◌/◌, ◌%◌, ◌<◌, ◌≤◌}
use mathlib.Core.Path.{◌≡◌, refl, sym, ap, ◌∙◌}
use mathlib.Core.Bool.{true, not}
use mathlib.Core.List.{List, [], ◌∷◌, ◌++◌, foldl-append}
use mathlib.Core.Logic.{⊎_elim}
use native.Mathlib.Omega.{arith}
use lib.Dec.{eqb, ltb}
use lib.ListN.{length, get_or, length-append, get_or-append}
use borrow.Author.Tests.{ne_eqb}
use Rattle.causal.specs.Tests.{both}
use Rattle.causal.proofs.Tests.{lt_or_le, both_true, both_intro}
use Rattle.script.specs.Fields.{is_digit, all_digits, proper, value_of, with_digit, is_below}
use Rattle.script.specs.Replies.{decimal}
use Rattle.script.proofs.Numbers.{digit_is}
use Rattle.script.proofs.Decimals.{decimal_small, decimal_more}

-- what holds of one digit, and of n where it holds of n / 10, holds of all numbers
by_digits : (P : ℕ → Type 0) → ((n : ℕ) → n < 10 → P n) → ((n : ℕ) → 10 ≤ n → P (n / 10) → P n) → (k n : ℕ) → n ≤ k → P n
by_digits P one more zero n h = one n (omega arith)
by_digits P one more (suc k) n h =
    ⊎_elim (λ (l : n < 10). one n l) (λ (l : 10 ≤ n). more n l (by_digits P one more k (n / 10) (omega arith))) (lt_or_le n 10)

value_none : value_of [] ≡ 0
unfolding value_of
value_none = refl

value_snoc : (xs : List ℕ) (b : ℕ) → value_of (xs ++ (b ∷ [])) ≡ 10 * value_of xs + (b - 48)
unfolding value_of
value_snoc xs b = foldl-append with_digit 0 xs (b ∷ [])

digits_none : all_digits [] ≡ true
unfolding all_digits
digits_none = refl

digits_snoc : (xs : List ℕ) (b : ℕ) → all_digits xs ≡ true → is_digit b ≡ true → all_digits (xs ++ (b ∷ [])) ≡ true
unfolding all_digits both
digits_snoc [] b p q = rw q refl
digits_snoc (x ∷ xs) b p q =
    let w = both_true (is_digit x) (all_digits xs) p in
    both_intro (is_digit x) (all_digits (xs ++ (b ∷ []))) w.0 (digits_snoc xs b w.1 q)

pub decimal_value : (n : ℕ) → value_of (decimal n) ≡ n
decimal_value n = by_digits (λ m. value_of (decimal m) ≡ m) one more n n (omega arith)
  where
    one : (m : ℕ) → m < 10 → value_of (decimal m) ≡ m
    one m h = ap value_of (decimal_small m h) ∙ value_snoc [] (48 + m) ∙ omega (arith, value_none)

    more : (m : ℕ) → 10 ≤ m → value_of (decimal (m / 10)) ≡ m / 10 → value_of (decimal m) ≡ m
    more m h e = ap value_of (decimal_more m h) ∙ value_snoc (decimal (m / 10)) (48 + m % 10) ∙ omega arith

pub decimal_digits : (n : ℕ) → all_digits (decimal n) ≡ true
decimal_digits n = by_digits (λ m. all_digits (decimal m) ≡ true) one more n n (omega arith)
  where
    one : (m : ℕ) → m < 10 → all_digits (decimal m) ≡ true
    one m h = rw (decimal_small m h) (digits_snoc [] (48 + m) digits_none (digit_is (48 + m) (omega arith) (omega arith)))

    more : (m : ℕ) → 10 ≤ m → all_digits (decimal (m / 10)) ≡ true → all_digits (decimal m) ≡ true
    more m h e = rw (decimal_more m h) (digits_snoc (decimal (m / 10)) (48 + m % 10) e (digit_is (48 + m % 10) (omega arith) (omega arith)))

decimal_some : (n : ℕ) → 1 ≤ length (decimal n)
unfolding decimal
decimal_some n = simp length-append (omega arith)

-- no zero in front
decimal_front : (n : ℕ) → 1 ≤ n → get_or (decimal n) 0 0 ≡ 48 → ⊥
decimal_front n = by_digits (λ m. 1 ≤ m → get_or (decimal m) 0 0 ≡ 48 → ⊥) one more n n (omega arith)
  where
    one : (m : ℕ) → m < 10 → 1 ≤ m → get_or (decimal m) 0 0 ≡ 48 → ⊥
    one m h p e = let q : 48 + m ≡ 48 = rw (decimal_small m h) at e in omega arith

    more : (m : ℕ) → 10 ≤ m → (1 ≤ m / 10 → get_or (decimal (m / 10)) 0 0 ≡ 48 → ⊥) → 1 ≤ m → get_or (decimal m) 0 0 ≡ 48 → ⊥
    more m h ih p e =
        ih (omega arith)
        (sym (get_or-append (decimal (m / 10)) ((48 + m % 10) ∷ []) 0 0 (decimal_some (m / 10))) ∙ ap (λ (l : List ℕ). get_or l 0 0) (sym (decimal_more m h)) ∙ e)

proper_of : (f : List ℕ) → all_digits f ≡ true → 1 ≤ length f → (1 < length f → get_or f 0 0 ≡ 48 → ⊥) → proper f ≡ true
unfolding proper all_digits
proper_of [] d h n = absurd (omega arith)
proper_of (b ∷ []) d h n = (both_true (is_digit b) (all_digits []) d).0
proper_of (b ∷ x ∷ f) d h n = both_intro (not (eqb b 48)) (all_digits (b ∷ x ∷ f)) (ap not (ne_eqb b 48 (n (omega arith)))) d

pub decimal_proper : (n : ℕ) → proper (decimal n) ≡ true
decimal_proper n = proper_of (decimal n) (decimal_digits n) (decimal_some n) (λ h. decimal_front n (long h))
  where
    long : 1 < length (decimal n) → 1 ≤ n
    long h = ⊎_elim (λ (l : n < 10). absurd (omega (arith, ap length (decimal_small n l)))) (λ (l : 10 ≤ n). omega arith) (lt_or_le n 10)

-- written and read back
pub decimal_field : (m n : ℕ) → is_below m (decimal n) ≡ ltb n m
unfolding is_below both
decimal_field m n = rw (decimal_proper n, decimal_value n) refl
