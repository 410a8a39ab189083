-- Laws of the numbers of fields: what is read byte by byte is the number of the definition. Assumes nothing.
use Rattle.std.proofs.Common.{◌≡◌, ℕ, ◌+◌, ◌-◌, ◌*◌, ◌<◌, ◌≤◌, Bool, true, false, cond, leb, ltb, List, [], ◌∷◌, length, slice_get, Option, Some, ◌⊎◌, ⊎_elim, None, refl, ◌∙◌, sym, arith}
use mathlib.Core.List.{foldl}
use Rattle.std.proofs.lemmas.Bool.{lt-ltb, le-ltb, ltb-false, ltb-true, le-leb, eq-eqb, ne_eqb}
use Rattle.std.proofs.lemmas.Option.{cond_some}
use Rattle.causal.specs.Tests.{both}
use Rattle.causal.proofs.Tests.{both_true, both_false, both_intro, both_one}
use Rattle.script.specs.Fields.{is_digit, all_digits, proper, value_of, with_digit, is_below}
use Rattle.script.specs.Steps.{with_digit_of, below_of, number_of}

pub cond_same : {A : Type 0} (t : Bool) (x y z : A) → (t ≡ true → x ≡ y) → cond t x z ≡ cond t y z
cond_same true x y z f = f refl
cond_same false x y z f = refl

pub digit_is : (b : ℕ) → 48 ≤ b → b ≤ 57 → is_digit b ≡ true
unfolding is_digit
digit_is b p q = both_intro (leb 48 b) (leb b 57) (le-leb 48 b p) (le-leb b 57 q)

pub value_grows : (v : ℕ) (f : List ℕ) → v ≤ foldl with_digit v f
value_grows v [] = omega arith
value_grows v (b ∷ f) = omega (arith, value_grows (10 * v + (b - 48)) f)

-- ---- byte by byte

-- the number that v and the digits f behind it write, if they are digits and it is below 2^32
unfoldable pub behind : ℕ → List ℕ → Option ℕ
behind v f = cond (both (all_digits f) (ltb (foldl with_digit v f) 4294967296)) (Some (foldl with_digit v f)) None

pub behind_none : (v : ℕ) → v < 4294967296 → behind v [] ≡ Some v
unfolding behind all_digits both
behind_none v h = rw (lt-ltb v 4294967296 h) refl

pub behind_digit : (v b w : ℕ) (f : List ℕ) → with_digit_of v b ≡ Some w → behind v (b ∷ f) ≡ behind w f
unfolding behind all_digits both with_digit_of
behind_digit v b w f e =
    let p = cond_some (both (is_digit b) (ltb (with_digit v b) 4294967296)) (with_digit v b) w e in
    rw ((both_true (is_digit b) (ltb (with_digit v b) 4294967296) p.0).0, p.1) refl

pub digit_below : (v b w : ℕ) → with_digit_of v b ≡ Some w → w < 4294967296
unfolding with_digit_of
digit_below v b w e =
    let p = cond_some (both (is_digit b) (ltb (with_digit v b) 4294967296)) (with_digit v b) w e in
    omega (arith, p.1, ltb-true (with_digit v b) 4294967296 (both_true (is_digit b) (ltb (with_digit v b) 4294967296) p.0).1)

pub behind_stop : (v b : ℕ) (f : List ℕ) → with_digit_of v b ≡ None → behind v (b ∷ f) ≡ None
unfolding behind all_digits both with_digit_of
behind_stop v b f e = go (is_digit b) (ltb (with_digit v b) 4294967296) refl e
  where
    go : (t u : Bool) → ltb (with_digit v b) 4294967296 ≡ u → cond (both t u) (Some (with_digit v b)) None ≡ None
        → cond (both (both t (all_digits f)) (ltb (foldl with_digit (with_digit v b) f) 4294967296)) (Some (foldl with_digit (with_digit v b) f)) None ≡ None
    go false u e n = refl
    go true true e n = cc
    go true false e n =
        rw (le-ltb (foldl with_digit (with_digit v b) f) 4294967296 (omega (arith, value_grows (with_digit v b) f, ltb-false (with_digit v b) 4294967296 e)), both_false (all_digits f)) refl

-- ---- a field, by its first byte

no_number : (f : List ℕ) → proper f ≡ false → None ≡ number_of f
unfolding number_of below_of is_below both
no_number f e = rw e refl

pub no_first : (f : List ℕ) → None ≡ slice_get f 0 → None ≡ number_of f
unfolding proper
no_first [] e = no_number [] refl
no_first (b ∷ f) e = cc

pub zero_first : (f : List ℕ) (z : ℕ) → Some z ≡ slice_get f 0 → z ≡ 48 → 1 < length f → None ≡ number_of f
unfolding proper both
zero_first [] z e n h = cc
zero_first (b ∷ []) z e n h = absurd (omega arith)
zero_first (b ∷ d ∷ f) z e n h = no_number (b ∷ d ∷ f) (rw (eq-eqb b 48 (cc)) refl)

proper_digits : (f : List ℕ) (z : ℕ) → Some z ≡ slice_get f 0 → ((z ≡ 48) × (length f ≤ 1)) ⊎ (z ≡ 48 → ⊥) → proper f ≡ all_digits f
unfolding proper all_digits both
proper_digits [] z e n = cc
proper_digits (b ∷ []) z e n = sym (both_one (is_digit b))
proper_digits (b ∷ d ∷ f) z e n =
    rw (ne_eqb b 48 (⊎_elim (λ w. absurd (omega (arith, w.1))) (λ w v. w (let q : z ≡ b = cc in q ∙ v)) n)) refl

pub whole_number : (f : List ℕ) (z : ℕ) → Some z ≡ slice_get f 0 → ((z ≡ 48) × (length f ≤ 1)) ⊎ (z ≡ 48 → ⊥) → behind 0 f ≡ number_of f
unfolding behind number_of below_of is_below value_of
whole_number f z e n = rw (proper_digits f z e n) refl
