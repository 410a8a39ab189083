-- How long a line can be: a line of more than 25 bytes asks for nothing. Assumes nothing.
use Prim.Native.Nat.{ℕ, zero, suc, ◌+◌, ◌-◌, ◌*◌, ◌<◌, ◌≤◌}
use mathlib.Core.Path.{◌≡◌, refl, ap, ◌∙◌}
use mathlib.Core.Bool.{Bool, true, false, cond, not}
use mathlib.Core.List.{List, [], ◌∷◌, foldl}
use native.Mathlib.Omega.{arith}
use lib.Dec.{eqb, leb, ltb}
use lib.ListN.{length}
use borrow.Author.Tests.{ltb-true, leb-true, eqb-false, not-true}
use Rattle.causal.specs.Tests.{both}
use Rattle.causal.proofs.Tests.{both_true, not_so}
use Rattle.causal.proofs.Lists.{eq_words_eq}
use Rattle.script.specs.Fields.{fields, in_front, is_digit, all_digits, proper, value_of, with_digit, is_below}
use Rattle.script.specs.Lines.{is, line_in, line_of}
use Rattle.script.specs.declared.line.Line.TheVariants.{Receive, Other}
use Rattle.std.proofs.lemmas.Bool.{cond-false}

-- 1, 10, 100, ..
unfoldable pub tens : ℕ → ℕ
tens zero = 1
tens (suc k) = 10 * tens k

tens_pos : (k : ℕ) → 1 ≤ tens k
unfolding tens
tens_pos zero = omega arith
tens_pos (suc k) = omega (arith, tens_pos k)

tens_order : (j k : ℕ) → tens j < tens k → j < k
unfolding tens
tens_order j zero h = absurd (omega (arith, tens_pos j))
tens_order zero (suc k) h = omega arith
tens_order (suc j) (suc k) h = let r = tens_order j k (omega arith) in omega arith

pub tens_ten : tens 10 ≡ 10000000000
unfolding tens
tens_ten = refl

pub tens_one : tens 1 ≡ 10
unfolding tens
tens_one = refl

-- ---- a number has as many digits as it must

digits_few : (j k v : ℕ) (f : List ℕ) → tens j ≤ v → foldl with_digit v f < tens k → j + length f < k
unfolding tens
digits_few j k v [] h q = let r = tens_order j k (omega arith) in omega arith
digits_few j k v (b ∷ f) h q =
    let r = digits_few (suc j) k (10 * v + (b - 48)) f (more h) q in
    omega arith
  where
    more : tens j ≤ v → tens (suc j) ≤ 10 * v + (b - 48)
    more p = omega arith

first_digit : (b : ℕ) → not (eqb b 48) ≡ true → is_digit b ≡ true → 1 ≤ 10 * 0 + (b - 48)
unfolding is_digit
first_digit b p q =
    let w = both_true (leb 48 b) (leb b 57) q in
    let n : b ≡ 48 → ⊥ = eqb-false b 48 (not-true (eqb b 48) p) in
    omega (arith, leb-true 48 b w.0)

field_short : (k : ℕ) (f : List ℕ) → 1 ≤ k → proper f ≡ true → value_of f < tens k → length f ≤ k
unfolding proper value_of all_digits tens
field_short k [] h p q = omega arith
field_short k (b ∷ []) h p q = omega arith
field_short k (b ∷ d ∷ f) h p q =
    let w = both_true (not (eqb b 48)) (both (is_digit b) (both (is_digit d) (all_digits f))) p in
    let u = both_true (is_digit b) (both (is_digit d) (all_digits f)) w.1 in
    let r = digits_few 0 k (10 * 0 + (b - 48)) (d ∷ f) (first_digit b w.0 u.0) q in
    omega arith

-- a field below n, where n is at most 10 ^ k
below_short : (n k : ℕ) (f : List ℕ) → 1 ≤ k → n ≤ tens k → is_below n f ≡ true → length f ≤ k
unfolding is_below
below_short n k f h t e =
    let w = both_true (proper f) (ltb (value_of f) n) e in
    field_short k f h w.0 (omega (arith, ltb-true (value_of f) n w.1))

one_digit : (n : ℕ) (f : List ℕ) → n ≤ 10 → is_below n f ≡ true → length f ≤ 1
one_digit n f h e = below_short n 1 f (omega arith) (omega (arith, tens_one)) e

ten_digits : (f : List ℕ) → is_below 4294967296 f ≡ true → length f ≤ 10
ten_digits f e = below_short 4294967296 10 f (omega arith) (omega (arith, tens_ten)) e

one_byte : (b : ℕ) (k : List ℕ) → is b k ≡ true → length k ≡ 1
one_byte b k e = ap length (eq_words_eq k (b ∷ []) e)

-- ---- the fields, each with the space or the end behind it

size : List (List ℕ) → ℕ
size [] = 0
size (f ∷ fs) = suc (length f) + size fs

front_size : (b : ℕ) (fs : List (List ℕ)) → 0 < size fs → size (in_front b fs) ≡ suc (size fs)
unfolding size in_front
front_size b [] h = absurd (omega arith)
front_size b (f ∷ fs) h = omega arith

fields_size : (l : List ℕ) → size (fields l) ≡ suc (length l)
unfolding size fields
fields_size [] = refl
fields_size (b ∷ l) = go (eqb b 32) (fields_size l)
  where
    go : (t : Bool) → size (fields l) ≡ suc (length l) → size (cond t ([] ∷ fields l) (in_front b (fields l))) ≡ suc (suc (length l))
    go true h = omega arith
    go false h = front_size b (fields l) (omega arith) ∙ ap suc h

-- ---- the law

long_in : (fs : List (List ℕ)) → 26 < size fs → line_in fs ≡ Other
unfolding line_in size
long_in [] h = refl
long_in (k ∷ []) h = refl
long_in (k ∷ o ∷ []) h =
    cond-false (both (is 72 k) (is_below 3 o)) (Receive (value_of o)) Other
    (not_so (both (is 72 k) (is_below 3 o))
    (λ e. let w = both_true (is 72 k) (is_below 3 o) e in omega (arith, one_byte 72 k w.0, one_digit 3 o (omega arith) w.1)))
long_in (k ∷ s ∷ x ∷ []) h = rw (not_so (both (is 82 k) (both (is_below 4 s) (is_below 4294967296 x))) no_read, not_so (both (is 77 k) (both (is_below 4 s) (is_below 3 x))) no_move) refl
  where
    no_read : both (is 82 k) (both (is_below 4 s) (is_below 4294967296 x)) ≡ true → ⊥
    no_read e =
        let w = both_true (is 82 k) (both (is_below 4 s) (is_below 4294967296 x)) e in
        let u = both_true (is_below 4 s) (is_below 4294967296 x) w.1 in
        omega (arith, one_byte 82 k w.0, one_digit 4 s (omega arith) u.0, ten_digits x u.1)

    no_move : both (is 77 k) (both (is_below 4 s) (is_below 3 x)) ≡ true → ⊥
    no_move e =
        let w = both_true (is 77 k) (both (is_below 4 s) (is_below 3 x)) e in
        let u = both_true (is_below 4 s) (is_below 3 x) w.1 in
        omega (arith, one_byte 77 k w.0, one_digit 4 s (omega arith) u.0, one_digit 3 x (omega arith) u.1)
long_in (k ∷ s ∷ p ∷ v ∷ []) h = rw (not_so (both (is 87 k) (both (is_below 4 s) (both (is_below 4294967296 p) (is_below 4294967296 v)))) no_write) refl
  where
    no_write : both (is 87 k) (both (is_below 4 s) (both (is_below 4294967296 p) (is_below 4294967296 v))) ≡ true → ⊥
    no_write e =
        let w = both_true (is 87 k) (both (is_below 4 s) (both (is_below 4294967296 p) (is_below 4294967296 v))) e in
        let u = both_true (is_below 4 s) (both (is_below 4294967296 p) (is_below 4294967296 v)) w.1 in
        let t = both_true (is_below 4294967296 p) (is_below 4294967296 v) u.1 in
        omega (arith, one_byte 87 k w.0, one_digit 4 s (omega arith) u.0, ten_digits p t.0, ten_digits v t.1)
long_in (k ∷ s ∷ p ∷ v ∷ x ∷ fs) h = refl

pub long_line : (l : List ℕ) → 25 < length l → line_of l ≡ Other
unfolding line_of
long_line l h = long_in (fields l) (omega (arith, fields_size l))
