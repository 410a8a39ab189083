-- A line whose first field is no letter, a field that is below a number or not, and what a line names. Assumes nothing.
use Rattle.std.proofs.Common.{◌≡◌, ℕ, ◌<◌, Bool, true, false, cond, eqb, ltb, List, [], ◌∷◌, length, Some, None, refl}
use Rattle.std.proofs.lemmas.Bool.{ltb-true}
use Rattle.std.proofs.lemmas.Option.{cond_some}
use Rattle.causal.specs.Tests.{both}
use Rattle.causal.specs.Lists.{eq_words}
use Rattle.causal.proofs.Tests.{both_true, both_false}
use Rattle.script.specs.Fields.{fields, is_below, proper, value_of}
use Rattle.script.specs.Lines.{Named, is, line_in, line_of}
use Rattle.script.specs.Steps.{below_of}
use Rattle.script.specs.declared.line.Line.{Line}
use Rattle.script.specs.declared.line.Line.TheVariants.{Write, Read, Move, Receive, Other}

-- ---- the letter

pub no_letter : (b : ℕ) (k : List ℕ) → (length k ≡ 1 → ⊥) → is b k ≡ false
unfolding eq_words
no_letter b [] h = refl
no_letter b (x ∷ []) h = absurd (h refl)
no_letter b (x ∷ y ∷ k) h = both_false (eqb x b)

pub no_line : (k : List ℕ) (fs : List (List ℕ)) → (length k ≡ 1 → ⊥) → line_in (k ∷ fs) ≡ Other
unfolding line_in both
no_line k [] h = refl
no_line k (a ∷ []) h = rw (no_letter 72 k h) refl
no_line k (a ∷ b ∷ []) h = rw (no_letter 82 k h, no_letter 77 k h) refl
no_line k (a ∷ b ∷ c ∷ []) h = rw (no_letter 87 k h) refl
no_line k (a ∷ b ∷ c ∷ d ∷ fs) h = refl

-- ---- a letter and fields

pub below_no : (n : ℕ) (f : List ℕ) → below_of n f ≡ None → is_below n f ≡ false
unfolding below_of
below_no n f e = go (is_below n f) e
  where
    go : (t : Bool) → cond t (Some (value_of f)) None ≡ None → t ≡ false
    go true e = cc
    go false e = refl

pub below_yes : (n v : ℕ) (f : List ℕ) → below_of n f ≡ Some v → (is_below n f ≡ true) × (value_of f ≡ v)
unfolding below_of
below_yes n v f e = cond_some (is_below n f) (value_of f) v e

-- ---- what a line names is there

below : (n : ℕ) (f : List ℕ) → is_below n f ≡ true → value_of f < n
unfolding is_below
below n f e = ltb-true (value_of f) n (both_true (proper f) (ltb (value_of f) n) e).1

named_if : (t : Bool) (a b : Line) → (t ≡ true → Named a) → Named b → Named (cond t a b)
named_if true a b h k = h refl
named_if false a b h k = k

named_in : (fs : List (List ℕ)) → Named (line_in fs)
unfolding line_in
named_in [] = tt
named_in (k ∷ []) = tt
named_in (k ∷ o ∷ []) = named_if (both (is 72 k) (is_below 3 o)) (Receive (value_of o)) Other (λ e. below 3 o (both_true (is 72 k) (is_below 3 o) e).1) tt
named_in (k ∷ s ∷ x ∷ []) =
    named_if (both (is 82 k) (both (is_below 4 s) (is_below 4294967296 x))) (Read (value_of s) (value_of x)) _ (λ e. below 4 s (both_true (is_below 4 s) _ (both_true (is 82 k) _ e).1).0)
    (named_if (both (is 77 k) (both (is_below 4 s) (is_below 3 x))) (Move (value_of s) (value_of x)) Other
    (λ e. let w = both_true (is_below 4 s) (is_below 3 x) (both_true (is 77 k) _ e).1 in (below 4 s w.0, below 3 x w.1)) tt)
named_in (k ∷ s ∷ p ∷ v ∷ []) =
    named_if (both (is 87 k) (both (is_below 4 s) (both (is_below 4294967296 p) (is_below 4294967296 v)))) (Write (value_of s) (value_of p) (value_of v)) Other
    (λ e. below 4 s (both_true (is_below 4 s) _ (both_true (is 87 k) _ e).1).0) tt
named_in (k ∷ s ∷ p ∷ v ∷ x ∷ fs) = tt

pub line_named : (l : List ℕ) → Named (line_of l)
unfolding line_of
line_named l = named_in (fields l)
