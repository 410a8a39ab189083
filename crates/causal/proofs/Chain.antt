-- A function that leaves with false at the first of several checks that fails: its result is the chain of the checks.
-- Each lemma is one link: what the code's branch says of it. `search (chain, arith)` puts them together. Assumes nothing.
use Prim.Native.Nat.{ℕ, ◌<◌, ◌≤◌}
use mathlib.Core.Path.{◌≡◌, sym, ap, ◌∙◌}
use mathlib.Core.Bool.{Bool, true, false, not}
use lib.Dec.{ltb, leb, eqb}
use borrow.Author.Tests.{lt-ltb, le-ltb, le-leb, lt-leb, eq-eqb, ne_eqb, not-true, not-false}
use Rattle.causal.specs.Tests.{both, implies}

fails : (A B : Bool) → A ≡ false → false ≡ both A B
unfolding both
fails A B h = rw h

passes : (x A B : Bool) → A ≡ true → x ≡ B → x ≡ both A B
unfolding both
passes x A B h e = rw h e

-- a call's result, tested by `!f(..)`
pub call_fails : (r A B : Bool) → r ≡ A → not r ≡ true → false ≡ both A B
call_fails r A B e t = fails A B (sym e ∙ not-true r t)

pub call_passes : (x r A B : Bool) → r ≡ A → not r ≡ false → x ≡ B → x ≡ both A B
call_passes x r A B e t = passes x A B (sym e ∙ not-false r t)

-- a call's result, tested by `f(..)`, where it must be false
pub ban_fails : (r A B : Bool) → r ≡ A → r ≡ true → false ≡ both (not A) B
ban_fails r A B e t = fails (not A) B (ap not (sym e ∙ t))

pub ban_passes : (x r A B : Bool) → r ≡ A → r ≡ false → x ≡ B → x ≡ both (not A) B
ban_passes x r A B e t = passes x (not A) B (ap not (sym e ∙ t))

-- tests of numbers
pub lt_fails : (m n : ℕ) (B : Bool) → n ≤ m → false ≡ both (ltb m n) B
lt_fails m n B h = fails (ltb m n) B (le-ltb m n h)

pub lt_passes : (x : Bool) (m n : ℕ) (B : Bool) → m < n → x ≡ B → x ≡ both (ltb m n) B
lt_passes x m n B h = passes x (ltb m n) B (lt-ltb m n h)

pub le_fails : (m n : ℕ) (B : Bool) → n < m → false ≡ both (leb m n) B
le_fails m n B h = fails (leb m n) B (lt-leb m n h)

pub le_passes : (x : Bool) (m n : ℕ) (B : Bool) → m ≤ n → x ≡ B → x ≡ both (leb m n) B
le_passes x m n B h = passes x (leb m n) B (le-leb m n h)

pub eq_fails : (m n : ℕ) (B : Bool) → (m ≡ n → ⊥) → false ≡ both (eqb m n) B
eq_fails m n B h = fails (eqb m n) B (ne_eqb m n h)

pub eq_passes : (x : Bool) (m n : ℕ) (B : Bool) → m ≡ n → x ≡ B → x ≡ both (eqb m n) B
eq_passes x m n B h = passes x (eqb m n) B (eq-eqb m n h)

-- tests of a number that a call gave: r is the result, as of `wide(store[i])`
pub lt_fails_of : (r m n : ℕ) (B : Bool) → r ≡ m → n ≤ r → false ≡ both (ltb m n) B
lt_fails_of r m n B e h = lt_fails m n B (rw e at h)

pub lt_passes_of : (x : Bool) (r m n : ℕ) (B : Bool) → r ≡ m → r < n → x ≡ B → x ≡ both (ltb m n) B
lt_passes_of x r m n B e h = lt_passes x m n B (rw e at h)

pub eq_fails_of : (r m n : ℕ) (B : Bool) → r ≡ m → (r ≡ n → ⊥) → false ≡ both (eqb m n) B
eq_fails_of r m n B e h = eq_fails m n B (λ q. h (e ∙ q))

pub eq_passes_of : (x : Bool) (r m n : ℕ) (B : Bool) → r ≡ m → r ≡ n → x ≡ B → x ≡ both (eqb m n) B
eq_passes_of x r m n B e h = eq_passes x m n B (sym e ∙ h)

pub eq_of : (r m n : ℕ) → r ≡ m → eqb r n ≡ eqb m n
eq_of r m n e = rw e

-- what is asked only where a call's result is true
pub asked : (x r A B : Bool) → r ≡ A → r ≡ true → x ≡ B → x ≡ implies A B
unfolding implies
asked x r A B e t h = rw (sym e ∙ t) h

pub unasked : (r A B : Bool) → r ≡ A → r ≡ false → true ≡ implies A B
unfolding implies
unasked r A B e t = rw (sym e ∙ t)

pub asked_not : (x r A B : Bool) → r ≡ A → not r ≡ false → x ≡ B → x ≡ implies A B
asked_not x r A B e t = asked x r A B e (not-false r t)

pub unasked_not : (r A B : Bool) → r ≡ A → not r ≡ true → true ≡ implies A B
unasked_not r A B e t = unasked r A B e (not-true r t)

pub ruleset chain = (call_fails, call_passes, ban_fails, ban_passes, lt_fails, lt_passes, le_fails, le_passes, eq_fails, eq_passes, lt_fails_of, lt_passes_of, eq_fails_of, eq_passes_of, eq_of, asked, unasked, asked_not, unasked_not)
