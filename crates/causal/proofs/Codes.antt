-- Laws of refusal numbers: what each link of a chain of checks gives, and what a chain that refuses nothing says. Assumes nothing.
use Prim.Native.Nat.{ℕ, zero, suc, ◌+◌, ◌<◌, ◌≤◌}
use mathlib.Core.Path.{◌≡◌, refl, sym, ◌∙◌}
use mathlib.Core.Bool.{Bool, true, false, not}
use mathlib.Core.Logic.{⊎_elim}
use native.Mathlib.Omega.{arith}
use native.Mathlib.Numerals.{add-one}
use lib.Dec.{leb, ltb}
use borrow.Author.Tests.{lt-ltb, le-ltb, le-leb, lt-leb, not-true, not-false}
use Rattle.causal.specs.Codes.{check, or_else, first_code}
use Rattle.causal.proofs.Tests.{split}

pub or_none : (a b : ℕ) → a ≡ 0 → or_else a b ≡ b
unfolding or_else
or_none a b h = rw h

pub or_some : (a b : ℕ) → (a ≡ 0 → ⊥) → or_else a b ≡ a
unfolding or_else
or_some zero b h = absurd (h refl)
or_some (suc a) b h = refl

pub code_start : (p : ℕ → ℕ) → first_code 0 p ≡ 0
unfolding first_code
code_start p = refl

pub code_more : (p : ℕ → ℕ) (i r : ℕ) → first_code i p ≡ 0 → r ≡ p i → r ≡ 0 → first_code (i + 1) p ≡ 0
unfolding first_code
code_more p i r h e z = rw add-one (or_none (first_code i p) (p i) h ∙ sym e ∙ z)

code_first : (p : ℕ → ℕ) (n i r : ℕ) → i < n → first_code i p ≡ 0 → r ≡ p i → (r ≡ 0 → ⊥) → first_code n p ≡ r
unfolding first_code
code_first p zero i r l h e z = absurd (omega arith)
code_first p (suc n) i r l h e z =
    ⊎_elim
    (λ (m : i < n). let q = code_first p n i r m h e z in rw q (or_some r (p n) z))
    (λ (m : i ≡ n). rw (← m) (or_none (first_code i p) (p i) h ∙ sym e))
    (split i n l)

pub code_found : (p : ℕ → ℕ) (n i r : ℕ) → i < n → first_code i p ≡ 0 → r ≡ p i → (r ≡ 0 → ⊥) → r ≡ first_code n p
code_found p n i r l h e z = sym (code_first p n i r l h e z)

pub code_done : (p : ℕ → ℕ) (n i : ℕ) → first_code i p ≡ 0 → i ≤ n → n ≤ i → 0 ≡ first_code n p
code_done p n i h a b = let e : n ≡ i = omega arith in rw e (sym h)

-- links of a chain of checks
pub code_fails : (r A : Bool) (k B : ℕ) → r ≡ A → not r ≡ true → k ≡ check A k B
unfolding check
code_fails r A k B e t = rw (sym e ∙ not-true r t)

pub code_passes : (x k B : ℕ) (r A : Bool) → r ≡ A → not r ≡ false → x ≡ B → x ≡ check A k B
unfolding check
code_passes x k B r A e t h = rw (sym e ∙ not-false r t) h

pub lt_code_fails : (m n k B : ℕ) → n ≤ m → k ≡ check (ltb m n) k B
unfolding check
lt_code_fails m n k B h = rw (le-ltb m n h)

pub lt_code_passes : (x m n k B : ℕ) → m < n → x ≡ B → x ≡ check (ltb m n) k B
unfolding check
lt_code_passes x m n k B h e = rw (lt-ltb m n h) e

pub le_code_fails : (m n k B : ℕ) → n < m → k ≡ check (leb m n) k B
unfolding check
le_code_fails m n k B h = rw (lt-leb m n h)

pub le_code_passes : (x m n k B : ℕ) → m ≤ n → x ≡ B → x ≡ check (leb m n) k B
unfolding check
le_code_passes x m n k B h e = rw (le-leb m n h) e

-- of a call's result
pub lt_code_fails_of : (r m n k B : ℕ) → r ≡ m → n ≤ r → k ≡ check (ltb m n) k B
lt_code_fails_of r m n k B e h = lt_code_fails m n k B (rw e at h)

pub lt_code_passes_of : (x r m n k B : ℕ) → r ≡ m → r < n → x ≡ B → x ≡ check (ltb m n) k B
lt_code_passes_of x r m n k B e h = lt_code_passes x m n k B (rw e at h)

pub or_stops : (r A B : ℕ) → r ≡ A → (r ≡ 0 → ⊥) → r ≡ or_else A B
or_stops r A B e z = e ∙ sym (or_some A B (λ q. z (e ∙ q)))

pub or_goes : (x r A B : ℕ) → r ≡ A → r ≡ 0 → x ≡ B → x ≡ or_else A B
or_goes x r A B e z h = h ∙ sym (or_none A B (sym e ∙ z))

pub ruleset codes = (code_fails, code_passes, lt_code_fails, lt_code_passes, le_code_fails, le_code_passes, lt_code_fails_of, lt_code_passes_of, or_stops, or_goes)

-- what a passed chain says
pub check_none : (A : Bool) (k B : ℕ) → 0 < k → check A k B ≡ 0 → (A ≡ true) × (B ≡ 0)
unfolding check
check_none true k B h e = (refl, e)
check_none false k B h e = absurd (omega arith)

pub or_both : (a b : ℕ) → or_else a b ≡ 0 → (a ≡ 0) × (b ≡ 0)
unfolding or_else
or_both zero b e = (refl, e)
or_both (suc a) b e = absurd (omega arith)

pub code_at : (p : ℕ → ℕ) (n : ℕ) → first_code n p ≡ 0 → (i : ℕ) → i < n → p i ≡ 0
unfolding first_code
code_at p zero h i l = absurd (omega arith)
code_at p (suc n) h i l =
    let w = or_both (first_code n p) (p n) h in
    ⊎_elim (λ (m : i < n). code_at p n w.0 i m) (λ (m : i ≡ n). rw m w.1) (split i n l)
