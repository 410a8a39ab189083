-- Laws of tests: what a chain of tests says, a test at each number below a bound, cases of numbers and truth values. Assumes nothing.
use Prim.Native.Nat.{ℕ, zero, suc, ◌+◌, ◌<◌, ◌≤◌}
use mathlib.Core.Path.{◌≡◌, refl, sym, ap, ◌∙◌}
use mathlib.Core.Bool.{Bool, true, false, not}
use mathlib.Core.Logic.{◌⊎◌, inl, inr, ⊎_elim}
use native.Mathlib.Numerals.{add-one}
use native.Mathlib.Omega.{arith}
use lib.Dec.{ltb, eqb}
use borrow.Author.Tests.{ltb-true, ltb-false, eqb-true, eqb-false, not-true, not-false}
use Rattle.causal.specs.Tests.{both, implies, all_below}

-- ---- cases

pub false_true : {A : Type 0} → false ≡ true → A
false_true e = let z : ◌≡◌ {A = ℕ} 0 1 = cc in absurd (omega arith)

-- what is not true is false: a refusal is proved by what its opposite would say
pub not_so : (b : Bool) → (b ≡ true → ⊥) → b ≡ false
not_so true h = absurd (h refl)
not_so false h = refl

-- tests that ask the same of each other are the same test
pub same_test : (a b : Bool) → (a ≡ true → b ≡ true) → (b ≡ true → a ≡ true) → a ≡ b
same_test true b f g = sym (f refl)
same_test false true f g = g refl
same_test false false f g = refl

pub lt_or_le : (m n : ℕ) → (m < n) ⊎ (n ≤ m)
lt_or_le m n = go (ltb m n) refl
  where
    go : (t : Bool) → ltb m n ≡ t → (m < n) ⊎ (n ≤ m)
    go true e = inl (ltb-true m n e)
    go false e = inr (ltb-false m n e)

pub eq_or_ne : (m n : ℕ) → (m ≡ n) ⊎ (m ≡ n → ⊥)
eq_or_ne m n = go (eqb m n) refl
  where
    go : (t : Bool) → eqb m n ≡ t → (m ≡ n) ⊎ (m ≡ n → ⊥)
    go true e = inl (eqb-true m n e)
    go false e = inr (eqb-false m n e)

-- ---- chains

pub both_false : (a : Bool) → both a false ≡ false
unfolding both
both_false true = refl
both_false false = refl

pub both_true : (a b : Bool) → both a b ≡ true → (a ≡ true) × (b ≡ true)
unfolding both
both_true true b h = (refl, h)
both_true false b h = (h, absurd_b b h)
  where
    absurd_b : (b : Bool) → false ≡ true → b ≡ true
    absurd_b true h = refl
    absurd_b false h = h

pub both_one : (a : Bool) → both a true ≡ a
unfolding both
both_one true = refl
both_one false = refl

pub both_swap : (a b : Bool) → both a b ≡ both b a
unfolding both
both_swap true true = refl
both_swap true false = refl
both_swap false true = refl
both_swap false false = refl

pub both_assoc : (a b c : Bool) → both (both a b) c ≡ both a (both b c)
unfolding both
both_assoc true b c = refl
both_assoc false b c = refl

pub all_none : (p : ℕ → Bool) → all_below 0 p ≡ true
unfolding all_below both
all_none p = refl

pub all_more : (p : ℕ → Bool) (i : ℕ) → all_below i p ≡ true → p i ≡ true → all_below (i + 1) p ≡ true
unfolding all_below both
all_more p i h e = rw (add-one i) (rw h e)

pub split : (i n : ℕ) → i < suc n → (i < n) ⊎ (i ≡ n)
split i n h = go (ltb i n) refl
  where
    go : (b : Bool) → ltb i n ≡ b → (i < n) ⊎ (i ≡ n)
    go true e = inl (ltb-true i n e)
    go false e = inr (omega (arith, ltb-false i n e))

pub all_fails : (p : ℕ → Bool) (n i : ℕ) → i < n → p i ≡ false → all_below n p ≡ false
unfolding all_below both
all_fails p zero i h e = absurd (omega arith)
all_fails p (suc n) i h e =
    ⊎_elim (λ (l : i < n). rw (all_fails p n i l e)) (λ (q : i ≡ n). rw (← q) (rw e (both_false (all_below i p)))) (split i n h)

pub all_at : (p : ℕ → Bool) (n : ℕ) → all_below n p ≡ true → (i : ℕ) → i < n → p i ≡ true
unfolding all_below both
all_at p zero a i h = absurd (omega arith)
all_at p (suc n) a i h =
    let w = both_true (all_below n p) (p n) a in
    ⊎_elim (λ (l : i < n). all_at p n w.0 i l) (λ (q : i ≡ n). rw q w.1) (split i n h)

pub all_ext : (p q : ℕ → Bool) (n : ℕ) → ((i : ℕ) → i < n → p i ≡ q i) → all_below n p ≡ all_below n q
unfolding all_below both
all_ext p q zero e = refl
all_ext p q (suc n) e = rw (all_ext p q n (λ i h. e i (omega arith)), e n (omega arith))

-- The same for a loop whose turn calls a check and leaves where `!check(..)`: r is the callee's result
pub turn_more : (p : ℕ → Bool) (i : ℕ) (r : Bool) → all_below i p ≡ true → r ≡ p i → not r ≡ false → all_below (i + 1) p ≡ true
turn_more p i r h e t = all_more p i h (sym e ∙ not-false r t)

pub turn_fails : (p : ℕ → Bool) (n i : ℕ) (r : Bool) → i < n → r ≡ p i → not r ≡ true → false ≡ all_below n p
turn_fails p n i r h e t = sym (all_fails p n i h (sym e ∙ not-true r t))

-- after the last turn
pub turn_done : (p : ℕ → Bool) (n i : ℕ) → all_below i p ≡ true → i ≤ n → n ≤ i → true ≡ all_below n p
turn_done p n i h a b = let e : n ≡ i = omega arith in rw e (sym h)

pub both_intro : (a b : Bool) → a ≡ true → b ≡ true → both a b ≡ true
unfolding both
both_intro a b p q = rw p q

pub all_intro : (p : ℕ → Bool) (n : ℕ) → ((i : ℕ) → i < n → p i ≡ true) → all_below n p ≡ true
unfolding all_below
all_intro p zero h = refl
all_intro p (suc n) h = both_intro (all_below n p) (p n) (all_intro p n (λ i l. h i (omega arith))) (h n (omega arith))

pub implies_elim : (a b : Bool) → implies a b ≡ true → a ≡ true → b ≡ true
unfolding implies
implies_elim a b h e = rw e at h

pub implies_intro : (a b : Bool) → (a ≡ true → b ≡ true) → implies a b ≡ true
unfolding implies
implies_intro true b h = h refl
implies_intro false b h = refl

-- the first one first
pub all_front : (p : ℕ → Bool) (n : ℕ) → all_below (suc n) p ≡ both (p 0) (all_below n (λ i. p (suc i)))
unfolding all_below both
all_front p zero = sym (both_one (p 0))
all_front p (suc n) = ap (λ (b : Bool). both b (p (suc n))) (all_front p n) ∙ both_assoc (p 0) (all_below n (λ i. p (suc i))) (p (suc n))

-- two tests at each number
pub all_both : (n : ℕ) (p q : ℕ → Bool) → all_below n (λ i. both (p i) (q i)) ≡ both (all_below n p) (all_below n q)
all_both n p q =
    same_test _ _
    (λ h.
    both_intro _ _ (all_intro p n (λ i l. (both_true (p i) (q i) (all_at (λ i. both (p i) (q i)) n h i l)).0))
    (all_intro q n (λ i l. (both_true (p i) (q i) (all_at (λ i. both (p i) (q i)) n h i l)).1)))
    (λ h.
    let a = both_true (all_below n p) (all_below n q) h in
    all_intro (λ i. both (p i) (q i)) n (λ i l. both_intro _ _ (all_at p n a.0 i l) (all_at q n a.1 i l)))
