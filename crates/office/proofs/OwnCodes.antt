-- Refusals of own writes, as code finds them one after the other, and that every number is one of the paper's. Assumes nothing.
use Prim.Native.Nat.{ℕ, zero, suc, ◌≤◌}
use mathlib.Core.Path.{◌≡◌, refl, sym, ap, ◌∙◌}
use mathlib.Core.Bool.{Bool, true, false}
use mathlib.Core.List.{List, [], ◌∷◌, ◌++◌}
use native.Mathlib.Omega.{arith}
use Rattle.causal.specs.Codes.{check, or_else, first_code}
use Rattle.causal.specs.Lists.{tab}
use Rattle.frame.specs.declared.entry.Entry.{Entry}
use Rattle.store.specs.Offices.{Office}
use Rattle.office.specs.Calls.{entry_code, own_code}

-- ---- own writes

or_zero : (a : ℕ) → or_else a 0 ≡ a
unfolding or_else
or_zero zero = refl
or_zero (suc a) = refl

or_assoc : (a b c : ℕ) → or_else (or_else a b) c ≡ or_else a (or_else b c)
unfolding or_else
or_assoc zero b c = refl
or_assoc (suc a) b c = refl

own_snoc : (O : Office) (es : List Entry) (e : Entry) → own_code O (es ++ (e ∷ [])) ≡ or_else (own_code O es) (entry_code O e)
unfolding own_code or_else
own_snoc O [] e = or_zero (entry_code O e)
own_snoc O (x ∷ es) e =
    ap (or_else (entry_code O x)) (own_snoc O es e) ∙ sym (or_assoc (entry_code O x) (own_code O es) (entry_code O e))

pub own_first : (O : Office) (f : ℕ → Entry) (n : ℕ) → first_code n (λ i. entry_code O (f i)) ≡ own_code O (tab n f)
unfolding first_code tab own_code
own_first O f zero = refl
own_first O f (suc n) =
    ap (λ (c : ℕ). or_else c (entry_code O (f n))) (own_first O f n) ∙ sym (own_snoc O (tab n f) (f n))

-- ---- every number is one of the paper's

pub check_le : (A : Bool) (k B : ℕ) → k ≤ 12 → B ≤ 12 → check A k B ≤ 12
unfolding check
check_le true k B h l = l
check_le false k B h l = h

pub or_le : (a b : ℕ) → a ≤ 12 → b ≤ 12 → or_else a b ≤ 12
unfolding or_else
or_le zero b h l = l
or_le (suc a) b h l = h

pub entry_le : (O : Office) (e : Entry) → entry_code O e ≤ 12
unfolding entry_code
entry_le O e = check_le _ 10 _ (omega arith) (check_le _ 11 0 (omega arith) (omega arith))

pub own_le : (O : Office) (es : List Entry) → own_code O es ≤ 12
unfolding own_code
own_le O [] = omega arith
own_le O (e ∷ es) = or_le (entry_code O e) (own_code O es) (entry_le O e) (own_le O es)
