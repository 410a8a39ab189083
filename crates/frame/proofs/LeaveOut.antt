-- Entries but for those that a test takes out: what is left, in order. Assumes nothing.
use Rattle.std.proofs.Common.{◌≡◌, suc, ◌≤◌, Bool, true, false, cond, List, [], ◌∷◌, length, sym, refl, ◌∙◌, ⊎_elim, arith}
use mathlib.Core.List.Memᴰ
use mathlib.Core.List.{Memᴰ}
use Rattle.causal.proofs.Tests.{false_true}
use Rattle.frame.specs.Sessions.{leave_out}
use Rattle.frame.specs.declared.entry.Entry.{Entry}

module _ (t : Entry → Bool) where
  -- an entry that is left is one of the list, and the test does not take it
  pub left_from : (es : List Entry) (e : Entry) → Memᴰ e (leave_out t es) → Memᴰ e es × (t e ≡ false)
  unfolding leave_out
  left_from [] e m = absurd (Memᴰ.not-nil m)
  left_from (x ∷ es) e m = go (t x) refl m (λ i. left_from es e i)
    where
      go : (b : Bool) → t x ≡ b → Memᴰ e (cond b (leave_out t es) (x ∷ leave_out t es))
          → (Memᴰ e (leave_out t es) → Memᴰ e es × (t e ≡ false)) → Memᴰ e (x ∷ es) × (t e ≡ false)
      go true q i ih = let r = ih i in (Memᴰ.tail r.0, r.1)
      go false q i ih =
          ⊎_elim (λ (y : e ≡ x). (Memᴰ.head y, rw y q)) (λ j. let r = ih j in (Memᴰ.tail r.0, r.1)) (Memᴰ.cases_cons i)

  -- .. and all such are left
  pub left_in : (es : List Entry) (e : Entry) → Memᴰ e es → t e ≡ false → Memᴰ e (leave_out t es)
  unfolding leave_out
  left_in [] e m q = m
  left_in (x ∷ es) e m q = go (t x) refl (λ i. left_in es e i q)
    where
      go : (b : Bool) → t x ≡ b → (Memᴰ e es → Memᴰ e (leave_out t es)) → Memᴰ e (cond b (leave_out t es) (x ∷ leave_out t es))
      go true b ih = ⊎_elim (λ (y : e ≡ x). false_true (sym q ∙ (rw y b))) ih (Memᴰ.cases_cons m)
      go false b ih = ⊎_elim (λ y. Memᴰ.head y) (λ i. Memᴰ.tail (ih i)) (Memᴰ.cases_cons m)

  pub left_few : (es : List Entry) → length (leave_out t es) ≤ length es
  unfolding leave_out
  left_few [] = omega arith
  left_few (e ∷ es) = go (t e) (left_few es)
    where
      go : (b : Bool) → length (leave_out t es) ≤ length es → length (cond b (leave_out t es) (e ∷ leave_out t es)) ≤ suc (length es)
      go true h = omega arith
      go false h = omega arith
