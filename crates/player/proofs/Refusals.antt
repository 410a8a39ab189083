-- Answers by cases: a refusal's number, or the words. Assumes nothing.
use Rattle.std.proofs.Common.{Err, Ok, Result}
use Prim.Native.Nat.{ℕ, suc}
use mathlib.Core.Path.{◌∙◌, ◌≡◌, ap, refl, subst, sym}
use native.Mathlib.Omega.{arith}
use Rattle.frame.specs.Refusals.{Reply, code_of, number_of, reply_of}
use Rattle.frame.specs.declared.refusal.Refusal.{Refusal}
use Rattle.frame.specs.declared.refusal.Refusal.TheVariants.{Content, Different, Format, Missing, OfficeFull, Plot, Room, SessionFull, Settings, Store, Unmade, Value}

-- a refusal's number is not 0
number_some : (x : Refusal) → (c : ℕ) × (number_of x ≡ suc c)
unfolding number_of
number_some Settings = (0, refl)
number_some Store = (1, refl)
number_some Content = (2, refl)
number_some Plot = (3, refl)
number_some Value = (4, refl)
number_some OfficeFull = (5, refl)
number_some SessionFull = (6, refl)
number_some Room = (7, refl)
number_some Format = (8, refl)
number_some Unmade = (9, refl)
number_some Different = (10, refl)
number_some Missing = (11, refl)

pub refused_as : (P : ℕ → Type 0) (code : ℕ) → ((c : ℕ) → code ≡ suc c → P (suc c)) → (k : ℕ) (x : Refusal) → k ≡ number_of x → code ≡ number_of x → P k
refused_as P code f k x e h = let t = number_some x in subst P (sym (e ∙ t.1)) (f t.0 (h ∙ t.1))

pub number_not_0 : (x : Refusal) → number_of x ≡ 0 → ⊥
number_not_0 x e = omega (arith, e, (number_some x).1)

pub refused_code : {A : Type 0} (r : Result A Refusal) (x : Refusal) (code : ℕ) → code_of r ≡ code → r ≡ Err x → code ≡ number_of x
unfolding code_of
refused_code r x code h e = sym h ∙ ap code_of e

pub accepted_code : {A : Type 0} (r : Result A Refusal) (v : A) (code : ℕ) → code_of r ≡ code → r ≡ Ok v → code ≡ 0
unfolding code_of
accepted_code r v code h e = sym h ∙ ap code_of e

pub not_written : (r : Result ℕ Refusal) (x : Refusal) (R : Reply) → reply_of r ≡ R → r ≡ Err x → R.code ≡ number_of x
unfolding reply_of
not_written r x R h e = ap (λ (q : Reply). q.code) (sym h ∙ ap reply_of e)

pub words_code : (r : Result ℕ Refusal) (n : ℕ) (R : Reply) → reply_of r ≡ R → r ≡ Ok n → (R.code ≡ 0) × (n ≡ R.words)
unfolding reply_of
words_code r n R h e = (ap (λ (q : Reply). q.code) (sym h ∙ ap reply_of e), sym (ap (λ (q : Reply). q.words) (sym h ∙ ap reply_of e)))
