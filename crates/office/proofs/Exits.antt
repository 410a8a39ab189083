-- A call that ends at a `?` is refused as the call before it was. Assumes nothing.
use Rattle.std.proofs.Common.{Err, Ok, Result}
use Rattle.std.specs.Result.{IsErrAnd}
use Prim.Native.Nat.{ℕ}
use mathlib.Core.Path.{◌≡◌, refl, sym, ◌∙◌}
use Rattle.causal.specs.Codes.{or_else}
use Rattle.causal.proofs.Codes.{or_stops}
use Rattle.frame.specs.Refusals.{code_of, number_of}
use Rattle.frame.specs.declared.refusal.Refusal.{Refusal}
use Rattle.frame.proofs.Refusals.{number_some}

-- the exit of a `?`: x is what the call before it is refused by, A its refusal number
err_number : {T : Type 0} (r : Result T Refusal) (x : Refusal) → IsErrAnd r (λ y. y ≡ x) → code_of r ≡ number_of x
unfolding code_of
err_number (Ok y) x p = absurd p
err_number (Err y) x p = rw p refl

pub err_code : {T : Type 0} (r : Result T Refusal) (x : Refusal) (A : ℕ) → IsErrAnd r (λ y. y ≡ x) → number_of x ≡ A → code_of r ≡ A
err_code r x A e h = err_number r x e ∙ h

pub err_stops : {T : Type 0} (r : Result T Refusal) (x : Refusal) (A B : ℕ) → IsErrAnd r (λ y. y ≡ x) → number_of x ≡ A → code_of r ≡ or_else A B
err_stops r x A B e h = let q = err_code r x A e h in or_stops (code_of r) A B q (λ z. number_some x (h ∙ sym q ∙ z))
