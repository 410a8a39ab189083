-- Laws of the fields of a line, as `split` gives them one by one. Assumes nothing.
use Rattle.std.proofs.Common.{◌≡◌, ℕ, Bool, false, cond, eqb, List, [], ◌∷◌, Option, Some, None, Bor, length, get_or, arith, refl, sym, ap, subst}
use Rattle.std.proofs.lemmas.Iterator.{YieldsList}
use Rattle.std.proofs.lemmas.Iterator.Splits.{YieldsList-from_slice_split}
use Rattle.std.specs.Fn.{CalledAt}
use Rattle.std.specs.Iterator.{AlwaysYields}
use Rattle.std.specs.List.{slice_split, onto_first}
use Rattle.std.specs.Slice.Iter.{split_rest, split_done, split_callee, split_steps}
use Rattle.std.specs.declared.slice.Split.{Split}
use denote.Param.Members.{Mut}
use Rattle.script.specs.Fields.{fields, in_front}

-- the fields of the definition are the parts of `split`
split_is : (l : List ℕ) → slice_split (λ b. eqb b 32) l ≡ fields l
unfolding fields in_front
split_is [] = refl
split_is (b ∷ l) = rw (split_is l) (go (fields l))
  where
    front : (fs : List (List ℕ)) → onto_first b fs ≡ in_front b fs
    front [] = refl
    front (f ∷ fs) = refl

    go : (fs : List (List ℕ)) → cond (eqb b 32) ([] ∷ fs) (onto_first b fs) ≡ cond (eqb b 32) ([] ∷ fs) (in_front b fs)
    go fs = rw (front fs) refl

-- one call of `next`
module _ {S A B : Type 0} {steps : S → Option A → S → Type 0} {v : A → B} {s : S} {all : List B} (e : YieldsList steps v s all) {r : Option A} {t : S} (h : steps s r t) where
  pub next_some : {x : A} → r ≡ Some x → (more : List B) × (all ≡ v x ∷ more) × YieldsList steps v t more
  next_some {x} q = go all e.runs
    where
      h' : steps s (Some x) t
      h' = subst (λ o. steps s o t) q h

      go : (ys : List B) → AlwaysYields steps v s ys → (more : List B) × (ys ≡ v x ∷ more) × YieldsList steps v t more
      go [] a = absurd (a x t h')
      go (y ∷ ys) a = let w = a.1 x t h' in (ys, ap (λ z. z ∷ ys) (sym w.0), record { runs = w.1 })

  pub next_none : r ≡ None → all ≡ []
  next_none q = go all e.runs
    where
      h' : steps s None t
      h' = subst (λ o. steps s o t) q h

      go : (ys : List B) → AlwaysYields steps v s ys → ys ≡ []
      go [] a = refl
      go (y ∷ ys) a = absurd (a.0 t h')

-- the first call of `next` on the parts of a line
pub first_field : {F : Type 0} (s t : Split ℕ F) {g : Mut F (Bor ℕ × Unit {0}) Bool} {f : F} {r : Option (Bor (List ℕ))} {x : Bor (List ℕ)} (l : List ℕ)
    → split_rest s ≡ l → split_done s ≡ false → split_callee s ≡ f → split_steps g s r t → r ≡ Some x
    → ((x : ℕ) (b : Bool) (q : F) → CalledAt g f x b q → (q ≡ f) × (b ≡ eqb x 32))
    → (more : List (List ℕ)) × (fields l ≡ x.now ∷ more) × YieldsList (split_steps g) (λ x. x.now) t more
first_field {F} s t {g} {f} l rest done callee h q calls = next_some (subst (λ fs. YieldsList (split_steps g) (λ x. x.now) s fs) (split_is l) (YieldsList-from_slice_split g (λ b. eqb b 32) {f = f} l rest done callee calls)) h q

-- a field of one byte
pub one_byte : (k : List ℕ) → length k ≡ 1 → k ≡ get_or k 0 0 ∷ []
one_byte [] h = absurd (omega arith)
one_byte (b ∷ []) h = refl
one_byte (b ∷ d ∷ k) h = absurd (omega arith)
