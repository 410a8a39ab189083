-- What the logic says of a `[u32; 8]`, by value as a parameter (`c.good`) or as a call's result (`.ok`): it is a set of ids. Assumes nothing.
use mathlib.Core.List.{List}
use mathlib.Core.Logic.{⊎_elim}
use mathlib.Core.Path.{◌≡◌, refl, sym, subst, ◌∙◌}
use Prim.Native.Nat.{ℕ, zero, suc, ◌+◌, ◌<◌, ◌≤◌}
use native.Mathlib.Omega.{arith}
use lib.ListN.{length, get_or}
use lib.Seq.{ext_get_or}
use denote.Param.Members.{Mut, Called}
use Rattle.std.specs.Array.{IsFromFnResult, IsFromFnResultFrom}
use mir.Syntax.{w32}
use mir.Val.{Val}
use denote.Laws.{Is}
use denote.Array.{Array}
use denote.Plain.{UInt}
use borrow.Author.Rules.{elem_Fits}
use Rattle.causal.specs.Lists.{zip8}
use Rattle.causal.specs.Sets.{IdSet}
use Rattle.causal.proofs.Tests.{eq_or_ne}
use Rattle.causal.proofs.Lists.{zip8_at}

pub id_set : (xs : List ℕ) {vs : List Val} → Is (Array (UInt w32) 8) xs vs → IdSet xs
id_set xs p = record { eight = p.1.0.1; fits = λ i. (elem_Fits w32 w32 xs p.0 i p.1.1 tt).fits }

-- ---- `from_fn` of a closure that changes nothing: f is what it gives at each place below n

module _ {F : Type 0} (g : Mut F (ℕ × Unit {0}) ℕ) (s : F) (f : ℕ → ℕ) (n : ℕ) (gives : (i y : ℕ) (q : F) → i < n → Called g s (i, tt) y q → (q ≡ s) × (y ≡ f i)) where
  made_from : (ys : List ℕ) (i k : ℕ) → i + k ≤ n → IsFromFnResultFrom g s ys i k → (j : ℕ) → i ≤ j → j < i + k → get_or ys j 0 ≡ f j
  made_from ys i zero h w j a b = absurd (omega arith)
  made_from ys i (suc k) h w j a b =
      let r = gives i w.1 w.0 (omega arith) w.3 in
      let more = subst (λ (p : F). IsFromFnResultFrom g p ys (i + 1) k) r.0 w.4 in
      ⊎_elim
      (λ (e : j ≡ i). rw e (w.2.1 0 ∙ r.1))
      (λ (e : j ≡ i → ⊥). made_from ys (i + 1) k (omega arith) more j (omega arith) (omega arith))
      (eq_or_ne j i)

  pub made : (ys zs : List ℕ) → IsFromFnResult g s ys n → length zs ≡ n → ((j : ℕ) → j < n → f j ≡ get_or zs j 0) → ys ≡ zs
  made ys zs w l same =
      ext_get_or 0 ys zs (w.long ∙ sym l)
      (λ j h. let k : j < n = omega (arith, w.long) in
      made_from ys 0 n (omega arith) w.each j (omega arith) (omega arith) ∙ same j k)

-- f of the words of two arrays, place by place
pub zipped : {F : Type 0} (g : Mut F (ℕ × Unit {0}) ℕ) (s : F) (f : ℕ → ℕ → ℕ) (a b ys : List ℕ)
    → ((i y : ℕ) (q : F) → i < 8 → Called g s (i, tt) y q → (q ≡ s) × (y ≡ f (get_or a i 0) (get_or b i 0)))
    → IsFromFnResult g s ys 8 → ys ≡ zip8 f a b
zipped g s f a b ys gives w =
    made g s (λ i. f (get_or a i 0) (get_or b i 0)) 8 gives ys (zip8 f a b) w refl (λ i h. sym (zip8_at f a b i h))
