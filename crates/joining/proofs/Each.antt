-- A test of each entry of a list: by its members, place by place, as `all` asks it; entries of one name and one content. Assumes nothing.
use Prim.Native.Nat.{ℕ, suc, zero, ◌<◌, ◌≤◌}
use mathlib.Core.Bool.{Bool, false, true}
use mathlib.Core.List.Memᴰ
use mathlib.Core.List.{List, Memᴰ, [], ◌++◌, ◌∷◌}
use mathlib.Core.Logic.{⊎_elim}
use mathlib.Core.Path.{◌∙◌, ◌≡◌, ap, refl, sym}
use native.Mathlib.Omega.{arith}
use lib.Dec.{eqb}
use lib.ListN.{drop, get_or, length, take}
use borrow.Author.Tests.{eq-eqb, eqb-true}
use Rattle.std.proofs.Common.{take_all}
use Rattle.std.proofs.lemmas.List.{take-append-drop}
use Rattle.std.specs.Bool.{MatchBool}
use Rattle.std.specs.List.{AllWithin, HoldsAt}
use Rattle.causal.specs.Lists.{tab}
use Rattle.causal.specs.Sets.{is_in}
use Rattle.causal.specs.Tests.{all_below, both}
use Rattle.causal.proofs.Sets.{is_in_lem}
use Rattle.causal.proofs.Tests.{all_fails, all_front, all_intro, both_assoc, both_intro, both_one, both_true, false_true, implies_elim, implies_intro, same_test}
use Rattle.frame.specs.Entries.{id_of, same_content}
use Rattle.frame.specs.Sessions.{ids_of, nobody}
use Rattle.frame.specs.declared.entry.Entry.{Entry}
use Rattle.frame.proofs.SameContent.{same_swap}
use Rattle.frame.proofs.Sessions.{ids_new}
use Rattle.joining.specs.Joins.{alike, all_alike, each}

module _ (t : Entry → Bool) where
  pub each_at : (es : List Entry) → each t es ≡ true → (e : Entry) → Memᴰ e es → t e ≡ true
  unfolding each
  each_at [] h e m = absurd (Memᴰ.not-nil m)
  each_at (x ∷ es) h e m =
      let w = both_true (t x) (each t es) h in
      ⊎_elim (λ (q : e ≡ x). rw q w.0) (λ i. each_at es w.1 e i) (Memᴰ.cases_cons m)

  pub each_by : (es : List Entry) → ((e : Entry) → Memᴰ e es → t e ≡ true) → each t es ≡ true
  unfolding each
  each_by [] h = refl
  each_by (x ∷ es) h = both_intro _ _ (h x (Memᴰ.head refl)) (each_by es (λ e m. h e (Memᴰ.tail m)))

  each_snoc : (es : List Entry) (e : Entry) → each t (es ++ (e ∷ [])) ≡ both (each t es) (t e)
  unfolding each both
  each_snoc [] e = both_one (t e)
  each_snoc (x ∷ es) e = ap (both (t x)) (each_snoc es e) ∙ sym (both_assoc (t x) (each t es) (t e))

  pub each_below : (f : ℕ → Entry) (m : ℕ) → each t (tab m f) ≡ all_below m (λ i. t (f i))
  unfolding each tab all_below
  each_below f zero = refl
  each_below f (suc m) = each_snoc (tab m f) (f m) ∙ ap (λ (b : Bool). both b (t (f m))) (each_below f m)

  each_append : (es fs : List Entry) → each t (es ++ fs) ≡ both (each t es) (each t fs)
  unfolding each both
  each_append [] fs = refl
  each_append (e ∷ es) fs = ap (both (t e)) (each_append es fs) ∙ sym (both_assoc (t e) (each t es) (each t fs))

  -- of those behind the first k, where those pass
  pub each_behind : (k : ℕ) (es : List Entry) → each t (take k es) ≡ true → each t (drop k es) ≡ each t es
  unfolding both
  each_behind k es h = sym (ap (each t) (sym (take-append-drop k es)) ∙ each_append (take k es) (drop k es) ∙ rw h)

  -- of the first k, place by place
  pub each_take : (es : List Entry) (k : ℕ) → k ≤ length es → each t (take k es) ≡ all_below k (λ j. t (get_or es j nobody))
  unfolding each all_below
  each_take es zero h = refl
  each_take [] (suc k) h = absurd (omega arith)
  each_take (e ∷ es) (suc k) h = ap (both (t e)) (each_take es k (omega arith)) ∙ sym (all_front (λ j. t (get_or (e ∷ es) j nobody)) k)

  whole : (es : List Entry) → each t es ≡ all_below (length es) (λ j. t (get_or es j nobody))
  whole es = ap (each t) (sym (take_all (length es) es (omega arith))) ∙ each_take es (length es) (omega arith)

  -- what `all` answers
  pub each_all : (es : List Entry) (r : Bool)
      → MatchBool r (AllWithin (λ e. t e ≡ true) es 0 (length es)) ((k : ℕ) × (k < length es) × HoldsAt (λ e. t e ≡ false) es k) → r ≡ each t es
  each_all es true h = sym (whole es ∙ all_intro (λ j. t (get_or es j nobody)) (length es) (λ j l. h j nobody (omega arith) l))
  each_all es false h = sym (whole es ∙ all_fails (λ j. t (get_or es j nobody)) (length es) h.0 h.1 (h.2 nobody))

-- what stands at a place is in the list
pub at_in : (es : List Entry) (j : ℕ) → j < length es → Memᴰ (get_or es j nobody) es
at_in [] j h = absurd (omega arith)
at_in (e ∷ es) zero h = Memᴰ.head refl
at_in (e ∷ es) (suc j) h = Memᴰ.tail (at_in es j (omega arith))

-- ---- of one name, so of one content

pub alike_at : (e f : Entry) → alike e f ≡ true → id_of e ≡ id_of f → same_content e f ≡ true
unfolding alike
alike_at e f h q = implies_elim (eqb (id_of e) (id_of f)) (same_content e f) h (eq-eqb (id_of e) (id_of f) q)

pub alike_by : (e f : Entry) → (id_of e ≡ id_of f → same_content e f ≡ true) → alike e f ≡ true
unfolding alike
alike_by e f h = implies_intro (eqb (id_of e) (id_of f)) (same_content e f) (λ q. h (eqb-true (id_of e) (id_of f) q))

-- an entry whose id is not among theirs
pub alike_unknown : (e : Entry) (fs : List Entry) → ((f : Entry) → Memᴰ f fs → id_of f < 256) → is_in (ids_of fs) (id_of e) ≡ false → each (alike e) fs ≡ true
alike_unknown e fs small h =
    each_by (alike e) fs
    (λ f m. alike_by e f (λ q. false_true (sym h ∙ ap (is_in (ids_of fs)) q ∙ is_in_lem (ids_of fs) (id_of f) (ids_new fs small (id_of f) (Memᴰ.map id_of m)))))

pub all_alike_at : (es fs : List Entry) → all_alike es fs ≡ true → (e f : Entry) → Memᴰ e es → Memᴰ f fs → id_of e ≡ id_of f → same_content e f ≡ true
unfolding all_alike
all_alike_at es fs h e f i j q = alike_at e f (each_at (alike e) fs (each_at (λ x. each (alike x) fs) es h e i) f j) q

pub all_alike_by : (es fs : List Entry)
    → ((e f : Entry) → Memᴰ e es → Memᴰ f fs → id_of e ≡ id_of f → same_content e f ≡ true) → all_alike es fs ≡ true
unfolding all_alike
all_alike_by es fs h = each_by (λ x. each (alike x) fs) es (λ e i. each_by (alike e) fs (λ f j. alike_by e f (λ q. h e f i j q)))

-- ---- the other way round

pub all_alike_swap : (es fs : List Entry) → all_alike es fs ≡ all_alike fs es
all_alike_swap es fs = same_test (all_alike es fs) (all_alike fs es) (over es fs) (over fs es)
  where
    over : (es fs : List Entry) → all_alike es fs ≡ true → all_alike fs es ≡ true
    over es fs h = all_alike_by fs es (λ f e i j q. same_swap e f (all_alike_at es fs h e f j i (sym q)))
