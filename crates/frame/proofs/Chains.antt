-- What chains of iterators over words give: their sum, a test of each. Assumes nothing.
use Rattle.std.proofs.Common.{◌≡◌, ℕ, zero, suc, ◌+◌, ◌-◌, ◌%◌, ◌<◌, ◌≤◌, Bool, eqb, List, [], ◌∷◌, ◌++◌, drop, length, get_or, take, refl, sym, ap, subst, ⊎_elim, ext_get_or, ◌∙◌, add-zero, zero-add, arith, length-drop, length-take}
use denote.Param.Members.{Mut, Called}
use Rattle.std.specs.Array.{IsFromFnResult, IsFromFnResultFrom}
use Rattle.std.specs.List.{fold, list_all}
use Rattle.causal.specs.Lists.{tab}
use Rattle.causal.specs.Sets.{is_empty}
use Rattle.causal.specs.Tests.{both, all_below}
use Rattle.causal.proofs.Equal.{and_both}
use lib.ListN.{get_or-append}
use lib.Seq.{get_or-take, get_or-drop, get_or_at}
use Rattle.causal.proofs.Lists.{tab_length, tab_at}
use Rattle.causal.proofs.Tests.{all_front, all_ext, eq_or_ne, split}
use Rattle.frame.specs.Words.{total}

-- ---- sums: the kinds and what wraps are multiples of 2^28

folded : (s w t : ℕ) → ((s + w) % 4294967296 + t) % 268435456 ≡ (s + (w % 268435456 + t)) % 268435456
folded s w t = omega arith

total_fold : (s : ℕ) (ws : List ℕ) → fold (λ (a w : ℕ). (a + w) % 4294967296) s ws % 268435456 ≡ (s + total ws) % 268435456
unfolding total
total_fold s [] = rw add-zero refl
total_fold s (w ∷ ws) = total_fold ((s + w) % 4294967296) ws ∙ folded s w (total ws)

pub total_all : (ws : List ℕ) → fold (λ (a w : ℕ). (a + w) % 4294967296) 0 ws % 268435456 ≡ total ws % 268435456
total_all ws = total_fold 0 ws ∙ rw zero-add refl

-- of four parts
pub three_wrapped : (w x y z : ℕ) → (((w + x) % 4294967296 + y) % 4294967296 + z) % 4294967296 % 268435456 ≡ (w + x + y + z) % 268435456
three_wrapped w x y z = omega arith

-- ---- a test of each word of a part

all_list : (p : ℕ → Bool) (ws : List ℕ) → list_all p ws ≡ all_below (length ws) (λ j. p (get_or ws j 0))
unfolding all_below
all_list p [] = refl
all_list p (w ∷ ws) =
    and_both (p w) (list_all p ws) ∙ ap (both (p w)) (all_list p ws) ∙ sym (all_front (λ j. p (get_or (w ∷ ws) j 0)) (length ws))

-- the part is that of `&ws[at..at + n]`
pub all_part : (p : ℕ → Bool) (ws : List ℕ) (at n : ℕ) → at + n ≤ length ws → list_all p (take (at + n - at) (drop at ws)) ≡ all_below n (λ j. p (get_or ws (at + j) 0))
all_part p ws at n h =
    all_list p (take (at + n - at) (drop at ws))
    ∙ ap (λ (m : ℕ). all_below m (λ j. p (get_or (take (at + n - at) (drop at ws)) j 0))) (simp (length-take, length-drop) (omega arith))
    ∙ all_ext _ _ n (λ i l. ap p (get_or-take (at + n - at) (drop at ws) i 0 (omega arith) ∙ get_or-drop at ws i 0))

-- ---- words put one by one, each by its place

pub each_more : (P : ℕ → ℕ → Type 0) (ws : List ℕ) (w n : ℕ) → length ws ≡ n → ((j : ℕ) → j < n → P j (get_or ws j 0)) → P n w
    → (j : ℕ) → j < n + 1 → P j (get_or (ws ++ (w ∷ [])) j 0)
each_more P ws w n l each last j h =
    ⊎_elim
    (λ (k : j < n). subst (P j) (sym (get_or-append ws (w ∷ []) 0 j (rw l k))) (each j k))
    (λ (e : j ≡ n). rw e (subst (P n) (sym (get_or_at ws w [] 0 n l)) last))
    (split j n (omega arith))

pub words_are : (ws : List ℕ) (f : ℕ → ℕ) (n : ℕ) → length ws ≡ n → ((j : ℕ) → j < n → get_or ws j 0 ≡ f j) → ws ≡ tab n f
words_are ws f n l each =
    ext_get_or 0 ws (tab n f) (l ∙ sym (tab_length n f)) (λ j h. let k : j < n = omega (arith, l) in each j k ∙ sym (tab_at n f j 0 k))

-- ---- eight words by `from_fn`, of a closure that changes nothing: what it gives at each place

module _ {F : Type 0} (g : Mut F (ℕ × Unit {0}) ℕ) (s : F) (P : ℕ → ℕ → Type 0) (n : ℕ) (gives : (i y : ℕ) (q : F) → i < n → Called g s (i, tt) y q → (q ≡ s) × P i y) where
  each_from : (ys : List ℕ) (i k : ℕ) → i + k ≤ n → IsFromFnResultFrom g s ys i k → (j : ℕ) → i ≤ j → j < i + k → P j (get_or ys j 0)
  each_from ys i zero h w j a b = absurd (omega arith)
  each_from ys i (suc k) h w j a b =
      let r = gives i w.1 w.0 (omega arith) w.3 in
      let more = subst (λ (p : F). IsFromFnResultFrom g p ys (i + 1) k) r.0 w.4 in
      ⊎_elim
      (λ (e : j ≡ i). rw e (subst (P i) (sym (w.2.1 0)) r.1))
      (λ (e : j ≡ i → ⊥). each_from ys (i + 1) k (omega arith) more j (omega arith) (omega arith))
      (eq_or_ne j i)

  pub each_made : (ys : List ℕ) → IsFromFnResult g s ys n → (j : ℕ) → j < n → P j (get_or ys j 0)
  each_made ys w j h = each_from ys 0 n (omega arith) w.each j (omega arith) (omega arith)

-- no word is set where a test of each place says so
pub none_set : (ys : List ℕ) (t : ℕ → Bool) → ((j : ℕ) → j < 8 → eqb (get_or ys j 0) 0 ≡ t j) → is_empty ys ≡ all_below 8 t
unfolding is_empty
none_set ys t each = all_ext _ _ 8 each
