-- Rows of own writes: blanks behind them, and what one more changes of those that are left, of how many they are, and of the row that has them;
-- eight words compared place by place. Assumes nothing.
use Prim.Native.Nat.{ℕ, suc, zero, ◌+◌, ◌-◌, ◌<◌, ◌≤◌}
use mathlib.Core.Bool.{Bool, cond, false, true}
use mathlib.Core.List.{List, [], ◌++◌, ◌∷◌, append_assoc, append-nil}
use mathlib.Core.Path.{◌∙◌, ◌≡◌, ap, refl, sym}
use native.Mathlib.Omega.{arith}
use lib.Dec.{eqb}
use lib.ListN.{drop, get_or, length, length-append, length-take, replicate, set, take}
use borrow.Rule.Slice.PartMut.{put_mid}
use Rattle.std.proofs.lemmas.List.{get_or-drop, get_or-take, take_more}
use Rattle.causal.specs.Lists.{eq_words, tab}
use Rattle.causal.specs.Tests.{all_below, both}
use Rattle.causal.proofs.Lists.{tab_length, tab_more}
use Rattle.causal.proofs.Tests.{all_front}
use Rattle.frame.specs.Entries.{blank_entry}
use Rattle.frame.specs.Sessions.{filled, leave_out, nobody}
use Rattle.frame.specs.declared.entry.Entry.{Entry}
use Rattle.frame.proofs.LeaveOut.{left_few}
use Rattle.frame.proofs.OwnTurns.{owns_back, owns_of}
use Rattle.frame.proofs.TokenTurns.{fill_next}

-- ---- entries, copied into a row of blanks

drop_blanks : (k n : ℕ) (e : Entry) → drop k (replicate n e) ≡ replicate (n - k) e
drop_blanks zero n e = let q : n ≡ n - 0 = omega arith in ap (λ (m : ℕ). replicate m e) q
drop_blanks (suc k) zero e = let q : 0 ≡ 0 - suc k = omega arith in ap (λ (m : ℕ). replicate m e) q
drop_blanks (suc k) (suc n) e = let q : n - k ≡ suc n - suc k = omega arith in drop_blanks k n e ∙ ap (λ (m : ℕ). replicate m e) q

pub row_of : (row es : List Entry) (k : ℕ) → row ≡ replicate 16 blank_entry → k ≡ length es → put_mid 0 k row es ≡ filled es
unfolding filled
row_of row es k e h = rw (e, h) (ap (λ (l : List Entry). es ++ l) (drop_blanks (length es) 16 blank_entry))

-- ---- what is left

module _ (t : Entry → Bool) where
  left_snoc : (es : List Entry) (e : Entry) → leave_out t (es ++ (e ∷ [])) ≡ leave_out t es ++ cond (t e) [] (e ∷ [])
  unfolding leave_out
  left_snoc [] e = refl
  left_snoc (x ∷ es) e = go (t x) (left_snoc es e)
    where
      go : (b : Bool) → leave_out t (es ++ (e ∷ [])) ≡ leave_out t es ++ cond (t e) [] (e ∷ [])
          → cond b (leave_out t (es ++ (e ∷ []))) (x ∷ leave_out t (es ++ (e ∷ []))) ≡ cond b (leave_out t es) (x ∷ leave_out t es) ++ cond (t e) [] (e ∷ [])
      go true h = h
      go false h = ap (λ (l : List Entry). x ∷ l) h

  -- of a row, the first i: entry i is taken out, and nothing changes; or it is left, and stands behind the others
  module _ (es : List Entry) where
    abbrev pub Left : ℕ → List Entry
    Left i = leave_out t (take i es)

    first_more : (i : ℕ) → i < length es → take (i + 1) es ≡ take i es ++ (get_or es i nobody ∷ [])
    first_more i h = take_more es i nobody h

    left_out : (i : ℕ) → i < length es → t (get_or es i nobody) ≡ true → Left (i + 1) ≡ Left i
    left_out i l h = ap (leave_out t) (first_more i l) ∙ left_snoc (take i es) (get_or es i nobody) ∙ rw h (append-nil (Left i))

    left_more : (i : ℕ) → i < length es → t (get_or es i nobody) ≡ false → Left (i + 1) ≡ Left i ++ (get_or es i nobody ∷ [])
    left_more i l h = ap (leave_out t) (first_more i l) ∙ left_snoc (take i es) (get_or es i nobody) ∙ rw h

    pub left_below : (i : ℕ) → (length (Left i) ≤ i) × (length (Left i) ≤ length es)
    left_below i = (omega (arith, left_few t (take i es), length-take i es), omega (arith, left_few t (take i es), length-take i es))

    -- entry i, e, and the first j, which is one more; the row that has fs in front, where they are 16 at most: the next place is set, or nothing changes
    module _ (i j : ℕ) (l : i < length es) (step : j ≡ i + 1) (e : Entry) (is : e ≡ get_or es i nobody)
        (fs : List Entry) (k : ℕ) (row : List Entry) (place : k ≡ length fs + length (Left i)) (has : k ≤ 16 → row ≡ filled (fs ++ Left i)) where
      out : t e ≡ true → Left j ≡ Left i
      out h = ap Left step ∙ left_out i l (ap t (sym is) ∙ h)

      more : t e ≡ false → Left j ≡ Left i ++ (e ∷ [])
      more h = ap Left step ∙ left_more i l (ap t (sym is) ∙ h) ∙ ap (λ (x : Entry). Left i ++ (x ∷ [])) (sym is)

      pub place_same : t e ≡ true → k ≡ length fs + length (Left j)
      place_same h = omega (arith, place, ap length (out h))

      pub place_more : t e ≡ false → k + 1 ≡ length fs + length (Left j)
      place_more h = omega (arith, place, ap length (more h), length-append (Left i) (e ∷ []))

      pub row_same : t e ≡ true → k ≤ 16 → row ≡ filled (fs ++ Left j)
      row_same h m = has m ∙ ap (λ (z : List Entry). filled (fs ++ z)) (sym (out h))

      pub row_more : t e ≡ false → k < 16 → set row k e ≡ filled (fs ++ Left j)
      row_more h m =
          let at : k ≡ length (fs ++ Left i) = place ∙ sym (length-append fs (Left i)) in
          ap (λ (z : List Entry). set z k e) (has (omega arith))
          ∙ ap (λ (n : ℕ). set (filled (fs ++ Left i)) n e) at
          ∙ fill_next (fs ++ Left i) e (omega (arith, at))
          ∙ ap filled (append_assoc fs (Left i) (e ∷ []) ∙ ap (λ (z : List Entry). fs ++ z) (sym (more h)))

-- what stands at a place behind the first m
pub at_behind : (es : List Entry) (m k i : ℕ) → i < length (take k (drop m es)) → get_or (take k (drop m es)) i nobody ≡ get_or es (m + i) nobody
at_behind es m k i h = get_or-take k (drop m es) i nobody (omega (arith, length-take k (drop m es))) ∙ get_or-drop m es i nobody

-- the row of the first i
pub row_turn : (f : ℕ → Entry) (i : ℕ) (row : List Entry) → i < 16 → row ≡ filled (tab i f) → set row i (f i) ≡ filled (tab (i + 1) f)
row_turn f i row l e =
    ap (λ (z : List Entry). set z i (f i)) e
    ∙ ap (λ (j : ℕ). set (filled (tab i f)) j (f i)) (sym (tab_length i f))
    ∙ fill_next (tab i f) (f i) (omega (arith, tab_length i f))
    ∙ ap filled (sym (tab_more i f))

-- what stands in front of it again
pub row_back : (f : ℕ → Entry) (n : ℕ) (row : List Entry) → row ≡ filled (tab n f) → tab n (owns_of row) ≡ tab n f
row_back f n row e =
    ap (λ (r : List Entry). tab n (owns_of r)) e ∙ ap (λ (k : ℕ). tab k (owns_of (filled (tab n f)))) (sym (tab_length n f)) ∙ owns_back (tab n f)

-- ---- eight words

words_below : (a b : List ℕ) → length a ≡ length b → all_below (length a) (λ i. eqb (get_or a i 0) (get_or b i 0)) ≡ eq_words a b
unfolding eq_words all_below
words_below [] [] h = refl
words_below [] (y ∷ b) h = absurd (omega arith)
words_below (x ∷ a) [] h = absurd (omega arith)
words_below (x ∷ a) (y ∷ b) h =
    all_front (λ i. eqb (get_or (x ∷ a) i 0) (get_or (y ∷ b) i 0)) (length a) ∙ ap (both (eqb x y)) (words_below a b (omega arith))

pub eight_below : (a b : List ℕ) → length a ≡ 8 → length b ≡ 8 → all_below 8 (λ i. eqb (get_or a i 0) (get_or b i 0)) ≡ eq_words a b
eight_below a b p q = ap (λ (m : ℕ). all_below m (λ i. eqb (get_or a i 0) (get_or b i 0))) (sym p) ∙ words_below a b (p ∙ sym q)
