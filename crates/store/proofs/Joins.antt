-- The office's clock from the clocks in the slots: the turns of the join, and that it is the clock of the rules. Assumes nothing.
use Rattle.std.proofs.Common.{◌≡◌, ℕ, zero, suc, ◌+◌, ◌*◌, ◌^◌, ◌<◌, ◌≤◌, max, Bool, true, false, cond, eqb, List, length, get_or, set, sym, refl, ap, ◌∙◌, ap₂, ⊎_elim, add-zero, add-suc, add-one, arith, length-set, get_or-set_other, get_or-set_same, ext_get_or, eq-eqb, ne_eqb}
use lib.Count.{ones}
use Rattle.causal.specs.Lists.{part, tab, zeros}
use Rattle.causal.specs.Sets.{bit, has, is_in}
use Rattle.causal.specs.Clocks.{join}
use Rattle.causal.proofs.Tests.{eq_or_ne}
use Rattle.causal.proofs.Lists.{part_at, tab_length, tab_at}
use Rattle.causal.proofs.Sets.{in_is, zero_at}
use Rattle.causal.proofs.Clocks.{join_at}
use Rattle.causal.proofs.Walk.{Passed, Next, fold_next, fold_end, has_word, sum_ext, ones_bits}
use Rattle.frame.specs.declared.entry.Entry.{Entry}
use Rattle.store.specs.Offices.{entry_at, office_of, made, max_to, visible_at, clock_place, clock_of}
use Rattle.store.specs.Tops.{tops_to, tops_in}

-- ---- one word of a set

module _ (ws : List ℕ) (i w : ℕ) (before : List ℕ) where
  tops_same : (b : ℕ) → b < 32 → bit w b ≡ 0 → tops_in ws i w (suc b) before ≡ tops_in ws i w b before
  unfolding tops_in
  tops_same b l z = rw z

  tops_taken : (t : ℕ) → bit w t ≡ 1 → tops_in ws i w (suc t) before ≡ join (tops_in ws i w t before) (entry_at ws (32 * i + t)).clock
  unfolding tops_in
  tops_taken t o = rw o

  pub tops_more : (b rest t : ℕ) (tops clock r : List ℕ) → Next w b rest t → tops ≡ tops_in ws i w b before → clock ≡ (entry_at ws (32 * i + t)).clock → r ≡ join tops clock
      → r ≡ tops_in ws i w (t + 1) before
  tops_more b rest t tops clock r x e q f =
      f ∙ ap₂ join (e ∙ sym (fold_next (λ j. tops_in ws i w j before) w tops_same b rest t x)) q
      ∙ sym (tops_taken t x.member) ∙ ap (λ (j : ℕ). tops_in ws i w j before) (sym (add-one t))

  pub tops_done : (b rest : ℕ) (tops : List ℕ) → Passed w b rest → rest ≡ 0 → tops ≡ tops_in ws i w b before → tops ≡ tops_in ws i w 32 before
  tops_done b rest tops x z e = e ∙ sym (fold_end (λ j. tops_in ws i w j before) w tops_same b rest x z)

-- ---- all words

module _ (ws v : List ℕ) where
  tops_word : (i b : ℕ) → b ≤ 32 → tops_to ws v (32 * i + b) ≡ tops_in ws i (get_or v i 0) b (tops_to ws v (32 * i))
  unfolding tops_to tops_in is_in
  tops_word i zero l = ap (tops_to ws v) (add-zero (32 * i))
  tops_word i (suc b) l =
      let ih = tops_word i b (omega arith) in
      ap (tops_to ws v) (add-suc (32 * i) b)
      ∙ ap₂ (λ (x : ℕ) (y : List ℕ). cond (eqb x 1) (join y (entry_at ws (32 * i + b)).clock) y) (has_word v i b (omega arith)) ih

  pub tops_next : (i : ℕ) (tops r : List ℕ) → tops ≡ tops_to ws v (32 * i) → r ≡ tops_in ws i (get_or v i 0) 32 tops → r ≡ tops_to ws v (32 * (i + 1))
  tops_next i tops r e f =
      let q : 32 * i + 32 ≡ 32 * (i + 1) = omega arith in
      f ∙ ap (tops_in ws i (get_or v i 0) 32) e ∙ sym (tops_word i 32 (omega arith)) ∙ ap (tops_to ws v) q

  pub tops_none : zeros ≡ tops_to ws v (32 * 0)
  unfolding tops_to
  tops_none = refl

  tops_length : (k : ℕ) → length (tops_to ws v k) ≡ 8
  unfolding tops_to join
  tops_length zero = refl
  tops_length (suc k) = go (is_in v k) (tops_length k)
    where
      go : (t : Bool) → length (tops_to ws v k) ≡ 8 → length (cond t (join (tops_to ws v k) (entry_at ws k).clock) (tops_to ws v k)) ≡ 8
      go true ih = refl
      go false ih = ih

-- ---- how many entries the office made

pub made_is : (ws : List ℕ) → get_or ws 1 0 < 8 → get_or ws (3 + get_or ws 1 0) 0 < 2 ^ 32 → ones (get_or ws (3 + get_or ws 1 0) 0) ≡ made (office_of ws)
unfolding made office_of
made_is ws l f =
    ones_bits 32 (get_or ws (3 + get_or ws 1 0) 0) f
    ∙ sum_ext (bit (get_or ws (3 + get_or ws 1 0) 0)) (λ s. has (part ws 3 8) (32 * get_or ws 1 0 + s)) 32
    (λ s m. ap (λ (x : ℕ). bit x s) (sym (part_at ws 3 8 (get_or ws 1 0) l)) ∙ sym (has_word (part ws 3 8) (get_or ws 1 0) s m))

-- ---- the clock

place_own : (ws : List ℕ) (j : ℕ) → j ≡ get_or ws 1 0 → clock_place (office_of ws) j ≡ made (office_of ws)
unfolding office_of
place_own ws j h = rw (eq-eqb j (get_or ws 1 0) h)

place_other : (ws : List ℕ) (j : ℕ) → (j ≡ get_or ws 1 0 → ⊥) → clock_place (office_of ws) j ≡ max_to (visible_at (office_of ws) j) (32 * get_or ws 0 0)
unfolding office_of
place_other ws j n = rw (ne_eqb j (get_or ws 1 0) n)

module _ (ws : List ℕ) (same : (k : ℕ) → has (part ws 11 8) k ≡ 1 → (office_of ws).entry k ≡ entry_at ws k) where
  top_step : (j : ℕ) → j < 8 → (k : ℕ) (t : Bool) → is_in (part ws 11 8) k ≡ t → get_or (tops_to ws (part ws 11 8) k) j 0 ≡ max_to (visible_at (office_of ws) j) k
      → get_or (cond t (join (tops_to ws (part ws 11 8) k) (entry_at ws k).clock) (tops_to ws (part ws 11 8) k)) j 0
      ≡ max (max_to (visible_at (office_of ws) j) k) (visible_at (office_of ws) j k)
  unfolding office_of
  top_step j l k true e ih =
      let q : get_or ((office_of ws).entry k).clock j 0 ≡ get_or (entry_at ws k).clock j 0 = ap (λ (x : Entry). get_or x.clock j 0) (same k (in_is (part ws 11 8) k e)) in
      join_at (tops_to ws (part ws 11 8) k) (entry_at ws k).clock j l ∙ rw e (omega arith)
  top_step j l k false e ih = rw e (omega arith)

  tops_at : (j : ℕ) → j < 8 → (k : ℕ) → get_or (tops_to ws (part ws 11 8) k) j 0 ≡ max_to (visible_at (office_of ws) j) k
  unfolding tops_to max_to
  tops_at j l zero = zero_at j
  tops_at j l (suc k) = top_step j l k (is_in (part ws 11 8) k) refl (tops_at j l k)

  pub clock_is : (c : ℕ) (tops : List ℕ) → c ≡ made (office_of ws) → get_or ws 1 0 < 8 → tops ≡ tops_to ws (part ws 11 8) (32 * get_or ws 0 0)
      → set tops (get_or ws 1 0) c ≡ clock_of (office_of ws)
  unfolding clock_of
  clock_is c tops q o e = ext_get_or 0 (set tops (get_or ws 1 0) c) (tab 8 (clock_place (office_of ws))) (length-set tops (get_or ws 1 0) c ∙ long ∙ sym (tab_length 8 (clock_place (office_of ws)))) each
    where
      long : length tops ≡ 8
      long = ap length e ∙ tops_length ws (part ws 11 8) (32 * get_or ws 0 0)

      place : (j : ℕ) → j < 8 → get_or (set tops (get_or ws 1 0) c) j 0 ≡ clock_place (office_of ws) j
      place j l = ⊎_elim (λ (h : j ≡ get_or ws 1 0). own_place j h) (λ (n : j ≡ get_or ws 1 0 → ⊥). other j l n) (eq_or_ne j (get_or ws 1 0))
        where
          own_place : (j : ℕ) → j ≡ get_or ws 1 0 → get_or (set tops (get_or ws 1 0) c) j 0 ≡ clock_place (office_of ws) j
          own_place j h = ap (λ (x : ℕ). get_or (set tops (get_or ws 1 0) c) x 0) h ∙ get_or-set_same tops (get_or ws 1 0) c 0 (omega (arith, long)) ∙ q ∙ sym (place_own ws j h)

          other : (j : ℕ) → j < 8 → (j ≡ get_or ws 1 0 → ⊥) → get_or (set tops (get_or ws 1 0) c) j 0 ≡ clock_place (office_of ws) j
          other j l n = get_or-set_other tops (get_or ws 1 0) j c 0 n ∙ ap (λ (t : List ℕ). get_or t j 0) e ∙ tops_at j l (32 * get_or ws 0 0) ∙ sym (place_other ws j n)

      each : (j : ℕ) → j < length (set tops (get_or ws 1 0) c) → get_or (set tops (get_or ws 1 0) c) j 0 ≡ get_or (tab 8 (clock_place (office_of ws))) j 0
      each j l = let m : j < 8 = omega (arith, length-set tops (get_or ws 1 0) c, long) in place j m ∙ sym (tab_at 8 (clock_place (office_of ws)) j 0 m)
