-- The current entry by its id: the turns of the search for it, and that it is the entry that the rules call current. Assumes nothing.
use Rattle.std.proofs.Common.{◌≡◌, ℕ, zero, suc, ◌+◌, ◌*◌, ◌<◌, ◌≤◌, Bool, true, false, cond, eqb, ◌⊎◌, List, get_or, sym, refl, ap, ◌∙◌, ap₂, inl, inr, ⊎_elim, add-zero, add-suc, add-one, arith, None, Option, Some}
use Rattle.causal.specs.Tests.{both}
use Rattle.causal.specs.Sets.{bit, has, is_in}
use Rattle.causal.proofs.Sets.{in_is}
use Rattle.causal.proofs.Walk.{Passed, Next, fold_next, fold_end, has_word}
use Rattle.frame.specs.Entries.{outranks}
use Rattle.store.specs.Offices.{Office, slot_at, entry_at, better, consider, best_to, current}
use Rattle.store.specs.Current.{InSlots, better_at, weighed, place_to, place_in, current_at, found_at}

-- ---- one id

pub in_slots : (ws : List ℕ) (m plot k : ℕ) (best : Option ℕ) → k < 256 → slot_at k + 18 ≤ m → InSlots m best → InSlots m (weighed ws plot k best)
unfolding weighed better_at
in_slots ws m plot k best l h o = go (eqb (entry_at ws k).plot plot)
  where
    one : (c : Option ℕ) → InSlots m c → InSlots m (better_at ws k c)
    one None i = (l, h)
    one (Some b) i = two (outranks (entry_at ws k) (entry_at ws b))
      where
        two : (t : Bool) → InSlots m (cond t (Some k) (Some b))
        two true = (l, h)
        two false = i

    go : (t : Bool) → InSlots m (cond t (better_at ws k best) best)
    go true = one best o
    go false = o

-- ---- one word of a set

module _ (ws : List ℕ) (plot i w : ℕ) (before : Option ℕ) where
  place_same : (b : ℕ) → b < 32 → bit w b ≡ 0 → place_in ws plot i w (suc b) before ≡ place_in ws plot i w b before
  unfolding place_in
  place_same b l z = rw z

  place_taken : (t : ℕ) → bit w t ≡ 1 → place_in ws plot i w (suc t) before ≡ weighed ws plot (32 * i + t) (place_in ws plot i w t before)
  unfolding place_in
  place_taken t o = rw o

  pub place_more : (b rest t : ℕ) (best r : Option ℕ) → Next w b rest t → best ≡ place_in ws plot i w b before → r ≡ weighed ws plot (32 * i + t) best
      → r ≡ place_in ws plot i w (t + 1) before
  place_more b rest t best r x e f =
      f ∙ ap (weighed ws plot (32 * i + t)) (e ∙ sym (fold_next (λ j. place_in ws plot i w j before) w place_same b rest t x))
      ∙ sym (place_taken t x.member) ∙ ap (λ (j : ℕ). place_in ws plot i w j before) (sym (add-one t))

  pub place_done : (b rest : ℕ) (best : Option ℕ) → Passed w b rest → rest ≡ 0 → best ≡ place_in ws plot i w b before → best ≡ place_in ws plot i w 32 before
  place_done b rest best x z e = e ∙ sym (fold_end (λ j. place_in ws plot i w j before) w place_same b rest x z)

-- ---- all words

module _ (ws v : List ℕ) (plot : ℕ) where
  place_word : (i b : ℕ) → b ≤ 32 → place_to ws v plot (32 * i + b) ≡ place_in ws plot i (get_or v i 0) b (place_to ws v plot (32 * i))
  unfolding place_to place_in is_in
  place_word i zero l = ap (place_to ws v plot) (add-zero (32 * i))
  place_word i (suc b) l =
      let ih = place_word i b (omega arith) in
      ap (place_to ws v plot) (add-suc (32 * i) b)
      ∙ ap₂ (λ (x : ℕ) (y : Option ℕ). cond (eqb x 1) (weighed ws plot (32 * i + b) y) y) (has_word v i b (omega arith)) ih

  -- one word more
  pub place_next : (i : ℕ) (best r : Option ℕ) → best ≡ place_to ws v plot (32 * i) → r ≡ place_in ws plot i (get_or v i 0) 32 best → r ≡ place_to ws v plot (32 * (i + 1))
  place_next i best r e f =
      let q : 32 * i + 32 ≡ 32 * (i + 1) = omega arith in
      f ∙ ap (place_in ws plot i (get_or v i 0) 32) e ∙ sym (place_word i 32 (omega arith)) ∙ ap (place_to ws v plot) q

  pub place_none : None ≡ place_to ws v plot (32 * 0)
  unfolding place_to
  place_none = refl

  pub place_in_slots : (m : ℕ) → ((k : ℕ) → has v k ≡ 1 → (k < 256) × (slot_at k + 18 ≤ m)) → (k : ℕ) → InSlots m (place_to ws v plot k)
  unfolding place_to
  place_in_slots m f zero = tt
  place_in_slots m f (suc k) = go (is_in v k) refl (place_in_slots m f k)
    where
      go : (t : Bool) → is_in v k ≡ t → InSlots m (place_to ws v plot k) → InSlots m (cond t (weighed ws plot k (place_to ws v plot k)) (place_to ws v plot k))
      go true e ih = let s = f k (in_is v k e) in in_slots ws m plot k (place_to ws v plot k) s.0 s.1 ih
      go false e ih = ih

-- ---- what is found there is what the rules call current

module _ (O : Office) (ws : List ℕ) (same : (k : ℕ) → has O.visible k ≡ 1 → O.entry k ≡ entry_at ws k) where
  pub best_at : (plot k : ℕ) → best_to O plot k ≡ found_at ws (place_to ws O.visible plot k)
  unfolding best_to place_to found_at better better_at consider weighed both
  best_at plot zero = refl
  best_at plot (suc k) = go (is_in O.visible k) refl (best_at plot k)
    where
      better_at_lem : (b : Option ℕ) → better (entry_at ws k) (found_at ws b) ≡ found_at ws (better_at ws k b)
      better_at_lem None = refl
      better_at_lem (Some b) = two (outranks (entry_at ws k) (entry_at ws b))
        where
          two : (t : Bool) → cond t (Some (entry_at ws k)) (Some (entry_at ws b)) ≡ found_at ws (cond t (Some k) (Some b))
          two true = refl
          two false = refl

      on_plot : (t : Bool) (b : Option ℕ) → consider t (entry_at ws k) (found_at ws b) ≡ found_at ws (cond t (better_at ws k b) b)
      on_plot true b = better_at_lem b
      on_plot false b = refl

      go : (t : Bool) → is_in O.visible k ≡ t → best_to O plot k ≡ found_at ws (place_to ws O.visible plot k)
          → consider (both t (eqb (O.entry k).plot plot)) (O.entry k) (best_to O plot k)
          ≡ found_at ws (cond t (weighed ws plot k (place_to ws O.visible plot k)) (place_to ws O.visible plot k))
      go true e ih = rw (ih, same k (in_is O.visible k e)) (on_plot (eqb (entry_at ws k).plot plot) (place_to ws O.visible plot k))
      go false e ih = ih

  pub current_at_lem : (plot : ℕ) → O.offices ≡ get_or ws 0 0 → current O plot ≡ found_at ws (current_at ws O.visible plot)
  unfolding current current_at
  current_at_lem plot n = ap (λ (m : ℕ). best_to O plot (32 * m)) n ∙ best_at plot (32 * get_or ws 0 0)

-- ---- the place found is that of a visible id, and its slot lies in the store

weighed_from : (ws : List ℕ) (plot k j : ℕ) (best : Option ℕ) → weighed ws plot k best ≡ Some j → (j ≡ k) ⊎ (best ≡ Some j)
unfolding weighed better_at
weighed_from ws plot k j best e = go (eqb (entry_at ws k).plot plot) e
  where
    better_from : (b : Option ℕ) → better_at ws k b ≡ Some j → (j ≡ k) ⊎ (b ≡ Some j)
    better_from None f = let q : k ≡ j = cc in inl (sym q)
    better_from (Some b) f = two (outranks (entry_at ws k) (entry_at ws b)) f
      where
        two : (t : Bool) → cond t (Some k) (Some b) ≡ Some j → (j ≡ k) ⊎ (Some b ≡ Some j)
        two true g = let q : k ≡ j = cc in inl (sym q)
        two false g = inr g

    go : (t : Bool) → cond t (better_at ws k best) best ≡ Some j → (j ≡ k) ⊎ (best ≡ Some j)
    go true f = better_from best f
    go false f = inr f

pub place_visible : (ws v : List ℕ) (plot k j : ℕ) → place_to ws v plot k ≡ Some j → has v j ≡ 1
unfolding place_to
place_visible ws v plot zero j e = let z : ◌≡◌ {A = ℕ} 0 1 = cc in absurd (omega arith)
place_visible ws v plot (suc k) j e = go (is_in v k) refl e (place_visible ws v plot k j)
  where
    go : (t : Bool) → is_in v k ≡ t → cond t (weighed ws plot k (place_to ws v plot k)) (place_to ws v plot k) ≡ Some j
        → (place_to ws v plot k ≡ Some j → has v j ≡ 1) → has v j ≡ 1
    go true o f ih = ⊎_elim (λ q. ap (has v) q ∙ in_is v k o) ih (weighed_from ws plot k j (place_to ws v plot k) f)
    go false o f ih = ih f
