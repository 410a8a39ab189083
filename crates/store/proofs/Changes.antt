-- What code does to the words of a store is what the rules do to its content: to hold, to reveal; and the entry at the place that code finds is
-- the current one. O is the content of the store store_words ws O, so the laws go on from one change to the next. Assumes nothing.
use Rattle.std.proofs.Common.{◌≡◌, ℕ, zero, suc, ◌+◌, ◌*◌, ◌<◌, ◌≤◌, Bool, true, false, cond, List, [], ◌∷◌, ◌++◌, length, get_or, drop, set, sym, refl, ap, ◌∙◌, ap₂, zero-add, arith, drop-set-lt}
use lib.Seq.{sets, length-sets}
use Rattle.causal.specs.Lists.{part, zeros}
use Rattle.causal.specs.Sets.{has, is_in, IdSet, Within, inserted, subset_of}
use Rattle.causal.proofs.Sets.{in_is, is_out, has_zeros, subset_by}
use Rattle.frame.specs.declared.entry.Entry.{Entry}
use Rattle.frame.specs.Entries.{id_of, blank_entry}
use Rattle.frame.proofs.Entries.{entry_facts}
use Rattle.frame.proofs.Ids.{id_range}
use Rattle.causal.proofs.Lists.{part_length, part_part, part_sets_whole, part_sets_after, get_d_sets_in}
use Rattle.store.specs.Offices.{Office, empty_office, slots_to, need, slot_at, entry_at, entry_words, slot_words, office_of, store_words, reveal, hold, current}
use Rattle.store.specs.Reveal.{revealed}
use Rattle.store.specs.declared.reveal.Revealed.{Revealed}
use Rattle.store.specs.Slots.{hold_words, empty_words}
use Rattle.store.specs.Current.{current_at, found_at}
use Rattle.store.proofs.Eights.{entry_eighteen}
use Rattle.store.proofs.StoreBack.{store_back}
use Rattle.store.proofs.Bridge.{store_same, store_hold, store_reveal}
use Rattle.store.proofs.Keep.{Sound, Takes, sound_canon, reveal_sound}
use Rattle.store.proofs.Places.{current_at_lem}
use Rattle.store.proofs.Ready.{entry_held}

-- ---- an office that holds nothing

module _ (ws us : List ℕ) (O : Office) (same : (a n : ℕ) → 19 ≤ a → part ws a n ≡ part us a n) (rest : drop (need O.offices) ws ≡ drop (need O.offices) us) where
  slots_alike : (m : ℕ) → slots_to (slot_words ws O) m ≡ slots_to (slot_words us O) m
  unfolding slots_to slot_words
  slots_alike zero = refl
  slots_alike (suc m) =
      ap₂ (λ (x y : List ℕ). x ++ cond (is_in O.held m) (entry_words (O.entry m)) y) (slots_alike m) (same (slot_at m) 18 (omega arith))

  -- of what stood there only the slots count, and what lies behind them
  store_alike : store_words ws O ≡ store_words us O
  unfolding store_words
  store_alike =
      ap₂ (λ (x y : List ℕ). O.offices ∷ O.own ∷ O.plots ∷ O.held ++ (O.visible ++ (x ++ y))) (slots_alike (32 * O.offices)) rest

drop_sets : (ws : List ℕ) (a i : ℕ) (vs : List ℕ) → i + length vs ≤ a → drop a (sets ws i vs) ≡ drop a ws
drop_sets ws a i [] h = refl
drop_sets ws a i (v ∷ vs) h = drop_sets (set ws i v) a (suc i) vs (omega arith) ∙ drop-set-lt a ws i v (omega arith)

module _ (ws : List ℕ) (n o p : ℕ) (l : need n ≤ length ws) where
  abbrev front : List ℕ
  front = n ∷ o ∷ p ∷ zeros ++ zeros

  new_front : part (sets ws 0 front) 0 19 ≡ front
  new_front = part_sets_whole ws 0 front (omega arith)

  new_at : (i : ℕ) → i < 19 → get_or (sets ws 0 front) i 0 ≡ get_or front i 0
  new_at i h = ap (λ (j : ℕ). get_or (sets ws 0 front) j 0) (sym (zero-add i)) ∙ get_d_sets_in ws 0 front i (omega arith) h

  new_held : part (sets ws 0 front) 3 8 ≡ zeros
  unfolding part
  new_held = sym (part_part (sets ws 0 front) 0 19 3 8 (omega arith)) ∙ ap (λ (x : List ℕ). part x 3 8) new_front

  new_visible : part (sets ws 0 front) 11 8 ≡ zeros
  unfolding part
  new_visible = sym (part_part (sets ws 0 front) 0 19 11 8 (omega arith)) ∙ ap (λ (x : List ℕ). part x 11 8) new_front

  new_entry : (k : ℕ) → cond (is_in (part (sets ws 0 front) 3 8) k) (entry_at (sets ws 0 front) k) blank_entry ≡ blank_entry
  new_entry k = ap (λ (s : List ℕ). cond (is_in s k) (entry_at (sets ws 0 front) k) blank_entry) new_held ∙ rw (is_out zeros k (has_zeros k))

  new_office : office_of (sets ws 0 front) ≡ empty_office n o p
  unfolding office_of
  new_office =
      λ i.
      record {
        offices = new_at 0 (omega arith) i;
        own = new_at 1 (omega arith) i;
        plots = new_at 2 (omega arith) i;
        held = new_held i;
        visible = new_visible i;
        entry = λ k. new_entry k i;
      }

  pub empty_words_lem : empty_words ws n o p ≡ store_words ws (empty_office n o p)
  unfolding empty_words
  empty_words_lem =
      sym (store_same (sets ws 0 front) (omega (arith, new_at 0 (omega arith), length-sets ws 0 front)))
      ∙ ap (store_words (sets ws 0 front)) new_office
      ∙ store_alike (sets ws 0 front) ws (empty_office n o p) (λ a m h. part_sets_after ws a m 0 front (omega arith)) (drop_sets ws (need n) 0 front (omega arith))

-- ---- changes

module _ (ws : List ℕ) (O : Office) (S : Sound O) (long : need O.offices ≤ length ws) where
  back : office_of (store_words ws O) ≡ O
  back = store_back O.offices O (sound_canon O S) ws long

  slot_eighteen : (k : ℕ) → k < 32 * O.offices → length (slot_words ws O k) ≡ 18
  unfolding slot_words
  slot_eighteen k l = go (is_in O.held k) refl
    where
      go : (t : Bool) → is_in O.held k ≡ t → length (cond t (entry_words (O.entry k)) (part ws (slot_at k) 18)) ≡ 18
      go true t = let h = in_is O.held k t in entry_eighteen (O.entry k) (S.clock8 k h) (S.deps_set k h).eight
      go false t = part_length ws (slot_at k) 18 (omega arith)

  pub held_words : part (store_words ws O) 3 8 ≡ O.held
  unfolding office_of
  held_words = ap (λ (o : Office). o.held) back

  -- to hold
  pub hold_words_lem : (e : Entry) → Takes O e → hold_words (store_words ws O) e ≡ store_words ws (hold O e)
  unfolding hold_words
  hold_words_lem e T =
      let r = id_range O.offices O.plots e (entry_facts O.offices O.plots e T.ok) in
      ap (λ (h : List ℕ). sets (sets (store_words ws O) (slot_at (id_of e)) (entry_words e)) 3 (inserted h (id_of e))) held_words
      ∙ sym (store_hold ws O e S.held_set S.visible_set.eight (omega (arith, S.few)) r T.new (entry_eighteen e T.clock8 T.deps_set.eight) slot_eighteen)

  module _ (seeds : List ℕ) (w : IdSet seeds) (h : Within seeds O.held) where
    -- to reveal
    pub show_words : sets (store_words ws O) 11 (reveal O seeds).visible ≡ store_words ws (reveal O seeds)
    show_words = sym (store_reveal ws O seeds S.held_set.eight S.visible_set.eight (reveal_sound O S seeds w h).visible_set.eight)

    -- what is visible then is held, as `current` asks
    pub shown_held : subset_of (reveal O seeds).visible (part (store_words ws O) 3 8) ≡ true
    unfolding reveal
    shown_held =
        let T = reveal_sound O S seeds w h in
        ap (subset_of (reveal O seeds).visible) held_words ∙ subset_by (reveal O seeds).visible O.held T.visible_set S.held_set T.visible_held

    -- the entry at the place found under that visible set is the current one
    pub current_words : (plot : ℕ) → current (reveal O seeds) plot ≡ found_at (store_words ws O) (current_at (store_words ws O) (reveal O seeds).visible plot)
    unfolding reveal office_of
    current_words plot =
        current_at_lem (reveal O seeds) (store_words ws O)
        (λ k v.
        sym (ap (λ (o : Office). o.entry k) back) ∙ entry_held (store_words ws O) k (ap (λ (s : List ℕ). has s k) held_words ∙ (reveal_sound O S seeds w h).visible_held k v))
        plot (sym (ap (λ (o : Office). o.offices) back))

-- what `revealed_by` returns has the visible set of the office that revealed the seeds
pub revealed_visible : (ws seeds : List ℕ) (r : Revealed) → r ≡ revealed (λ k. ((office_of ws).entry k).deps) (get_or ws 0 0) (part ws 11 8) seeds
    → r.visible ≡ (reveal (office_of ws) seeds).visible
unfolding reveal office_of
revealed_visible ws seeds r e = ap (λ (x : Revealed). x.visible) e
