-- A store reads back as the office that was written to it. Assumes nothing.
use Rattle.std.proofs.Common.{◌≡◌, ℕ, zero, suc, ◌+◌, ◌*◌, ◌/◌, ◌%◌, ◌<◌, ◌≤◌, Bool, true, false, cond, List, ◌∷◌, ◌++◌, length, get_or, take, drop, sym, refl, ap, ◌∙◌, ⊎_elim, append_assoc, add-zero, arith, length-append, get_or-drop, drop-drop, take_at, drop_at}
use Rattle.causal.specs.Lists.{part}
use Rattle.causal.specs.Sets.{has, is_in}
use Rattle.causal.proofs.Lists.{part_length}
use Rattle.causal.proofs.Sets.{in_is, in_or_out, is_in_lem, is_out, out_is}
use Rattle.causal.proofs.Tests.{split}
use Rattle.frame.specs.Entries.{blank_entry}
use Rattle.frame.specs.declared.entry.Entry.{Entry}
use Rattle.store.specs.Offices.{Office, entry_at, entry_words, need, office_of, slot_at, slot_words, slots_to, store_words}

-- an office of n offices whose entries fit their slots
pub record Canon (n : ℕ) (O : Office) : Type 0 where
  pub offices : O.offices ≡ n
  pub held8 : length O.held ≡ 8
  pub visible8 : length O.visible ≡ 8
  pub range : (k : ℕ) → has O.held k ≡ 1 → k < 32 * n
  pub none : (k : ℕ) → has O.held k ≡ 0 → O.entry k ≡ blank_entry
  pub office : (k : ℕ) → has O.held k ≡ 1 → (O.entry k).office ≡ k / 32
  pub serial : (k : ℕ) → has O.held k ≡ 1 → (O.entry k).serial ≡ k % 32 + 1
  pub clock8 : (k : ℕ) → has O.held k ≡ 1 → length (O.entry k).clock ≡ 8
  pub deps8 : (k : ℕ) → has O.held k ≡ 1 → length (O.entry k).deps ≡ 8

module _ (f : ℕ → List ℕ) where
  pub slots_length : (m : ℕ) → ((j : ℕ) → j < m → length (f j) ≡ 18) → length (slots_to f m) ≡ 18 * m
  unfolding slots_to
  slots_length zero h = refl
  slots_length (suc m) h = length-append (slots_to f m) (f m) ∙ omega (arith, slots_length m (λ j l. h j (omega arith)), h m (omega arith))

  -- slot k, in the slots and what follows
  slots_at : (m : ℕ) → ((j : ℕ) → j < m → length (f j) ≡ 18) → (k : ℕ) → k < m → (Z : List ℕ)
      → (rest : List ℕ) × (drop (18 * k) (slots_to f m ++ Z) ≡ f k ++ rest)
  unfolding slots_to
  slots_at zero h k l Z = absurd (omega arith)
  slots_at (suc m) h k l Z = ⊎_elim
      (λ (x : k < m).
      let r = slots_at m (λ j y. h j (omega arith)) k x (f m ++ Z) in
      (r.0, ap (drop (18 * k)) (append_assoc (slots_to f m) (f m) Z) ∙ r.1))
      (λ (x : k ≡ m). (
        Z,
        ap (drop (18 * k)) (append_assoc (slots_to f m) (f m) Z)
            ∙ drop_at (slots_to f m) (f m ++ Z) (18 * k) (here x)
            ∙ ap (λ (y : ℕ). f y ++ Z) (sym x),
      ))
      (split k m l)
    where
      here : k ≡ m → length (slots_to f m) ≡ 18 * k
      here x = slots_length m (λ j y. h j (omega arith)) ∙ ap (λ (y : ℕ). 18 * y) (sym x)

module _ (n : ℕ) (O : Office) (C : Canon n O) (ws : List ℕ) (long : need n ≤ length ws) where
  slot18 : (k : ℕ) → k < 32 * O.offices → length (slot_words ws O k) ≡ 18
  unfolding slot_words
  slot18 k l = go (is_in O.held k) refl
    where
      go : (t : Bool) → is_in O.held k ≡ t → length (cond t (entry_words (O.entry k)) (part ws (slot_at k) 18)) ≡ 18
      go true t =
          let h = in_is O.held k t in
          let a : length ((O.entry k).clock ++ (O.entry k).deps) ≡ 16 =
          length-append (O.entry k).clock (O.entry k).deps ∙ omega (arith, C.clock8 k h, C.deps8 k h)
          in
          omega arith
      go false t = part_length ws (slot_at k) 18 (omega (arith, C.offices))

  abbrev Z : List ℕ
  Z = drop (need O.offices) ws

  abbrev slots : List ℕ
  slots = slots_to (slot_words ws O) (32 * O.offices)

  abbrev all : List ℕ
  all = O.offices ∷ O.own ∷ O.plots ∷ O.held ++ (O.visible ++ (slots ++ Z))

  drop19 : drop 19 all ≡ slots ++ Z
  drop19 =
      sym (drop-drop 8 11 all)
      ∙ ap (drop 8) (sym (drop-drop 8 3 all) ∙ drop_at O.held (O.visible ++ (slots ++ Z)) 8 C.held8)
      ∙ drop_at O.visible (slots ++ Z) 8 C.visible8

  pub store_long : need n ≤ length (store_words ws O)
  unfolding store_words
  store_long =
      let a = length-append O.held (O.visible ++ (slots ++ Z)) in
      let b = length-append O.visible (slots ++ Z) in
      let c = length-append slots Z in
      let d = slots_length (slot_words ws O) (32 * O.offices) slot18 in
      omega (arith, C.held8, C.visible8, C.offices)

  module _ (k : ℕ) (h : has O.held k ≡ 1) where
    abbrev e : Entry
    e = O.entry k

    lk : k < 32 * O.offices
    lk = omega (arith, C.range k h, C.offices)

    at_slot : (rest : List ℕ) × (drop (slot_at k) all ≡ entry_words (O.entry k) ++ rest)
    unfolding slot_words
    at_slot =
        let r = slots_at (slot_words ws O) (32 * O.offices) slot18 k lk Z in
        let q : 19 + 18 * k ≡ 18 * k + 19 = omega arith in
        let w : slot_words ws O k ≡ entry_words (O.entry k) = rw (is_in_lem O.held k h) in
        (r.0, sym (drop-drop (18 * k) 19 all) ∙ ap (drop (18 * k)) drop19 ∙ r.1 ∙ ap (λ (l : List ℕ). l ++ r.0) w)

    rest : List ℕ
    rest = at_slot.0

    from : drop (slot_at k) all ≡ entry_words (O.entry k) ++ at_slot.0
    from = at_slot.1

    plot_is : get_or all (slot_at k) 0 ≡ e.plot
    plot_is =
        ap (λ (i : ℕ). get_or all i 0) (sym (add-zero (slot_at k))) ∙ sym (get_or-drop (slot_at k) all 0 0) ∙ ap (λ (l : List ℕ). get_or l 0 0) from

    value_is : get_or all (slot_at k + 1) 0 ≡ e.value
    value_is = sym (get_or-drop (slot_at k) all 1 0) ∙ ap (λ (l : List ℕ). get_or l 1 0) from

    -- past the plot and the value
    past2 : drop (slot_at k + 2) all ≡ e.clock ++ (e.deps ++ at_slot.0)
    past2 = sym (drop-drop 2 (slot_at k) all) ∙ ap (drop 2) from ∙ append_assoc e.clock e.deps at_slot.0

    clock_is : part all (slot_at k + 2) 8 ≡ e.clock
    unfolding part
    clock_is = ap (take 8) past2 ∙ take_at e.clock (e.deps ++ at_slot.0) 8 (C.clock8 k h)

    deps_is : part all (slot_at k + 10) 8 ≡ e.deps
    unfolding part
    deps_is =
        let q : slot_at k + 10 ≡ slot_at k + 2 + 8 = omega arith in
        ap (λ (i : ℕ). take 8 (drop i all)) q
        ∙ ap (take 8) (sym (drop-drop 8 (slot_at k + 2) all) ∙ ap (drop 8) past2 ∙ drop_at e.clock (e.deps ++ at_slot.0) 8 (C.clock8 k h))
        ∙ take_at e.deps at_slot.0 8 (C.deps8 k h)

    entry_back : entry_at all k ≡ O.entry k
    unfolding entry_at
    entry_back =
        λ i.
        record {
          office = sym (C.office k h) i;
          serial = sym (C.serial k h) i;
          plot = plot_is i;
          value = value_is i;
          clock = clock_is i;
          deps = deps_is i;
        }

  held_back : part all 3 8 ≡ O.held
  unfolding part
  held_back = take_at O.held (O.visible ++ (slots ++ Z)) 8 C.held8

  visible_back : part all 11 8 ≡ O.visible
  unfolding part
  visible_back =
      ap (take 8) (sym (drop-drop 8 3 all) ∙ drop_at O.held (O.visible ++ (slots ++ Z)) 8 C.held8)
      ∙ take_at O.visible (slots ++ Z) 8 C.visible8

  each : (k : ℕ) → cond (is_in (part all 3 8) k) (entry_at all k) blank_entry ≡ O.entry k
  each k = ap (λ (l : List ℕ). cond (is_in l k) (entry_at all k) blank_entry) held_back ∙ go (is_in O.held k) refl
    where
      go : (t : Bool) → is_in O.held k ≡ t → cond t (entry_at all k) blank_entry ≡ O.entry k
      go true t = entry_back k (in_is O.held k t)
      go false t = sym (C.none k (out_is O.held k t))

  pub store_back : office_of (store_words ws O) ≡ O
  unfolding office_of store_words
  store_back =
      λ i. record { offices = O.offices; own = O.own; plots = O.plots; held = held_back i; visible = visible_back i; entry = λ k. each k i }

  -- "Words of a row beyond those named stay": past the need, and in the slot of an id that is not held
  pub store_rest : drop (need O.offices) (store_words ws O) ≡ drop (need O.offices) ws
  unfolding store_words
  store_rest =
      let q : need O.offices ≡ 19 + 18 * (32 * O.offices) = omega arith in
      ap (λ (i : ℕ). drop i all) q ∙ sym (drop-drop (18 * (32 * O.offices)) 19 all) ∙ ap (drop (18 * (32 * O.offices))) drop19
      ∙ drop_at slots Z (18 * (32 * O.offices)) (slots_length (slot_words ws O) (32 * O.offices) slot18)

  pub slot_stays : (k : ℕ) → k < 32 * O.offices → has O.held k ≡ 0 → part (store_words ws O) (slot_at k) 18 ≡ part ws (slot_at k) 18
  unfolding store_words slot_words part
  slot_stays k l h =
      let r = slots_at (slot_words ws O) (32 * O.offices) slot18 k l Z in
      let w : slot_words ws O k ≡ part ws (slot_at k) 18 = rw (is_out O.held k h) in
      let l18 : length (slot_words ws O k) ≡ 18 = slot18 k l in
      ap (take 18) (sym (drop-drop (18 * k) 19 all) ∙ ap (drop (18 * k)) drop19 ∙ r.1) ∙ take_at (slot_words ws O k) r.0 18 l18 ∙ w

-- ---- written twice

slots_ext : (f g : ℕ → List ℕ) (m : ℕ) → ((k : ℕ) → k < m → f k ≡ g k) → slots_to f m ≡ slots_to g m
unfolding slots_to
slots_ext f g zero h = refl
slots_ext f g (suc m) h =
    ap (λ (l : List ℕ). l ++ f m) (slots_ext f g m (λ k l. h k (omega arith))) ∙ ap (λ (l : List ℕ). slots_to g m ++ l) (h m (omega arith))

same_store : (O : Office) (vs ws : List ℕ) → ((k : ℕ) → k < 32 * O.offices → slot_words vs O k ≡ slot_words ws O k)
    → drop (need O.offices) vs ≡ drop (need O.offices) ws → store_words vs O ≡ store_words ws O
unfolding store_words
same_store O vs ws s r =
    ap (λ (l : List ℕ). O.offices ∷ O.own ∷ O.plots ∷ O.held ++ (O.visible ++ (l ++ drop (need O.offices) vs)))
    (slots_ext (slot_words vs O) (slot_words ws O) (32 * O.offices) s)
    ∙ ap (λ (l : List ℕ). O.offices ∷ O.own ∷ O.plots ∷ O.held ++ (O.visible ++ (slots_to (slot_words ws O) (32 * O.offices) ++ l))) r

-- where all that was held stays held, the words of the second office are as if the first had not been written
module _ (n : ℕ) (O O' : Office) (C : Canon n O) (C' : Canon n O') (ws : List ℕ) (long : need n ≤ length ws)
    (grows : (k : ℕ) → has O.held k ≡ 1 → has O'.held k ≡ 1) where
  slot_again : (k : ℕ) → k < 32 * O'.offices → slot_words (store_words ws O) O' k ≡ slot_words ws O' k
  unfolding slot_words
  slot_again k l = go (is_in O'.held k) refl
    where
      go : (t : Bool) → is_in O'.held k ≡ t
          → cond t (entry_words (O'.entry k)) (part (store_words ws O) (slot_at k) 18) ≡ cond t (entry_words (O'.entry k)) (part ws (slot_at k) 18)
      go true t = refl
      go false t =
          let z : has O.held k ≡ 0 =
          ⊎_elim (λ (h : has O.held k ≡ 1). omega (arith, grows k h, out_is O'.held k t)) (λ h. h) (in_or_out O.held k)
          in
          slot_stays n O C ws long k (omega (arith, C.offices, C'.offices)) z

  pub store_again : store_words (store_words ws O) O' ≡ store_words ws O'
  store_again =
      let e : O'.offices ≡ O.offices = C'.offices ∙ sym C.offices in
      same_store O' (store_words ws O) ws slot_again
      (ap (λ (x : ℕ). drop (need x) (store_words ws O)) e ∙ store_rest n O C ws long ∙ ap (λ (x : ℕ). drop (need x) ws) (sym e))
