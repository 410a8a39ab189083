-- The promise `store_words ws O'` against what code does to the words: nothing; to reveal, eight words; to hold, a slot and the held set.
-- Assumes nothing.
use Rattle.std.proofs.Common.{◌≡◌, ℕ, zero, suc, ◌+◌, ◌*◌, ◌<◌, ◌≤◌, Bool, true, false, cond, eqb, List, [], ◌∷◌, ◌++◌, length, get_or, take, drop, sym, refl, ap, ◌∙◌, ⊎_elim, append_assoc, arith, length-append, take-append-drop, drop-drop, take_at, drop_at, eq-eqb, ne_eqb}
use lib.Seq.{sets, sets-eq}
use Rattle.causal.specs.Lists.{part}
use Rattle.causal.specs.Sets.{IdSet, has, inserted, is_in}
use Rattle.causal.proofs.Bits.{same_eq}
use Rattle.causal.proofs.Lists.{part_add, part_cons}
use Rattle.causal.proofs.Sets.{has_inserted, has_lt, ids_inserted, in_inserted, in_or_out, inserted_old, is_in_lem, is_out}
use Rattle.causal.proofs.Tests.{split}
use Rattle.frame.specs.Entries.{blank_entry, id_of}
use Rattle.frame.specs.declared.entry.Entry.{Entry}
use Rattle.store.specs.Offices.{Office, entry_at, entry_words, hold, need, office_of, reveal, slot_at, slot_words, slots_to, store_words}
use Rattle.store.proofs.StoreBack.{slots_length}

-- a run of stores in the middle
pub sets_mid : (A x Z v : List ℕ) (i : ℕ) → length A ≡ i → length x ≡ length v → sets (A ++ (x ++ Z)) i v ≡ A ++ (v ++ Z)
sets_mid A x Z v i la lx =
    let long : i + length v ≤ length (A ++ (x ++ Z)) = omega (arith, length-append A (x ++ Z), length-append x Z) in
    let t : take i (A ++ (x ++ Z)) ≡ A = take_at A (x ++ Z) i la in
    let d : drop (i + length v) (A ++ (x ++ Z)) ≡ Z =
    sym (drop-drop (length v) i (A ++ (x ++ Z))) ∙ ap (drop (length v)) (drop_at A (x ++ Z) i la) ∙ drop_at x Z (length v) lx
    in
    sets-eq v (A ++ (x ++ Z)) i long
    ∙ ap (λ (l : List ℕ). l ++ v ++ drop (i + length v) (A ++ (x ++ Z))) t
    ∙ ap (λ (l : List ℕ). A ++ v ++ l) d
    ∙ append_assoc A v Z

-- ---- nothing

slot_same : (ws : List ℕ) (k : ℕ) → 37 + 18 * k ≤ length ws → entry_words (entry_at ws k) ≡ part ws (slot_at k) 18
unfolding entry_at
slot_same ws k l =
    let a : slot_at k + 1 ≡ suc (slot_at k) = omega arith in
    let b : slot_at k + 2 ≡ suc (suc (slot_at k)) = omega arith in
    let d : slot_at k + 10 ≡ suc (suc (slot_at k)) + 8 = omega arith in
    ap (λ (i : ℕ). get_or ws (slot_at k) 0 ∷ get_or ws i 0 ∷ (part ws (slot_at k + 2) 8 ++ part ws (slot_at k + 10) 8)) a
    ∙ ap (λ (i : ℕ). get_or ws (slot_at k) 0 ∷ get_or ws (suc (slot_at k)) 0 ∷ (part ws i 8 ++ part ws (slot_at k + 10) 8)) b
    ∙ ap (λ (i : ℕ). get_or ws (slot_at k) 0 ∷ get_or ws (suc (slot_at k)) 0 ∷ (part ws (suc (suc (slot_at k))) 8 ++ part ws i 8)) d
    ∙ sym
    (part_cons ws (slot_at k) 17 (omega arith)
    ∙ ap (λ (l : List ℕ). get_or ws (slot_at k) 0 ∷ l)
    (part_cons ws (suc (slot_at k)) 16 (omega arith)
    ∙ ap (λ (l : List ℕ). get_or ws (suc (slot_at k)) 0 ∷ l) (part_add ws (suc (suc (slot_at k))) 8 8)))

slots_same : (ws : List ℕ) (f : ℕ → List ℕ) (m : ℕ) → ((k : ℕ) → k < m → f k ≡ part ws (slot_at k) 18) → slots_to f m ≡ part ws 19 (18 * m)
unfolding slots_to part
slots_same ws f zero h = refl
slots_same ws f (suc m) h =
    let e : 18 * suc m ≡ 18 * m + 18 = omega arith in
    ap (λ (l : List ℕ). l ++ f m) (slots_same ws f m (λ k l. h k (omega arith)))
    ∙ ap (λ (l : List ℕ). part ws 19 (18 * m) ++ l) (h m (omega arith))
    ∙ sym (part_add ws 19 (18 * m) 18) ∙ ap (part ws 19) (sym e)

whole_part : (ws : List ℕ) (n : ℕ) → part ws 0 n ++ drop n ws ≡ ws
unfolding part
whole_part ws n = take-append-drop n ws

each_slot : (ws : List ℕ) (k : ℕ) → 37 + 18 * k ≤ length ws → slot_words ws (office_of ws) k ≡ part ws (slot_at k) 18
unfolding slot_words office_of
each_slot ws k l = go (is_in (part ws 3 8) k)
  where
    go : (t : Bool) → cond t (entry_words (cond t (entry_at ws k) blank_entry)) (part ws (slot_at k) 18) ≡ part ws (slot_at k) 18
    go true = slot_same ws k l
    go false = refl

front : (ws : List ℕ) (m : ℕ) → 19 + 18 * m ≤ length ws
    → part ws 0 (19 + 18 * m) ≡ get_or ws 0 0 ∷ get_or ws 1 0 ∷ get_or ws 2 0 ∷ part ws 3 8 ++ (part ws 11 8 ++ part ws 19 (18 * m))
front ws m h =
    let e : 19 + 18 * m ≡ suc (suc (suc (8 + (8 + 18 * m)))) = omega arith in
    ap (part ws 0) e
    ∙ (part_cons ws 0 (suc (suc (8 + (8 + 18 * m)))) (omega arith)
    ∙ ap (λ (l : List ℕ). get_or ws 0 0 ∷ l)
    (part_cons ws 1 (suc (8 + (8 + 18 * m))) (omega arith)
    ∙ ap (λ (l : List ℕ). get_or ws 1 0 ∷ l)
    (part_cons ws 2 (8 + (8 + 18 * m)) (omega arith)
    ∙ ap (λ (l : List ℕ). get_or ws 2 0 ∷ l) (part_add ws 3 8 (8 + 18 * m) ∙ ap (λ (l : List ℕ). part ws 3 8 ++ l) (part_add ws 11 8 (18 * m))))))

-- a store to which nothing is done
pub store_same : (ws : List ℕ) → need (get_or ws 0 0) ≤ length ws → store_words ws (office_of ws) ≡ ws
unfolding store_words office_of
store_same ws h =
    ap (λ (l : List ℕ). get_or ws 0 0 ∷ get_or ws 1 0 ∷ get_or ws 2 0 ∷ part ws 3 8 ++ (part ws 11 8 ++ (l ++ Z ws)))
    (slots_same ws (slot_words ws (office_of ws)) (32 * get_or ws 0 0) (λ k l. each_slot ws k (omega arith)))
    ∙ ap (λ (l : List ℕ). get_or ws 0 0 ∷ get_or ws 1 0 ∷ get_or ws 2 0 ∷ part ws 3 8 ++ l)
    (sym (append_assoc (part ws 11 8) (part ws 19 (18 * (32 * get_or ws 0 0))) (Z ws)))
    ∙ ap (λ (l : List ℕ). get_or ws 0 0 ∷ get_or ws 1 0 ∷ get_or ws 2 0 ∷ l)
    (sym (append_assoc (part ws 3 8) (part ws 11 8 ++ part ws 19 (18 * (32 * get_or ws 0 0))) (Z ws)))
    ∙ ap (λ (l : List ℕ). l ++ Z ws) (sym (front ws (32 * get_or ws 0 0) (omega arith)) ∙ ap (part ws 0) (size (get_or ws 0 0)))
    ∙ taken ws
  where
    Z : List ℕ → List ℕ
    Z ws = drop (need (get_or ws 0 0)) ws

    size : (n : ℕ) → 19 + 18 * (32 * n) ≡ need n
    size n = omega arith

    taken : (ws : List ℕ) → part ws 0 (need (get_or ws 0 0)) ++ drop (need (get_or ws 0 0)) ws ≡ ws
    taken ws = whole_part ws (need (get_or ws 0 0))

-- ---- to reveal: the eight words of the visible set

pub store_reveal : (ws : List ℕ) (O : Office) (seeds : List ℕ) → length O.held ≡ 8 → length O.visible ≡ 8
    → length (reveal O seeds).visible ≡ 8 →
    store_words ws (reveal O seeds) ≡ sets (store_words ws O) 11 (reveal O seeds).visible
unfolding store_words reveal slot_words
store_reveal ws O seeds h v v' =
    sym
    (sets_mid (O.offices ∷ O.own ∷ O.plots ∷ O.held) O.visible (slots_to (slot_words ws O) (32 * O.offices) ++ drop (need O.offices) ws)
    (reveal O seeds).visible 11 (omega arith) (v ∙ sym v'))

-- ---- to hold: the slot, and the eight words of the held set

module _ (f f' : ℕ → List ℕ) (x : ℕ) (same : (k : ℕ) → (k ≡ x → ⊥) → f' k ≡ f k) where
  slots_before : (m : ℕ) → m ≤ x → slots_to f' m ≡ slots_to f m
  unfolding slots_to
  slots_before zero l = refl
  slots_before (suc m) l =
      ap (λ (r : List ℕ). r ++ f' m) (slots_before m (omega arith)) ∙ ap (λ (r : List ℕ). slots_to f m ++ r) (same m (λ e. omega arith))

  slots_change : (m : ℕ) → x < m
      → (tail : List ℕ) × (slots_to f m ≡ slots_to f x ++ (f x ++ tail)) × (slots_to f' m ≡ slots_to f x ++ (f' x ++ tail))
  unfolding slots_to
  slots_change zero l = absurd (omega arith)
  slots_change (suc m) l = ⊎_elim
      (λ (q : x < m).
      let r = slots_change m q in (
        r.0 ++ f m,
        ap (λ (y : List ℕ). y ++ f m) r.1
            ∙ append_assoc (slots_to f x) (f x ++ r.0) (f m)
            ∙ ap (λ (y : List ℕ). slots_to f x ++ y) (append_assoc (f x) r.0 (f m)),
        ap (λ (y : List ℕ). y ++ f' m) r.2 ∙ ap (λ (y : List ℕ). (slots_to f x ++ (f' x ++ r.0)) ++ y) (same m (λ e. omega arith))
            ∙ append_assoc (slots_to f x) (f' x ++ r.0) (f m) ∙ ap (λ (y : List ℕ). slots_to f x ++ y) (append_assoc (f' x) r.0 (f m)),
      ))
      (λ (q : x ≡ m). (
        [],
        ap (λ (y : ℕ). slots_to f y ++ f y) (sym q) ∙ ap (λ (y : List ℕ). slots_to f x ++ y) (sym (nil (f x))),
        ap (λ (y : ℕ). slots_to f' y ++ f' y) (sym q)
            ∙ ap (λ (y : List ℕ). y ++ f' x) (slots_before x (omega arith))
            ∙ ap (λ (y : List ℕ). slots_to f x ++ y) (sym (nil (f' x))),
      )) (split x m l)
    where
      nil : (l : List ℕ) → l ++ [] ≡ l
      nil = mathlib.Core.List.append-nil

module _ (ws : List ℕ) (O : Office) (e : Entry) (held_set : IdSet O.held) (visible8 : length O.visible ≡ 8) (small : id_of e < 256)
    (in_ring : id_of e < 32 * O.offices)
    (new : has O.held (id_of e) ≡ 0) (e18 : length (entry_words e) ≡ 18)
    (slot18 : (k : ℕ) → k < 32 * O.offices → length (slot_words ws O k) ≡ 18) where
  at_x : slot_words ws (hold O e) (id_of e) ≡ entry_words e
  unfolding slot_words hold
  at_x = rw (is_in_lem (inserted O.held (id_of e)) (id_of e) now, eq-eqb (id_of e) (id_of e) refl)
    where
      now : has (inserted O.held (id_of e)) (id_of e) ≡ 1
      now =
          omega
          (arith, has_inserted O.held (id_of e) (id_of e) (omega arith), same_eq (id_of e) (id_of e) refl, has_lt O.held (id_of e))

  off_x : (k : ℕ) → (k ≡ id_of e → ⊥) → slot_words ws (hold O e) k ≡ slot_words ws O k
  unfolding slot_words hold
  off_x k ne =
      ap (λ (t : Bool). cond t (entry_words (cond (eqb k (id_of e)) e (O.entry k))) (part ws (slot_at k) 18)) alike ∙ rw (ne_eqb k (id_of e) ne)
    where
      alike : is_in (inserted O.held (id_of e)) k ≡ is_in O.held k
      alike = ⊎_elim
          (λ (h : has O.held k ≡ 1).
          is_in_lem (inserted O.held (id_of e)) k (inserted_old O.held (id_of e) small held_set k h) ∙ sym (is_in_lem O.held k h))
          (λ (h : has O.held k ≡ 0). is_out (inserted O.held (id_of e)) k (still h) ∙ sym (is_out O.held k h)) (in_or_out O.held k)
        where
          still : has O.held k ≡ 0 → has (inserted O.held (id_of e)) k ≡ 0
          still h = ⊎_elim
              (λ (y : has (inserted O.held (id_of e)) k ≡ 1). ⊎_elim (λ (q : k ≡ id_of e). absurd (ne q)) (λ q. absurd (omega arith))
              (in_inserted O.held (id_of e) k small held_set y))
              (λ y. y) (in_or_out (inserted O.held (id_of e)) k)

  abbrev store_front : List ℕ → List ℕ → List ℕ
  store_front h Y = O.offices ∷ O.own ∷ O.plots ∷ h ++ (O.visible ++ Y)

  abbrev Z : List ℕ
  Z = drop (need O.offices) ws

  abbrev B : List ℕ
  B = slots_to (slot_words ws O) (id_of e)

  pub store_hold : store_words ws (hold O e) ≡ sets (sets (store_words ws O) (slot_at (id_of e)) (entry_words e)) 3 (inserted O.held (id_of e))
  unfolding store_words hold
  store_hold = go (slots_change (slot_words ws O) (slot_words ws (hold O e)) (id_of e) off_x (32 * O.offices) in_ring)
    where
      lb : length (slots_to (slot_words ws O) (id_of e)) ≡ 18 * id_of e
      lb = slots_length (slot_words ws O) (id_of e) (λ j l. slot18 j (omega arith))

      -- all but the slots, in front of anything
      ahead : (Y : List ℕ) → store_front O.held Y ≡ (O.offices ∷ O.own ∷ O.plots ∷ O.held ++ O.visible) ++ Y
      ahead Y = ap (λ (l : List ℕ). O.offices ∷ O.own ∷ O.plots ∷ l) (sym (append_assoc O.held O.visible Y))

      go : (tail : List ℕ) × (slots_to (slot_words ws O) (32 * O.offices) ≡ B ++ (slot_words ws O (id_of e) ++ tail)) × (slots_to (slot_words ws (hold O e)) (32 * O.offices) ≡ B ++ (slot_words ws (hold O e) (id_of e) ++ tail)) →
          store_words ws (hold O e) ≡ sets (sets (store_words ws O) (slot_at (id_of e)) (entry_words e)) 3 (inserted O.held (id_of e))
      go t =
          new_is
          ∙ sym
          (ap (λ (l : List ℕ). sets l 3 (inserted O.held (id_of e)))
          (ap (λ (l : List ℕ). sets l (slot_at (id_of e)) (entry_words e)) old_is ∙ slot_set ∙ slot_back)
          ∙ held_is)
        where
          -- the slots and what follows, cut at the slot
          cut : (s : List ℕ) → (B ++ (s ++ t.0)) ++ Z ≡ B ++ (s ++ (t.0 ++ Z))
          cut s = append_assoc B (s ++ t.0) Z ∙ ap (λ (l : List ℕ). B ++ l) (append_assoc s t.0 Z)

          new_is : store_words ws (hold O e) ≡ store_front (inserted O.held (id_of e)) (B ++ (entry_words e ++ (t.0 ++ Z)))
          new_is =
              ap (λ (l : List ℕ). store_front (inserted O.held (id_of e)) (l ++ Z)) t.2
              ∙ ap (store_front (inserted O.held (id_of e)))
              (cut (slot_words ws (hold O e) (id_of e)) ∙ ap (λ (s : List ℕ). B ++ (s ++ (t.0 ++ Z))) at_x)

          old_is : store_words ws O ≡ ((O.offices ∷ O.own ∷ O.plots ∷ O.held ++ O.visible) ++ B) ++ (slot_words ws O (id_of e) ++ (t.0 ++ Z))
          old_is =
              ap (λ (l : List ℕ). store_front O.held (l ++ Z)) t.1
              ∙ ap (store_front O.held) (cut (slot_words ws O (id_of e)))
              ∙ ahead (B ++ (slot_words ws O (id_of e) ++ (t.0 ++ Z)))
              ∙ sym (append_assoc (O.offices ∷ O.own ∷ O.plots ∷ O.held ++ O.visible) B (slot_words ws O (id_of e) ++ (t.0 ++ Z)))

          slot_set : sets (((O.offices ∷ O.own ∷ O.plots ∷ O.held ++ O.visible) ++ B) ++ (slot_words ws O (id_of e) ++ (t.0 ++ Z))) (slot_at (id_of e)) (entry_words e) ≡ ((O.offices ∷ O.own ∷ O.plots ∷ O.held ++ O.visible) ++ B) ++ (entry_words e ++ (t.0 ++ Z))
          slot_set =
              sets_mid ((O.offices ∷ O.own ∷ O.plots ∷ O.held ++ O.visible) ++ B) (slot_words ws O (id_of e)) (t.0 ++ Z) (entry_words e)
              (slot_at (id_of e))
              (length-append (O.offices ∷ O.own ∷ O.plots ∷ O.held ++ O.visible) B ∙ omega (arith, lb, length-append O.held O.visible))
              (slot18 (id_of e) in_ring ∙ sym e18)

          slot_back : ((O.offices ∷ O.own ∷ O.plots ∷ O.held ++ O.visible) ++ B) ++ (entry_words e ++ (t.0 ++ Z)) ≡ store_front O.held (B ++ (entry_words e ++ (t.0 ++ Z)))
          slot_back =
              append_assoc (O.offices ∷ O.own ∷ O.plots ∷ O.held ++ O.visible) B (entry_words e ++ (t.0 ++ Z))
              ∙ sym (ahead (B ++ (entry_words e ++ (t.0 ++ Z))))

          held_is : sets (store_front O.held (B ++ (entry_words e ++ (t.0 ++ Z)))) 3 (inserted O.held (id_of e)) ≡ store_front (inserted O.held (id_of e)) (B ++ (entry_words e ++ (t.0 ++ Z)))
          held_is =
              sets_mid (O.offices ∷ O.own ∷ O.plots ∷ []) O.held (O.visible ++ (B ++ (entry_words e ++ (t.0 ++ Z))))
              (inserted O.held (id_of e)) 3 refl (held_set.eight ∙ sym (ids_inserted O.held (id_of e) held_set).eight)
