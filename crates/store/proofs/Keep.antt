-- What a sound office is, and that to hold and to reveal keep it sound. "Every content that keeps these rules has a sound store".
-- Assumes nothing.
use Rattle.std.proofs.Common.{◌≡◌, ℕ, ◌+◌, ◌*◌, ◌/◌, ◌%◌, ◌^◌, ◌<◌, ◌≤◌, true, cond, eqb, ltb, leb, List, length, get_or, sym, refl, ap, ◌∙◌, ⊎_elim, arith, ltb-true, lt-ltb, eq-eqb, ne_eqb, le-leb, leb-true}
use Rattle.causal.specs.Lists.{part}
use Rattle.causal.specs.Sets.{IdSet, Within, has, inserted, is_in, subset_of}
use Rattle.causal.specs.Tests.{all_below, both}
use Rattle.causal.proofs.Lists.{part_at, part_length}
use Rattle.causal.proofs.Sets.{has_in, ids_inserted, ids_zeros, in_inserted, in_is, in_or_out, inserted_old, is_in_lem, is_out, subset_by, subset_within}
use Rattle.causal.proofs.Tests.{all_at, all_intro, both_intro, both_true, eq_or_ne, implies_elim, implies_intro, lt_or_le}
use Rattle.frame.specs.Entries.{blank_entry, entry_ok, id_of}
use Rattle.frame.specs.Frames.{ring_ok}
use Rattle.frame.specs.declared.entry.Entry.{Entry}
use Rattle.frame.proofs.Entries.{EntryFacts, entry_facts, ring_facts}
use Rattle.frame.proofs.Ids.{id_office, id_range, id_serial, inserted_new}
use Rattle.store.specs.Offices.{Office, Words32, entry_at, gapless, held_ok, hold, need, office_of, reveal, settings_ok, slot_at, sound_office, sound_store, store_words}
use Rattle.store.specs.Reveal.{Reached, dep, revealed, seed}
use Rattle.store.proofs.Reached.{Exactly, Ready, revealed_is_reached}
use Rattle.store.proofs.StoreBack.{Canon, store_back, store_long}

pub record Sound (O : Office) : Type 0 where
  pub settings : settings_ok O.offices O.own O.plots ≡ true
  pub own_low : O.own < O.offices
  pub few : O.offices ≤ 8
  pub held_set : IdSet O.held
  pub visible_set : IdSet O.visible
  pub range : (k : ℕ) → has O.held k ≡ 1 → k < 32 * O.offices
  pub ok : (k : ℕ) → has O.held k ≡ 1 → entry_ok O.offices O.plots (O.entry k) ≡ true
  pub none : (k : ℕ) → has O.held k ≡ 0 → O.entry k ≡ blank_entry
  pub office : (k : ℕ) → has O.held k ≡ 1 → (O.entry k).office ≡ k / 32
  pub serial : (k : ℕ) → has O.held k ≡ 1 → (O.entry k).serial ≡ k % 32 + 1
  pub clock8 : (k : ℕ) → has O.held k ≡ 1 → length (O.entry k).clock ≡ 8
  pub deps_set : (k : ℕ) → has O.held k ≡ 1 → IdSet (O.entry k).deps
  pub held_closed : (k : ℕ) → has O.held k ≡ 1 → Within (O.entry k).deps O.held
  pub visible_held : Within O.visible O.held
  pub visible_closed : (k : ℕ) → has O.visible k ≡ 1 → Within (O.entry k).deps O.visible
  pub gap : (s : ℕ) → s < 31 → has O.held (32 * O.own + (s + 1)) ≡ 1 → has O.held (32 * O.own + s) ≡ 1

-- ---- sound stores say this, and this makes a sound store

pub part_ids : (ws : List ℕ) → ((i : ℕ) → get_or ws i 0 < 2 ^ 32) → (a : ℕ) → a + 8 ≤ length ws → IdSet (part ws a 8)
part_ids ws fit a l = record { eight = part_length ws a 8 l; fits = fits }
  where
    fits : (i : ℕ) → get_or (part ws a 8) i 0 < 2 ^ 32
    fits i = ⊎_elim (λ (h : i < 8). rw (part_at ws a 8 i h) (fit (a + i)))
        (λ (h : 8 ≤ i). rw (lib.ListN.get_or-eq_default (part ws a 8) 0 {n = i} (omega (arith, part_length ws a 8 l))) (lib.Dec.lit< tt))
        (lt_or_le i 8)

pub store_facts : (ws : List ℕ) → Words32 ws → sound_store ws ≡ true → Sound (office_of ws)
unfolding sound_store settings_ok sound_office held_ok gapless office_of entry_at
store_facts ws fit h =
    let a = both_true (both (ring_ok (get_or ws 0 0) (get_or ws 2 0)) (ltb (get_or ws 1 0) (get_or ws 0 0))) _ h in
    let s = both_true (ring_ok (get_or ws 0 0) (get_or ws 2 0)) _ a.0 in
    let b = both_true (leb (need (get_or ws 0 0)) (length ws)) _ a.1 in
    let c = both_true (subset_of O.visible O.held) _ b.1 in
    let d = both_true (all_below 256 (held_ok O)) _ c.1 in
    let R = ring_facts (get_or ws 0 0) (get_or ws 2 0) s.0 in
    facts a.0 R.high (leb-true (need (get_or ws 0 0)) (length ws) b.0) (ltb-true (get_or ws 1 0) (get_or ws 0 0) s.1) c.0 d.0 d.1
  where
    O : Office
    O = office_of ws

    facts : settings_ok (get_or ws 0 0) (get_or ws 1 0) (get_or ws 2 0) ≡ true → get_or ws 0 0 ≤ 8 → need (get_or ws 0 0) ≤ length ws
        → get_or ws 1 0 < get_or ws 0 0 → subset_of (office_of ws).visible (office_of ws).held ≡ true → all_below 256 (held_ok (office_of ws)) ≡ true
        → all_below 31 (gapless (office_of ws)) ≡ true → Sound (office_of ws)
    facts set few long own vh hs gs =
        record {
          settings = set;
          own_low = own;
          few = few;
          held_set = hw;
          visible_set = vw;
          range = λ k m. ltb-true k (32 * get_or ws 0 0) (each k m).0;
          ok = λ k m. (each k m).1;
          none = λ k z. rw (is_out (part ws 3 8) k z);
          office = λ k m. ap (λ (e : Entry). e.office) (at k m);
          serial = λ k m. ap (λ (e : Entry). e.serial) (at k m);
          clock8 = λ k m. ap (λ (e : Entry). length e.clock) (at k m) ∙ part_length ws (slot_at k + 2) 8 (inside k m);
          deps_set = wd;
          held_closed = λ k m. subset_within ((office_of ws).entry k).deps (part ws 3 8) (wd k m) (each k m).2;
          visible_held = subset_within (part ws 11 8) (part ws 3 8) vw vh;
          visible_closed =
              λ k m.
              let mh = subset_within (part ws 11 8) (part ws 3 8) vw vh k m in
              subset_within ((office_of ws).entry k).deps (part ws 11 8) (wd k mh) ((each k mh).3 (is_in_lem (part ws 11 8) k m));
          gap =
              λ s l m.
              in_is (part ws 3 8) (32 * get_or ws 1 0 + s)
              (implies_elim _ _ (all_at (gapless (office_of ws)) 31 gs s l) (is_in_lem (part ws 3 8) (32 * get_or ws 1 0 + (s + 1)) m));
        }
      where
        hw : IdSet (part ws 3 8)
        hw = part_ids ws fit 3 (omega arith)

        vw : IdSet (part ws 11 8)
        vw = part_ids ws fit 11 (omega arith)

        at : (k : ℕ) → has (part ws 3 8) k ≡ 1 → (office_of ws).entry k ≡ entry_at ws k
        at k m = rw (is_in_lem (part ws 3 8) k m)

        each : (k : ℕ) → has (part ws 3 8) k ≡ 1
            → (ltb k (32 * get_or ws 0 0) ≡ true) × (entry_ok (get_or ws 0 0) (get_or ws 2 0) ((office_of ws).entry k) ≡ true) × (subset_of ((office_of ws).entry k).deps (part ws 3 8) ≡ true) × (is_in (part ws 11 8) k ≡ true → subset_of ((office_of ws).entry k).deps (part ws 11 8) ≡ true)
        each k m =
            let k8 : k < 256 = has_in (part ws 3 8) k (omega (arith, hw.eight)) m in
            let x = implies_elim (is_in (part ws 3 8) k) _ (all_at (held_ok (office_of ws)) 256 hs k k8) (is_in_lem (part ws 3 8) k m) in
            let a = both_true (ltb k (32 * get_or ws 0 0)) _ x in
            let b = both_true (entry_ok (get_or ws 0 0) (get_or ws 2 0) ((office_of ws).entry k)) _ a.1 in
            let c = both_true (subset_of ((office_of ws).entry k).deps (part ws 3 8)) _ b.1 in
            (a.0, b.0, c.0, λ t. implies_elim (is_in (part ws 11 8) k) _ c.1 t)

        inside : (k : ℕ) → has (part ws 3 8) k ≡ 1 → slot_at k + 2 + 8 ≤ length ws
        inside k m = omega (arith, ltb-true k (32 * get_or ws 0 0) (each k m).0)

        wd : (k : ℕ) → has (part ws 3 8) k ≡ 1 → IdSet ((office_of ws).entry k).deps
        wd k m =
            rw (ap (λ (e : Entry). e.deps) (at k m))
            (part_ids ws fit (slot_at k + 10) (omega (arith, ltb-true k (32 * get_or ws 0 0) (each k m).0)))

pub sound_canon : (O : Office) → Sound O → Canon O.offices O
sound_canon O S =
    record {
      offices = refl;
      held8 = S.held_set.eight;
      visible8 = S.visible_set.eight;
      range = S.range;
      none = S.none;
      office = S.office;
      serial = S.serial;
      clock8 = S.clock8;
      deps8 = λ k m. (S.deps_set k m).eight;
    }

pub sound_test : (O : Office) → Sound O → sound_office O ≡ true
unfolding sound_office held_ok gapless
sound_test O S =
    both_intro (subset_of O.visible O.held) _ (subset_by O.visible O.held S.visible_set S.held_set S.visible_held)
    (both_intro (all_below 256 (held_ok O)) _ (all_intro (held_ok O) 256 held_ok_lem) (all_intro (gapless O) 31 gaps))
  where
    held_ok_lem : (k : ℕ) → k < 256 → held_ok O k ≡ true
    held_ok_lem k l =
        implies_intro (is_in O.held k) _
        (λ t.
        let h = in_is O.held k t in
        both_intro (ltb k (32 * O.offices)) _ (lt-ltb k (32 * O.offices) (S.range k h))
        (both_intro (entry_ok O.offices O.plots (O.entry k)) _ (S.ok k h)
        (both_intro (subset_of (O.entry k).deps O.held) _ (subset_by (O.entry k).deps O.held (S.deps_set k h) S.held_set (S.held_closed k h))
        (implies_intro (is_in O.visible k) _ (λ u. subset_by (O.entry k).deps O.visible (S.deps_set k h) S.visible_set (S.visible_closed k (in_is O.visible k u)))))))

    gaps : (s : ℕ) → s < 31 → gapless O s ≡ true
    gaps s l =
        implies_intro (is_in O.held (32 * O.own + (s + 1))) (is_in O.held (32 * O.own + s))
        (λ t. is_in_lem O.held (32 * O.own + s) (S.gap s l (in_is O.held (32 * O.own + (s + 1)) t)))

-- "Every content that keeps these rules has a sound store"
pub sound_store_lem : (ws : List ℕ) (O : Office) → Sound O → need O.offices ≤ length ws → sound_store (store_words ws O) ≡ true
unfolding sound_store store_words
sound_store_lem ws O S long =
    both_intro (settings_ok O.offices O.own O.plots) _ S.settings
    (both_intro (leb (need O.offices) (length (store_words ws O))) _ (le-leb (need O.offices) (length (store_words ws O)) (store_long O.offices O (sound_canon O S) ws long))
    (ap sound_office (store_back O.offices O (sound_canon O S) ws long) ∙ sound_test O S))

-- ---- to hold

pub record Takes (O : Office) (e : Entry) : Type 0 where
  pub ok : entry_ok O.offices O.plots e ≡ true
  pub clock8 : length e.clock ≡ 8
  pub deps_set : IdSet e.deps
  pub new : has O.held (id_of e) ≡ 0
  pub deps_held : Within e.deps O.held
  pub next : (s : ℕ) → s < 31 → 32 * O.own + (s + 1) ≡ id_of e → has O.held (32 * O.own + s) ≡ 1

module _ (O : Office) (S : Sound O) (e : Entry) (T : Takes O e) where
  abbrev x : ℕ
  x = id_of e

  F : EntryFacts O.offices O.plots e
  F = entry_facts O.offices O.plots e T.ok

  x_in : id_of e < 32 * O.offices
  x_in = id_range O.offices O.plots e F

  x8 : id_of e < 256
  x8 = omega (arith, x_in, S.few)

  old : (k : ℕ) → has O.held k ≡ 1 → has (inserted O.held (id_of e)) k ≡ 1
  old k h = inserted_old O.held (id_of e) x8 S.held_set k h

  -- a property of what the held id k stands for
  by : (k : ℕ) → has (inserted O.held (id_of e)) k ≡ 1 → (Q : Entry → Type 0) → (k ≡ id_of e → Q e) → (has O.held k ≡ 1 → Q (O.entry k))
      → Q (cond (eqb k (id_of e)) e (O.entry k))
  by k h Q new kept = ⊎_elim (λ (q : k ≡ id_of e). rw (eq-eqb k (id_of e) q) (new q))
      (λ (q : k ≡ id_of e → ⊥).
      rw (ne_eqb k (id_of e) q) (kept (⊎_elim (λ (r : k ≡ id_of e). absurd (q r)) (λ r. r) (in_inserted O.held (id_of e) k x8 S.held_set h))))
      (eq_or_ne k (id_of e))

  none : (k : ℕ) → has (inserted O.held (id_of e)) k ≡ 0 → cond (eqb k (id_of e)) e (O.entry k) ≡ blank_entry
  none k z = ⊎_elim (λ (q : k ≡ id_of e). absurd (here q))
      (λ (q : k ≡ id_of e → ⊥).
      rw (ne_eqb k (id_of e) q) (S.none k (⊎_elim (λ (r : has O.held k ≡ 1). omega (arith, old k r)) (λ r. r) (in_or_out O.held k))))
      (eq_or_ne k (id_of e))
    where
      here : k ≡ id_of e → ⊥
      here q =
          let y : has (inserted O.held (id_of e)) (id_of e) ≡ 0 = rw q at z in omega (arith, inserted_new O.held (id_of e) x8 S.held_set)

  clash : (k : ℕ) → has O.visible k ≡ 1 → k ≡ id_of e → ⊥
  clash k h q = let y : has O.held (id_of e) ≡ 1 = rw q at (S.visible_held k h) in omega (arith, T.new)

  pub hold_sound : Sound (hold O e)
  unfolding hold
  hold_sound =
      record {
        settings = S.settings;
        own_low = S.own_low;
        few = S.few;
        held_set = ids_inserted O.held (id_of e) S.held_set;
        visible_set = S.visible_set;
        range = λ k h. ⊎_elim (λ (q : k ≡ id_of e). rw q x_in) (λ m. S.range k m) (in_inserted O.held (id_of e) k x8 S.held_set h);
        ok = λ k h. by k h (λ a. entry_ok O.offices O.plots a ≡ true) (λ q. T.ok) (S.ok k);
        none = none;
        office =
            λ k h.
            by k h (λ a. a.office ≡ k / 32) (λ q. sym (id_office O.offices O.plots e F) ∙ ap (λ (y : ℕ). y / 32) (sym q)) (S.office k);
        serial =
            λ k h.
            by k h (λ a. a.serial ≡ k % 32 + 1) (λ q. sym (id_serial O.offices O.plots e F) ∙ ap (λ (y : ℕ). y % 32 + 1) (sym q))
            (S.serial k);
        clock8 = λ k h. by k h (λ a. length a.clock ≡ 8) (λ q. T.clock8) (S.clock8 k);
        deps_set = λ k h. by k h (λ a. IdSet a.deps) (λ q. T.deps_set) (S.deps_set k);
        held_closed =
            λ k h.
            by k h (λ a. Within a.deps (inserted O.held (id_of e))) (λ q d m. old d (T.deps_held d m))
            (λ m d j. old d (S.held_closed k m d j));
        visible_held = λ k h. old k (S.visible_held k h);
        visible_closed = λ k h. rw (ne_eqb k (id_of e) (λ q. clash k h q)) (S.visible_closed k h);
        gap =
            λ s l h.
            old (32 * O.own + s)
            (⊎_elim (λ (q : 32 * O.own + (s + 1) ≡ id_of e). T.next s l q) (λ m. S.gap s l m)
            (in_inserted O.held (id_of e) (32 * O.own + (s + 1)) x8 S.held_set h));
      }

-- ---- to reveal

module _ (O : Office) (S : Sound O) (seeds : List ℕ) (ws : IdSet seeds) (inside : Within seeds O.held) where
  abbrev D : ℕ → List ℕ
  D k = (O.entry k).deps

  D-ids : (k : ℕ) → IdSet (O.entry k).deps
  D-ids k = ⊎_elim (λ h. S.deps_set k h) (λ h. rw (ap (λ (e : Entry). e.deps) (S.none k h)) ids_zeros) (in_or_out O.held k)

  ready : Ready D O.held O.visible O.offices seeds
  ready =
      record {
        sets = D-ids;
        visible_set = S.visible_set;
        held_in = S.range;
        held_closed = S.held_closed;
        visible_held = S.visible_held;
        visible_closed = S.visible_closed;
        seeds_held = inside;
      }

  exact : Exactly D O.visible O.offices seeds (revealed D O.offices O.visible seeds).visible (revealed D O.offices O.visible seeds).steps
  exact = revealed_is_reached D O.held O.visible O.offices seeds ready ws

  reached_held : {k : ℕ} → Reached D seeds k → has O.held k ≡ 1
  reached_held (seed {k = k} h) = inside k h
  reached_held (dep {k = k} {j = j} r m) = S.held_closed k (reached_held r) j m

  pub reveal_sound : Sound (reveal O seeds)
  unfolding reveal
  reveal_sound =
      record {
        settings = S.settings;
        own_low = S.own_low;
        few = S.few;
        held_set = S.held_set;
        visible_set = exact.sets;
        range = S.range;
        ok = S.ok;
        none = S.none;
        office = S.office;
        serial = S.serial;
        clock8 = S.clock8;
        deps_set = S.deps_set;
        held_closed = S.held_closed;
        visible_held = λ k h. ⊎_elim (λ a. S.visible_held k a) (λ (r : Reached D seeds k). reached_held r) (exact.only k h);
        visible_closed =
            λ k h d m.
            ⊎_elim (λ a. exact.old d (S.visible_closed k a d m)) (λ (r : Reached D seeds k). exact.all d (dep {j = d} r m)) (exact.only k h);
        gap = S.gap;
      }
