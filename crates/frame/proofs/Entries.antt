-- What the entry and frame rules say, as facts, both ways; rank is a strict total order on entries that keep them. Assumes nothing.
use Rattle.std.proofs.Common.{◌≡◌, ℕ, ◌-◌, ◌<◌, ◌≤◌, Bool, true, false, cond, not, eqb, ltb, leb, List, length, get_or, sym, refl, ap, ◌∙◌, ⊎_elim, arith, ltb-true, le-ltb, lt-ltb, eq-eqb, eqb-true, le-leb, leb-true}
use lib.ListN.{get_or-eq_default}
use borrow.Author.Tests.{not-true}
use Rattle.causal.specs.Tests.{both, either}
use Rattle.causal.specs.Sets.{is_in}
use Rattle.causal.proofs.Tests.{both_true, both_one, all_at, all_intro, lt_or_le}
use Rattle.causal.proofs.Ranks.{above_irrefl, above_trans, above_total}
use Rattle.frame.specs.declared.entry.Entry.{Entry}
use Rattle.frame.specs.declared.entry.Frame.{Frame}
use Rattle.frame.specs.Entries.{id_of, clock_place_ok, clock_ok, ids_place_ok, ids_ok, bounds_ok, entry_ok, outranks}
use Rattle.frame.specs.Frames.{ring_ok, frame_ok}

-- ---- the settings of a ring

pub record RingFacts (n p : ℕ) : Type 0 where
  pub low : 2 ≤ n
  pub high : n ≤ 8
  pub from : 1 ≤ p
  pub to : p ≤ 64

pub ring_facts : (n p : ℕ) → ring_ok n p ≡ true → RingFacts n p
unfolding ring_ok
ring_facts n p e =
    let a = both_true (leb 2 n) _ e in
    let b = both_true (leb n 8) _ a.1 in
    let c = both_true (leb 1 p) _ b.1 in
    record { low = leb-true 2 n a.0; high = leb-true n 8 b.0; from = leb-true 1 p c.0; to = leb-true p 64 c.1 }

pub facts_ring : (n p : ℕ) → RingFacts n p → ring_ok n p ≡ true
unfolding ring_ok both
facts_ring n p f = rw (le-leb 2 n f.low, le-leb n 8 f.high, le-leb 1 p f.from, le-leb p 64 f.to) refl

-- ---- clocks and sets in range

-- place j of a clock
pub record PlaceFacts (n j c : ℕ) : Type 0 where
  pub small : c ≤ 32
  pub none : n ≤ j → c ≡ 0

place_facts : (n j c : ℕ) → cond (ltb j n) (leb c 32) (eqb c 0) ≡ true → PlaceFacts n j c
place_facts n j c e = ⊎_elim within beyond (lt_or_le j n)
  where
    within : j < n → PlaceFacts n j c
    within l = record { small = leb-true c 32 (rw (lt-ltb j n l) at e); none = λ m. absurd (omega arith) }

    beyond : n ≤ j → PlaceFacts n j c
    beyond l = let z : c ≡ 0 = eqb-true c 0 (rw (le-ltb j n l) at e) in record { small = omega arith; none = λ m. z }

facts_place : (n j c : ℕ) → PlaceFacts n j c → cond (ltb j n) (leb c 32) (eqb c 0) ≡ true
facts_place n j c f = ⊎_elim within beyond (lt_or_le j n)
  where
    within : j < n → cond (ltb j n) (leb c 32) (eqb c 0) ≡ true
    within l = rw (lt-ltb j n l) (le-leb c 32 f.small)

    beyond : n ≤ j → cond (ltb j n) (leb c 32) (eqb c 0) ≡ true
    beyond l = rw (le-ltb j n l) (eq-eqb c 0 (f.none l))

pub clock_facts : (n : ℕ) (c : List ℕ) → clock_ok n c ≡ true → (j : ℕ) → j < 8 → PlaceFacts n j (get_or c j 0)
unfolding clock_ok clock_place_ok
clock_facts n c e j h = place_facts n j (get_or c j 0) (all_at (clock_place_ok n c) 8 e j h)

pub facts_clock : (n : ℕ) (c : List ℕ) → ((j : ℕ) → j < 8 → PlaceFacts n j (get_or c j 0)) → clock_ok n c ≡ true
unfolding clock_ok clock_place_ok
facts_clock n c f = all_intro (clock_place_ok n c) 8 (λ j h. facts_place n j (get_or c j 0) (f j h))

pub ids_facts : (n : ℕ) (s : List ℕ) → ids_ok n s ≡ true → (j : ℕ) → j < 8 → n ≤ j → get_or s j 0 ≡ 0
unfolding ids_ok ids_place_ok either
ids_facts n s e j h l =
    let t : either (ltb j n) (eqb (get_or s j 0) 0) ≡ true = all_at (ids_place_ok n s) 8 e j h in
    eqb-true (get_or s j 0) 0 (rw (le-ltb j n l) at t)

pub facts_ids : (n : ℕ) (s : List ℕ) → ((j : ℕ) → j < 8 → n ≤ j → get_or s j 0 ≡ 0) → ids_ok n s ≡ true
unfolding ids_ok ids_place_ok either
facts_ids n s f = all_intro (ids_place_ok n s) 8 word
  where
    word : (j : ℕ) → j < 8 → either (ltb j n) (eqb (get_or s j 0) 0) ≡ true
    word j h =
        ⊎_elim (λ (l : j < n). rw (lt-ltb j n l) refl) (λ (l : n ≤ j). rw (le-ltb j n l) (eq-eqb (get_or s j 0) 0 (f j h l))) (lt_or_le j n)

-- ---- entries

pub record BoundsFacts (n p office serial plot value : ℕ) : Type 0 where
  pub office_ok : office < n
  pub from : 1 ≤ serial
  pub to : serial ≤ 32
  pub plot_ok : plot < p
  pub value_ok : value < 268435456

pub bounds_facts : (n p o s q v : ℕ) → bounds_ok n p o s q v ≡ true → BoundsFacts n p o s q v
unfolding bounds_ok
bounds_facts n p o s q v e =
    let a = both_true (ltb o n) _ e in
    let b = both_true (leb 1 s) _ a.1 in
    let c = both_true (leb s 32) _ b.1 in
    let d = both_true (ltb q p) _ c.1 in
    record {
      office_ok = ltb-true o n a.0;
      from = leb-true 1 s b.0;
      to = leb-true s 32 c.0;
      plot_ok = ltb-true q p d.0;
      value_ok = ltb-true v 268435456 d.1;
    }

pub facts_bounds : (n p o s q v : ℕ) → BoundsFacts n p o s q v → bounds_ok n p o s q v ≡ true
unfolding bounds_ok both
facts_bounds n p o s q v f =
    rw (lt-ltb o n f.office_ok, le-leb 1 s f.from, le-leb s 32 f.to, lt-ltb q p f.plot_ok, lt-ltb v 268435456 f.value_ok) refl

pub record EntryFacts (n p : ℕ) (e : Entry) : Type 0 where
  pub bounds : BoundsFacts n p e.office e.serial e.plot e.value
  pub own_clock : get_or e.clock e.office 0 ≡ e.serial
  pub no_self : is_in e.deps (id_of e) ≡ false
  pub clock : clock_ok n e.clock ≡ true
  pub deps : ids_ok n e.deps ≡ true

pub entry_facts : (n p : ℕ) (e : Entry) → entry_ok n p e ≡ true → EntryFacts n p e
unfolding entry_ok
entry_facts n p e h =
    let a = both_true (bounds_ok n p e.office e.serial e.plot e.value) _ h in
    let b = both_true (eqb (get_or e.clock e.office 0) e.serial) _ a.1 in
    let c = both_true (not (is_in e.deps (id_of e))) _ b.1 in
    let d = both_true (clock_ok n e.clock) _ c.1 in
    record {
      bounds = bounds_facts n p e.office e.serial e.plot e.value a.0;
      own_clock = eqb-true (get_or e.clock e.office 0) e.serial b.0;
      no_self = not-true _ c.0;
      clock = d.0;
      deps = d.1;
    }

-- no clock of eight has a number for a ninth office, so no entry of such an office keeps the rules
pub far_entry : (n p : ℕ) (e : Entry) → length e.clock ≡ 8 → 7 < e.office → entry_ok n p e ≡ false
far_entry n p e l far = go (entry_ok n p e) refl
  where
    go : (b : Bool) → entry_ok n p e ≡ b → b ≡ false
    go false q = refl
    go true q =
        let f = entry_facts n p e q in
        let z : get_or e.clock e.office 0 ≡ 0 = get_or-eq_default e.clock 0 (omega arith) in
        absurd (omega (arith, f.own_clock, f.bounds.from, z))

pub facts_entry : (n p : ℕ) (e : Entry) → EntryFacts n p e → entry_ok n p e ≡ true
unfolding entry_ok both
facts_entry n p e f =
    rw (
      facts_bounds n p e.office e.serial e.plot e.value f.bounds,
      eq-eqb (get_or e.clock e.office 0) e.serial f.own_clock,
      f.no_self,
      f.clock,
      f.deps,
    )
    refl

-- what keeps the rules for p plots keeps them for more
pub entry_wider : (n p q : ℕ) (e : Entry) → p ≤ q → entry_ok n p e ≡ true → entry_ok n q e ≡ true
entry_wider n p q e l h =
    let f = entry_facts n p e h in
    facts_entry n q e (record { bounds = omega arith; own_clock = f.own_clock; no_self = f.no_self; clock = f.clock; deps = f.deps })

-- ---- frames

pub record FrameFacts (n p : ℕ) (f : Frame) : Type 0 where
  pub ring : f.offices ≡ n
  pub low : 2 ≤ n
  pub high : n ≤ 8
  pub hops_ok : f.hops ≤ n - 2
  pub entry : entry_ok n p f.entry ≡ true

pub frame_facts : (n p : ℕ) (f : Frame) → frame_ok n p f ≡ true → FrameFacts n p f
unfolding frame_ok
frame_facts n p f h =
    let a = both_true (eqb f.offices n) _ h in
    let b = both_true (leb 2 n) _ a.1 in
    let c = both_true (leb n 8) _ b.1 in
    let d = both_true (leb f.hops (n - 2)) _ c.1 in
    record {
      ring = eqb-true f.offices n a.0;
      low = leb-true 2 n b.0;
      high = leb-true n 8 c.0;
      hops_ok = leb-true f.hops (n - 2) d.0;
      entry = d.1;
    }

pub facts_frame : (n p : ℕ) (f : Frame) → FrameFacts n p f → frame_ok n p f ≡ true
unfolding frame_ok both
facts_frame n p f h =
    rw (eq-eqb f.offices n h.ring, le-leb 2 n h.low, le-leb n 8 h.high, le-leb f.hops (n - 2) h.hops_ok) h.entry

-- what is a frame for p plots is one for more
pub frame_wider : (n p q : ℕ) (f : Frame) → p ≤ q → frame_ok n p f ≡ true → frame_ok f.offices q f ≡ true
frame_wider n p q f l h =
    let a = frame_facts n p f h in
    facts_frame f.offices q f
    (record {
      ring = refl;
      low = rw a.ring a.low;
      high = rw a.ring a.high;
      hops_ok = rw a.ring a.hops_ok;
      entry = rw a.ring (entry_wider n p q f.entry l a.entry);
    })

-- ---- rank

pub outranks_irrefl : (e : Entry) → outranks e e ≡ false
unfolding outranks
outranks_irrefl e = above_irrefl e.clock e.office

pub outranks_trans : (a b c : Entry) → outranks a b ≡ true → outranks b c ≡ true → outranks a c ≡ true
unfolding outranks
outranks_trans a b c = above_trans a.clock b.clock c.clock a.office b.office c.office

-- two entries that keep the rules, neither of which outranks the other, have the same id
pub outranks_total : (n p m q : ℕ) (e f : Entry) → entry_ok n p e ≡ true → entry_ok m q f ≡ true → length e.clock ≡ length f.clock
    → outranks e f ≡ false → outranks f e ≡ false → id_of e ≡ id_of f
unfolding outranks
outranks_total n p m q e f a b l u v =
    let r = above_total e.clock f.clock e.office f.office l u v in
    let s : e.serial ≡ f.serial =
    sym (entry_facts n p e a).own_clock ∙ ap (λ (c : List ℕ). get_or c e.office 0) r.0 ∙ ap (λ (o : ℕ). get_or f.clock o 0) r.1 ∙ (entry_facts m q f b).own_clock
    in
    omega (arith, r.1)
