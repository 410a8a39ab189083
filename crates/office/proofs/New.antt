-- The entry that a write makes: its id is new, it keeps the entry rules, and what it depends on. Assumes nothing.
use Prim.Native.Nat.{ℕ, ◌*◌, ◌+◌, ◌<◌, ◌≤◌, max, suc, zero}
use mathlib.Core.Bool.{Bool, cond, false, true}
use mathlib.Core.List.Memᴰ
use mathlib.Core.List.{Memᴰ, map}
use mathlib.Core.Logic.{◌⊎◌, inl, inr, ⊎_elim}
use mathlib.Core.Path.{◌∙◌, ◌≡◌, ap, refl}
use native.Mathlib.Omega.{arith}
use lib.ListN.{get_or, length, length-set, set}
use lib.Seq.{get_or-set_other, get_or-set_same}
use borrow.Author.Tests.{ne_eqb}
use Rattle.causal.specs.Clocks.{join}
use Rattle.causal.specs.Lists.{tab}
use Rattle.causal.specs.Sets.{IdSet, has, is_in}
use Rattle.causal.proofs.Lists.{tab_at, zip8_at}
use Rattle.causal.proofs.Sets.{has_lt, ids_unite, in_is, in_or_out, in_unite, unite_left, unite_right}
use Rattle.causal.proofs.Tests.{eq_or_ne, not_so, split}
use Rattle.frame.specs.Entries.{clock_ok, entry_ok, id_of}
use Rattle.frame.specs.Sessions.{Content, ids_of}
use Rattle.frame.specs.declared.entry.Entry.{Entry}
use Rattle.frame.proofs.Entries.{BoundsFacts, PlaceFacts, clock_facts, facts_clock, facts_entry}
use Rattle.frame.proofs.Ids.{ids_of_lem}
use Rattle.frame.proofs.Sessions.{ids_from, ids_new, ids_set}
use Rattle.store.specs.Offices.{Office, clock_of, clock_place, made, max_to, visible_at}
use Rattle.store.proofs.Counts.{Counted, counted}
use Rattle.office.specs.Calls.{new_entry}

-- ---- the office clock

pub max_le : (f : ℕ → ℕ) (b m : ℕ) → ((k : ℕ) → k < m → f k ≤ b) → max_to f m ≤ b
unfolding max_to
max_le f b zero h = omega arith
max_le f b (suc m) h = omega (arith, max_le f b m (λ k l. h k (omega arith)), h m (omega arith))

pub max_ge : (f : ℕ → ℕ) (m k : ℕ) → k < m → f k ≤ max_to f m
unfolding max_to
max_ge f zero k l = absurd (omega arith)
max_ge f (suc m) k l = ⊎_elim (λ (x : k < m). omega (arith, max_ge f m k x)) (λ (x : k ≡ m). rw x (omega arith)) (split k m l)

-- office o of a ring of n that may make one more entry: its own serials have no gap, and not all 32 are made
pub record Counting (n o : ℕ) (O : Office) : Type 0 where
  pub in_ring : o < n
  pub own_is : O.own ≡ o
  pub offices_is : O.offices ≡ n
  pub gap : (s : ℕ) → s < 31 → has O.held (32 * o + (s + 1)) ≡ 1 → has O.held (32 * o + s) ≡ 1
  pub few : made O < 32

-- a session that may write plot and value there
pub record Writable (n p o : ℕ) (O : Office) (s : Content) (plot value : ℕ) : Type 0 where
  pub count : Counting n o O
  pub high : n ≤ 8
  pub plot_ok : plot < p
  pub value_ok : value < 268435456
  pub clock8 : length s.clock ≡ 8
  pub clock_ok_lem : clock_ok n s.clock ≡ true
  pub read_set : IdSet s.read
  pub own_range : (x : Entry) → Memᴰ x s.own → id_of x < 32 * n
  pub read_range : (d : ℕ) → has s.read d ≡ 1 → d < 32 * n
  pub not_read : has s.read (32 * o + made O) ≡ 0
  pub not_own : Memᴰ (32 * o + made O) (map id_of s.own) → ⊥
  pub visible_ok : (k : ℕ) → has O.visible k ≡ 1 → clock_ok n (O.entry k).clock ≡ true

-- ---- its id

module _ {n o : ℕ} {O : Office} (K : Counting n o O) where
  pub id_is : (s : Content) (plot value : ℕ) → id_of (new_entry O s plot value) ≡ 32 * o + made O
  unfolding new_entry
  id_is s plot value = rw K.own_is (omega arith)

  pub count : Counted (λ s. has O.held (32 * O.own + s)) (λ i. has_lt O.held (32 * O.own + i)) 32
  count =
      counted (λ s. has O.held (32 * O.own + s)) (λ i. has_lt O.held (32 * O.own + i)) 32
      (λ s l h. rw K.own_is (K.gap s (omega arith) (rw K.own_is at h)))

  pub new_not_held : has O.held (32 * o + made O) ≡ 0
  unfolding made
  new_not_held =
      ⊎_elim
      (λ (h : has O.held (32 * o + made O) ≡ 1).
      let h' : has O.held (32 * O.own + made O) ≡ 1 = ap (λ (x : ℕ). has O.held (32 * x + made O)) K.own_is ∙ h in
      absurd (omega (arith, count.below (made O) K.few h')))
      (λ h. h) (in_or_out O.held (32 * o + made O))

  -- the serial before it is held
  pub new_next : (t : ℕ) → t < 31 → 32 * o + (t + 1) ≡ 32 * o + made O → has O.held (32 * o + t) ≡ 1
  unfolding made
  new_next t l q = let a : t < made O = omega arith in rw K.own_is at (count.all t a)

-- ---- its content

module _ {n p o : ℕ} {O : Office} {s : Content} {plot value : ℕ} (W : Writable n p o O s plot value) where
  small8 : (x : Entry) → Memᴰ x s.own → id_of x < 256
  small8 x m = omega (arith, W.own_range x m, W.high)

  pub deps_set : IdSet (new_entry O s plot value).deps
  unfolding new_entry
  deps_set = ids_unite s.read (ids_of s.own) W.read_set (ids_set s.own small8)

  pub deps_from : (d : ℕ) → has (new_entry O s plot value).deps d ≡ 1 → (has s.read d ≡ 1) ⊎ Memᴰ d (map id_of s.own)
  unfolding new_entry
  deps_from d h = ⊎_elim (λ a. inl a) (λ a. inr (ids_from s.own small8 d a)) (in_unite s.read (ids_of s.own) d deps_set h)

  pub deps_to : (d : ℕ) → (has s.read d ≡ 1) ⊎ Memᴰ d (map id_of s.own) → has (new_entry O s plot value).deps d ≡ 1
  unfolding new_entry
  deps_to d (inl h) = unite_left s.read (ids_of s.own) W.read_set d h
  deps_to d (inr m) = unite_right s.read (ids_of s.own) (ids_set s.own small8) d (ids_new s.own small8 d m)

  deps_range : (d : ℕ) → has (new_entry O s plot value).deps d ≡ 1 → d < 32 * n
  deps_range d h =
      ⊎_elim (λ a. W.read_range d a) (λ m. let t = Memᴰ.of_map id_of s.own m in rw (← t.2) (W.own_range t.0 t.1)) (deps_from d h)

  pub new_clock8 : length (new_entry O s plot value).clock ≡ 8
  unfolding new_entry join
  new_clock8 = length-set (join (clock_of O) s.clock) O.own (made O + 1)

  visible_le : (j k : ℕ) → j < 8 → visible_at O j k ≤ 32
  visible_le j k l = go (is_in O.visible k) refl
    where
      go : (t : Bool) → is_in O.visible k ≡ t → cond t (get_or (O.entry k).clock j 0) 0 ≤ 32
      go true t = (clock_facts n (O.entry k).clock (W.visible_ok k (in_is O.visible k t)) j l).small
      go false t = omega arith

  visible_zero : (j k : ℕ) → j < 8 → n ≤ j → visible_at O j k ≤ 0
  visible_zero j k l g = go (is_in O.visible k) refl
    where
      go : (t : Bool) → is_in O.visible k ≡ t → cond t (get_or (O.entry k).clock j 0) 0 ≤ 0
      go true t = omega (arith, (clock_facts n (O.entry k).clock (W.visible_ok k (in_is O.visible k t)) j l).none g)
      go false t = omega arith

  -- place j of the clock
  pub place_at : (j : ℕ) → j < 8 → (j ≡ o → ⊥)
      → get_or (new_entry O s plot value).clock j 0 ≡ max (max_to (visible_at O j) (32 * n)) (get_or s.clock j 0)
  unfolding new_entry join clock_of
  place_at j l ne =
      let ne' : j ≡ O.own → ⊥ = λ q. ne (q ∙ W.count.own_is) in
      get_or-set_other (join (clock_of O) s.clock) O.own j (made O + 1) 0 ne'
      ∙ zip8_at max (tab 8 (clock_place O)) s.clock j l
      ∙ ap (λ (x : ℕ). max x (get_or s.clock j 0)) (tab_at 8 (clock_place O) j 0 l ∙ at_other ne')
    where
      at_other : (j ≡ O.own → ⊥) → clock_place O j ≡ max_to (visible_at O j) (32 * n)
      at_other ne' = rw (ne_eqb j O.own ne') (ap (λ (x : ℕ). max_to (visible_at O j) (32 * x)) W.count.offices_is)

  pub place_own : get_or (new_entry O s plot value).clock o 0 ≡ made O + 1
  unfolding new_entry join
  place_own =
      ap (λ (x : ℕ). get_or (set (join (clock_of O) s.clock) x (made O + 1)) o 0) W.count.own_is
      ∙ get_or-set_same (join (clock_of O) s.clock) o (made O + 1) 0 (omega (arith, W.count.in_ring, W.high))

  new_clock : clock_ok n (new_entry O s plot value).clock ≡ true
  new_clock = facts_clock n (new_entry O s plot value).clock (λ j l. at j l (eq_or_ne j o))
    where
      at : (j : ℕ) → j < 8 → (j ≡ o) ⊎ (j ≡ o → ⊥) → PlaceFacts n j (get_or (new_entry O s plot value).clock j 0)
      at j l (inl q) =
          rw q (record { small = rw place_own (omega (arith, W.count.few)); none = λ g. absurd (omega (arith, W.count.in_ring)) })
      at j l (inr q) =
          let e = place_at j l q in
          let m = clock_facts n s.clock W.clock_ok_lem j l in
          record {
            small = omega (arith, max_le (visible_at O j) 32 (32 * n) (λ k h. visible_le j k l), m.small);
            none = λ g. omega (arith, max_le (visible_at O j) 0 (32 * n) (λ k h. visible_zero j k l g), m.none g);
          }

  new_self : is_in (new_entry O s plot value).deps (id_of (new_entry O s plot value)) ≡ false
  new_self =
      ap (is_in (new_entry O s plot value).deps) (id_is W.count s plot value)
      ∙ not_so _ (λ t. absent (in_is (new_entry O s plot value).deps (32 * o + made O) t))
    where
      absent : has (new_entry O s plot value).deps (32 * o + made O) ≡ 1 → ⊥
      absent h =
          ⊎_elim (λ (a : has s.read (32 * o + made O) ≡ 1). omega (arith, W.not_read)) (λ m. W.not_own m)
          (deps_from (32 * o + made O) h)

  new_bounds : BoundsFacts n p (new_entry O s plot value).office (new_entry O s plot value).serial (new_entry O s plot value).plot (new_entry O s plot value).value
  unfolding new_entry
  new_bounds =
      record {
        office_ok = rw W.count.own_is W.count.in_ring;
        from = omega arith;
        to = omega (arith, W.count.few);
        plot_ok = W.plot_ok;
        value_ok = W.value_ok;
      }

  new_own : get_or (new_entry O s plot value).clock (new_entry O s plot value).office 0 ≡ (new_entry O s plot value).serial
  unfolding new_entry
  new_own = ap (λ (x : ℕ). get_or (new_entry O s plot value).clock x 0) W.count.own_is ∙ place_own

  pub new_ok : entry_ok n p (new_entry O s plot value) ≡ true
  new_ok =
      facts_entry n p (new_entry O s plot value)
      (record {
        bounds = new_bounds;
        own_clock = new_own;
        no_self = new_self;
        clock = new_clock;
        deps = ids_of_lem n (new_entry O s plot value).deps deps_set deps_range;
      })
