-- To reveal step by step shows the old visible set and just what is reached from the seeds, in as many steps as ids are new.
-- A loop that takes these steps has `State` for its invariant: `start`, `step`, `done`. Assumes nothing.
use Rattle.std.proofs.Common.{◌≡◌, ℕ, zero, suc, ◌+◌, ◌-◌, ◌*◌, ◌<◌, ◌≤◌, true, ◌⊎◌, List, sym, refl, ap, ◌∙◌, inl, inr, ⊎_elim, suc-add, arith, None, Option, Some}
use Rattle.causal.specs.Lists.{sum_below}
use Rattle.causal.specs.Sets.{IdSet, Within, has, inserted, lowest_of, minus, subset_of, unite}
use Rattle.causal.proofs.Lists.{sum_le}
use Rattle.causal.proofs.Sets.{has_in, has_inserted, has_lt, has_minus, ids_inserted, ids_minus, ids_unite, in_inserted, in_unite, inserted_old, lowest_of_at, lowest_of_none, same_words, subset_within, unite_left, unite_right}
use Rattle.store.specs.Reveal.{Reached, dep, revealed, seed, steps}
use Rattle.store.specs.declared.reveal.Revealed.{Revealed}
use Rattle.store.proofs.Counts.{sum_more}

-- what holds before: Held is held, Vis visible
pub record Ready (D : ℕ → List ℕ) (Held Vis : List ℕ) (n : ℕ) (seeds : List ℕ) : Type 0 where
  pub sets : (k : ℕ) → IdSet (D k)
  pub visible_set : IdSet Vis
  pub held_in : (k : ℕ) → has Held k ≡ 1 → k < 32 * n
  pub held_closed : (k : ℕ) → has Held k ≡ 1 → Within (D k) Held
  pub visible_held : Within Vis Held
  pub visible_closed : (k : ℕ) → has Vis k ≡ 1 → Within (D k) Vis
  pub seeds_held : Within seeds Held

-- ---- steps, one at a time

pub step_at : (f : ℕ) (D : ℕ → List ℕ) (p v : List ℕ) (c k : ℕ) → lowest_of (minus p v) ≡ Some k
    → steps (suc f) D p v c ≡ steps f D (unite p (D k)) (inserted v k) (c + 1)
unfolding steps
step_at f D p v c k e = rw (e, steps)

pub step_end : (f : ℕ) (D : ℕ → List ℕ) (p v : List ℕ) (c : ℕ) → lowest_of (minus p v) ≡ None
    → steps f D p v c ≡ record { visible = v; steps = c }
unfolding steps
step_end zero D p v c e = refl
step_end (suc f) D p v c e = rw (e, steps)

-- what the lowest of p without v is
pub record Picked (p v : List ℕ) (k : ℕ) : Type 0 where
  pub below : k < 256
  pub pending : has p k ≡ 1
  pub unseen : has v k ≡ 0

pub picked : (p v : List ℕ) (k : ℕ) → IdSet p → IdSet v → lowest_of (minus p v) ≡ Some k → Picked p v k
picked p v k wp wv e =
    let w = ids_minus p v wp wv in
    let h = (lowest_of_at (minus p v) k w e).member in
    let l = has_in (minus p v) k (omega (arith, w.eight)) h in
    let m : has p k - has v k ≡ 1 = sym (has_minus p v k l) ∙ h in
    record { below = l; pending = omega (arith, has_lt p k, has_lt v k); unseen = omega (arith, has_lt p k, has_lt v k) }

-- seeds that are visible leave nothing to do
pub all_shown : (p v : List ℕ) → IdSet p → IdSet v → subset_of p v ≡ true → lowest_of (minus p v) ≡ None
all_shown p v wp wv h = go (lowest_of (minus p v)) refl
  where
    go : (l : Option ℕ) → lowest_of (minus p v) ≡ l → l ≡ None
    go None e = refl
    go (Some k) e =
        let q = picked p v k wp wv e in
        absurd (omega (arith, q.unseen, subset_within p v wp h k q.pending))

pub emptied : (p v : List ℕ) → IdSet p → lowest_of (minus p v) ≡ None → Within p v
emptied p v wp e k h =
    let l = has_in p k (omega (arith, wp.eight)) h in
    omega (arith, has_minus p v k l, lowest_of_none (minus p v) e k, has_lt v k)

-- ---- what holds at each step

pub record State (D : ℕ → List ℕ) (Held Vis : List ℕ) (n : ℕ) (seeds p v : List ℕ) (c : ℕ) : Type 0 where
  pub wp : IdSet p
  pub wv : IdSet v
  pub held : Within p Held
  pub room : sum_below (32 * n) (has v) ≡ sum_below (32 * n) (has Vis) + c
  pub grows : Within Vis v
  pub seeded : Within seeds p
  pub reached : (k : ℕ) → has p k ≡ 1 → Reached D seeds k
  pub visible : (k : ℕ) → has v k ≡ 1 → (has Vis k ≡ 1) ⊎ (Reached D seeds k × Within (D k) p)

-- what a step that shows k gives
pub record Step (D : ℕ → List ℕ) (Held Vis : List ℕ) (n : ℕ) (seeds p v : List ℕ) (c k : ℕ) : Type 0 where
  pub id : k < 32 * n
  pub fresh : c < 32 * n
  pub next : State D Held Vis n seeds (unite p (D k)) (inserted v k) (c + 1)

-- the set v is the old visible one with all that is reached, which is c ids more
pub record Exactly (D : ℕ → List ℕ) (Vis : List ℕ) (n : ℕ) (seeds v : List ℕ) (c : ℕ) : Type 0 where
  pub new : sum_below (32 * n) (has v) ≡ sum_below (32 * n) (has Vis) + c
  pub sets : IdSet v
  pub only : (k : ℕ) → has v k ≡ 1 → (has Vis k ≡ 1) ⊎ Reached D seeds k
  pub old : (k : ℕ) → has Vis k ≡ 1 → has v k ≡ 1
  pub all : (k : ℕ) → Reached D seeds k → has v k ≡ 1

module _ (D : ℕ → List ℕ) (Held Vis : List ℕ) (n : ℕ) (seeds : List ℕ) (ready : Ready D Held Vis n seeds) where
  pub start : IdSet seeds → State D Held Vis n seeds seeds Vis 0
  start w =
      record {
        wp = w;
        wv = ready.visible_set;
        held = ready.seeds_held;
        room = omega arith;
        grows = λ k h. h;
        seeded = λ k h. h;
        reached = λ k h. seed h;
        visible = λ k h. inl h;
      }

  pub step : (p v : List ℕ) (c k : ℕ) → State D Held Vis n seeds p v c → lowest_of (minus p v) ≡ Some k → Step D Held Vis n seeds p v c k
  step p v c k s e =
      record {
        id = kn;
        fresh = omega (arith, s.room, more, sum_le (has (inserted v k)) (has_lt (inserted v k)) (32 * n));
        next =
            record {
              wp = wu;
              wv = ids_inserted v k s.wv;
              held = λ j h. ⊎_elim (s.held j) (ready.held_closed k (s.held k q.pending) j) (in_unite p d j wu h);
              room = omega (arith, s.room, more);
              grows = λ j h. inserted_old v k q.below s.wv j (s.grows j h);
              seeded = λ j h. unite_left p d s.wp j (s.seeded j h);
              reached = λ j h. ⊎_elim (s.reached j) (λ m. dep (s.reached k q.pending) m) (in_unite p d j wu h);
              visible = λ j h. ⊎_elim (new j) (kept j) (in_inserted v k j q.below s.wv h);
            };
      }
    where
      q : Picked p v k
      q = picked p v k s.wp s.wv e

      d : List ℕ
      d = D k

      wd : IdSet d
      wd = ready.sets k

      wu : IdSet (unite p d)
      wu = ids_unite p d s.wp wd

      kn : k < 32 * n
      kn = ready.held_in k (s.held k q.pending)

      more : sum_below (32 * n) (has (inserted v k)) ≡ sum_below (32 * n) (has v) + 1
      more = sum_more (has v) (has (inserted v k)) k q.unseen (λ j. has_inserted v k j (omega (arith, s.wv.eight, q.below))) (32 * n) kn

      new : (j : ℕ) → j ≡ k → (has Vis j ≡ 1) ⊎ (Reached D seeds j × Within (D j) (unite p d))
      new j r = rw r (inr (s.reached k q.pending, unite_right p d wd))

      kept : (j : ℕ) → has v j ≡ 1 → (has Vis j ≡ 1) ⊎ (Reached D seeds j × Within (D j) (unite p d))
      kept j h = ⊎_elim (λ o. inl o) (λ r. inr (r.0, λ i m. unite_left p d s.wp i (r.1 i m))) (s.visible j h)

  all_in : (p v : List ℕ) (c : ℕ) → State D Held Vis n seeds p v c → Within p v → {k : ℕ} → Reached D seeds k → has v k ≡ 1
  all_in p v c s w (seed {k = k} h) = w k (s.seeded k h)
  all_in p v c s w (dep {k = k} {j = j} r m) =
      ⊎_elim (λ o. s.grows j (ready.visible_closed k o j m)) (λ x. w j (x.1 j m)) (s.visible k (all_in p v c s w r))

  pub done : (p v : List ℕ) (c : ℕ) → State D Held Vis n seeds p v c → lowest_of (minus p v) ≡ None → Exactly D Vis n seeds v c
  done p v c s e =
      record {
        new = s.room;
        sets = s.wv;
        only = λ k h. ⊎_elim (λ o. inl o) (λ x. inr x.0) (s.visible k h);
        old = s.grows;
        all = λ k r. all_in p v c s (emptied p v s.wp e) r;
      }

  abbrev Shows : Revealed → Type 0
  Shows r = Exactly D Vis n seeds r.visible r.steps

  -- with as many steps left as there are ids to show, the walk ends with nothing pending
  pub exact_from : (f : ℕ) (p v : List ℕ) (c : ℕ) → 32 * n ≤ f + c → State D Held Vis n seeds p v c → Shows (steps f D p v c)
  exact_from zero p v c l s = by (lowest_of (minus p v)) refl
    where
      by : (o : Option ℕ) → lowest_of (minus p v) ≡ o → Shows (steps zero D p v c)
      by (Some k) e = absurd (omega (arith, (step p v c k s e).fresh))
      by None e = rw (step_end zero D p v c e) (done p v c s e)
  exact_from (suc f) p v c l s = by (λ k t. exact_from f (unite p (D k)) (inserted v k) (c + 1) (omega arith) t) (lowest_of (minus p v)) refl
    where
      by : ((k : ℕ) → State D Held Vis n seeds (unite p (D k)) (inserted v k) (c + 1) → Shows (steps f D (unite p (D k)) (inserted v k) (c + 1)))
          → (o : Option ℕ) → lowest_of (minus p v) ≡ o → Shows (steps (suc f) D p v c)
      by ih (Some k) e = rw (step_at f D p v c k e) (ih k (step p v c k s e).next)
      by ih None e = rw (step_end (suc f) D p v c e) (done p v c s e)

  -- the walk shows the old visible set and just what is reached from the seeds
  pub revealed_is_reached : IdSet seeds → Exactly D Vis n seeds (revealed D n Vis seeds).visible (revealed D n Vis seeds).steps
  unfolding revealed
  revealed_is_reached w = exact_from (32 * n) seeds Vis 0 (omega arith) (start w)

  -- more fuel changes nothing
  pub fuel_enough : (more f : ℕ) (p v : List ℕ) (c : ℕ) → 32 * n ≤ f + c → State D Held Vis n seeds p v c
      → steps (f + more) D p v c ≡ steps f D p v c
  fuel_enough more zero p v c l s = by (lowest_of (minus p v)) refl
    where
      by : (o : Option ℕ) → lowest_of (minus p v) ≡ o → steps (zero + more) D p v c ≡ steps zero D p v c
      by (Some k) e = absurd (omega (arith, (step p v c k s e).fresh))
      by None e = step_end (zero + more) D p v c e ∙ sym (step_end zero D p v c e)
  fuel_enough more (suc f) p v c l s =
      by (λ k t. fuel_enough more f (unite p (D k)) (inserted v k) (c + 1) (omega arith) t) (lowest_of (minus p v)) refl
    where
      by : ((k : ℕ) → State D Held Vis n seeds (unite p (D k)) (inserted v k) (c + 1)
          → steps (f + more) D (unite p (D k)) (inserted v k) (c + 1) ≡ steps f D (unite p (D k)) (inserted v k) (c + 1))
          → (o : Option ℕ) → lowest_of (minus p v) ≡ o → steps (suc f + more) D p v c ≡ steps (suc f) D p v c
      by ih (Some k) e = rw suc-add (step_at (f + more) D p v c k e ∙ ih k (step p v c k s e).next ∙ sym (step_at f D p v c k e))
      by ih None e = step_end (suc f + more) D p v c e ∙ sym (step_end (suc f) D p v c e)

-- there is one such set and one such count, so any order of the steps gives them
pub exactly_one : (D : ℕ → List ℕ) (Vis : List ℕ) (n : ℕ) (seeds v w : List ℕ) (c d : ℕ) → Exactly D Vis n seeds v c → Exactly D Vis n seeds w d
    → (v ≡ w) × (c ≡ d)
exactly_one D Vis n seeds v w c d x y =
    let e : v ≡ w =
    same_words v w x.sets y.sets (λ k l. agree (has v k) (has w k) (has_lt v k) (has_lt w k) (goes v w c d x y k) (goes w v d c y x k))
    in
    let s : sum_below (32 * n) (has v) ≡ sum_below (32 * n) (has w) = ap (λ (u : List ℕ). sum_below (32 * n) (has u)) e in
    (e, omega (arith, x.new, y.new))
  where
    goes : (a b : List ℕ) (i j : ℕ) → Exactly D Vis n seeds a i → Exactly D Vis n seeds b j → Within a b
    goes a b i j p q k h = ⊎_elim (q.old k) (q.all k) (p.only k h)

    agree : (a b : ℕ) → a < 2 → b < 2 → (a ≡ 1 → b ≡ 1) → (b ≡ 1 → a ≡ 1) → a ≡ b
    agree zero zero p q f g = refl
    agree zero (suc zero) p q f g = g refl
    agree (suc zero) zero p q f g = sym (f refl)
    agree (suc zero) (suc zero) p q f g = refl
    agree zero (suc (suc b)) p q f g = absurd (omega arith)
    agree (suc zero) (suc (suc b)) p q f g = absurd (omega arith)
    agree (suc (suc a)) b p q f g = absurd (omega arith)
