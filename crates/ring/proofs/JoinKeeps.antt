-- A join of two sessions keeps the invariant, and is never refused with 11. Assumes nothing.
use Prim.Native.Nat.{ℕ, ◌<◌, ◌≤◌, max}
use mathlib.Core.Bool.{Bool, true}
use mathlib.Core.List.Memᴰ
use mathlib.Core.List.{List, Memᴰ, ◌++◌, map, map-append}
use mathlib.Core.Logic.{◌⊎◌, inl, inr, ⊎_elim}
use mathlib.Core.Path.{◌∙◌, ◌≡◌, ap, refl, sym}
use native.Mathlib.Omega.{arith}
use lib.ListN.{get_or}
use Rattle.causal.specs.Clocks.{join}
use Rattle.causal.specs.Sets.{IdSet, has, is_in, unite}
use Rattle.causal.proofs.Clocks.{join_at}
use Rattle.causal.proofs.Sets.{ids_unite, in_is, in_unite, unite_left, unite_right}
use Rattle.frame.specs.Entries.{id_of, same_content}
use Rattle.frame.specs.Sessions.{ids_of}
use Rattle.frame.specs.declared.entry.Entry.{Entry}
use Rattle.frame.proofs.LeaveOut.{left_from}
use Rattle.frame.proofs.SameContent.{same_refl}
use Rattle.frame.proofs.Sessions.{ids_from}
use Rattle.joining.specs.Joins.{all_alike, joined, not_among}
use Rattle.joining.proofs.Each.{all_alike_by}
use Rattle.store.specs.Offices.{Office}
use Rattle.mesh.specs.Sessions.{Joins}
use Rattle.mesh.proofs.Join.{join_sound}
use Rattle.mesh.proofs.Without.{without_in}
use Rattle.ring.specs.Run.{Tracked}
use Rattle.ring.proofs.Base.{made_range}
use Rattle.ring.proofs.Clocks.{ClockFit}
use Rattle.ring.proofs.Fit.{Sys, TrackedFit, Whole, seen, shape, world, wpast}
use Rattle.ring.proofs.LeaveOut.{left_without}

module _ (n p : ℕ) (two : 2 ≤ n) (eight : n ≤ 8) (E : ℕ → Entry) (P : ℕ → List ℕ) (g : Sys) (w : Whole n p two E P g)
    (a b : Tracked) (in-a : Memᴰ a g.sessions) (in_b : Memᴰ b g.sessions) where
  Fa : TrackedFit n two E P (world g) a.session a.past
  Fa = w.sessions a in-a

  Fb : TrackedFit n two E P (world g) b.session b.past
  Fb = w.sessions b in_b

  small : (e : Entry) → Memᴰ e a.session.own → id_of e < 256
  small e m = omega (arith, made_range n p two eight E P g w (id_of e) (Fa.sound.own_made (id_of e) (Memᴰ.map id_of m)))

  abbrev among : Entry → Bool
  among e = is_in (ids_of a.session.own) (id_of e)

  abbrev Rest : List Entry
  Rest = not_among a.session.own b.session.own

  unite_set : IdSet (unite a.session.read b.session.read)
  unite_set = ids_unite a.session.read b.session.read Fa.fit.read_set Fb.fit.read_set

  -- the join of contents is one on ids
  is_joins : Joins (seen a.session a.past) (seen b.session b.past) (seen (joined a.session b.session) (a.past ++ b.past))
      (map id_of Rest)
  unfolding joined
  is_joins =
      record {
        reads_from = λ r m. in_unite a.session.read b.session.read r unite_set m;
        reads_first = unite_left a.session.read b.session.read Fa.fit.read_set;
        reads_second = unite_right a.session.read b.session.read Fb.fit.read_set;
        left_out =
            left_without among (λ (y : ℕ). Memᴰ y (map id_of a.session.own)) b.session.own
            (λ e m t. ids_from a.session.own small (id_of e) (in_is (ids_of a.session.own) (id_of e) t));
        own_are = map-append id_of a.session.own Rest;
        past_from = λ q m. Memᴰ.append_cases a.past m;
      }

  pub join_fit : TrackedFit n two E P (world g) (joined a.session b.session) (a.past ++ b.past)
  unfolding joined join
  join_fit =
      record {
        sound = join_sound _ _ _ (map id_of Rest) is_joins (shape n two E) (wpast P) (world g) Fa.sound Fb.sound;
        fit =
            record {
              clock8 = refl;
              read_set = unite_set;
              own_is =
                  λ e m.
                  ⊎_elim (λ i. Fa.fit.own_is e i) (λ i. Fb.fit.own_is e (left_from among b.session.own e i).0)
                  (Memᴰ.append_cases a.session.own m);
            };
      }

  -- what both carry is the entry made under its id
  pub join_alike : all_alike b.session.own a.session.own ≡ true
  join_alike =
      all_alike_by b.session.own a.session.own
      (λ e f i j q.
      let same : e ≡ f = Fb.fit.own_is e i ∙ ap E q ∙ sym (Fa.fit.own_is f j) in
      ap (same_content e) (sym same) ∙ same_refl e)

  pub join_clock : (stores : ℕ → Office) → ClockFit n E stores a.session → ClockFit n E stores b.session
      → ClockFit n E stores (joined a.session b.session)
  unfolding joined
  join_clock stores Ka Kb =
      record {
        over = λ k m j l. over k m j l (join_at a.session.clock b.session.clock j l);
        bound = λ j l. omega (arith, join_at a.session.clock b.session.clock j (omega arith), Ka.bound j l, Kb.bound j l);
      }
    where
      over : (k : ℕ) → (has (unite a.session.read b.session.read) k ≡ 1) ⊎ Memᴰ k (map id_of (a.session.own ++ Rest)) → (j : ℕ) → j < 8
          → get_or (join a.session.clock b.session.clock) j 0 ≡ max (get_or a.session.clock j 0) (get_or b.session.clock j 0)
          → get_or (E k).clock j 0 ≤ get_or (join a.session.clock b.session.clock) j 0
      over k (inl m) j l q =
          ⊎_elim (λ i. omega (arith, Ka.over k (inl i) j l)) (λ i. omega (arith, Kb.over k (inl i) j l))
          (in_unite a.session.read b.session.read k unite_set m)
      over k (inr m) j l q =
          ⊎_elim (λ i. omega (arith, Ka.over k (inr i) j l)) (λ i. omega (arith, Kb.over k (inr (without_in is_joins.left_out k i)) j l))
          (Memᴰ.append_cases (map id_of a.session.own) (rw (map-append id_of a.session.own Rest) at m))
