-- The own entries of a session, one after another: those that an office does not hold are held, and the office stays sound.
-- A loop over them has `Along` for its invariant: `start_along`, `along_held`, `along_takes`, `along_new`. Assumes nothing.
use Prim.Native.Nat.{ℕ, ◌*◌, ◌+◌, ◌<◌}
use mathlib.Core.Bool.{Bool, cond, false, true}
use mathlib.Core.List.{List, Memᴰ, [], ◌++◌, ◌∷◌}
use mathlib.Core.Logic.{◌⊎◌, inl, inr, ⊎_elim}
use mathlib.Core.Path.{◌∙◌, ◌≡◌, ap, refl, sym}
use native.Mathlib.Omega.{arith}
use Rattle.causal.specs.Lists.{zeros}
use Rattle.causal.specs.Sets.{IdSet, Within, has, inserted, is_in, unite}
use Rattle.causal.proofs.Sets.{has_zeros, ids_inserted, ids_unite, ids_zeros, in_inserted, in_is, in_or_out, in_unite, inserted_old, out_is, subset_within}
use Rattle.frame.specs.Entries.{entry_ok, id_of}
use Rattle.frame.specs.Sessions.{SaneEntry, leave_out, own_ok}
use Rattle.frame.specs.declared.entry.Entry.{Entry}
use Rattle.frame.proofs.Entries.{EntryFacts, entry_facts}
use Rattle.frame.proofs.Ids.{id_range, inserted_new}
use Rattle.frame.proofs.Sessions.{OwnFacts, ids_with, own_facts}
use Rattle.store.specs.Offices.{Office, hold}
use Rattle.store.proofs.Keep.{Sound, Takes, hold_sound}
use Rattle.office.specs.Calls.{hold_all, missing}
use Rattle.office.proofs.KeepCalls.{Known, away}

-- Oi is O with the missing ones among the entries seen
pub record Along (O Oi : Office) (seen : List ℕ) : Type 0 where
  pub sound : Sound Oi
  pub offices : Oi.offices ≡ O.offices
  pub own : Oi.own ≡ O.own
  pub plots : Oi.plots ≡ O.plots
  pub set : IdSet seen
  pub to : (k : ℕ) → has O.held k ≡ 1 → has Oi.held k ≡ 1
  pub seen_held : (k : ℕ) → has seen k ≡ 1 → has Oi.held k ≡ 1
  pub from : (k : ℕ) → has Oi.held k ≡ 1 → (has O.held k ≡ 1) ⊎ (has seen k ≡ 1)

held_along : {O : Office} (Oi : Office) (seen : List ℕ) (e : Entry) → Along O Oi seen → id_of e < 256 → Sound (hold Oi e)
    → Along O (hold Oi e) (inserted seen (id_of e))
unfolding hold
held_along {O} Oi seen e A x8 H =
    record {
      sound = H;
      offices = A.offices;
      own = A.own;
      plots = A.plots;
      set = ids_inserted seen (id_of e) A.set;
      to = λ k m. inserted_old Oi.held (id_of e) x8 A.sound.held_set k (A.to k m);
      seen_held =
          λ k m.
          ⊎_elim (λ (q : k ≡ id_of e). rw q (inserted_new Oi.held (id_of e) x8 A.sound.held_set))
          (λ i. inserted_old Oi.held (id_of e) x8 A.sound.held_set k (A.seen_held k i)) (in_inserted seen (id_of e) k x8 A.set m);
      from =
          λ k m.
          ⊎_elim (λ (q : k ≡ id_of e). inr (rw q (inserted_new seen (id_of e) x8 A.set)))
          (λ i. ⊎_elim (λ j. inl j) (λ j. inr (inserted_old seen (id_of e) x8 A.set k j)) (A.from k i))
          (in_inserted Oi.held (id_of e) k x8 A.sound.held_set m);
    }

module _ (O : Office) (S : Sound O) (read : List ℕ) (read_set : IdSet read) (read_held : Within read O.held) where
  pub start_along : Along O O zeros
  start_along =
      record {
        sound = S;
        offices = refl;
        own = refl;
        plots = refl;
        set = ids_zeros;
        to = λ k m. m;
        seen_held = λ k (m : has zeros k ≡ 1). absurd (omega (arith, has_zeros k));
        from = λ k m. inl m;
      }

  -- the next own entry e
  module _ (Oi : Office) (seen : List ℕ) (A : Along O Oi seen) (e : Entry) (es : List Entry)
      (F : OwnFacts O.offices O.plots read seen e es) where
    rules : EntryFacts O.offices O.plots e
    rules = entry_facts O.offices O.plots e F.ok

    small : id_of e < 256
    small = omega (arith, id_range O.offices O.plots e rules, S.few)

    -- it is held: nothing changes
    pub along_held : has O.held (id_of e) ≡ 1 → Along O Oi (inserted seen (id_of e))
    along_held h =
        record {
          sound = A.sound;
          offices = A.offices;
          own = A.own;
          plots = A.plots;
          set = ids_inserted seen (id_of e) A.set;
          to = A.to;
          seen_held =
              λ k m.
              ⊎_elim (λ (q : k ≡ id_of e). rw q (A.to (id_of e) h)) (λ i. A.seen_held k i) (in_inserted seen (id_of e) k small A.set m);
          from = λ k m. ⊎_elim (λ i. inl i) (λ i. inr (inserted_old seen (id_of e) small A.set k i)) (A.from k m);
        }

    -- it is not: it may be held
    pub along_takes : has O.held (id_of e) ≡ 0 → SaneEntry e → Known O e → Takes Oi e
    along_takes z sane known =
        record {
          ok = ap (λ (x : ℕ). entry_ok x Oi.plots e) A.offices ∙ ap (λ (x : ℕ). entry_ok O.offices x e) A.plots ∙ F.ok;
          clock8 = sane.clock8;
          deps_set = sane.deps_set;
          new =
              ⊎_elim
              (λ (h : has Oi.held (id_of e) ≡ 1).
              absurd
              (⊎_elim (λ (i : has O.held (id_of e) ≡ 1). omega arith) (λ (i : has seen (id_of e) ≡ 1). omega (arith, F.new)) (A.from (id_of e) h)))
              (λ h. h) (in_or_out Oi.held (id_of e));
          deps_held =
              λ d m.
              ⊎_elim (λ i. A.to d (read_held d i)) (λ i. A.seen_held d i)
              (in_unite read seen d (ids_unite read seen read_set A.set)
              (subset_within e.deps (unite read seen) sane.deps_set F.deps d m));
          next = λ s l q. absurd (away O e O.offices O.plots rules known z s l (ap (λ (x : ℕ). 32 * x + (s + 1)) (sym A.own) ∙ q));
        }

    pub along_new : Takes Oi e → Along O (hold Oi e) (inserted seen (id_of e))
    along_new T = held_along Oi seen e A small (hold_sound Oi A.sound e T)

  -- all of them
  pub along_own : (es : List Entry) (Oi : Office) (seen : List ℕ) → Along O Oi seen → own_ok O.offices O.plots read seen es ≡ true
      → ((e : Entry) → Memᴰ e es → SaneEntry e × Known O e) → Along O (hold_all Oi (missing O es)) (ids_with seen es)
  unfolding hold_all leave_out
  along_own [] Oi seen A h sane = A
  along_own (e ∷ es) Oi seen A h sane =
      go (is_in O.held (id_of e)) refl (own_facts O.offices O.plots read seen e es h) (sane e (Memᴰ.head refl))
      (λ Oj B g. along_own es Oj (inserted seen (id_of e)) B g (λ f m. sane f (Memᴰ.tail m)))
    where
      go : (t : Bool) → is_in O.held (id_of e) ≡ t → OwnFacts O.offices O.plots read seen e es → SaneEntry e × Known O e
          → ((Oj : Office) → Along O Oj (inserted seen (id_of e)) → own_ok O.offices O.plots read (inserted seen (id_of e)) es ≡ true
          → Along O (hold_all Oj (missing O es)) (ids_with (inserted seen (id_of e)) es))
          → Along O (hold_all Oi (cond t (missing O es) (e ∷ missing O es))) (ids_with (inserted seen (id_of e)) es)
      go true t F sk next = next Oi (along_held Oi seen A e es F (in_is O.held (id_of e) t)) F.rest
      go false t F sk next =
          next (hold Oi e) (along_new Oi seen A e es F (along_takes Oi seen A e es F (out_is O.held (id_of e) t) sk.0 sk.1)) F.rest

-- one entry more
pub hold_end : (O : Office) (es : List Entry) (e : Entry) → hold_all O (es ++ (e ∷ [])) ≡ hold (hold_all O es) e
unfolding hold_all
hold_end O [] e = refl
hold_end O (x ∷ es) e = hold_end (hold O x) es e
