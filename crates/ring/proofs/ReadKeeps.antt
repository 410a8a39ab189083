-- A reading, single or joint, keeps the invariant, and is never refused with 10, 11 or 12. What it hands back is not outranked by the past.
-- Assumes nothing.
use Rattle.std.proofs.Common.{None, Some}
use Prim.Native.Nat.{ℕ, ◌*◌, ◌/◌, ◌<◌, ◌≤◌}
use mathlib.Core.Bool.{Bool, cond, false, true}
use mathlib.Core.List.{List, Memᴰ, [], ◌++◌, ◌∷◌, map}
use mathlib.Core.Logic.{◌⊎◌, inl, inr, ⊎_elim}
use mathlib.Core.Path.{◌∙◌, ◌≡◌, ap, refl, sym}
use native.Mathlib.Omega.{arith}
use lib.Dec.{eqb, leb, ltb}
use lib.ListN.{length, set}
use borrow.Author.Tests.{eq-eqb, eqb-true}
use Rattle.causal.specs.Clocks.{join}
use Rattle.causal.specs.Codes.{check}
use Rattle.causal.specs.Sets.{IdSet, has}
use Rattle.causal.specs.Tests.{both}
use Rattle.causal.proofs.Sets.{ids_inserted, in_inserted, inserted_old}
use Rattle.causal.proofs.Tests.{false_true}
use Rattle.frame.specs.Calls.{laid}
use Rattle.frame.specs.Entries.{id_of}
use Rattle.frame.specs.Sessions.{Content, session_ok}
use Rattle.frame.specs.declared.entry.Entry.{Entry}
use Rattle.frame.specs.declared.entry.Frame.{Frame}
use Rattle.frame.proofs.Ids.{inserted_new}
use Rattle.store.specs.Offices.{Found, Office, current, reveal}
use Rattle.store.proofs.Best.{Over, current_from, current_over, own_from, own_keeps, own_over}
use Rattle.office.specs.Calls.{Result, answer_words, given, handed, handed_all, joint_code, joint_on, noted, noted_all, plots_ok, read_all, read_code, read_on, refusal}
use Rattle.mesh.specs.Ring.{Shape}
use Rattle.mesh.specs.Sessions.{SoundSession, TakesIn}
use Rattle.mesh.specs.World.{Inv, Reach, Reveal, self}
use Rattle.mesh.proofs.Carry.{reached_held}
use Rattle.mesh.proofs.Reveal.{reveal_inv}
use Rattle.mesh.proofs.Sessions.{past_known, past_made, sound_later, take_sound, take_visible}
use Rattle.ring.specs.Run.{Event, Made, Tracked, gained, over_contents, read_by, read_in, refused_by, together, writer_past}
use Rattle.ring.proofs.Base.{Fine, dep_made, events_more, held_made, made_range, read_held, read_within, refused_whole, revealing, visible_held}
use Rattle.ring.proofs.Change.{Changed, Never}
use Rattle.ring.proofs.Fit.{Agrees, OfficeFit, Sys, TrackedFit, Whole, ids, mem_set, seen, shape, upd_case, upd_said, upd_same, world, wpast}
use Rattle.ring.proofs.Together.{together_from, together_in}

-- ---- what a reading notes

module _ (f : Found) (s : Content) where
  noted_own : (noted f s).own ≡ s.own
  unfolding noted
  noted_own = go f
    where
      go : (x : Found) → (noted x s).own ≡ s.own
      go None = refl
      go (Some e) = refl

noted_set : (f : Found) (s : Content) → IdSet s.read → IdSet (noted f s).read
unfolding noted
noted_set None s w = w
noted_set (Some e) s w = ids_inserted s.read (id_of e) w

noted_clock : (f : Found) (s : Content) → length s.clock ≡ 8 → length (noted f s).clock ≡ 8
unfolding noted join
noted_clock None s w = w
noted_clock (Some e) s w = refl

noted_from : (f : Found) (s : Content) → ((h : Entry) → f ≡ Some h → id_of h < 256) → IdSet s.read → (k : ℕ) → has (noted f s).read k ≡ 1
    → ((h : Entry) × (f ≡ Some h) × (k ≡ id_of h)) ⊎ (has s.read k ≡ 1)
unfolding noted
noted_from None s b w k h = inr h
noted_from (Some e) s b w k h = ⊎_elim (λ q. inl (e, refl, q)) (λ m. inr m) (in_inserted s.read (id_of e) k (b e refl) w h)

noted_to : (f : Found) (s : Content) → ((h : Entry) → f ≡ Some h → id_of h < 256) → IdSet s.read → (k : ℕ) → has s.read k ≡ 1
    → has (noted f s).read k ≡ 1
unfolding noted
noted_to None s b w k h = h
noted_to (Some e) s b w k h = inserted_old s.read (id_of e) (b e refl) w k h

noted_new : (f : Found) (s : Content) → ((h : Entry) → f ≡ Some h → id_of h < 256) → IdSet s.read → (h : Entry) → f ≡ Some h
    → has (noted f s).read (id_of h) ≡ 1
unfolding noted
noted_new None s b w h q = let z : ◌≡◌ {A = ℕ} 0 1 = cc in absurd (omega arith)
noted_new (Some e) s b w h q = let r : h ≡ e = cc in rw r (inserted_new s.read (id_of e) (b e refl) w)

-- what is on the plots
abbrev pub On : Office → List ℕ → ℕ → Type 0
On O plots k = (q : ℕ) × (h : Entry) × Memᴰ q plots × (current O q ≡ Some h) × (k ≡ id_of h)

module _ (O : Office) (small : (q : ℕ) (h : Entry) → current O q ≡ Some h → id_of h < 256) where
  all_own : (qs : List ℕ) (s : Content) → (noted_all O qs s).own ≡ s.own
  unfolding noted_all
  all_own [] s = refl
  all_own (q ∷ qs) s = all_own qs (noted (current O q) s) ∙ noted_own (current O q) s

  all_sets : (qs : List ℕ) (s : Content) → IdSet s.read → IdSet (noted_all O qs s).read
  unfolding noted_all
  all_sets [] s w = w
  all_sets (q ∷ qs) s w = all_sets qs (noted (current O q) s) (noted_set (current O q) s w)

  all_clock : (qs : List ℕ) (s : Content) → length s.clock ≡ 8 → length (noted_all O qs s).clock ≡ 8
  unfolding noted_all
  all_clock [] s w = w
  all_clock (q ∷ qs) s w = all_clock qs (noted (current O q) s) (noted_clock (current O q) s w)

  all_to : (qs : List ℕ) (s : Content) → IdSet s.read → (k : ℕ) → has s.read k ≡ 1 → has (noted_all O qs s).read k ≡ 1
  unfolding noted_all
  all_to [] s w k h = h
  all_to (q ∷ qs) s w k h = all_to qs (noted (current O q) s) (noted_set (current O q) s w) k (noted_to (current O q) s (small q) w k h)

  all_from : (qs : List ℕ) (s : Content) → IdSet s.read → (k : ℕ) → has (noted_all O qs s).read k ≡ 1 → On O qs k ⊎ (has s.read k ≡ 1)
  unfolding noted_all
  all_from [] s w k h = inr h
  all_from (q ∷ qs) s w k h =
      ⊎_elim (λ (t : On O qs k). inl (t.0, t.1, mathlib.Core.List.Memᴰ.tail t.2, t.3, t.4))
      (λ (m : has (noted (current O q) s).read k ≡ 1).
      ⊎_elim (λ (t : (h : Entry) × (current O q ≡ Some h) × (k ≡ id_of h)). inl (q, t.0, mathlib.Core.List.Memᴰ.head refl, t.1, t.2)) (λ r. inr r)
      (noted_from (current O q) s (small q) w k m)) (all_from qs (noted (current O q) s) (noted_set (current O q) s w) k h)

  all_new : (qs : List ℕ) (s : Content) → IdSet s.read → (k : ℕ) → On O qs k → has (noted_all O qs s).read k ≡ 1
  unfolding noted_all
  all_new [] s w k t = absurd (mathlib.Core.List.Memᴰ.not-nil t.2)
  all_new (q ∷ qs) s w k t =
      ⊎_elim
      (λ (e : t.0 ≡ q).
      all_to qs (noted (current O q) s) (noted_set (current O q) s w) k (rw t.4 (noted_new (current O q) s (small q) w t.1 (ap (current O) (sym e) ∙ t.3))))
      (λ m. all_new qs (noted (current O q) s) (noted_set (current O q) s w) k (t.0, t.1, m, t.3, t.4)) (mathlib.Core.List.Memᴰ.cases_cons t.2)

-- ---- the past

writer_in : (E : ℕ → Entry) (P : ℕ → List ℕ) (log : List Made) → Agrees E P log → (k q : ℕ) → Memᴰ q (writer_past log k) → Memᴰ q (P k)
unfolding writer_past
writer_in E P [] A k q m = absurd (mathlib.Core.List.Memᴰ.not-nil m)
writer_in E P (x ∷ l) A k q m =
    go (eqb (id_of x.entry) k) refl m
    (λ i. writer_in E P l (record { entry = λ y j. A.entry y (mathlib.Core.List.Memᴰ.tail j); past = λ y j. A.past y (mathlib.Core.List.Memᴰ.tail j) }) k q i)
  where
    go : (t : Bool) → eqb (id_of x.entry) k ≡ t → Memᴰ q (cond t x.past (writer_past l k))
        → (Memᴰ q (writer_past l k) → Memᴰ q (P k)) → Memᴰ q (P k)
    go true t i ih =
        let e : id_of x.entry ≡ k = eqb-true (id_of x.entry) k t in
        let a : P k ≡ x.past = ap P (sym e) ∙ A.past x (mathlib.Core.List.Memᴰ.head refl) in rw a i
    go false t i ih = ih i

gained_from : (E : ℕ → Entry) (P : ℕ → List ℕ) (log : List Made) → Agrees E P log → (fs : List Found) (past : List ℕ) (q : ℕ)
    → Memᴰ q (gained log fs past) →
    Memᴰ q past ⊎ ((x : ℕ) × ((h : Entry) × Memᴰ (Some h) fs × (x ≡ id_of h)) × ((q ≡ x) ⊎ Memᴰ q (P x)))
unfolding gained
gained_from E P log A [] past q m = inl m
gained_from E P log A (None ∷ fs) past q m =
    ⊎_elim (λ i. inl i)
    (λ (t : (x : ℕ) × ((h : Entry) × Memᴰ (Some h) fs × (x ≡ id_of h)) × ((q ≡ x) ⊎ Memᴰ q (P x))). inr
    (t.0, (t.1.0, mathlib.Core.List.Memᴰ.tail t.1.1, t.1.2), t.2))
    (gained_from E P log A fs past q m)
gained_from E P log A (Some e ∷ fs) past q m =
    ⊎_elim
    (λ (i : Memᴰ q (id_of e ∷ (writer_past log (id_of e) ++ past))).
    ⊎_elim (λ (y : q ≡ id_of e). inr (id_of e, (e, mathlib.Core.List.Memᴰ.head refl, refl), inl y))
    (λ j. ⊎_elim (λ z. inr (id_of e, (e, mathlib.Core.List.Memᴰ.head refl, refl), inr (writer_in E P log A (id_of e) q z))) (λ z. inl z) (mathlib.Core.List.Memᴰ.append_cases (writer_past log (id_of e)) j)) (mathlib.Core.List.Memᴰ.cases_cons i))
    (λ (t : (x : ℕ) × ((h : Entry) × Memᴰ (Some h) fs × (x ≡ id_of h)) × ((q ≡ x) ⊎ Memᴰ q (P x))). inr
    (t.0, (t.1.0, mathlib.Core.List.Memᴰ.tail t.1.1, t.1.2), t.2))
    (gained_from E P log A fs (id_of e ∷ (writer_past log (id_of e) ++ past)) q m)

-- .. and to it

writer_is : (E : ℕ → Entry) (P : ℕ → List ℕ) (log : List Made) → Agrees E P log → (k : ℕ) → Memᴰ k (ids log) → writer_past log k ≡ P k
unfolding writer_past
writer_is E P [] A k m = absurd (mathlib.Core.List.Memᴰ.not-nil m)
writer_is E P (x ∷ l) A k m =
    go (eqb (id_of x.entry) k) refl
    (λ i. writer_is E P l (record { entry = λ y j. A.entry y (mathlib.Core.List.Memᴰ.tail j); past = λ y j. A.past y (mathlib.Core.List.Memᴰ.tail j) }) k i)
  where
    go : (t : Bool) → eqb (id_of x.entry) k ≡ t → (Memᴰ k (ids l) → writer_past l k ≡ P k) → cond t x.past (writer_past l k) ≡ P k
    go true t ih = sym (A.past x (mathlib.Core.List.Memᴰ.head refl)) ∙ ap P (eqb-true (id_of x.entry) k t)
    go false t ih =
        ih (⊎_elim (λ (e : k ≡ id_of x.entry). false_true (sym t ∙ eq-eqb (id_of x.entry) k (sym e))) (λ i. i) (mathlib.Core.List.Memᴰ.cases_cons m))

pub gained_keeps : (log : List Made) (fs : List Found) (past : List ℕ) (q : ℕ) → Memᴰ q past → Memᴰ q (gained log fs past)
unfolding gained
gained_keeps log [] past q m = m
gained_keeps log (None ∷ fs) past q m = gained_keeps log fs past q m
gained_keeps log (Some e ∷ fs) past q m = gained_keeps log fs _ q (mathlib.Core.List.Memᴰ.tail (mathlib.Core.List.Memᴰ.append_right (writer_past log (id_of e)) m))

gained_new : (log : List Made) (fs : List Found) (past : List ℕ) (h : Entry) → Memᴰ (Some h) fs
    → Memᴰ (id_of h) (gained log fs past) × ((q : ℕ) → Memᴰ q (writer_past log (id_of h)) → Memᴰ q (gained log fs past))
unfolding gained
gained_new log [] past h m = absurd (mathlib.Core.List.Memᴰ.not-nil m)
gained_new log (None ∷ fs) past h m =
    gained_new log fs past h (⊎_elim (λ (e : Some h ≡ None). let z : ◌≡◌ {A = ℕ} 0 1 = cc in absurd (omega arith)) (λ i. i) (mathlib.Core.List.Memᴰ.cases_cons m))
gained_new log (Some e ∷ fs) past h m =
    ⊎_elim
    (λ (x : Some h ≡ Some e).
    let y : h ≡ e = cc in
    rw y (
      gained_keeps log fs _ (id_of e) (mathlib.Core.List.Memᴰ.head refl),
      λ q j. gained_keeps log fs _ q (mathlib.Core.List.Memᴰ.tail (mathlib.Core.List.Memᴰ.append_left past j)),
    ))
    (λ i. gained_new log fs _ h i) (mathlib.Core.List.Memᴰ.cases_cons m)

-- "An accepted reading adds": what the session's past had before, it has after, and at the reading
pub reading_adds : (n : ℕ) (g : Sys) (o i : ℕ) (r : Tracked) (plots : List ℕ) (R : Result Office Frame)
    → ((x : Tracked) × ((read_in over_contents n g o i r plots R).sessions ≡ set g.sessions i x) × ((k : ℕ) → Memᴰ k r.past → Memᴰ k x.past))
    × ((v : Event) × ((read_in over_contents n g o i r plots R).events ≡ g.events ++ (v ∷ [])) × ((k : ℕ) → Memᴰ k r.past → Memᴰ k v.past))
reading_adds n g o i r plots R =
    ((_, refl, λ k m. gained_keeps g.log R.found r.past k m), (_, refl, λ k m. gained_keeps g.log R.found r.past k m))

-- ---- a reading of plots that hands back fs and leaves the session s'

pub record Reads (O1 : Office) (s s' : Content) (plots : List ℕ) (fs : List Found) : Type 0 where
  pub handed : (h : Entry) → Memᴰ (Some h) fs → On O1 plots (id_of h) ⊎ Memᴰ h s.own
  pub on_plot : (q : ℕ) (h : Entry) → Memᴰ (q, Some h) (together plots fs) → (current O1 q ≡ Some h) ⊎ (Memᴰ h s.own × (h.plot ≡ q))
  pub reads_from : (k : ℕ) → has s'.read k ≡ 1 → On O1 plots k ⊎ (has s.read k ≡ 1)
  pub reads_to : (k : ℕ) → has s.read k ≡ 1 → has s'.read k ≡ 1
  pub reads_new : (k : ℕ) → On O1 plots k → has s'.read k ≡ 1
  pub own_are : s'.own ≡ s.own
  pub read_set : IdSet s'.read
  pub clock8 : length s'.clock ≡ 8
  pub over_visible : (q : ℕ) (f : Found) → Memᴰ (q, f) (together plots fs) → (e : Entry) → Over (current O1 q) e → Over f e
  pub over_own : (q : ℕ) (f : Found) → Memᴰ (q, f) (together plots fs) → (e : Entry) → Memᴰ e s.own → e.plot ≡ q → Over f e

module _ (n p : ℕ) (two : 2 ≤ n) (eight : n ≤ 8) (E : ℕ → Entry) (P : ℕ → List ℕ) (g : Sys) (w : Whole n p two E P g) (A : Agrees E P g.log)
    (o : ℕ) (lt : o < n) (i : ℕ) (r : Tracked) (in-r : Memᴰ r g.sessions) where
  abbrev S' : Shape
  S' = shape n two E

  abbrev s : Content
  s = r.session

  F : TrackedFit n two E P (world g) s r.past
  F = w.sessions r in-r

  abbrev O : Office
  O = g.stores o

  abbrev O1 : Office
  O1 = reveal O s.read

  pub C : Changed n p E o O O1 Never (λ k. (x : ℕ) × (has s.read x ≡ 1) × Reach S' x k)
  C = revealing n p two eight E P g w o lt s.read F.fit.read_set (read_within n p two eight E P g w o lt s r.past F)

  -- what is visible is an entry that was made
  vis_held : (k : ℕ) → has O1.visible k ≡ 1 → has O1.held k ≡ 1
  vis_held k h =
      ⊎_elim (λ a. C.held_to k (visible_held n p two eight E P g w o k lt a)) (λ t. C.held_to k (down t.0 k t.1 t.2))
      (C.visible_from k h)
    where
      down : (x k : ℕ) → has s.read x ≡ 1 → Reach S' x k → has O.held k ≡ 1
      down x k a c = reached_held S' (world g) w.inv.held_down o x k c (read_within n p two eight E P g w o lt s r.past F x a)

  pub vis_is : (k : ℕ) → has O1.visible k ≡ 1 → O1.entry k ≡ E k
  vis_is k h = C.fit.entry_is k (vis_held k h)

  pub vis_made : (k : ℕ) → has O1.visible k ≡ 1 → Memᴰ k (ids g.log)
  vis_made k h = ⊎_elim (λ a. held_made n p two eight E P g w o k a) (λ a. absurd a) (C.held_from k (vis_held k h))

  pub cur : (q : ℕ) (h : Entry) → current O1 q ≡ Some h → (has O1.visible (id_of h) ≡ 1) × (id_of h < 32 * n)
  cur q h e =
      let t = current_from O1 q h e in
      let m = vis_made t.0 t.2 in
      let is : id_of h ≡ t.0 = ap id_of (t.3 ∙ vis_is t.0 t.2) ∙ (w.good t.0 m).id_is in
      (rw is t.2, rw is (made_range n p two eight E P g w t.0 m))

  pub cur_small : (q : ℕ) (h : Entry) → current O1 q ≡ Some h → id_of h < 256
  cur_small q h e = omega (arith, (cur q h e).1)

  module _ (plots : List ℕ) (fs : List Found) (s' : Content) (row : List ℕ) (K : Reads O1 s s' plots fs) where
    abbrev Rs : Result Office Frame
    Rs = record { code = 0; count = 0; found = fs; store = O1; session = s'; row = row; sent = [] }

    abbrev past' : List ℕ
    past' = gained g.log fs r.past

    abbrev g' : Sys
    g' = read_in over_contents n g o i r plots Rs

    is_reveal : Reveal S' (world g) (world g') o (λ k. has s.read k ≡ 1)
    is_reveal =
        record {
          seen = λ k m. F.sound.reads_visible k m;
          made_to = λ z m. m;
          made_from = λ z m. m;
          held_to =
              λ q z h. upd_case (λ (X : Office). has X.held z ≡ 1) g.stores o O1 q (λ (e : q ≡ o). C.held_to z (rw e at h)) (λ e. h);
          held_from = λ q z h. ⊎_elim
              (λ (t : (q ≡ o) × (has O1.held z ≡ 1)). ⊎_elim (λ (a : has O.held z ≡ 1). rw t.0 a) (λ a. absurd a) (C.held_from z t.1))
              (λ t. t.1) (upd_said (λ (X : Office). has X.held z ≡ 1) g.stores o O1 q h);
          visible_to =
              λ q z h.
              upd_case (λ (X : Office). has X.visible z ≡ 1) g.stores o O1 q (λ (e : q ≡ o). C.visible_to z (rw e at h)) (λ e. h);
          visible_new = λ x z m c. rw (upd_same g.stores o O1) (C.visible_new z (x, m, c));
          visible_from = λ q z h. ⊎_elim
              (λ (t : (q ≡ o) × (has O1.visible z ≡ 1)). ⊎_elim (λ (a : has O.visible z ≡ 1). inl (rw t.0 a)) (λ a. inr (t.0, a))
              (C.visible_from z t.1))
              (λ t. inl t.1) (upd_said (λ (X : Office). has X.visible z ≡ 1) g.stores o O1 q h);
          others = λ q. refl;
        }

    I' : Inv S' (world g')
    I' = reveal_inv S' (world g) (world g') w.inv o (λ k. has s.read k ≡ 1) is_reveal

    here : (k : ℕ) → has O1.visible k ≡ 1 → has (g'.stores o).visible k ≡ 1
    here k h = rw (upd_same g.stores o O1) h

    there : (k : ℕ) → has (g'.stores o).visible k ≡ 1 → has O1.visible k ≡ 1
    there k h = rw (upd_same g.stores o O1) at h

    J : SoundSession S' (wpast P) (world g') (seen s r.past)
    J = sound_later S' (wpast P) (world g) (world g') is_reveal.visible_to (λ z m. m) (seen s r.past) F.sound

    abbrev Hs : ℕ → Type 0
    Hs x = (h : Entry) × Memᴰ (Some h) fs × (x ≡ id_of h)

    is_takes : TakesIn S' (wpast P) (world g') (seen s r.past) (seen s' past') o (On O1 plots) Hs
    is_takes =
        record {
          visible = λ x t. rw t.4 (here (id_of t.1) (cur t.0 t.1 t.3).0);
          handed = λ x t. rw t.2 (⊎_elim (λ a. inl a) (λ a. inr (mathlib.Core.List.Memᴰ.map id_of a)) (K.handed t.0 t.1));
          reads_from = K.reads_from;
          reads_to = K.reads_to;
          reads_new = K.reads_new;
          own_are = ap (map id_of) K.own_are;
          past_are = λ q m. gained_from E P g.log A fs r.past q m;
        }

    S2 : SoundSession S' (wpast P) (world g') (seen s' past')
    S2 = take_sound S' (wpast P) (world g') I' w.law (seen s r.past) (seen s' past') J o (On O1 plots) Hs is_takes

    -- what s has read is visible at o
    all_visible : (k : ℕ) → has s'.read k ≡ 1 → has (g'.stores o).visible k ≡ 1
    all_visible =
        take_visible S' (wpast P) (world g') I' w.law (seen s r.past) (seen s' past') J o (On O1 plots) Hs is_takes
        (λ k m. here k (C.visible_new k (k, m, self)))

    -- what is visible is not above what is handed back on its plot
    pub over_shown : (q : ℕ) (f : Found) → Memᴰ (q, f) (together plots fs) → (k : ℕ) → has O1.visible k ≡ 1 → (E k).plot ≡ q → Over f (E k)
    over_shown q f m k v e =
        let is = vis_is k v in
        let l : k < 32 * O1.offices = rw C.fit.offices (made_range n p two eight E P g w k (vis_made k v)) in
        K.over_visible q f m (E k) (rw is at (current_over O1 q k l v (ap (λ (x : Entry). x.plot) is ∙ e)))

    -- nor what is in the past
    pub over_known : (q : ℕ) (f : Found) → Memᴰ (q, f) (together plots fs) → (k : ℕ) → Memᴰ k past' → (E k).plot ≡ q → Over f (E k)
    over_known q f m k mk e =
        ⊎_elim (λ h. over_shown q f m k (there k h) e) own (past_known S' (wpast P) (world g') I' (seen s' past') S2 o all_visible k mk)
      where
        own : Memᴰ k (map id_of s'.own) → Over f (E k)
        own i =
            let j : Memᴰ k (map id_of s.own) = rw K.own_are at i in
            let t = mathlib.Core.List.Memᴰ.of_map id_of s.own j in
            let mo : Memᴰ t.0 s.own = t.1 in
            let is : t.0 ≡ E k = F.fit.own_is t.0 mo ∙ ap E t.2 in
            rw is at (K.over_own q f m t.0 mo (ap (λ (x : Entry). x.plot) is ∙ e))

    -- what is handed back is on its plot, and is the entry made
    pub kept : (q : ℕ) (h : Entry) → Memᴰ (q, Some h) (together plots fs) → (h.plot ≡ q) × (h ≡ E (id_of h)) × Memᴰ (id_of h) (ids g.log)
    kept q h m = ⊎_elim vis own (K.on_plot q h m)
      where
        vis : current O1 q ≡ Some h → (h.plot ≡ q) × (h ≡ E (id_of h)) × Memᴰ (id_of h) (ids g.log)
        vis e =
            let t = current_from O1 q h e in
            let v : has O1.visible (id_of h) ≡ 1 = (cur q h e).0 in
            let x : t.0 ≡ id_of h = sym (w.good t.0 (vis_made t.0 t.2)).id_is ∙ ap id_of (sym (t.3 ∙ vis_is t.0 t.2)) in
            (ap (λ (y : Entry). y.plot) t.3 ∙ t.4, t.3 ∙ vis_is t.0 t.2 ∙ ap E x, vis_made (id_of h) v)

        own : Memᴰ h s.own × (h.plot ≡ q) → (h.plot ≡ q) × (h ≡ E (id_of h)) × Memᴰ (id_of h) (ids g.log)
        own t = (t.1, F.fit.own_is h t.0, F.sound.own_made (id_of h) (mathlib.Core.List.Memᴰ.map id_of t.0))

    counts : (q : ℕ) (h : Entry) → Memᴰ (q, Some h) (together plots fs)
        → Memᴰ (id_of h) past' × ((k : ℕ) → Memᴰ k (P (id_of h)) → Memᴰ k past')
    counts q h m =
        let t = gained_new g.log fs r.past h (together_in plots fs q (Some h) m) in
        (t.0, λ k j. t.1 k (rw (writer_is E P g.log A (id_of h) (kept q h m).2) j))

    past_in : (k : ℕ) → Memᴰ k past' → Memᴰ k (ids g.log)
    past_in k m = past_made S' (wpast P) (world g') I' (λ x d a h. dep_made n p two eight E P g w x d a h) (seen s' past') S2 k m

    pub read_whole : Whole n p two E P g'
    read_whole =
        record {
          inv = I';
          law = w.law;
          offices = λ q. upd_case (λ (X : Office). OfficeFit n p E q X) g.stores o O1 q (λ (e : q ≡ o). rw e C.fit) (λ e. w.offices q);
          good = w.good;
          home = λ k m. is_reveal.held_to (k / 32) k (w.home k m);
          lines = w.lines;
          sessions =
              λ x m.
              ⊎_elim (λ (e : x ≡ record { session = s'; past = past' }). rw e mine) (λ j. later (w.sessions x j))
              (mem_set g.sessions i (record { session = s'; past = past' }) x m);
          tokens = λ x m. later (w.tokens x m);
          tokens_ok = w.tokens_ok;
          events =
              events_more E P _ g.events _ w.events
              (record { not10 = λ e. omega arith; not11 = λ e. omega arith; not12 = λ e. omega arith; reads = over_known; handed = kept; counted = counts; past_made = past_in });
        }
      where
        later : {s : Content} {past : List ℕ} → TrackedFit n two E P (world g) s past → TrackedFit n two E P (world g') s past
        later {s} {past} X =
            record {
              sound = sound_later S' (wpast P) (world g) (world g') is_reveal.visible_to (λ z m. m) (seen s past) X.sound;
              fit = X.fit;
            }

        mine : TrackedFit n two E P (world g') s' past'
        mine =
            record {
              sound = S2;
              fit = record { clock8 = K.clock8; read_set = K.read_set; own_is = λ e m. F.fit.own_is e (rw K.own_are at m) };
            }

  -- ---- a reading of plots, one or several

  pub all_reads : (plots : List ℕ) → Reads O1 s (noted_all O1 plots s) plots (map (handed O1 s) plots)
  unfolding handed
  all_reads plots =
      record {
        handed = λ h m. let t = mathlib.Core.List.Memᴰ.of_map (handed O1 s) plots m in
            ⊎_elim (λ (c : current O1 t.0 ≡ Some h). inl (t.0, h, t.1, c, refl)) (λ c. inr c.0)
            (own_from t.0 s.own (current O1 t.0) h t.2);
        on_plot = λ q h m. own_from q s.own (current O1 q) h (sym (together_from (handed O1 s) plots q (Some h) m).1);
        reads_from = all_from O1 cur_small plots s F.fit.read_set;
        reads_to = all_to O1 cur_small plots s F.fit.read_set;
        reads_new = all_new O1 cur_small plots s F.fit.read_set;
        own_are = all_own O1 cur_small plots s;
        read_set = all_sets O1 cur_small plots s F.fit.read_set;
        clock8 = all_clock O1 cur_small plots s F.fit.clock8;
        over_visible = λ q f m e v. rw (together_from (handed O1 s) plots q f m).1 (own_keeps q s.own (current O1 q) e v);
        over_own = λ q f m e c v. rw (together_from (handed O1 s) plots q f m).1 (own_over q s.own (current O1 q) e c v);
      }

  refused : (c : ℕ) (row : List ℕ) → Fine c
      → Whole n p two E P (refused_by over_contents n g o i r (refusal {A = Office} {B = Frame} c O s row))
  refused c row f = refused_whole n p two eight E P g w o c row i r in-r f

  read_code_lem : (plot : ℕ) → read_code O s plot ≡ check (session_ok O.offices O.plots s) 3 (check (ltb plot O.plots) 4 0)
  unfolding read_code check
  read_code_lem plot = rw (read_held n p two eight E P g w o lt s r.past F)

  pub one_whole : (plot : ℕ) → Whole n p two E P (read_by over_contents n g o i r (plot ∷ []) (read_on O s plot) (read_on O s plot).code)
  unfolding read_on check
  one_whole plot = rw (read_code_lem plot) (go (session_ok O.offices O.plots s) (ltb plot O.plots))
    where
      go : (t u : Bool) → Whole n p two E P (read_by over_contents n g o i r (plot ∷ []) (given (check t 3 (check u 4 0)) O s [] (read_all O s (plot ∷ []) []))
          (given (check t 3 (check u 4 0)) O s [] (read_all O s (plot ∷ []) [])).code)
      go true true = read_whole (plot ∷ []) (handed_all O s (plot ∷ [])) (noted_all O1 (plot ∷ []) s) [] (all_reads (plot ∷ []))
      go true false = refused 4 [] (λ e. omega arith, λ e. omega arith, λ e. omega arith)
      go false u = refused 3 [] (λ e. omega arith, λ e. omega arith, λ e. omega arith)

  module _ (plots row : List ℕ) where
    abbrev T4 : Bool
    T4 = both (leb (length plots) 16) (plots_ok O.plots plots)

    joint_code_lem : joint_code O s plots (length row) ≡ check (session_ok O.offices O.plots s) 3 (check T4 4 (check (leb (3 * length plots) (length row)) 8 0))
    unfolding joint_code check
    joint_code_lem = rw (read_held n p two eight E P g w o lt s r.past F)

    abbrev RJ : Result Office Frame
    RJ = read_all O s plots (laid (answer_words (handed_all O s plots)) row)

    pub joint_whole : Whole n p two E P (read_by over_contents n g o i r plots (joint_on O s plots row) (joint_on O s plots row).code)
    unfolding joint_on check
    joint_whole = rw joint_code_lem (go (session_ok O.offices O.plots s) T4 (leb (3 * length plots) (length row)))
      where
        go : (t u v : Bool)
            → Whole n p two E P (read_by over_contents n g o i r plots (given (check t 3 (check u 4 (check v 8 0))) O s row RJ) (given (check t 3 (check u 4 (check v 8 0))) O s row RJ).code)
        go true true true = read_whole plots (handed_all O s plots) (noted_all O1 plots s) RJ.row (all_reads plots)
        go true true false = refused 8 row (λ e. omega arith, λ e. omega arith, λ e. omega arith)
        go true false v = refused 4 row (λ e. omega arith, λ e. omega arith, λ e. omega arith)
        go false u v = refused 3 row (λ e. omega arith, λ e. omega arith, λ e. omega arith)
