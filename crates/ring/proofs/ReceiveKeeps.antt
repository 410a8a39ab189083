-- A receive keeps the invariant, and is refused with 8 or not at all. Assumes nothing.
use Prim.Native.Nat.{ℕ, ◌*◌, ◌+◌, ◌-◌, ◌/◌, ◌<◌, ◌≤◌, suc, zero}
use mathlib.Core.Bool.{Bool, cond, false, true}
use mathlib.Core.List.Memᴰ
use mathlib.Core.List.{List, Memᴰ, [], ◌++◌, ◌∷◌, map, map-append}
use mathlib.Core.Logic.{◌≢◌, inl, inr, ⊎_elim}
use mathlib.Core.Path.{◌∙◌, ◌≡◌, ap, refl}
use native.Mathlib.Omega.{arith}
use lib.Dec.{eqb, leb}
use lib.ListN.{length}
use borrow.Author.Tests.{eqb-false, eqb-true, ne_eqb}
use Rattle.causal.specs.Codes.{check, or_else}
use Rattle.causal.specs.Lists.{zeros}
use Rattle.causal.specs.Sets.{IdSet, has, inserted, is_in}
use Rattle.causal.specs.Tests.{either}
use Rattle.causal.proofs.Sets.{has_zeros, ids_inserted, ids_zeros, in_inserted, in_is, out_is, subset_by}
use Rattle.frame.specs.Calls.{laid}
use Rattle.frame.specs.Entries.{id_of}
use Rattle.frame.specs.Frames.{frame_words}
use Rattle.frame.specs.Sessions.{Content, fresh_content}
use Rattle.frame.specs.Tokens.{rows_of}
use Rattle.frame.specs.declared.entry.Entry.{Entry}
use Rattle.frame.specs.declared.entry.Frame.{Frame}
use Rattle.frame.proofs.Ids.{inserted_new}
use Rattle.store.specs.Offices.{Office, hold, reveal}
use Rattle.office.specs.Calls.{Result, given, hold_new, onward, receive_code, receive_on, receive_sends, received_by}
use Rattle.mesh.specs.Ring.{Shape}
use Rattle.mesh.specs.World.{Reach, Receive, passes}
use Rattle.mesh.proofs.Carry.{line_made, receive_ready}
use Rattle.mesh.proofs.Receive.{receive_inv}
use Rattle.mesh.proofs.Sessions.{sound_later}
use Rattle.ring.specs.Run.{next_of, over_contents, receive_by, received, upd}
use Rattle.ring.proofs.Base.{entry_code_lem, event_fine, events_more, held_made, made_range, turned_whole, visible_held}
use Rattle.ring.proofs.Change.{Changed, Never, hold_changed, reveal_changed}
use Rattle.ring.proofs.Fit.{OfficeFit, Sys, TrackedFit, Whole, frame_id, ids, next_other, seen, shape, upd_case, upd_other, upd_said, upd_same, world, wpast}

sends_are : (f : Frame) → map frame_id (receive_sends f) ≡ passes (id_of f.entry) f.hops
unfolding receive_sends
sends_are f = go f.hops refl
  where
    go : (t : ℕ) → f.hops ≡ t → map frame_id (cond (eqb f.hops 0) [] (onward f ∷ [])) ≡ passes (id_of f.entry) f.hops
    go zero e = rw e
    go (suc t) e =
        rw (ne_eqb f.hops 0 (λ q. omega arith))
        (let u : f.hops - 1 ≡ t = omega arith in rw (u, e))

module _ (n p : ℕ) (two : 2 ≤ n) (eight : n ≤ 8) (E : ℕ → Entry) (P : ℕ → List ℕ) (g : Sys) (w : Whole n p two E P g)
    (o : ℕ) (lt : o < n) (f : Frame) (rest : List Frame) (first : g.lines o ≡ f ∷ rest) where
  abbrev S' : Shape
  S' = shape n two E

  abbrev O : Office
  O = g.stores o

  abbrev x : ℕ
  x = id_of f.entry

  in_line : Memᴰ f (g.lines o)
  in_line = rw first (Memᴰ.head refl)

  is : f.entry ≡ E x
  is = (w.lines o f in_line).1

  pub line_first : map frame_id (g.lines o) ≡ (x, f.hops) ∷ map frame_id rest
  line_first = ap (map frame_id) first

  made_x : Memᴰ x (ids g.log)
  made_x = line_made S' (world g) w.inv o x f.hops (rw line_first (Memᴰ.head refl))

  small : x < 256
  small = omega (arith, made_range n p two eight E P g w x made_x)

  -- what it depends on is held here
  deps_held : (d : ℕ) → has (E x).deps d ≡ 1 → has O.held d ≡ 1
  deps_held d m = receive_ready S' (world g) w.inv o x f.hops (map frame_id rest) line_first d m

  -- "it is held, hidden, if new"
  kept : Changed n p E o O (hold_new O f.entry) (λ k. k ≡ x) Never
  unfolding hold_new
  kept = go (is_in O.held x) refl
    where
      go : (t : Bool) → is_in O.held x ≡ t → Changed n p E o O (cond (is_in O.held x) O (hold O f.entry)) (λ k. k ≡ x) Never
      go true t =
          rw t
          (record {
            fit = w.offices o;
            held_to = λ k h. h;
            held_new = λ k q. rw q (in_is O.held x t);
            held_from = λ k h. inl h;
            visible_to = λ k h. h;
            visible_new = λ k h. absurd h;
            visible_from = λ k h. inl h;
          })
      go false t = rw t (hold_changed n p E o O (w.offices o) f.entry is small next)
        where
          next : (s : ℕ) → s < 31 → 32 * o + (s + 1) ≡ x → has O.held (32 * o + s) ≡ 1
          next s l q =
              let c : x / 32 ≡ o = omega arith in
              let h : has O.held x ≡ 1 = rw c at (w.home x made_x) in
              absurd (omega (arith, out_is O.held x t))

  abbrev O1 : Office
  O1 = hold_new O f.entry

  seeds : List ℕ
  seeds = inserted zeros x

  shows : Changed n p E o O1 (reveal O1 (inserted zeros x)) Never (λ k. (r : ℕ) × (has (inserted zeros x) r ≡ 1) × Reach S' r k)
  shows =
      reveal_changed n p E o O1 kept.fit two in_range words closed vis_held vis_closed (inserted zeros x) (ids_inserted zeros x ids_zeros)
      (λ k h. ⊎_elim (λ (q : k ≡ x). kept.held_new k q) (λ z. absurd (omega (arith, has_zeros k))) (in_inserted zeros x k small ids_zeros h))
    where
      was : (k : ℕ) → has O1.held k ≡ 1 → Memᴰ k (ids g.log)
      was k h = ⊎_elim (λ a. held_made n p two eight E P g w o k a) (λ (q : k ≡ x). rw q made_x) (kept.held_from k h)

      in_range : (k : ℕ) → has O1.held k ≡ 1 → k < 32 * n
      in_range k h = made_range n p two eight E P g w k (was k h)

      words : (k : ℕ) → has O1.held k ≡ 1 → IdSet (E k).deps
      words k h = (w.good k (was k h)).deps_set

      closed : (k d : ℕ) → has O1.held k ≡ 1 → has (E k).deps d ≡ 1 → has O1.held d ≡ 1
      closed k d h m = kept.held_to d (⊎_elim (λ a. w.inv.held_down o k d a m) (λ (q : k ≡ x). deps_held d (rw q at m)) (kept.held_from k h))

      vis : (k : ℕ) → has O1.visible k ≡ 1 → has O.visible k ≡ 1
      vis k h = ⊎_elim (λ a. a) (λ a. absurd a) (kept.visible_from k h)

      vis_held : (k : ℕ) → has O1.visible k ≡ 1 → has O1.held k ≡ 1
      vis_held k h = kept.held_to k (visible_held n p two eight E P g w o k lt (vis k h))

      vis_closed : (k d : ℕ) → has O1.visible k ≡ 1 → has (E k).deps d ≡ 1 → has O1.visible d ≡ 1
      vis_closed k d h m = kept.visible_to d (w.inv.visible_down o k d (vis k h) m)

  pub changed : Changed n p E o O (received_by O f) (λ k. k ≡ x) (λ k. (f.hops ≡ 0) × Reach S' x k)
  unfolding received_by
  changed = go (eqb f.hops 0) refl
    where
      go : (t : Bool) → eqb f.hops 0 ≡ t
          → Changed n p E o O (cond (eqb f.hops 0) (reveal O1 (inserted zeros x)) O1) (λ k. k ≡ x) (λ k. (f.hops ≡ 0) × Reach S' x k)
      go true t =
          rw t
          (record {
            fit = shows.fit;
            held_to = λ k h. shows.held_to k (kept.held_to k h);
            held_new = λ k q. shows.held_to k (kept.held_new k q);
            held_from = λ k h. ⊎_elim (λ a. kept.held_from k a) (λ a. absurd a) (shows.held_from k h);
            visible_to = λ k h. shows.visible_to k (kept.visible_to k h);
            visible_new = λ k q. shows.visible_new k (x, inserted_new zeros x small ids_zeros, q.1);
            visible_from = λ k h. ⊎_elim (λ a. ⊎_elim (λ b. inl b) (λ b. absurd b) (kept.visible_from k a))
                (λ (a : (r : ℕ) × (has (inserted zeros x) r ≡ 1) × Reach S' r k). inr (eqb-true f.hops 0 t, start a.0 a.1 k a.2))
                (shows.visible_from k h);
          })
        where
          start : (r : ℕ) → has (inserted zeros x) r ≡ 1 → (k : ℕ) → Reach S' r k → Reach S' x k
          start r h k c = ⊎_elim (λ (q : r ≡ x). rw q at c) (λ z. absurd (omega (arith, has_zeros r))) (in_inserted zeros x r small ids_zeros h)
      go false t =
          rw t
          (record {
            fit = kept.fit;
            held_to = kept.held_to;
            held_new = kept.held_new;
            held_from = kept.held_from;
            visible_to = kept.visible_to;
            visible_new = λ k q. absurd (eqb-false f.hops 0 t q.0);
            visible_from = λ k h. ⊎_elim (λ a. inl a) (λ a. absurd a) (kept.visible_from k h);
          })

  -- ---- the run's step

  abbrev R : List ℕ → Result Office Frame
  R row =
      record {
        code = 0;
        count = length (rows_of (receive_sends f));
        found = [];
        store = received_by O f;
        session = fresh_content 0;
        row = laid (rows_of (receive_sends f)) row;
        sent = receive_sends f;
      }

  module _ (row : List ℕ) where
    abbrev g' : Sys
    g' = received over_contents n g o rest (R row)

    ne : o ≢ next_of n o
    ne e = next_other n o two lt e

    is_receive : Receive S' (world g) (world g') o x f.hops (map frame_id rest)
    is_receive =
        record {
          in_ring = lt;
          first = line_first;
          made_to = λ z m. m;
          made_from = λ z m. m;
          held_to =
              λ q z h.
              upd_case (λ (A : Office). has A.held z ≡ 1) g.stores o (received_by O f) q (λ (e : q ≡ o). changed.held_to z (rw e at h))
              (λ e. h);
          held_new = rw (upd_same g.stores o (received_by O f)) (changed.held_new x refl);
          held_from = λ q z h. ⊎_elim
              (λ (t : (q ≡ o) × (has (received_by O f).held z ≡ 1)). ⊎_elim (λ (a : has O.held z ≡ 1). inl (rw t.0 a)) (λ a. inr (t.0, a))
              (changed.held_from z t.1))
              (λ t. inl t.1) (upd_said (λ (A : Office). has A.held z ≡ 1) g.stores o (received_by O f) q h);
          visible_to =
              λ q z h.
              upd_case (λ (A : Office). has A.visible z ≡ 1) g.stores o (received_by O f) q
              (λ (e : q ≡ o). changed.visible_to z (rw e at h)) (λ e. h);
          visible_new = λ z t r. rw (upd_same g.stores o (received_by O f)) (changed.visible_new z (t, r));
          visible_from = λ q z h. ⊎_elim
              (λ (t : (q ≡ o) × (has (received_by O f).visible z ≡ 1)). ⊎_elim (λ (a : has O.visible z ≡ 1). inl (rw t.0 a))
              (λ a. inr (t.0, a.0, a.1)) (changed.visible_from z t.1))
              (λ t. inl t.1) (upd_said (λ (A : Office). has A.visible z ≡ 1) g.stores o (received_by O f) q h);
          popped = ap (map frame_id) (upd_other (upd g.lines o rest) (next_of n o) _ o ne ∙ upd_same g.lines o rest);
          passed =
              ap (map frame_id) (upd_same (upd g.lines o rest) (next_of n o) _)
              ∙ map-append frame_id (g.lines (next_of n o)) (receive_sends f)
              ∙ ap (λ (l : List (ℕ × ℕ)). map frame_id (g.lines (next_of n o)) ++ l) (sends_are f);
          others = λ q a b. ap (map frame_id) (upd_other (upd g.lines o rest) (next_of n o) _ q b ∙ upd_other g.lines o rest q a);
        }

    sent_ok : (h : Frame) → Memᴰ h (receive_sends f) → (h.offices ≡ n) × (h.entry ≡ E (id_of h.entry))
    unfolding receive_sends
    sent_ok h m = go (eqb f.hops 0) m
      where
        go : (t : Bool) → Memᴰ h (cond t [] (onward f ∷ [])) → (h.offices ≡ n) × (h.entry ≡ E (id_of h.entry))
        go true i = absurd (Memᴰ.not-nil i)
        go false i = rw (Memᴰ.eq_of_singleton i) ((w.lines o f in_line).0, is)

    pub received_whole : Whole n p two E P g'
    received_whole =
        record {
          inv = receive_inv S' (world g) (world g') w.inv o x f.hops (map frame_id rest) is_receive;
          law = w.law;
          offices =
              λ q.
              upd_case (λ (A : Office). OfficeFit n p E q A) g.stores o (received_by O f) q (λ (e : q ≡ o). rw e changed.fit)
              (λ e. w.offices q);
          good = w.good;
          home = λ k m. is_receive.held_to (k / 32) k (w.home k m);
          lines = lines;
          sessions = λ r m. later (w.sessions r m);
          tokens = λ r m. later (w.tokens r m);
          tokens_ok = w.tokens_ok;
          events =
              events_more E P _ g.events _ w.events (event_fine E P _ _ (λ e. omega arith) (λ e. omega arith) (λ e. omega arith) refl refl);
        }
      where
        later : {s : Content} {past : List ℕ} → TrackedFit n two E P (world g) s past → TrackedFit n two E P (world g') s past
        later {s} {past} F =
            record {
              sound = sound_later S' (wpast P) (world g) (world g') is_receive.visible_to (λ z m. m) (seen s past) F.sound;
              fit = F.fit;
            }

        lines : (q : ℕ) (h : Frame) → Memᴰ h (g'.lines q) → (h.offices ≡ n) × (h.entry ≡ E (id_of h.entry))
        lines q h m =
            ⊎_elim (λ t. ⊎_elim (λ i. w.lines (next_of n o) h i) (λ i. sent_ok h i) (Memᴰ.append_cases (g.lines (next_of n o)) t.1))
            (λ t. older t.1)
            (upd_said (λ (l : List Frame). Memᴰ h l) (upd g.lines o rest) (next_of n o) (g.lines (next_of n o) ++ receive_sends f) q m)
          where
            older : Memᴰ h (upd g.lines o rest q) → (h.offices ≡ n) × (h.entry ≡ E (id_of h.entry))
            older i = ⊎_elim (λ (t : (q ≡ o) × Memᴰ h rest). w.lines o h (rw first (Memᴰ.tail t.1))) (λ t. w.lines q h t.1)
                (upd_said (λ (l : List Frame). Memᴰ h l) g.lines o rest q i)

    room : Bool
    room = either (eqb f.hops 0) (leb (length (frame_words (onward f))) (length row))

    code_is : receive_code O f (length row) ≡ check room 8 0
    unfolding receive_code room check or_else
    code_is =
        rw (
          entry_code_lem n p two eight E P g w o f.entry is made_x,
          subset_by f.entry.deps O.held (rw is (w.good x made_x).deps_set) (w.offices o).held_set (λ d h. deps_held d (rw (← is) h)),
        )

    pub receive_whole : Whole n p two E P (receive_by over_contents n g o rest (receive_on O f row) (receive_on O f row).code)
    unfolding receive_on check
    receive_whole = rw code_is (go room)
      where
        go : (t : Bool)
            → Whole n p two E P (receive_by over_contents n g o rest (given (check t 8 0) O (fresh_content 0) row (R row)) (given (check t 8 0) O (fresh_content 0) row (R row)).code)
        go true = received_whole
        go false = turned_whole n p two eight E P g w o 8 row (fresh_content 0) (λ e. omega arith, λ e. omega arith, λ e. omega arith)
