-- A write keeps the invariant, and is never refused with 10, 11 or 12. Assumes nothing.
use Prim.Native.Nat.{ℕ, ◌*◌, ◌+◌, ◌-◌, ◌/◌, ◌<◌, ◌≤◌, max, suc}
use mathlib.Core.Bool.{Bool, cond, false, true}
use mathlib.Core.List.Memᴰ
use mathlib.Core.List.{List, Memᴰ, [], ◌++◌, ◌∷◌, map, map-append}
use mathlib.Core.Logic.{◌⊎◌, inl, inr, ⊎_elim}
use mathlib.Core.Path.{◌∙◌, ◌≡◌, ap, refl, sym}
use native.Mathlib.Omega.{arith}
use lib.Dec.{leb, ltb}
use lib.ListN.{get_or, length, set}
use borrow.Author.Tests.{ltb-true}
use Rattle.causal.specs.Clocks.{Covers, join}
use Rattle.causal.specs.Codes.{check, or_else}
use Rattle.causal.specs.Sets.{IdSet, has, is_in}
use Rattle.causal.proofs.Clocks.{join_at}
use Rattle.causal.proofs.Sets.{in_is, in_or_out, is_in_lem, out_is}
use Rattle.causal.proofs.Tests.{eq_or_ne}
use Rattle.frame.specs.Calls.{laid}
use Rattle.frame.specs.Entries.{clock_ok, entry_ok, id_of}
use Rattle.frame.specs.Frames.{framed}
use Rattle.frame.specs.Sessions.{Content, session_ok}
use Rattle.frame.specs.Tokens.{rows_of}
use Rattle.frame.specs.declared.entry.Entry.{Entry}
use Rattle.frame.specs.declared.entry.Frame.{Frame}
use Rattle.frame.proofs.Entries.{entry_facts}
use Rattle.frame.proofs.LeaveOut.{left_from}
use Rattle.frame.proofs.Sessions.{session_facts}
use Rattle.store.specs.Offices.{Office, hold, made, max_to, visible_at}
use Rattle.office.specs.Calls.{Result, given, hold_all, missing, new_entry, refusal, sent_of, write_code, write_on, write_sends, wrote_session}
use Rattle.office.proofs.New.{Counting, Writable, deps_from, deps_set, deps_to, id_is, max_ge, max_le, new_clock8, new_next, new_not_held, new_ok, place_at, place_own}
use Rattle.mesh.specs.Ring.{Shape}
use Rattle.mesh.specs.Sessions.{Writes}
use Rattle.mesh.specs.World.{Write, Written, frames}
use Rattle.mesh.proofs.Sessions.{sound_later, write_law, write_ready, write_sound}
use Rattle.mesh.proofs.Write.{write_inv}
use Rattle.ring.specs.Holds.{Distinct}
use Rattle.ring.specs.Later.{Later}
use Rattle.ring.specs.Run.{Event, Made, Tracked, event_of, last_of, next_of, over_contents, refused_by, upd, write_by, wrote}
use Rattle.ring.proofs.Base.{Fine, event_fine, events_more, facts, held_made, held_range, made_range, own_code_lem, read_held, read_within, refused_whole, visible_held}
use Rattle.ring.proofs.Change.{Changed, Never, hold_changed}
use Rattle.ring.proofs.Clocks.{ClockFit, Clocks, Under, fit_later, later, made_over, under_outranks, upd_mono}
use Rattle.ring.proofs.Fit.{Agrees, EventFit, Good, OfficeFit, SessionFit, Sys, TrackedFit, Whole, frame_id, ids, mem_set, seen, shape, upd_case, upd_other, upd_said, upd_same, upd_self, world, wpast}
use Rattle.ring.proofs.LeaveOut.{left_without}
use Rattle.ring.proofs.Log.{distinct_more}

pub last_snoc : (l : List Entry) (e : Entry) → last_of (l ++ (e ∷ [])) ≡ e
unfolding last_of
last_snoc [] e = refl
last_snoc (x ∷ []) e = refl
last_snoc (x ∷ (y ∷ l)) e = last_snoc (y ∷ l) e

-- to hold several entries, each with the one before it where it is of this office
pub hold_all_lem : (n p : ℕ) (E : ℕ → Entry) (o : ℕ) (es : List Entry) (O : Office) → OfficeFit n p E o O →
    ((e : Entry) → Memᴰ e es → (e ≡ E (id_of e)) × (id_of e < 256) × ((s : ℕ) → s < 31 → 32 * o + (s + 1) ≡ id_of e → has O.held (32 * o + s) ≡ 1)) →
    Changed n p E o O (hold_all O es) (λ k. Memᴰ k (map id_of es)) Never
unfolding hold_all
hold_all_lem n p E o [] O fit h =
    record {
      fit = fit;
      held_to = λ k m. m;
      held_new = λ k m. absurd (Memᴰ.not-nil m);
      held_from = λ k m. inl m;
      visible_to = λ k m. m;
      visible_new = λ k m. absurd m;
      visible_from = λ k m. inl m;
    }
hold_all_lem n p E o (e ∷ es) O fit h =
    let a = h e (Memᴰ.head refl) in
    let C = hold_changed n p E o O fit e a.0 a.1 a.2 in
    let D =
    hold_all_lem n p E o es (hold O e) C.fit
    (λ f m. let b = h f (Memᴰ.tail m) in (b.0, b.1, λ s l q. C.held_to (32 * o + s) (b.2 s l q)))
    in
    record {
      fit = D.fit;
      held_to = λ k m. D.held_to k (C.held_to k m);
      held_new = λ k m. ⊎_elim (λ (q : k ≡ id_of e). D.held_to k (C.held_new k q)) (λ i. D.held_new k i) (Memᴰ.cases_cons m);
      held_from =
          λ k m.
          ⊎_elim (λ i. ⊎_elim (λ j. inl j) (λ (q : k ≡ id_of e). inr (Memᴰ.head q)) (C.held_from k i)) (λ i. inr (Memᴰ.tail i))
          (D.held_from k m);
      visible_to = λ k m. D.visible_to k (C.visible_to k m);
      visible_new = λ k m. absurd m;
      visible_from = λ k m. ⊎_elim (λ i. C.visible_from k i) (λ i. absurd i) (D.visible_from k m);
    }

-- the frames of entries, as ids
frames_are : (n t : ℕ) (es : List Entry) → map frame_id (map (framed n t) es) ≡ frames t (map id_of es)
frames_are n t [] = refl
frames_are n t (e ∷ es) = ap (λ (l : List (ℕ × ℕ)). (id_of e, t) ∷ l) (frames_are n t es)

framed_in : (n t : ℕ) (es : List Entry) (f : Frame) → Memᴰ f (map (framed n t) es) → (f.offices ≡ n) × Memᴰ f.entry es
framed_in n t es f m = let r = Memᴰ.of_map (framed n t) es m in (ap (λ (x : Frame). x.offices) (sym r.2), rw (← r.2) r.1)

module _ (n p : ℕ) (two : 2 ≤ n) (eight : n ≤ 8) (E : ℕ → Entry) (P : ℕ → List ℕ) (g : Sys) (w : Whole n p two E P g)
    (o : ℕ) (lt : o < n) (i : ℕ) (r : Tracked) (in-r : Memᴰ r g.sessions) (plot value : ℕ) (row : List ℕ) where
  abbrev S' : Shape
  S' = shape n two E

  abbrev pub s : Content
  s = r.session

  F : TrackedFit n two E P (world g) s r.past
  F = w.sessions r in-r

  abbrev pub O : Office
  O = g.stores o

  fit : OfficeFit n p E o O
  fit = w.offices o

  -- each own entry was made, and is what its id stands for
  own_made : (x : Entry) → Memᴰ x s.own → (x ≡ E (id_of x)) × Memᴰ (id_of x) (ids g.log)
  own_made x m = (F.fit.own_is x m, F.sound.own_made (id_of x) (Memᴰ.map id_of m))

  abbrev pub e : Entry
  e = new_entry O s plot value

  abbrev pub k : ℕ
  k = id_of e

  abbrev pub R : Result Office Frame
  R =
      record {
        code = 0;
        count = length (rows_of (write_sends O s plot value));
        found = [];
        store = hold_all O (sent_of O s plot value);
        session = wrote_session O s plot value;
        row = laid (rows_of (write_sends O s plot value)) row;
        sent = write_sends O s plot value;
      }

  abbrev pub made_now : Made
  made_now = record { entry = e; past = r.past }

  abbrev pub r' : Tracked
  r' = record { session = wrote_session O s plot value; past = k ∷ r.past }

  -- the step, with the entry that it makes written out
  abbrev pub g' : Sys
  g' =
      record {
        stores = upd g.stores o (hold_all O (sent_of O s plot value));
        lines = upd g.lines (next_of n o) (g.lines (next_of n o) ++ write_sends O s plot value);
        sessions = set g.sessions i r';
        tokens = g.tokens;
        log = g.log ++ (made_now ∷ []);
        events = g.events ++ (event_of R ∷ []);
      }

  pub last_is : last_of (wrote_session O s plot value).own ≡ e
  unfolding wrote_session
  last_is = last_snoc s.own e

  pub wrote_is : wrote over_contents n g o i r R ≡ g'
  wrote_is =
      ap (λ (x : Entry).
      record {
        stores = upd g.stores o (hold_all O (sent_of O s plot value));
        lines = upd g.lines (next_of n o) (g.lines (next_of n o) ++ write_sends O s plot value);
        sessions = set g.sessions i (record { session = wrote_session O s plot value; past = id_of x ∷ r.past });
        tokens = g.tokens;
        log = g.log ++ (record { entry = x; past = r.past } ∷ []);
        events = g.events ++ (event_of R ∷ []);
      }) last_is

  mine_fit : e ≡ E k → SessionFit E (wrote_session O s plot value)
  unfolding wrote_session join
  mine_fit q =
      record {
        clock8 = refl;
        read_set = F.fit.read_set;
        own_is =
            λ x m.
            ⊎_elim (λ j. F.fit.own_is x j) (λ (j : Memᴰ x (e ∷ [])). rw (Memᴰ.eq_of_singleton j) q)
            (Memᴰ.append_cases s.own m);
      }

  counting : made O < 32 → Counting n o O
  counting few = record { in_ring = lt; own_is = fit.own; offices_is = fit.offices; gap = fit.gap; few = few }

  -- the id is new, so that no id is made twice
  fresh_id : made O < 32 → Memᴰ k (ids g.log) → ⊥
  fresh_id few m =
      let k_is : k ≡ 32 * o + made O = id_is (counting few) s plot value in
      let home_k : k / 32 ≡ o = ap (λ (x : ℕ). x / 32) k_is ∙ omega (arith, few) in
      let h' : has O.held k ≡ 1 = ap (λ (x : ℕ). has (g.stores x).held k) (sym home_k) ∙ w.home k m in
      let h'' : has O.held (32 * o + made O) ≡ 1 = ap (has O.held) (sym k_is) ∙ h' in
      omega (arith, new_not_held (counting few))

  module _ (A : Agrees E P (g.log ++ (made_now ∷ []))) (session-ok : session_ok O.offices O.plots s ≡ true)
      (plot_ok : ltb plot O.plots ≡ true)
      (value_ok : ltb value 268435456 ≡ true) (few-ok : ltb (made O) 32 ≡ true) where
    in_log : Memᴰ made_now (g.log ++ (made_now ∷ []))
    in_log = Memᴰ.append_right g.log (Memᴰ.head refl)

    pub e_is : e ≡ E k
    e_is = sym (A.entry made_now in_log)

    past_is : P k ≡ r.past
    past_is = A.past made_now in_log

    pub few : made O < 32
    few = ltb-true (made O) 32 few-ok

    pub k_is : k ≡ 32 * o + made O
    k_is = id_is (counting few) s plot value

    not_held : has O.held (32 * o + made O) ≡ 0
    not_held = new_not_held (counting few)

    pub home_k : k / 32 ≡ o
    home_k = ap (λ (x : ℕ). x / 32) k_is ∙ omega (arith, few)

    k_small : k < 256
    k_small = omega (arith, k_is, few, lt, eight)

    -- the tests' facts
    clock_ok_lem : clock_ok n s.clock ≡ true
    clock_ok_lem = ap (λ (x : ℕ). clock_ok x s.clock) (sym fit.offices) ∙ (session_facts O.offices O.plots s session-ok).clock

    own_range : (x : Entry) → Memᴰ x s.own → id_of x < 32 * n
    own_range x m = made_range n p two eight E P g w (id_of x) (own_made x m).1

    read_in : (d : ℕ) → has s.read d ≡ 1 → has O.held d ≡ 1
    read_in = read_within n p two eight E P g w o lt s r.past F

    read_range : (d : ℕ) → has s.read d ≡ 1 → d < 32 * n
    read_range d h = held_range n p two eight E P g w o d (read_in d h)

    not_read : has s.read (32 * o + made O) ≡ 0
    not_read =
        ⊎_elim (λ (h : has s.read (32 * o + made O) ≡ 1). omega (arith, read_in (32 * o + made O) h, not_held)) (λ h. h)
        (in_or_out s.read (32 * o + made O))

    not_own : Memᴰ (32 * o + made O) (map id_of s.own) → ⊥
    not_own m = fresh_id few (F.sound.own_made k (rw k_is m))

    pub visible_ok : (x : ℕ) → has O.visible x ≡ 1 → clock_ok n (O.entry x).clock ≡ true
    visible_ok x h =
        let hh = visible_held n p two eight E P g w o x lt h in
        ap (λ (y : Entry). clock_ok n y.clock) (fit.entry_is x hh)
        ∙ (facts n p two eight E P g w x (held_made n p two eight E P g w o x hh)).clock

    writable : Writable n p o O s plot value
    writable =
        record {
          count = counting few;
          high = eight;
          plot_ok = omega (arith, ltb-true plot O.plots plot_ok, fit.plots);
          value_ok = ltb-true value 268435456 value_ok;
          clock8 = F.fit.clock8;
          clock_ok_lem = clock_ok_lem;
          read_set = F.fit.read_set;
          own_range = own_range;
          read_range = read_range;
          not_read = not_read;
          not_own = not_own;
          visible_ok = visible_ok;
        }

    pub e_ok : entry_ok n p e ≡ true
    e_ok = new_ok writable

    e_set : IdSet e.deps
    e_set = deps_set writable

    pub e_from : (d : ℕ) → has e.deps d ≡ 1 → (has s.read d ≡ 1) ⊎ Memᴰ d (map id_of s.own)
    e_from = deps_from writable

    e_to : (d : ℕ) → (has s.read d ≡ 1) ⊎ Memᴰ d (map id_of s.own) → has e.deps d ≡ 1
    e_to = deps_to writable

    e_clock8 : length e.clock ≡ 8
    e_clock8 = new_clock8 writable

    good_k : Good n p E k
    good_k =
        record {
          ok = ap (entry_ok n p) (sym e_is) ∙ e_ok;
          id_is = ap id_of (sym e_is);
          clock8 = ap (λ (x : Entry). length x.clock) (sym e_is) ∙ e_clock8;
          deps_set = rw (← e_is) e_set;
        }

    -- what is sent: the own entries that are missing, and the new one
    sent_ok : (x : Entry) → Memᴰ x (sent_of O s plot value)
        → (x ≡ E (id_of x)) × (id_of x < 256) × ((t : ℕ) → t < 31 → 32 * o + (t + 1) ≡ id_of x → has O.held (32 * o + t) ≡ 1)
    unfolding sent_of
    sent_ok x m = ⊎_elim old (λ (j : Memᴰ x (e ∷ [])). rw (Memᴰ.eq_of_singleton j) new) (Memᴰ.append_cases (missing O s.own) m)
      where
        new : (e ≡ E k) × (k < 256) × ((t : ℕ) → t < 31 → 32 * o + (t + 1) ≡ k → has O.held (32 * o + t) ≡ 1)
        new = (e_is, k_small, λ t l q. new_next (counting few) t l (q ∙ k_is))

        old : Memᴰ x (missing O s.own)
            → (x ≡ E (id_of x)) × (id_of x < 256) × ((t : ℕ) → t < 31 → 32 * o + (t + 1) ≡ id_of x → has O.held (32 * o + t) ≡ 1)
        old j =
            let a = left_from (λ (y : Entry). is_in O.held (id_of y)) s.own x j in
            let b = own_made x a.0 in
            (b.0, omega (arith, own_range x a.0), λ t l q. absurd (away (out_is O.held (id_of x) a.1) b.1 t l q))
          where
            away : has O.held (id_of x) ≡ 0 → Memᴰ (id_of x) (ids g.log) → (t : ℕ) → t < 31 → 32 * o + (t + 1) ≡ id_of x → ⊥
            away z mm t l q =
                let c : id_of x / 32 ≡ o = omega arith in
                let h : has (g.stores (id_of x / 32)).held (id_of x) ≡ 1 = w.home (id_of x) mm in
                let h' : has O.held (id_of x) ≡ 1 = ap (λ (y : ℕ). has (g.stores y).held (id_of x)) (sym c) ∙ h in
                omega arith

    pub C : Changed n p E o O (hold_all O (sent_of O s plot value)) (λ x. Memᴰ x (map id_of (sent_of O s plot value))) Never
    C = hold_all_lem n p E o (sent_of O s plot value) O fit sent_ok

    abbrev ds : List ℕ
    ds = map id_of (missing O s.own)

    pub ids_are : map id_of (sent_of O s plot value) ≡ ds ++ k ∷ []
    unfolding sent_of
    ids_are = map-append id_of (missing O s.own) (e ∷ [])

    log_are : ids (g.log ++ (made_now ∷ [])) ≡ ids g.log ++ k ∷ []
    log_are = map-append (λ (m : Made). id_of m.entry) g.log (made_now ∷ [])

    is_written : Written S' (world g) (world g') o ds k
    is_written =
        record {
          made_to = λ x m. rw log_are (Memᴰ.append_left (k ∷ []) m);
          made_new = rw log_are (Memᴰ.append_right (ids g.log) (Memᴰ.head refl));
          made_from =
              λ x m.
              ⊎_elim (λ j. inl j) (λ (j : Memᴰ x (k ∷ [])). inr (Memᴰ.eq_of_singleton j))
              (Memᴰ.append_cases (ids g.log) (rw log_are at m));
          held_to =
              λ q z h.
              upd_case (λ (X : Office). has X.held z ≡ 1) g.stores o (hold_all O (sent_of O s plot value)) q
              (λ (x : q ≡ o). C.held_to z (rw x at h)) (λ x. h);
          held_new = λ y m. rw (upd_same g.stores o (hold_all O (sent_of O s plot value))) (C.held_new y (rw ids_are m));
          held_from = λ q z h. ⊎_elim
              (λ (t : (q ≡ o) × (has (hold_all O (sent_of O s plot value)).held z ≡ 1)). ⊎_elim (λ (a : has O.held z ≡ 1). inl (rw t.0 a))
              (λ a. inr (t.0, rw ids_are at a)) (C.held_from z t.1))
              (λ t. inl t.1) (upd_said (λ (X : Office). has X.held z ≡ 1) g.stores o (hold_all O (sent_of O s plot value)) q h);
          visible_to =
              λ q z h.
              upd_case (λ (X : Office). has X.visible z ≡ 1) g.stores o (hold_all O (sent_of O s plot value)) q
              (λ (x : q ≡ o). C.visible_to z (rw x at h)) (λ x. h);
          visible_from = λ q z h. ⊎_elim
              (λ (t : (q ≡ o) × (has (hold_all O (sent_of O s plot value)).visible z ≡ 1)). ⊎_elim (λ (a : has O.visible z ≡ 1). rw t.0 a)
              (λ a. absurd a) (C.visible_from z t.1))
              (λ t. t.1) (upd_said (λ (X : Office). has X.visible z ≡ 1) g.stores o (hold_all O (sent_of O s plot value)) q h);
          sent =
              ap (map frame_id) (upd_same g.lines (next_of n o) (g.lines (next_of n o) ++ write_sends O s plot value))
              ∙ map-append frame_id (g.lines (next_of n o)) (write_sends O s plot value)
              ∙ ap (λ (l : List (ℕ × ℕ)). map frame_id (g.lines (next_of n o)) ++ l)
              (frames_are O.offices (O.offices - 2) (sent_of O s plot value)
              ∙ ap (λ (x : ℕ). frames (x - 2) (map id_of (sent_of O s plot value))) fit.offices
              ∙ ap (frames (n - 2)) ids_are);
          others = λ q a. ap (map frame_id) (upd_other g.lines (next_of n o) (g.lines (next_of n o) ++ write_sends O s plot value) q a);
        }

    is_writes : Writes S' (wpast P) (world g) (world g') (seen s r.past) (seen (wrote_session O s plot value) (k ∷ r.past)) o ds k
    unfolding wrote_session
    is_writes =
        record {
          in_ring = lt;
          picked =
              left_without (λ (x : Entry). is_in O.held (id_of x)) (λ (y : ℕ). has O.held y ≡ 1) s.own
              (λ x m t. in_is O.held (id_of x) t);
          deps_in = λ d h. e_from d (rw (← e_is) at h);
          deps_all = λ d h. rw (← e_is) (e_to d h);
          wpast_is = λ q m. rw past_is at m;
          does = is_written;
          reads_from = λ x h. h;
          reads_to = λ x h. h;
          own_are = map-append id_of s.own (e ∷ []);
          past_are = λ q m. ⊎_elim (λ a. inr a) (λ a. inl a) (Memᴰ.cases_cons m);
        }

    W2 : Write S' (world g) (world g') o ds k
    W2 =
        write_ready S' (wpast P) (world g) (world g') w.inv w.law (seen s r.past) (seen (wrote_session O s plot value) (k ∷ r.past))
        F.sound o ds k is_writes

    pub wrote_whole : Whole n p two E P g'
    wrote_whole =
        record {
          inv = write_inv S' (world g) (world g') w.inv o ds k W2;
          law =
              write_law S' (wpast P) (world g) (world g') w.inv w.law (seen s r.past) (seen (wrote_session O s plot value) (k ∷ r.past))
              F.sound o ds k is_writes;
          offices =
              λ q.
              upd_case (λ (X : Office). OfficeFit n p E q X) g.stores o (hold_all O (sent_of O s plot value)) q (λ (x : q ≡ o). rw x C.fit)
              (λ x. w.offices q);
          good =
              λ x m.
              ⊎_elim (λ j. w.good x j) (λ (j : Memᴰ x (k ∷ [])). rw (Memᴰ.eq_of_singleton j) good_k)
              (Memᴰ.append_cases (ids g.log) (rw log_are at m));
          home =
              λ x m.
              ⊎_elim (λ j. is_written.held_to (x / 32) x (w.home x j)) (λ (j : Memᴰ x (k ∷ [])). rw (Memᴰ.eq_of_singleton j) at_home)
              (Memᴰ.append_cases (ids g.log) (rw log_are at m));
          lines = lines;
          sessions = λ x m. ⊎_elim (λ (q : x ≡ r'). rw q mine) (λ j. later (w.sessions x j)) (mem_set g.sessions i r' x m);
          tokens = λ x m. later (w.tokens x m);
          tokens_ok = w.tokens_ok;
          events =
              events_more E P _ g.events _ (λ v m. later_event (w.events v m))
              (event_fine E P _ _ (λ x. omega arith) (λ x. omega arith) (λ x. omega arith) refl refl);
        }
      where
        at_home : has (g'.stores (k / 32)).held k ≡ 1
        at_home = ap (λ (x : ℕ). has (g'.stores x).held k) home_k ∙ is_written.held_new k (Memᴰ.append_right ds (Memᴰ.head refl))

        later : {s : Content} {past : List ℕ} → TrackedFit n two E P (world g) s past → TrackedFit n two E P (world g') s past
        later {s} {past} X =
            record {
              sound = sound_later S' (wpast P) (world g) (world g') is_written.visible_to is_written.made_to (seen s past) X.sound;
              fit = X.fit;
            }

        later_event : {v : Event} → EventFit E P g.log v → EventFit E P g'.log v
        later_event X =
            record {
              not10 = X.not10;
              not11 = X.not11;
              not12 = X.not12;
              reads = X.reads;
              handed = λ q e m. let t = X.handed q e m in (t.0, t.1, is_written.made_to (id_of e) t.2);
              counted = X.counted;
              past_made = λ x m. is_written.made_to x (X.past_made x m);
            }

        mine : TrackedFit n two E P (world g') (wrote_session O s plot value) (k ∷ r.past)
        mine =
            record {
              sound =
                  write_sound S' (wpast P) (world g) (world g') w.inv w.law (seen s r.past)
                  (seen (wrote_session O s plot value) (k ∷ r.past)) F.sound o ds k is_writes;
              fit = mine_fit e_is;
            }

        lines : (q : ℕ) (f : Frame) → Memᴰ f (g'.lines q) → (f.offices ≡ n) × (f.entry ≡ E (id_of f.entry))
        lines q f m =
            ⊎_elim (λ t. ⊎_elim (λ j. w.lines (next_of n o) f j) new (Memᴰ.append_cases (g.lines (next_of n o)) t.1))
            (λ t. w.lines q f t.1)
            (upd_said (λ (l : List Frame). Memᴰ f l) g.lines (next_of n o) (g.lines (next_of n o) ++ write_sends O s plot value) q m)
          where
            new : Memᴰ f (write_sends O s plot value) → (f.offices ≡ n) × (f.entry ≡ E (id_of f.entry))
            new j =
                let t = framed_in O.offices (O.offices - 2) (sent_of O s plot value) f j in
                (t.0 ∙ fit.offices, (sent_ok f.entry t.1).0)

    -- ---- clocks

    module _ (K : Clocks n E g) where
      abbrev O' : Office
      O' = hold_all O (sent_of O s plot value)

      KS : ClockFit n E g.stores s
      KS = K.sessions r in-r

      k_held : has (hold_all O (sent_of O s plot value)).held (32 * (hold_all O (sent_of O s plot value)).own + made O) ≡ 1
      k_held =
          let h : has (hold_all O (sent_of O s plot value)).held k ≡ 1 =
          C.held_new k (rw ids_are (Memᴰ.append_right ds (Memᴰ.head refl)))
          in
          ap (λ (x : ℕ). has (hold_all O (sent_of O s plot value)).held (32 * x + made O)) C.fit.own
          ∙ ap (has (hold_all O (sent_of O s plot value)).held) (sym k_is)
          ∙ h

      made_up : made O < made (hold_all O (sent_of O s plot value))
      made_up = made_over (hold_all O (sent_of O s plot value)) (made O) few (λ t l h. gap t l h) k_held
        where
          gap : (t : ℕ) → t < 31 → has (hold_all O (sent_of O s plot value)).held (32 * (hold_all O (sent_of O s plot value)).own + (t + 1)) ≡ 1
              → has (hold_all O (sent_of O s plot value)).held (32 * (hold_all O (sent_of O s plot value)).own + t) ≡ 1
          gap t l h =
              ap (λ (x : ℕ). has (hold_all O (sent_of O s plot value)).held (32 * x + t)) C.fit.own
              ∙ C.fit.gap t l (ap (λ (x : ℕ). has (hold_all O (sent_of O s plot value)).held (32 * x + (t + 1))) (sym C.fit.own) ∙ h)

      mono : (j : ℕ) → made (g.stores j) ≤ made (upd g.stores o (hold_all O (sent_of O s plot value)) j)
      mono = upd_mono n E g.stores o (hold_all O (sent_of O s plot value)) (omega (arith, made_up))

      at_own : get_or e.clock o 0 ≡ made O + 1
      at_own = place_own writable

      at_other : (j : ℕ) → j < 8 → (j ≡ o → ⊥) → get_or e.clock j 0 ≡ max (max_to (visible_at O j) (32 * n)) (get_or s.clock j 0)
      at_other = place_at writable

      -- the new clock is above the session's
      above : (j : ℕ) → j < 8 → get_or s.clock j 0 ≤ get_or e.clock j 0
      above j l =
          ⊎_elim (λ (q : j ≡ o). rw q (omega (arith, at_own, KS.bound o lt))) (λ (q : j ≡ o → ⊥). omega (arith, at_other j l q)) (eq_or_ne j o)

      visible_le : (j x : ℕ) → j < n → visible_at O j x ≤ made (g.stores j)
      visible_le j x l = go (is_in O.visible x) refl
        where
          go : (t : Bool) → is_in O.visible x ≡ t → cond t (get_or (O.entry x).clock j 0) 0 ≤ made (g.stores j)
          go true t =
              let h = visible_held n p two eight E P g w o x lt (in_is O.visible x t) in
              let q : get_or (O.entry x).clock j 0 ≡ get_or (E x).clock j 0 = ap (λ (y : Entry). get_or y.clock j 0) (fit.entry_is x h) in
              omega (arith, K.bound x (held_made n p two eight E P g w o x h) j l)
          go false t = omega arith

      e_bound : (j : ℕ) → j < n → get_or e.clock j 0 ≤ made (upd g.stores o (hold_all O (sent_of O s plot value)) j)
      e_bound j l = ⊎_elim
          (λ (q : j ≡ o).
          let a : made (upd g.stores o (hold_all O (sent_of O s plot value)) j) ≡ made (hold_all O (sent_of O s plot value)) =
          ap made (ap (upd g.stores o (hold_all O (sent_of O s plot value))) q ∙ upd_same g.stores o (hold_all O (sent_of O s plot value)))
          in
          let b : get_or e.clock j 0 ≡ made O + 1 = ap (λ (y : ℕ). get_or e.clock y 0) q ∙ at_own in
          omega (arith, made_up))
          (λ (q : j ≡ o → ⊥).
          omega (
            arith,
            at_other j (omega arith) q,
            max_le (visible_at O j) (made (g.stores j)) (32 * n)
                (λ x h. visible_le j x l),
            KS.bound j l,
            mono j,
          ))
          (eq_or_ne j o)

      e_at : (j : ℕ) → get_or (E k).clock j 0 ≡ get_or e.clock j 0
      e_at j = ap (λ (y : Entry). get_or y.clock j 0) (sym e_is)

      office_is : e.office ≡ o
      unfolding new_entry
      office_is = fit.own

      serial_is : e.serial ≡ made O + 1
      unfolding new_entry
      serial_is = refl

      -- what is nowhere above it, and at this office not above the count, is under it
      under_new : (d : ℕ) → Covers e.clock (E d).clock → get_or (E d).clock o 0 ≤ made O → Under (E d) e
      under_new d c l =
          let q : get_or (E d).clock e.office 0 ≡ get_or (E d).clock o 0 = ap (λ (y : ℕ). get_or (E d).clock y 0) office_is in
          record { le = c; lt = omega (arith, serial_is) }

      -- what the new entry depends on
      new_under : (d : ℕ) → has (E k).deps d ≡ 1 → Under (E d) (E k)
      new_under d h =
          let src = e_from d (rw (← e_is) at h) in
          rw e_is at
          (under_new d (λ j l. omega (arith, KS.over d src j l, above j l)) (omega (arith, KS.over d src o (omega (arith, lt, eight)), KS.bound o lt)))

      -- what its office shows
      shown_under : (d : ℕ) → has O.visible d ≡ 1 → Under (E d) e
      shown_under d v = under_new d (λ j l. ⊎_elim (λ (q : j ≡ o). rw q (omega (arith, at_own, low))) (other j l) (eq_or_ne j o)) low
        where
          h : has O.held d ≡ 1
          h = visible_held n p two eight E P g w o d lt v

          low : get_or (E d).clock o 0 ≤ made O
          low = K.bound d (held_made n p two eight E P g w o d h) o lt

          other : (j : ℕ) → j < 8 → (j ≡ o → ⊥) → get_or (E d).clock j 0 ≤ get_or e.clock j 0
          other j l q =
              let a : visible_at O j d ≡ get_or (E d).clock j 0 =
              ap (λ (t : Bool). cond t (get_or (O.entry d).clock j 0) 0) (is_in_lem O.visible d v)
              ∙ ap (λ (y : Entry). get_or y.clock j 0) (fit.entry_is d h)
              in
              omega (arith, at_other j l q, max_ge (visible_at O j) (32 * n) d (held_range n p two eight E P g w o d h))

      pub over_shown : (d : ℕ) → has O.visible d ≡ 1 → Later e (E d)
      over_shown d v =
          let u = shown_under d v in
          let m = held_made n p two eight E P g w o d (visible_held n p two eight E P g w o d lt v) in
          record {
            outranked = under_outranks (E d) e n p eight (entry_facts n p e (new_ok writable)) (new_clock8 writable) (w.good d m).clock8 u;
            covered = u.le;
          }

      mine_clock : ClockFit n E (upd g.stores o (hold_all O (sent_of O s plot value))) (wrote_session O s plot value)
      unfolding wrote_session
      mine_clock =
          record {
            over = λ x m j l. over x m j l (join_at s.clock e.clock j l);
            bound = λ j l. omega (arith, join_at s.clock e.clock j (omega arith), KS.bound j l, mono j, e_bound j l);
          }
        where
          over : (x : ℕ) → (has s.read x ≡ 1) ⊎ Memᴰ x (map id_of (s.own ++ (e ∷ []))) → (j : ℕ) → j < 8
              → get_or (join s.clock e.clock) j 0 ≡ max (get_or s.clock j 0) (get_or e.clock j 0)
              → get_or (E x).clock j 0 ≤ get_or (join s.clock e.clock) j 0
          over x (inl m) j l q = omega (arith, KS.over x (inl m) j l)
          over x (inr m) j l q = ⊎_elim (λ y. omega (arith, KS.over x (inr y) j l))
              (λ (y : Memᴰ x (k ∷ [])).
              let z : get_or (E x).clock j 0 ≡ get_or e.clock j 0 =
              ap (λ (v : ℕ). get_or (E v).clock j 0) (Memᴰ.eq_of_singleton y) ∙ e_at j
              in
              omega arith) (Memᴰ.append_cases (map id_of s.own) (rw (map-append id_of s.own (e ∷ [])) at m))

      pub wrote_clocks : Clocks n E g'
      wrote_clocks =
          record {
            sessions =
                λ x m.
                ⊎_elim (λ (q : x ≡ r'). rw q mine_clock)
                (λ j. fit_later n E g.stores (upd g.stores o (hold_all O (sent_of O s plot value))) mono x.session (K.sessions x j))
                (mem_set g.sessions i r' x m);
            tokens = λ x m. fit_later n E g.stores (upd g.stores o (hold_all O (sent_of O s plot value))) mono x.token (K.tokens x m);
            bound = λ x m j l. ⊎_elim (λ y. omega (arith, K.bound x y j l, mono j))
                (λ (y : Memᴰ x (k ∷ [])).
                let z : get_or (E x).clock j 0 ≡ get_or e.clock j 0 =
                ap (λ (v : ℕ). get_or (E v).clock j 0) (Memᴰ.eq_of_singleton y) ∙ e_at j
                in
                omega (arith, e_bound j l))
                (Memᴰ.append_cases (ids g.log) (rw log_are at m));
            deps =
                λ x d m h.
                ⊎_elim (λ y. K.deps x d y h)
                (λ (y : Memᴰ x (k ∷ [])). let q = Memᴰ.eq_of_singleton y in rw q (new_under d (rw q at h)))
                (Memᴰ.append_cases (ids g.log) (rw log_are at m));
          }

  abbrev T8 : Bool
  T8 = leb (length (rows_of (write_sends O s plot value))) (length row)

  write_code_lem : write_code O s plot value (length row) ≡
      check (session_ok O.offices O.plots s) 3
      (check (ltb plot O.plots) 4
      (check (ltb value 268435456) 5 (check (ltb (length s.own) 16) 7 (check (ltb (made O) 32) 6 (check T8 8 0)))))
  unfolding write_code check or_else
  write_code_lem = rw (read_held n p two eight E P g w o lt s r.past F, own_code_lem n p two eight E P g w o s.own own_made)

  abbrev Passed : Type 0
  Passed =
      (session_ok O.offices O.plots s ≡ true) × (ltb plot O.plots ≡ true) × (ltb value 268435456 ≡ true) × (ltb (made O) 32 ≡ true)

  -- what holds of every refusal that can be, and where the tests are passed, holds of the write's code
  by_code : (Q : ℕ → Type 0) → ((c : ℕ) → Fine (suc c) → Q (suc c)) → (Passed → Q 0) → Q (write_code O s plot value (length row))
  unfolding check
  by_code Q refuse accept =
      rw write_code_lem
      (go (session_ok O.offices O.plots s) refl (ltb plot O.plots) refl (ltb value 268435456) refl (ltb (length s.own) 16)
      (ltb (made O) 32) refl T8)
    where
      go : (a : Bool) → session_ok O.offices O.plots s ≡ a → (b : Bool) → ltb plot O.plots ≡ b → (c : Bool) → ltb value 268435456 ≡ c
          → (d : Bool) → (f : Bool) → ltb (made O) 32 ≡ f → (h : Bool) → Q (check a 3 (check b 4 (check c 5 (check d 7 (check f 6 (check h 8 0))))))
      go true qa true qb true qc true true qf true = accept (qa, qb, qc, qf)
      go true qa true qb true qc true true qf false = refuse 7 (λ x. omega arith, λ x. omega arith, λ x. omega arith)
      go true qa true qb true qc true false qf h = refuse 5 (λ x. omega arith, λ x. omega arith, λ x. omega arith)
      go true qa true qb true qc false f qf h = refuse 6 (λ x. omega arith, λ x. omega arith, λ x. omega arith)
      go true qa true qb false qc d f qf h = refuse 4 (λ x. omega arith, λ x. omega arith, λ x. omega arith)
      go true qa false qb c qc d f qf h = refuse 3 (λ x. omega arith, λ x. omega arith, λ x. omega arith)
      go false qa b qb c qc d f qf h = refuse 2 (λ x. omega arith, λ x. omega arith, λ x. omega arith)

  abbrev after : ℕ → Sys
  after c = write_by over_contents n g o i r (given c O s row R) (given c O s row R).code

  log_is : (wrote over_contents n g o i r R).log ≡ g.log ++ (made_now ∷ [])
  log_is = ap (λ (x : Sys). x.log) wrote_is

  pub write_whole : Agrees E P (write_by over_contents n g o i r (write_on O s plot value row) (write_on O s plot value row).code).log →
      Whole n p two E P (write_by over_contents n g o i r (write_on O s plot value row) (write_on O s plot value row).code)
  unfolding write_on
  write_whole =
      by_code (λ c. Agrees E P (after c).log → Whole n p two E P (after c))
      (λ c f A. refused_whole n p two eight E P g w o (suc c) row i r in-r f)
      (λ t A. rw wrote_is (wrote_whole (rw log_is at A) t.0 t.1 t.2 t.3))

  pub write_distinct : Distinct g.log
      → Distinct (write_by over_contents n g o i r (write_on O s plot value row) (write_on O s plot value row).code).log
  unfolding write_on
  write_distinct D =
      by_code (λ c. Distinct (after c).log) (λ c f. D)
      (λ t. rw log_is (distinct_more g.log made_now D (fresh_id (ltb-true (made O) 32 t.3))))

  pub write_clocks : Clocks n E g
      → Agrees E P (write_by over_contents n g o i r (write_on O s plot value row) (write_on O s plot value row).code).log →
      Clocks n E (write_by over_contents n g o i r (write_on O s plot value row) (write_on O s plot value row).code)
  unfolding write_on
  write_clocks K =
      by_code (λ c. Agrees E P (after c).log → Clocks n E (after c)) (λ c f A. kept (suc c))
      (λ t A. rw wrote_is (wrote_clocks (rw log_is at A) t.0 t.1 t.2 t.3 K))
    where
      kept : (c : ℕ) → Clocks n E (refused_by over_contents n g o i r (refusal {A = Office} {B = Frame} c O s row))
      kept c =
          rw (upd_self g.stores o)
          (later n p two eight E P g w K g.stores (λ j. omega arith) (set g.sessions i (record { session = s; past = r.past }))
          (λ x m. ⊎_elim (λ (q : x ≡ record { session = s; past = r.past }). rw q (K.sessions r in-r)) (λ j. K.sessions x j)
          (mem_set g.sessions i (record { session = s; past = r.past }) x m)) _ _)

  -- the entry of a write that is not refused, the last of the session's own, is later than all that its office shows
  pub write_over : Clocks n E g → Agrees E P (write_by over_contents n g o i r (write_on O s plot value row) (write_on O s plot value row).code).log
      → (write_on O s plot value row).code ≡ 0 → (d : ℕ) → has O.visible d ≡ 1 → Later (last_of (write_on O s plot value row).session.own) (E d)
  unfolding write_on
  write_over K =
      by_code
      (λ c.
      Agrees E P (after c).log → (given c O s row R).code ≡ 0 → (x : ℕ) → has O.visible x ≡ 1 →
      Later (last_of (given c O s row R).session.own) (E x))
      (λ c f A z x v. absurd (omega arith))
      (λ t A z x v. rw last_is (over_shown (rw log_is at A) t.0 t.1 t.2 t.3 K x v))
