-- Every call keeps the invariant: so it holds in every run on contents. Assumes nothing.
use Prim.Native.Nat.{ℕ, ◌*◌, ◌+◌, ◌≤◌, suc, zero}
use mathlib.Core.Bool.{Bool, cond, false, true}
use mathlib.Core.List.Memᴰ
use mathlib.Core.List.{List, Memᴰ, [], ◌++◌, ◌∷◌}
use mathlib.Core.Logic.{⊎_elim}
use mathlib.Core.Path.{◌≡◌, refl}
use native.Mathlib.Omega.{arith}
use lib.Dec.{eqb, leb}
use lib.ListN.{length}
use borrow.Author.Tests.{eqb-true}
use Rattle.causal.specs.Codes.{check}
use Rattle.causal.specs.Lists.{zeros}
use Rattle.causal.specs.Sets.{has}
use Rattle.causal.specs.Tests.{both}
use Rattle.causal.proofs.Sets.{has_zeros, ids_zeros}
use Rattle.causal.proofs.Tests.{both_true}
use Rattle.frame.specs.Frames.{accepts, frame_of, ring_ok}
use Rattle.frame.specs.Sessions.{Content, fresh_content, session_ok}
use Rattle.frame.specs.TokenCalls.{write_token_code}
use Rattle.frame.specs.Tokens.{token_words}
use Rattle.frame.specs.declared.entry.Entry.{Entry}
use Rattle.joining.specs.Joins.{join_code, joined}
use Rattle.store.specs.Offices.{empty_office}
use Rattle.office.specs.Calls.{fresh_code, joint_on, parsed, read_on, receive_on}
use Rattle.mesh.specs.World.{World}
use Rattle.mesh.proofs.Carry.{fresh_inv}
use Rattle.mesh.proofs.Sessions.{blank_sound}
use Rattle.ring.specs.Holds.{Distinct}
use Rattle.ring.specs.Run.{Call, Made, Tracked, TrackedToken, answered, at, contents_run, from_token, join_by, noted_event, over_contents, run, start_by, starting, step, token_by, turned_by, with_session, with_token, words_by, write_at, write_by, writer_past}
use Rattle.ring.proofs.Base.{event_fine, not_nine, noted_whole, turned_whole}
use Rattle.ring.proofs.ByCases.{fresh_log, from_log, join_log, log_each, read_log, receive_log, step_each, token_log, words_log}
use Rattle.ring.proofs.Clocks.{Clocks}
use Rattle.ring.proofs.ClockSteps.{start_clocks, step_clocks}
use Rattle.ring.proofs.Fit.{Agrees, Sys, TrackedFit, Whole, seen, shape, world, wpast}
use Rattle.ring.proofs.Log.{agrees_part, distinct_none, entry_in, log_agrees}
use Rattle.ring.proofs.ReadKeeps.{joint_whole, one_whole}
use Rattle.ring.proofs.ReceiveKeeps.{receive_whole}
use Rattle.ring.proofs.WriteKeeps.{write_distinct, write_whole}
use Rattle.ring.proofs.JoinKeeps.{join_alike, join_fit}

module _ (n p : ℕ) (two : 2 ≤ n) (eight : n ≤ 8) where
  module _ (E : ℕ → Entry) (P : ℕ → List ℕ) where
    -- a call only adds to the log
    pub write_adds : (g : Sys) (o i : ℕ) (r : Tracked) (plot value : ℕ) (row : List ℕ)
        → Agrees E P (write_at over_contents n g o i plot value row (r ∷ [])).log → Agrees E P g.log
    write_adds g o i r plot value row A = go (over_contents.on_write (g.stores o) r.session plot value row).code A
      where
        go : (c : ℕ) → Agrees E P (write_by over_contents n g o i r (over_contents.on_write (g.stores o) r.session plot value row) c).log
            → Agrees E P g.log
        go zero B = agrees_part E P g.log _ B
        go (suc c) B = B

    module _ (g : Sys) (w : Whole n p two E P g) where
      noted : (c k : ℕ) (row : List ℕ) → (c ≡ 10 → ⊥) → (c ≡ 11 → ⊥) → (c ≡ 12 → ⊥)
          → Whole n p two E P (noted_event g (answered c k row))
      noted c k row x y z = noted_whole n p two eight E P g w (answered c k row) (event_fine E P _ _ x y z refl refl)

      with_session_lem : (r : Tracked) → TrackedFit n two E P (world g) r.session r.past → Whole n p two E P (with_session g r)
      with_session_lem r F =
          record {
            inv = w.inv;
            law = w.law;
            offices = w.offices;
            good = w.good;
            home = w.home;
            lines = w.lines;
            sessions =
                λ x m.
                ⊎_elim (λ j. w.sessions x j) (λ (j : Memᴰ x (r ∷ [])). rw (Memᴰ.eq_of_singleton j) F)
                (Memᴰ.append_cases g.sessions m);
            tokens = w.tokens;
            tokens_ok = w.tokens_ok;
            events = w.events;
          }

      with_token_lem : (r : TrackedToken Content) → TrackedFit n two E P (world g) r.token r.past
          → (ring_ok r.token.offices 64 ≡ true) × (session_ok r.token.offices 64 r.token ≡ true) →
          Whole n p two E P (with_token g r)
      with_token_lem r F ok =
          record {
            inv = w.inv;
            law = w.law;
            offices = w.offices;
            good = w.good;
            home = w.home;
            lines = w.lines;
            sessions = w.sessions;
            tokens =
                λ x m.
                ⊎_elim (λ j. w.tokens x j) (λ (j : Memᴰ x (r ∷ [])). rw (Memᴰ.eq_of_singleton j) F)
                (Memᴰ.append_cases g.tokens m);
            tokens_ok =
                λ x m.
                ⊎_elim (λ j. w.tokens_ok x j) (λ (j : Memᴰ x (r ∷ [])). rw (Memᴰ.eq_of_singleton j) ok)
                (Memᴰ.append_cases g.tokens m);
            events = w.events;
          }

    blank_fit : (W : World) (m : ℕ) → TrackedFit n two E P W (fresh_content m) []
    blank_fit W m =
        record {
          sound =
              blank_sound (shape n two E) (wpast P) W (seen (fresh_content m) []) (λ k (h : has zeros k ≡ 1). omega (arith, has_zeros k)) refl
              (λ q j. Memᴰ.not-nil j);
          fit = record { clock8 = refl; read_set = ids_zeros; own_is = λ e j. absurd (Memᴰ.not-nil j) };
        }

    fresh_whole : (g : Sys) → Whole n p two E P g → (m : ℕ) → Whole n p two E P (start_by over_contents n g m (fresh_code m))
    unfolding fresh_code check
    fresh_whole g w m = go (both (leb 2 m) (leb m 8))
      where
        go : (t : Bool) → Whole n p two E P (start_by over_contents n g m (check t 1 0))
        go true =
            with_session_lem _ (noted g w 0 0 [] (λ x. omega arith) (λ x. omega arith) (λ x. omega arith))
            (record { session = fresh_content m; past = [] }) (blank_fit (world g) m)
        go false = noted g w 1 0 [] (λ x. omega arith) (λ x. omega arith) (λ x. omega arith)

    token_whole : (g : Sys) → Whole n p two E P g → (r : Tracked) → Memᴰ r g.sessions → (row : List ℕ)
        → Whole n p two E P (token_by over_contents n g r row (write_token_code r.session (length row)))
    unfolding write_token_code over_contents check
    token_whole g w r m row =
        go (both (ring_ok r.session.offices 64) (session_ok r.session.offices 64 r.session)) refl
        (leb (length (token_words r.session)) (length row))
      where
        go : (t : Bool) → both (ring_ok r.session.offices 64) (session_ok r.session.offices 64 r.session) ≡ t → (u : Bool)
            → Whole n p two E P (token_by over_contents n g r row (check t 3 (check u 8 0)))
        go true q true =
            with_token_lem _ (noted g w 0 _ _ (λ x. omega arith) (λ x. omega arith) (λ x. omega arith))
            (record { token = r.session; past = r.past }) (w.sessions r m) (both_true _ _ q)
        go true q false = noted g w 8 0 _ (λ x. omega arith) (λ x. omega arith) (λ x. omega arith)
        go false q u = noted g w 3 0 _ (λ x. omega arith) (λ x. omega arith) (λ x. omega arith)

    from_whole : (g : Sys) → Whole n p two E P g → (r : TrackedToken Content) → Memᴰ r g.tokens → (m q : ℕ)
        → Whole n p two E P (from_token over_contents n g r (over_contents.token_code m q r.token))
    unfolding over_contents check
    from_whole g w r mem m q = go (ring_ok m q) (session_ok m q r.token)
      where
        go : (t u : Bool) → Whole n p two E P (from_token over_contents n g r (check t 1 (check u 9 0)))
        go true true =
            with_session_lem _ (noted g w 0 0 [] (λ x. omega arith) (λ x. omega arith) (λ x. omega arith))
            (record { session = r.token; past = r.past }) (w.tokens r mem)
        go true false = noted g w 9 0 [] (λ x. omega arith) (λ x. omega arith) (λ x. omega arith)
        go false u = noted g w 1 0 [] (λ x. omega arith) (λ x. omega arith) (λ x. omega arith)

    join_whole : (g : Sys) → Whole n p two E P g → (a b : Tracked) → Memᴰ a g.sessions → Memᴰ b g.sessions → (m q : ℕ)
        → Whole n p two E P (join_by over_contents n g a b (join_code m q a.session b.session))
    unfolding join_code check
    join_whole g w a b ia ib m q =
        rw (join_alike n p two eight E P g w a b ia ib)
        (go (ring_ok m q) (both (session_ok m q a.session) (session_ok m q b.session)) (leb (length (joined a.session b.session).own) 16))
      where
        go : (t u v : Bool) → Whole n p two E P (join_by over_contents n g a b (check t 1 (check u 3 (check v 7 0))))
        go true true true =
            with_session_lem _ (noted g w 0 0 [] (λ x. omega arith) (λ x. omega arith) (λ x. omega arith))
            (record { session = joined a.session b.session; past = a.past ++ b.past }) (join_fit n p two eight E P g w a b ia ib)
        go true true false = noted g w 7 0 [] (λ x. omega arith) (λ x. omega arith) (λ x. omega arith)
        go true false v = noted g w 3 0 [] (λ x. omega arith) (λ x. omega arith) (λ x. omega arith)
        go false u v = noted g w 1 0 [] (λ x. omega arith) (λ x. omega arith) (λ x. omega arith)

    words_whole : (g : Sys) → Whole n p two E P g → (o : ℕ) (words row : List ℕ)
        → Whole n p two E P (words_by over_contents n g o (over_contents.on_words (g.stores o) words row))
    unfolding over_contents
    words_whole g w o words row = go (accepts (g.stores o).offices (g.stores o).plots words)
      where
        other : (t : Bool) → eqb (receive_on (g.stores o) (frame_of words) row).code 9 ≡ t
            → Whole n p two E P (cond t (turned_by over_contents n g o (receive_on (g.stores o) (frame_of words) row)) g)
        other true e = absurd (not_nine (g.stores o) (frame_of words) row (eqb-true (receive_on (g.stores o) (frame_of words) row).code 9 e))
        other false e = w

        go : (t : Bool)
            → Whole n p two E P (words_by over_contents n g o (parsed t (g.stores o) row (receive_on (g.stores o) (frame_of words) row)))
        go true = other (eqb (receive_on (g.stores o) (frame_of words) row).code 9) refl
        go false = turned_whole n p two eight E P g w o 9 row (fresh_content 0) (λ x. omega arith, λ x. omega arith, λ x. omega arith)

    -- a call only adds to the log, so what agrees with it after agreed before
    step_adds : (g : Sys) (c : Call) → Agrees E P (step over_contents n g c).log → Agrees E P g.log
    step_adds g =
        log_each over_contents n g (λ (l : List Made). Agrees E P l → Agrees E P g.log) (λ A. A)
        (λ o i plot value row r lt m A. write_adds g o i r plot value row A)

    -- where the invariant holds before, for what agrees with the log, it holds after
    step_whole : (g : Sys) → (Agrees E P g.log → Whole n p two E P g) → (c : Call) → Agrees E P (step over_contents n g c).log
        → Whole n p two E P (step over_contents n g c)
    unfolding over_contents
    step_whole g W =
        step_each over_contents n g (λ (h : Sys). Agrees E P h.log → Whole n p two E P h)
        (record {
          none = W;
          writes =
              λ o i plot value row r lt m A.
              write_whole n p two eight E P g (W (write_adds g o i r plot value row A)) o lt i r m plot value row A;
          reads = λ o i plot r lt m A.
              let B : Agrees E P g.log =
              rw
              (read_log over_contents n g o i r (plot ∷ []) (read_on (g.stores o) r.session plot) (read_on (g.stores o) r.session plot).code) at A
              in
              one_whole n p two eight E P g (W B) B o lt i r m plot;
          joint_reads = λ o i plots row r lt m A.
              let B : Agrees E P g.log =
              rw
              (read_log over_contents n g o i r plots (joint_on (g.stores o) r.session plots row) (joint_on (g.stores o) r.session plots row).code) at A
              in
              joint_whole n p two eight E P g (W B) B o lt i r m plots row;
          receives = λ o row f rest lt e A.
              receive_whole n p two eight E P g
              (W (rw (receive_log over_contents n g o rest (receive_on (g.stores o) f row) (receive_on (g.stores o) f row).code) at A)) o lt f rest e row;
          words =
              λ o words row lt A.
              words_whole g (W (rw (words_log over_contents n g o (over_contents.on_words (g.stores o) words row)) at A)) o words row;
          starts = λ m A. fresh_whole g (W (rw (fresh_log over_contents n g m (fresh_code m)) at A)) m;
          token_writes =
              λ r row m A. token_whole g (W (rw (token_log over_contents n g r row (write_token_code r.session (length row))) at A)) r m row;
          token_reads = λ r m q i A. from_whole g (W (rw (from_log over_contents n g r (over_contents.token_code m q r.token)) at A)) r i m q;
          copies = λ r m A. with_session_lem g (W A) r ((W A).sessions r m);
          token_copies = λ r m A. with_token_lem g (W A) r ((W A).tokens r m) ((W A).tokens_ok r m);
          joins =
              λ a b m q i j A. join_whole g (W (rw (join_log over_contents n g a b (join_code m q a.session b.session)) at A)) a b i j m q;
        })

    start_whole : Whole n p two E P (starting (λ o. empty_office n o p))
    start_whole =
        record {
          inv =
              fresh_inv (shape n two E) (world (starting (λ o. empty_office n o p)))
              (record {
                no_made = λ x m. Memᴰ.not-nil m;
                no_held = λ o x (h : has zeros x ≡ 1). omega (arith, has_zeros x);
                no_visible = λ o x (h : has zeros x ≡ 1). omega (arith, has_zeros x);
                no_line = λ o. refl;
              });
          law = λ e q m x. absurd (Memᴰ.not-nil m);
          offices =
              λ o.
              record {
                offices = refl;
                own = refl;
                plots = refl;
                held_set = ids_zeros;
                visible_set = ids_zeros;
                entry_is = λ k (h : has zeros k ≡ 1). absurd (omega (arith, has_zeros k));
                entry_none = λ k h. refl;
                gap = λ s l (h : has zeros (32 * o + (s + 1)) ≡ 1). omega (arith, has_zeros (32 * o + (s + 1)));
              };
          good = λ k m. absurd (Memᴰ.not-nil m);
          home = λ k m. absurd (Memᴰ.not-nil m);
          lines = λ o f m. absurd (Memᴰ.not-nil m);
          sessions = λ r m. absurd (Memᴰ.not-nil m);
          tokens = λ r m. absurd (Memᴰ.not-nil m);
          tokens_ok = λ r m. absurd (Memᴰ.not-nil m);
          events = λ v m. absurd (Memᴰ.not-nil m);
        }

  -- no id is made twice, and whatever agrees with the log, the invariant holds, and that of the clocks
  pub record Ok (g : Sys) : Type 0 where
    pub distinct : Distinct g.log
    pub whole : (E : ℕ → Entry) (P : ℕ → List ℕ) → Agrees E P g.log → Whole n p two E P g
    pub clocks : (E : ℕ → Entry) (P : ℕ → List ℕ) → Agrees E P g.log → Clocks n E g

  pub ok_whole : (g : Sys) → Ok g → Whole n p two (entry_in g.log) (writer_past g.log) g
  ok_whole g k = k.whole (entry_in g.log) (writer_past g.log) (log_agrees g.log k.distinct)

  pub ok_clocks : (g : Sys) → Ok g → Clocks n (entry_in g.log) g
  ok_clocks g k = k.clocks (entry_in g.log) (writer_past g.log) (log_agrees g.log k.distinct)

  step_distinct : (g : Sys) → Ok g → (c : Call) → Distinct (step over_contents n g c).log
  unfolding over_contents
  step_distinct g k =
      log_each over_contents n g Distinct k.distinct
      (λ o i plot value row r lt m.
      write_distinct n p two eight (entry_in g.log) (writer_past g.log) g (ok_whole g k) o lt i r m plot value row k.distinct)

  pub step_ok : (g : Sys) → Ok g → (c : Call) → Ok (step over_contents n g c)
  step_ok g k c =
      record {
        distinct = step_distinct g k c;
        whole = λ E P A. step_whole E P g (λ B. k.whole E P B) c A;
        clocks = λ E P A.
            let B = step_adds E P g c A in
            step_clocks n p two eight E P g (k.whole E P B) B (k.clocks E P B) c A;
      }

  pub run_ok : (cs : List Call) (g : Sys) → Ok g → Ok (run over_contents n g cs)
  unfolding run
  run_ok [] g k = k
  run_ok (c ∷ cs) g k = run_ok cs (step over_contents n g c) (step_ok g k c)

  pub start_ok : Ok (starting (λ o. empty_office n o p))
  start_ok = record { distinct = distinct_none; whole = λ E P A. start_whole E P; clocks = λ E P A. start_clocks n p two eight E P }

  -- in every run on contents
  pub contents_ok : (cs : List Call) → Ok (contents_run n p cs)
  unfolding contents_run
  contents_ok cs = run_ok cs (starting (λ o. empty_office n o p)) start_ok
