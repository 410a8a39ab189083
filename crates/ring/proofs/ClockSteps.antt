-- Every call keeps the clocks: what Clocks.antt and WriteKeeps.antt say of single calls, of any call; and so does the start. Assumes nothing.
use Prim.Native.Nat.{ℕ, ◌≤◌, suc, zero}
use mathlib.Core.Bool.{Bool, cond, false, true}
use mathlib.Core.List.Memᴰ
use mathlib.Core.List.{List, Memᴰ, [], ◌++◌, ◌∷◌}
use mathlib.Core.Logic.{⊎_elim}
use mathlib.Core.Path.{◌≡◌, refl}
use native.Mathlib.Omega.{arith}
use lib.Dec.{eqb}
use lib.ListN.{length}
use borrow.Author.Tests.{eqb-true}
use Rattle.causal.specs.Lists.{zeros}
use Rattle.causal.specs.Sets.{has}
use Rattle.causal.proofs.Sets.{has_zeros, zero_at}
use Rattle.frame.specs.Frames.{accepts, frame_of}
use Rattle.frame.specs.Sessions.{Content, fresh_content}
use Rattle.frame.specs.TokenCalls.{write_token_code}
use Rattle.frame.specs.declared.entry.Entry.{Entry}
use Rattle.joining.specs.Joins.{join_code, joined}
use Rattle.store.specs.Offices.{Office, empty_office}
use Rattle.office.specs.Calls.{fresh_code, joint_on, parsed, read_on, receive_on}
use Rattle.ring.specs.Run.{Call, Event, Tracked, TrackedToken, answered, from_token, join_by, noted_event, over_contents, start_by, starting, step, token_by, turned_by, with_session, with_token, words_by}
use Rattle.ring.proofs.Base.{not_nine}
use Rattle.ring.proofs.ByCases.{step_each}
use Rattle.ring.proofs.Clocks.{ClockFit, Clocks, joint_clocks, one_clocks, receive_clocks}
use Rattle.ring.proofs.Fit.{Agrees, Sys, Whole, upd_self}
use Rattle.ring.proofs.WriteKeeps.{write_clocks}
use Rattle.ring.proofs.JoinKeeps.{join_clock}

module _ (n p : ℕ) (two : 2 ≤ n) (eight : n ≤ 8) where
  module _ (E : ℕ → Entry) (P : ℕ → List ℕ) where
    noted : (g : Sys) (v : Event) → Clocks n E g → Clocks n E (noted_event g v)
    noted g v K = record { sessions = K.sessions; tokens = K.tokens; bound = K.bound; deps = K.deps }

    with_session_lem : (g : Sys) (r : Tracked) → ClockFit n E g.stores r.session → Clocks n E g → Clocks n E (with_session g r)
    with_session_lem g r F K =
        record {
          sessions =
              λ x m.
              ⊎_elim (λ j. K.sessions x j) (λ (j : Memᴰ x (r ∷ [])). rw (Memᴰ.eq_of_singleton j) F)
              (Memᴰ.append_cases g.sessions m);
          tokens = K.tokens;
          bound = K.bound;
          deps = K.deps;
        }

    with_token_lem : (g : Sys) (r : TrackedToken Content) → ClockFit n E g.stores r.token → Clocks n E g
        → Clocks n E (with_token g r)
    with_token_lem g r F K =
        record {
          sessions = K.sessions;
          tokens =
              λ x m.
              ⊎_elim (λ j. K.tokens x j) (λ (j : Memᴰ x (r ∷ [])). rw (Memᴰ.eq_of_singleton j) F)
              (Memᴰ.append_cases g.tokens m);
          bound = K.bound;
          deps = K.deps;
        }

    blank : (f : ℕ → Office) (m : ℕ) → ClockFit n E f (fresh_content m)
    blank f m =
        record {
          over =
              λ k h j l.
              ⊎_elim (λ (x : has zeros k ≡ 1). absurd (omega (arith, has_zeros k))) (λ (x : Memᴰ k []). absurd (Memᴰ.not-nil x)) h;
          bound = λ j l. omega (arith, zero_at j);
        }

    -- every call, where the invariant holds before
    pub step_clocks : (g : Sys) → Whole n p two E P g → Agrees E P g.log → Clocks n E g → (c : Call) → Agrees E P (step over_contents n g c).log
        → Clocks n E (step over_contents n g c)
    unfolding over_contents
    step_clocks g w A K =
        step_each over_contents n g (λ (h : Sys). Agrees E P h.log → Clocks n E h)
        (record {
          none = λ B. K;
          writes = λ o i plot value row r lt m B. write_clocks n p two eight E P g w o lt i r m plot value row K B;
          reads = λ o i plot r lt m B. one_clocks n p two eight E P g w K o lt i r m A plot (read_on (g.stores o) r.session plot).code;
          joint_reads =
              λ o i plots row r lt m B.
              joint_clocks n p two eight E P g w K o lt i r m A plots row (joint_on (g.stores o) r.session plots row).code;
          receives = λ o row f rest lt e B. receive_clocks n p two eight E P g w K o lt f rest e row (receive_on (g.stores o) f row).code;
          words = λ o words row lt B. by_words o words row (accepts (g.stores o).offices (g.stores o).plots words);
          starts = λ m B. by_start m (fresh_code m);
          token_writes = λ r row m B. by_token r row m (write_token_code r.session (length row));
          token_reads = λ r m q i B. by_from r i (over_contents.token_code m q r.token);
          copies = λ r m B. with_session_lem g r (K.sessions r m) K;
          token_copies = λ r m B. with_token_lem g r (K.tokens r m) K;
          joins = λ a b m q i j B. by_join a b i j (join_code m q a.session b.session);
        })
      where
        other : (o : ℕ) (words row : List ℕ) (t : Bool) → eqb (receive_on (g.stores o) (frame_of words) row).code 9 ≡ t
            → Clocks n E (cond t (turned_by over_contents n g o (receive_on (g.stores o) (frame_of words) row)) g)
        other o words row true e =
            absurd (not_nine (g.stores o) (frame_of words) row (eqb-true (receive_on (g.stores o) (frame_of words) row).code 9 e))
        other o words row false e = K

        by_words : (o : ℕ) (words row : List ℕ) (t : Bool)
            → Clocks n E (words_by over_contents n g o (parsed t (g.stores o) row (receive_on (g.stores o) (frame_of words) row)))
        by_words o words row true = other o words row (eqb (receive_on (g.stores o) (frame_of words) row).code 9) refl
        by_words o words row false = rw (upd_self g.stores o) (noted g (answered 9 0 row) K)

        by_start : (m c : ℕ) → Clocks n E (start_by over_contents n g m c)
        by_start m zero =
            with_session_lem (noted_event g (answered 0 0 [])) (record { session = fresh_content m; past = [] }) (blank g.stores m)
            (noted g (answered 0 0 []) K)
        by_start m (suc c) = noted g (answered (suc c) 0 []) K

        by_join : (a b : Tracked) → Memᴰ a g.sessions → Memᴰ b g.sessions → (c : ℕ) → Clocks n E (join_by over_contents n g a b c)
        by_join a b i j zero =
            with_session_lem (noted_event g (answered 0 0 [])) (record { session = joined a.session b.session; past = a.past ++ b.past })
            (join_clock n p two eight E P g w a b i j g.stores (K.sessions a i) (K.sessions b j)) (noted g (answered 0 0 []) K)
        by_join a b i j (suc c) = noted g (answered (suc c) 0 []) K

        by_token : (r : Tracked) (row : List ℕ) → Memᴰ r g.sessions → (c : ℕ) → Clocks n E (token_by over_contents n g r row c)
        by_token r row m zero =
            with_token_lem (noted_event g _) (record { token = r.session; past = r.past }) (K.sessions r m) (noted g _ K)
        by_token r row m (suc c) = noted g _ K

        by_from : (r : TrackedToken Content) → Memᴰ r g.tokens → (c : ℕ) → Clocks n E (from_token over_contents n g r c)
        by_from r i zero =
            with_session_lem (noted_event g (answered 0 0 [])) (record { session = r.token; past = r.past }) (K.tokens r i)
            (noted g (answered 0 0 []) K)
        by_from r i (suc c) = noted g (answered (suc c) 0 []) K

    pub start_clocks : Clocks n E (starting (λ o. empty_office n o p))
    start_clocks =
        record {
          sessions = λ r m. absurd (Memᴰ.not-nil m);
          tokens = λ r m. absurd (Memᴰ.not-nil m);
          bound = λ k m. absurd (Memᴰ.not-nil m);
          deps = λ k d m. absurd (Memᴰ.not-nil m);
        }
