-- THE THEOREM: the claim holds of every run. Assumes nothing.
use Rattle.std.proofs.Common.{None, Some}
use Prim.Native.Nat.{ℕ, ◌*◌, ◌<◌, ◌≤◌}
use mathlib.Core.Bool.{Bool, false, true}
use mathlib.Core.List.Memᴰ
use mathlib.Core.List.{List, Memᴰ, [], ◌∷◌}
use mathlib.Core.Logic.{◌⊎◌, inl, inr, ⊎_elim}
use mathlib.Core.Path.{◌∙◌, ◌≡◌, ap, refl, sym}
use lib.Dec.{ltb}
use lib.ListN.{length}
use borrow.Author.Tests.{le-leb, lt-ltb}
use Rattle.causal.specs.Sets.{has}
use Rattle.causal.proofs.Tests.{both_intro}
use Rattle.frame.specs.Entries.{entry_ok, id_of, outranks}
use Rattle.frame.specs.Frames.{ring_ok}
use Rattle.frame.specs.declared.entry.Entry.{Entry}
use Rattle.frame.proofs.Entries.{outranks_total}
use Rattle.store.specs.Offices.{Found, Office, current, empty_office, need, office_of, settings_ok, store_words}
use Rattle.store.proofs.Best.{Over, current_from, current_over}
use Rattle.store.proofs.StoreBack.{Canon, store_back}
use Rattle.office.specs.Calls.{open_office}
use Rattle.mesh.proofs.Sessions.{past_made, writer_made, writer_visible}
use Rattle.ring.specs.Holds.{Demand3, Holds, HoldsEntry, Logged, Opens, Same, token_on}
use Rattle.ring.specs.Run.{Call, Made, TrackedToken, contents_run, over_contents, over_words, run, starting, step, words_run, writer_past}
use Rattle.ring.proofs.Base.{dep_made, held_made, held_range, visible_held}
use Rattle.ring.proofs.Fit.{Agrees, Sys, Whole, ids, seen, shape, world, wpast}
use Rattle.ring.proofs.Log.{entry_in, log_agrees, one_made}
use Rattle.ring.proofs.SameRun.{WState, long, sound, step_same}
use Rattle.ring.proofs.Sounds.{canon, ring_ok_lem}
use Rattle.ring.proofs.Steps.{Ok, ok_whole, run_ok, start_ok, step_ok}

pub over_some : (f : Found) (q : Entry) → Over f q → (e : Entry) × (f ≡ Some e) × (outranks q e ≡ false)
over_some None q h = absurd h
over_some (Some e) q h = (e, refl, h)

module _ (n p : ℕ) (two : 2 ≤ n) (eight : n ≤ 8) (one : 1 ≤ p) (p64 : p ≤ 64) where
  open_is : (o : ℕ) → o < n → (ws : List ℕ) → need n ≤ length ws → (open_office n o p ws).1 ≡ store_words ws (empty_office n o p)
  unfolding open_office settings_ok
  open_is o lt ws long = rw (both_intro (ring_ok n p) (ltb o n) (ring_ok_lem n p two eight one p64) (lt-ltb o n lt), le-leb (need n) (length ws) long)

  open_accepts : (o : ℕ) → o < n → (ws : List ℕ) → need n ≤ length ws → (open_office n o p ws).0 ≡ 0
  unfolding open_office settings_ok
  open_accepts o lt ws long =
      rw (both_intro (ring_ok n p) (ltb o n) (ring_ok_lem n p two eight one p64) (lt-ltb o n lt), le-leb (need n) (length ws) long)

  start_same : (rows : ℕ → List ℕ) → ((o : ℕ) → o < n → need n ≤ length (rows o))
      → Same n rows (starting (λ o. (open_office n o p (rows o)).1)) (starting (λ o. empty_office n o p))
  start_same rows long =
      record {
        stores = λ o lt. ap office_of (open_is o lt (rows o) (long o lt)) ∙ store_back n (empty_office n o p) (empty o lt) (rows o) (long o lt);
        words = λ o lt. open_is o lt (rows o) (long o lt);
        lines = λ o. refl;
        sessions = refl;
        tokens = refl;
        log = refl;
        events = refl;
      }
    where
      empty : (o : ℕ) → o < n → Canon n (empty_office n o p)
      empty o lt =
          canon n p two eight one p64 (entry_in []) (writer_past []) (starting (λ o. empty_office n o p))
          (ok_whole n p two eight (starting (λ o. empty_office n o p)) (start_ok n p two eight)) o lt

  run_same : (rows : ℕ → List ℕ) → ((o : ℕ) → o < n → need n ≤ length (rows o)) → (cs : List Call) (g : WState) (c : Sys) → Same n rows g c
      → Ok n p two eight c → Same n rows (run over_words n g cs) (run over_contents n c cs)
  unfolding run
  run_same rows long [] g c S k = S
  run_same rows long (x ∷ cs) g c S k =
      let K = step_ok n p two eight c k x in
      run_same rows long cs (step over_words n g x) (step over_contents n c x) (step_same n p two eight one p64 rows long g c S k x K) K

  module _ (rows : ℕ → List ℕ) (enough : (o : ℕ) → o < n → need n ≤ length (rows o)) (g : WState) (c : Sys) (S : Same n rows g c)
      (k : Ok n p two eight c) where
    abbrev E : ℕ → Entry
    E = entry_in c.log

    abbrev P : ℕ → List ℕ
    P = writer_past c.log

    w : Whole n p two (entry_in c.log) (writer_past c.log) c
    w = ok_whole n p two eight c k

    A : Agrees (entry_in c.log) (writer_past c.log) c.log
    A = log_agrees c.log k.distinct

    in_c : (m : Made) → Memᴰ m g.log → Memᴰ m c.log
    in_c m i = rw S.log at i

    in_g : (m : Made) → Memᴰ m c.log → Memᴰ m g.log
    in_g m i = rw S.log i

    made_m : (m : Made) → Memᴰ m c.log → Memᴰ (id_of m.entry) (ids c.log)
    made_m m i = Memᴰ.map (λ (x : Made). id_of x.entry) i

    logged : (x : ℕ) → Memᴰ x (ids c.log) → Logged g.log x
    logged x m = let t = Memᴰ.of_map (λ (m : Made). id_of m.entry) c.log m in (t.0, in_g t.0 t.1, t.2)

    down : (x d : ℕ) → Memᴰ x (ids c.log) → has (entry_in c.log x).deps d ≡ 1 → Memᴰ d (ids c.log)
    down x d m h = dep_made n p two eight (entry_in c.log) (writer_past c.log) c w x d m h

    -- visible and held, of the content
    visible_c : (o x : ℕ) → o < n → has (office_of (g.stores o)).visible x ≡ 1 → has (c.stores o).visible x ≡ 1
    visible_c o x lt h = ap (λ (O : Office). has O.visible x) (sym (S.stores o lt)) ∙ h

    holds_entry : (q : ℕ) → q < n → (m : Made) → Memᴰ m c.log → has (c.stores q).held (id_of m.entry) ≡ 1
        → HoldsEntry (g.stores q) m.entry
    holds_entry q lq m i h =
        record {
          held = ap (λ (O : Office). has O.held (id_of m.entry)) (S.stores q lq) ∙ h;
          content = ap (λ (O : Office). O.entry (id_of m.entry)) (S.stores q lq) ∙ (w.offices q).entry_is (id_of m.entry) h ∙ A.entry m i;
        }

    past_shown : (o : ℕ) → (m : Made) → Memᴰ m c.log → has (c.stores o).visible (id_of m.entry) ≡ 1 → (x : ℕ)
        → Memᴰ x m.past → has (c.stores o).visible x ≡ 1
    past_shown o m i h x j =
        writer_visible (shape n two (entry_in c.log)) (wpast (writer_past c.log)) (world c) w.inv w.law o (id_of m.entry) x
        (made_m m i) h (rw (A.past m i) j)

    made_ok : (m : Made) → Memᴰ m c.log → (entry_ok n p m.entry ≡ true) × (length m.entry.clock ≡ 8)
    made_ok m i = let G = w.good (id_of m.entry) (made_m m i) in let e = A.entry m i in (rw e at G.ok, rw e at G.clock8)

    -- of two entries made, the one that the other does not outrank is the other, or outranks it
    pub above_made : (d x : Made) → Memᴰ d c.log → Memᴰ x c.log → outranks d.entry x.entry ≡ false
        → (x ≡ d) ⊎ (outranks x.entry d.entry ≡ true)
    above_made d x i j u = go (outranks x.entry d.entry) refl
      where
        go : (b : Bool) → outranks x.entry d.entry ≡ b → (x ≡ d) ⊎ (outranks x.entry d.entry ≡ true)
        go true b = inr b
        go false b =
            let v = made_ok x j in
            let t = made_ok d i in
            inl
            (one_made c.log k.distinct x d j i
            (outranks_total n p n p x.entry d.entry v.0 t.0 (v.1 ∙ sym t.1) b u))

    -- what is held is an entry made, whole
    held_log : (o x : ℕ) → has (c.stores o).held x ≡ 1
        → (m : Made) × Memᴰ m c.log × (id_of m.entry ≡ x) × ((c.stores o).entry x ≡ m.entry)
    held_log o x h =
        let m = held_made n p two eight (entry_in c.log) (writer_past c.log) c w o x h in
        let t = Memᴰ.of_map (λ (y : Made). id_of y.entry) c.log m in
        (t.0, t.1, t.2, (w.offices o).entry_is x h ∙ ap (entry_in c.log) (sym t.2) ∙ A.entry t.0 t.1)

    pub is_current : (o : ℕ) → o < n → (d : Made) → Memᴰ d c.log → has (c.stores o).visible (id_of d.entry) ≡ 1 →
        (x : Made) × Memᴰ x c.log × (current (c.stores o) d.entry.plot ≡ Some x.entry)
        × ((x ≡ d) ⊎ (outranks x.entry d.entry ≡ true))
    is_current o lt d i h =
        let hh = visible_held n p two eight (entry_in c.log) (writer_past c.log) c w o (id_of d.entry) lt h in
        let is : (c.stores o).entry (id_of d.entry) ≡ d.entry = (w.offices o).entry_is (id_of d.entry) hh ∙ A.entry d i in
        let l : id_of d.entry < 32 * (c.stores o).offices =
        rw (w.offices o).offices (held_range n p two eight (entry_in c.log) (writer_past c.log) c w o (id_of d.entry) hh)
        in
        let v = current_over (c.stores o) d.entry.plot (id_of d.entry) l h (ap (λ (y : Entry). y.plot) is) in
        let v' : Over (current (c.stores o) d.entry.plot) d.entry = rw is at v in
        let t = over_some (current (c.stores o) d.entry.plot) d.entry v' in
        let s = current_from (c.stores o) d.entry.plot t.0 t.1 in
        let x = held_log o s.0 (visible_held n p two eight (entry_in c.log) (writer_past c.log) c w o s.0 lt s.2) in
        let e : t.0 ≡ x.0.entry = s.3 ∙ x.3 in
        (x.0, x.1, t.1 ∙ ap Some e, above_made d x.0 i x.1 (rw e at t.2))

    holds : Holds n rows g c
    holds =
        record {
          sound = sound n p two eight one p64 rows enough g c S k;
          distinct = rw S.log k.distinct;
          one_of_id = λ m d i j. one_made c.log k.distinct m d (in_c m i) (in_c d j);
          held_made = λ o x lt h.
              let t = held_log o x (ap (λ (O : Office). has O.held x) (sym (S.stores o lt)) ∙ h) in
              (t.0, in_g t.0 t.1, t.2, ap (λ (O : Office). O.entry x) (S.stores o lt) ∙ t.3);
          visible_made = λ o x lt h.
              let hh = visible_held n p two eight (entry_in c.log) (writer_past c.log) c w o x lt (visible_c o x lt h) in
              logged x (held_made n p two eight (entry_in c.log) (writer_past c.log) c w o x hh);
          entry_past =
              λ m i x j.
              logged x
              (writer_made (shape n two (entry_in c.log)) (wpast (writer_past c.log)) (world c) w.inv down w.law (id_of m.entry) x
              (made_m m (in_c m i)) (rw (A.past m (in_c m i)) j));
          session_past =
              λ r i x j.
              logged x
              (past_made (shape n two (entry_in c.log)) (wpast (writer_past c.log)) (world c) w.inv down (seen r.session r.past)
              (w.sessions r (rw S.sessions at i)).sound x j);
          token_past = λ r i x j.
              let t = Memᴰ.of_map token_on c.tokens (rw S.tokens at i) in
              let j' : Memᴰ x t.0.past = rw (ap (λ (y : TrackedToken (List ℕ)). y.past) t.2) j in
              logged x
              (past_made (shape n two (entry_in c.log)) (wpast (writer_past c.log)) (world c) w.inv down (seen t.0.token t.0.past)
              (w.tokens t.0 t.1).sound x j');
          event_past = λ v i x j. logged x ((w.events v (rw S.events at i)).past_made x j);
          visible_held =
              λ o q lt lq m i h.
              holds_entry q lq m (in_c m i) (w.inv.visible_held o (id_of m.entry) q lq (visible_c o (id_of m.entry) lt h));
          past_held = λ o q lt lq m i h d j x.
              holds_entry q lq d (in_c d j)
              (w.inv.visible_held o (id_of d.entry) q lq
              (past_shown o m (in_c m i) (visible_c o (id_of m.entry) lt h) (id_of d.entry) x));
          past_visible = λ o lt m i h d j x.
              ap (λ (O : Office). has O.visible (id_of d.entry)) (S.stores o lt)
              ∙ past_shown o m (in_c m i) (visible_c o (id_of m.entry) lt h) (id_of d.entry) x;
          past_current = λ o lt m i h d j x.
              let t = is_current o lt d (in_c d j) (past_shown o m (in_c m i) (visible_c o (id_of m.entry) lt h) (id_of d.entry) x) in (
                t.0.entry,
                ap (λ (O : Office). current O d.entry.plot) (S.stores o lt) ∙ t.2,
                ⊎_elim (λ e. inl (ap (λ (y : Made). y.entry) e)) (λ e. inr e) t.3,
              );
          reads = λ v i q f m d j x e.
              let ed : entry_in c.log (id_of d.entry) ≡ d.entry = A.entry d (in_c d j) in
              let u = (w.events v (rw S.events at i)).reads q f m (id_of d.entry) x (ap (λ (z : Entry). z.plot) ed ∙ e) in
              over_some f d.entry (rw ed at u);
          handed = λ v i q e m.
              let t = (w.events v (rw S.events at i)).handed q e m in
              let u = logged (id_of e) t.2 in
              (t.0, (u.0, u.1, sym (A.entry u.0 (in_c u.0 u.1)) ∙ ap (entry_in c.log) u.2 ∙ sym t.1));
          counted = λ v i q m j x.
              let t = (w.events v (rw S.events at i)).counted q m.entry x in
              (t.0, λ k y. t.1 k (rw (A.past m (in_c m j)) y));
          not10 = λ v i. (w.events v (rw S.events at i)).not10;
          not11 = λ v i. (w.events v (rw S.events at i)).not11;
          not12 = λ v i. (w.events v (rw S.events at i)).not12;
          same = S;
        }

pub opens : Opens
opens n p two eight one p64 rows long o lt = open_accepts n p two eight one p64 o lt (rows o) (long o lt)

pub demand3 : Demand3
unfolding words_run contents_run
demand3 n p two eight one p64 rows long cs =
    holds n p two eight one p64 rows long (run over_words n (starting (λ o. (open_office n o p (rows o)).1)) cs)
    (run over_contents n (starting (λ o. empty_office n o p)) cs)
    (run_same n p two eight one p64 rows long cs (starting (λ o. (open_office n o p (rows o)).1)) (starting (λ o. empty_office n o p))
    (start_same n p two eight one p64 rows long) (start_ok n p two eight))
    (run_ok n p two eight cs (starting (λ o. empty_office n o p)) (start_ok n p two eight))
