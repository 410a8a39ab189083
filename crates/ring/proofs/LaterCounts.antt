-- `LaterCounts`, specs/Later.antt: of every run. Assumes nothing.
use Rattle.std.proofs.Common.{Some}
use Prim.Native.Nat.{ℕ, ◌<◌, ◌≤◌}
use mathlib.Core.Bool.{true}
use mathlib.Core.List.{List, Memᴰ, [], ◌∷◌, map}
use mathlib.Core.Logic.{◌⊎◌, ⊎_elim}
use mathlib.Core.Path.{◌∙◌, ◌≡◌, ap, refl, sym}
use native.Mathlib.Omega.{arith}
use lib.ListN.{length}
use Rattle.causal.specs.Sets.{has}
use Rattle.causal.proofs.Tests.{false_true}
use Rattle.frame.specs.Entries.{id_of, outranks}
use Rattle.frame.specs.declared.entry.Entry.{Entry}
use Rattle.frame.specs.declared.entry.Frame.{Frame}
use Rattle.frame.proofs.Entries.{outranks_irrefl, outranks_trans}
use Rattle.store.specs.Offices.{Found, Office, current, need, office_of, reveal}
use Rattle.store.specs.Reveal.{Reached, dep, seed}
use Rattle.store.proofs.Best.{Over}
use Rattle.office.specs.Calls.{Result, handed, noted_all, read_joint, read_plot, write, write_on}
use Rattle.reading.proofs.JointReads.{joint_hands}
use Rattle.reading.proofs.OnePlot.{one_plot}
use Rattle.ring.specs.Holds.{Holds, Shows}
use Rattle.ring.specs.Later.{Before, Knew, Later, LaterCounts, LaterIn, Meets, Prevails, direct, through}
use Rattle.ring.specs.Run.{Call, Made, Tracked, at, contents_run, last_of, over_contents, together, words_run, write_by, writer_past}
use Rattle.ring.proofs.Base.{held_made}
use Rattle.ring.proofs.Clocks.{Clocks}
use Rattle.ring.proofs.Fit.{Agrees, Sys, Whole, mem_at}
use Rattle.ring.proofs.Later.{dep_later, past_later}
use Rattle.ring.proofs.Log.{entry_in, log_agrees}
use Rattle.ring.proofs.ReadKeeps.{all_reads, gained_keeps, kept, over_known, over_shown}
use Rattle.ring.proofs.SameRun.{WState}
use Rattle.ring.proofs.Steps.{Ok, contents_ok, ok_clocks, ok_whole, write_adds}
use Rattle.ring.proofs.Theorem.{above_made, demand3, is_current, over_some}
use Rattle.ring.proofs.Together.{together_one}
use Rattle.ring.proofs.WriteKeeps.{write_distinct, write_over}

not_itself : (e : Entry) → outranks e e ≡ true → ⊥
not_itself e h = false_true (sym (outranks_irrefl e) ∙ h)

later_trans : (a b c : Entry) → Later a b → Later b c → Later a c
later_trans a b c x y =
    record {
      outranked = outranks_trans a b c x.outranked y.outranked;
      covered = λ j l. omega (arith, x.covered j l, y.covered j l);
    }

module _ (n p : ℕ) (two : 2 ≤ n) (eight : n ≤ 8) (one : 1 ≤ p) (p64 : p ≤ 64) (rows : ℕ → List ℕ)
    (long : (o : ℕ) → o < n → need n ≤ length (rows o)) (cs : List Call) where
  abbrev g : WState
  g = words_run n p rows cs

  abbrev c : Sys
  c = contents_run n p cs

  abbrev E : ℕ → Entry
  E = entry_in c.log

  abbrev P : ℕ → List ℕ
  P = writer_past c.log

  H : Holds n rows g c
  H = demand3 n p two eight one p64 rows long cs

  k : Ok n p two eight c
  k = contents_ok n p two eight cs

  w : Whole n p two E P c
  w = ok_whole n p two eight c k

  K : Clocks n E c
  K = ok_clocks n p two eight c k

  A : Agrees E P c.log
  A = log_agrees c.log k.distinct

  in_c : (m : Made) → Memᴰ m g.log → Memᴰ m c.log
  in_c m i = rw H.same.log at i

  in_g : (m : Made) → Memᴰ m c.log → Memᴰ m g.log
  in_g m i = rw H.same.log i

  in_sessions : (i : ℕ) (s : Tracked) → at g.sessions i ≡ s ∷ [] → Memᴰ s c.sessions
  in_sessions i s e = rw H.same.sessions at (mem_at g.sessions i s (rw e (mathlib.Core.List.Memᴰ.head refl)))

  visible_c : (o : ℕ) → o < n → (m : Made) → Shows (g.stores o) m.entry → has (c.stores o).visible (id_of m.entry) ≡ 1
  visible_c o lt m h = ap (λ (O : Office). has O.visible (id_of m.entry)) (sym (H.same.stores o lt)) ∙ h

  -- ---- a writer's past

  over_past : (m d : Made) → Knew g.log m d → Later m.entry d.entry
  over_past m d x =
      let a = in_c m x.made in
      let b = in_c d x.earlier in
      let q : Memᴰ (id_of d.entry) (P (id_of m.entry)) = rw (A.past m a) x.known in
      let t = past_later n p two eight E P c w K (id_of m.entry) (id_of d.entry) (mathlib.Core.List.Memᴰ.map (λ (y : Made). id_of y.entry) a) q in
      let em : E (id_of m.entry) ≡ m.entry = A.entry m a in
      let ed : E (id_of d.entry) ≡ d.entry = A.entry d b in
      rw (em, ed) at t

  -- what an office holds under the id of an entry made is that entry
  stands : (o : ℕ) → o < n → (m : Made) → Memᴰ m g.log → has (office_of (g.stores o)).held (id_of m.entry) ≡ 1
      → (office_of (g.stores o)).entry (id_of m.entry) ≡ m.entry
  stands o lt m i h =
      let t = H.held_made o (id_of m.entry) lt h in t.3 ∙ ap (λ (y : Made). y.entry) (H.one_of_id t.0 m t.1 i t.2)

  before_later : (d m : Made) → Before g.log d m → Later m.entry d.entry
  before_later d m (direct x) = over_past m d x
  before_later d m (through {k = y} b x) = later_trans m.entry y.entry d.entry (over_past m y x) (before_later d y b)

  -- ---- dependencies, at an office

  module _ (o : ℕ) where
    abbrev O : Office
    O = c.stores o

    dep_held : (x d : ℕ) → has O.held x ≡ 1 → has (O.entry x).deps d ≡ 1 → has O.held d ≡ 1
    dep_held x d h m = w.inv.held_down o x d h (rw ((w.offices o).entry_is x h) at m)

    over_dep : (x d : ℕ) → has O.held x ≡ 1 → has (O.entry x).deps d ≡ 1 → Later (O.entry x) (O.entry d)
    over_dep x d h m =
        let t = dep_later n p two eight E P c w K x d (held_made n p two eight E P c w o x h) (rw ((w.offices o).entry_is x h) at m) in
        rw ((w.offices o).entry_is x h, (w.offices o).entry_is d (dep_held x d h m)) t

    over_reached : (x y : ℕ) → has O.held x ≡ 1 → Reached (λ j. (O.entry j).deps) (O.entry x).deps y
        → (has O.held y ≡ 1) × Later (O.entry x) (O.entry y)
    over_reached x y h (seed m) = (dep_held x y h m, over_dep x y h m)
    over_reached x y h (dep {k = z} r m) =
        let t = over_reached x z h r in
        (dep_held z y t.0 m, later_trans (O.entry x) (O.entry z) (O.entry y) t.1 (over_dep z y t.0 m))

    never_held : (x : ℕ) → has O.held x ≡ 1 → Reached (λ j. (O.entry j).deps) (O.entry x).deps x → ⊥
    never_held x h r = not_itself (O.entry x) (over_reached x x h r).1.outranked

  -- ---- what the office of a new entry shows

  module _ (o i : ℕ) (s : Tracked) (lt : o < n) (in_s : Memᴰ s c.sessions) (plot value : ℕ) (row : List ℕ) where
    abbrev W : Result Office Frame
    W = write_on (c.stores o) s.session plot value row

    -- the log that the write leaves has an entry for each id
    abbrev L : List Made
    L = (write_by over_contents n c o i s W W.code).log

    agrees : Agrees (entry_in L) (writer_past L) L
    agrees = log_agrees L (write_distinct n p two eight E P c w o lt i s in_s plot value row k.distinct)

    new_later : W.code ≡ 0 → (d : Made) → Memᴰ d c.log → has (c.stores o).visible (id_of d.entry) ≡ 1
        → Later (last_of W.session.own) d.entry
    unfolding over_contents
    new_later z d j h =
        let B = write_adds n p two eight (entry_in L) (writer_past L) c o i s plot value row agrees in
        let t =
        write_over n p two eight (entry_in L) (writer_past L) c (k.whole (entry_in L) (writer_past L) B) o lt i s in_s plot value row
        (k.clocks (entry_in L) (writer_past L) B) agrees z (id_of d.entry) h
        in
        let ed : entry_in L (id_of d.entry) ≡ d.entry = B.entry d j in
        rw ed at t

  -- ---- a correction

  prevailing : (m x : Made) → Memᴰ x g.log → (f : Found) → f ≡ Some x.entry → (x ≡ m) ⊎ (outranks x.entry m.entry ≡ true)
      → Prevails g.log m f
  prevailing m x i f e o =
      record { winner = x; made = i; found = e; over = o; beyond = beyond; not_corrected = apart }
    where
      beyond : (d : Made) → Knew g.log m d → outranks x.entry d.entry ≡ true
      beyond d y =
          let h = (over_past m d y).outranked in
          ⊎_elim (λ (q : x ≡ m). rw q h) (λ q. outranks_trans x.entry m.entry d.entry q h) o

      apart : (d : Made) → Knew g.log m d → id_of x.entry ≡ id_of d.entry → ⊥
      apart d y q =
          let r : x ≡ d = H.one_of_id x d i y.earlier q in
          let h : outranks d.entry d.entry ≡ true = rw r at (beyond d y) in
          not_itself d.entry h

  module _ (o i : ℕ) (s : Tracked) (lt : o < n) (e : at g.sessions i ≡ s ∷ []) (m : Made) (im : Memᴰ m g.log) (h : Meets (g.stores o) s m) where
    in_s : Memᴰ s c.sessions
    in_s = in_sessions i s e

    abbrev O1 : Office
    O1 = reveal (c.stores o) s.session.read

    -- on contents: the replies on plots, beside them
    abbrev replies : List ℕ → List (ℕ × Found)
    replies plots = together plots (map (handed O1 s.session) plots)

    met : (has O1.visible (id_of m.entry) ≡ 1) ⊎ Memᴰ (id_of m.entry) s.past
    met = rw (H.same.stores o lt) at h

    -- m does not outrank what is handed back
    over : (plots : List ℕ) (f : Found) → Memᴰ (m.entry.plot, f) (replies plots) → Over f m.entry
    over plots f j = let t : Over f (E (id_of m.entry)) = ⊎_elim shown known met in rw em at t
      where
        em : E (id_of m.entry) ≡ m.entry
        em = A.entry m (in_c m im)

        on_plot : (E (id_of m.entry)).plot ≡ m.entry.plot
        on_plot = ap (λ (y : Entry). y.plot) em

        shown : has O1.visible (id_of m.entry) ≡ 1 → Over f (E (id_of m.entry))
        shown v =
            over_shown n p two eight E P c w A o lt i s in_s plots (map (handed O1 s.session) plots) (noted_all O1 plots s.session) []
            (all_reads n p two eight E P c w A o lt i s in_s plots) m.entry.plot f j (id_of m.entry) v on_plot

        known : Memᴰ (id_of m.entry) s.past → Over f (E (id_of m.entry))
        known v =
            over_known n p two eight E P c w A o lt i s in_s plots (map (handed O1 s.session) plots) (noted_all O1 plots s.session) []
            (all_reads n p two eight E P c w A o lt i s in_s plots) m.entry.plot f j (id_of m.entry)
            (gained_keeps c.log (map (handed O1 s.session) plots) s.past (id_of m.entry) v) on_plot

    -- what is handed back was made
    handed_made : (plots : List ℕ) (x : Entry) → Memᴰ (m.entry.plot, Some x) (replies plots)
        → (y : Made) × Memᴰ y c.log × (y.entry ≡ x)
    handed_made plots x j =
        let t =
        kept n p two eight E P c w A o lt i s in_s plots (map (handed O1 s.session) plots) (noted_all O1 plots s.session) []
        (all_reads n p two eight E P c w A o lt i s in_s plots) m.entry.plot x j
        in
        let y = mathlib.Core.List.Memᴰ.of_map (λ (z : Made). id_of z.entry) c.log t.2 in
        (y.0, y.1, sym (A.entry y.0 y.1) ∙ ap E y.2 ∙ sym t.1)

    replied : (plots : List ℕ) (f : Found) → Memᴰ (m.entry.plot, f) (replies plots) → Prevails g.log m f
    replied plots f j =
        let t = over_some f m.entry (over plots f j) in
        let y = handed_made plots t.0 (rw t.1 at j) in
        prevailing m y.0 (in_g y.0 y.1) f (t.1 ∙ ap Some (sym y.2))
        (above_made n p two eight one p64 rows long g c H.same k m y.0 (in_c m im) y.1 (rw y.2 t.2))

    read_jointly : (plots row : List ℕ) → (read_joint (g.stores o) s.session plots row).code ≡ 0
        → (f : Found) → Memᴰ (m.entry.plot, f) (together plots (read_joint (g.stores o) s.session plots row).found)
        → Prevails g.log m f
    read_jointly plots row z f j = replied plots f (rw (joint_hands (g.stores o) s.session plots row z, H.same.stores o lt) at j)

    -- as the joint reading of this plot
    read : (read_plot (g.stores o) s.session m.entry.plot).code ≡ 0
        → (f : Found) → Memᴰ f (read_plot (g.stores o) s.session m.entry.plot).found → Prevails g.log m f
    read z f j =
        let a = one_plot (g.stores o) m.entry.plot (0 ∷ 0 ∷ 0 ∷ []) (omega arith) s.session in
        let y = a.code ∙ z in
        let q = joint_hands (g.stores o) s.session (m.entry.plot ∷ []) (0 ∷ 0 ∷ 0 ∷ []) y in
        let x : Memᴰ f (handed (reveal (office_of (g.stores o)) s.session.read) s.session m.entry.plot ∷ []) =
        rw (sym a.found ∙ q) at j
        in
        read_jointly (m.entry.plot ∷ []) (0 ∷ 0 ∷ 0 ∷ []) y f (rw q (together_one m.entry.plot _ f x))

  later_in : LaterIn n g
  unfolding write
  later_in =
      record {
        over_past = over_past;
        over_past_held = λ o q lo lq m d x a b. rw (stands o lo m x.made a, stands q lq d x.earlier b) (over_past m d x);
        never_round = λ m b. not_itself m.entry (before_later m m b).outranked;
        prevails = λ o lt m i h.
            let t = is_current n p two eight one p64 rows long g c H.same k o lt m (in_c m i) (visible_c o lt m h) in
            prevailing m t.0 (in_g t.0 t.1) (current (office_of (g.stores o)) m.entry.plot)
            (ap (λ (O : Office). current O m.entry.plot) (H.same.stores o lt) ∙ t.2) t.3;
        prevails_read = read;
        prevails_read_jointly = read_jointly;
        over_reached = λ o x d lt. rw (H.same.stores o lt) (over_reached o x d);
        never_round_held = λ o x lt. rw (H.same.stores o lt) (never_held o x);
        over_visible = λ o i s lt e plot value row z d j h.
            let z' : (W o i s lt (in_sessions i s e) plot value row).code ≡ 0 = rw (H.sound o lt, H.same.stores o lt) at z in
            rw (H.sound o lt, H.same.stores o lt)
            (new_later o i s lt (in_sessions i s e) plot value row z' d (in_c d j) (visible_c o lt d h));
      }

pub later_counts : LaterCounts
later_counts n p two eight one p64 rows long cs = later_in n p two eight one p64 rows long cs
