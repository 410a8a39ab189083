-- No reading depends on the carrying order. Assumes nothing.
use Rattle.std.proofs.Common.{None, Some}
use Prim.Native.Nat.{ℕ, ◌*◌, ◌≤◌, suc, zero}
use mathlib.Core.Bool.{Bool, false, true}
use mathlib.Core.List.{List, Memᴰ, [], ◌∷◌, map}
use mathlib.Core.Path.{◌∙◌, ◌≡◌, ap, refl, sym}
use native.Mathlib.Omega.{arith}
use lib.Dec.{leb, ltb}
use lib.ListN.{length}
use Rattle.causal.specs.Clocks.{join}
use Rattle.causal.specs.Codes.{check}
use Rattle.causal.specs.Lists.{zeros}
use Rattle.causal.specs.Sets.{inserted, subset_of}
use Rattle.causal.specs.Tests.{both}
use Rattle.causal.proofs.Codes.{check_none}
use Rattle.causal.proofs.Sets.{ids_zeros}
use Rattle.causal.proofs.Tests.{same_test}
use Rattle.frame.specs.Calls.{laid}
use Rattle.frame.specs.Entries.{entry_ok, id_of}
use Rattle.frame.specs.Sessions.{Content, SaneContent, own_ok, session_ok}
use Rattle.frame.specs.declared.entry.Entry.{Entry}
use Rattle.frame.proofs.Entries.{EntryFacts, entry_facts, ring_facts}
use Rattle.frame.proofs.Sessions.{facts_own, facts_session, own_facts, own_ok_lem, session_facts}
use Rattle.joining.specs.Orders.{Reordered}
use Rattle.joining.proofs.Orders.{Apart, permuted_from, permuted_length, permuted_to}
use Rattle.joining.proofs.Sound.{own_apart}
use Rattle.store.specs.Offices.{Found, Office, Words32, current, office_of, reveal, sound_store, store_words}
use Rattle.store.proofs.Keep.{store_facts}
use Rattle.office.specs.Calls.{answer_words, given, handed, handed_all, joint_code, joint_on, noted, noted_all, plots_ok, read_all, read_code, read_joint, read_on, read_plot, worded}
use Rattle.office.proofs.KeptSession.{joint_session, noted_sane, read_session}
use Rattle.ring.specs.Carrying.{SameReply, TwoOrders}
use Rattle.ring.proofs.BestOwn.{best_same}

-- ---- sound for other settings

own_settings : (n p m q : ℕ) (read seen : List ℕ) (es : List Entry) → own_ok n p read seen es ≡ true
    → ((e : Entry) → Memᴰ e es → entry_ok m q e ≡ true) → own_ok m q read seen es ≡ true
unfolding own_ok
own_settings n p m q read seen [] h ok = refl
own_settings n p m q read seen (e ∷ es) h ok =
    let F = own_facts n p read seen e es h in
    facts_own m q read seen e es
    (record {
      ok = ok e (Memᴰ.head refl);
      new = F.new;
      deps = F.deps;
      rest = own_settings n p m q read (inserted seen (id_of e)) es F.rest (λ x i. ok x (Memᴰ.tail i));
    })

module _ (s t : Content) (T : TwoOrders s t) where
  abbrev n : ℕ
  n = T.n

  abbrev p : ℕ
  p = T.p

  pub n8 : T.n ≤ 8
  n8 = (ring_facts n p T.ring).high

  -- what holds of either's own writes
  keeps : (e : Entry) → Memᴰ e s.own → EntryFacts n p e × (length e.clock ≡ 8)
  keeps e m = (entry_facts n p e (own_ok_lem n p s (session_facts n p s T.first) e m), (T.sane_first.own e m).clock8)

  pub apart : Apart (map id_of s.own)
  apart = own_apart n p n8 s.read zeros ids_zeros s.own (session_facts n p s T.first).own

  -- "hand back the higher-ranked": the same
  pub handed_same : (O : Office) (plot : ℕ) → handed O s plot ≡ handed O t plot
  unfolding handed
  handed_same O plot =
      best_same n p s.own t.own (permuted_to T.order.own) (permuted_from T.order.own) keeps apart plot (current O plot)

  all_same : (O : Office) (plots : List ℕ) → map (handed O s) plots ≡ map (handed O t) plots
  all_same O [] = refl
  all_same O (q ∷ qs) = λ i. handed_same O q i ∷ all_same O qs i

  -- sound for whatever settings, if the other is
  over : (m q : ℕ) → session_ok m q s ≡ true → session_ok m q t ≡ true
  over m q h =
      let F = session_facts m q s h in
      facts_session m q t
      (record {
        offices = sym T.order.offices ∙ F.offices;
        few = omega (arith, F.few, permuted_length T.order.own);
        clock = rw (← T.order.clock) F.clock;
        ids = rw (← T.order.read) F.ids;
        own =
            own_settings n p m q t.read zeros t.own (session_facts n p t T.second).own
            (λ e i. own_ok_lem m q s F e (permuted_from T.order.own e i));
      })

  under : (m q : ℕ) → session_ok m q t ≡ true → session_ok m q s ≡ true
  under m q h =
      let F = session_facts m q t h in
      facts_session m q s
      (record {
        offices = T.order.offices ∙ F.offices;
        few = omega (arith, F.few, permuted_length T.order.own);
        clock = rw T.order.clock F.clock;
        ids = rw T.order.read F.ids;
        own =
            own_settings n p m q s.read zeros s.own (session_facts n p s T.first).own
            (λ e i. own_ok_lem m q t F e (permuted_to T.order.own e i));
      })

  pub ok_same : (m q : ℕ) → session_ok m q s ≡ session_ok m q t
  ok_same m q = same_test (session_ok m q s) (session_ok m q t) (over m q) (under m q)

-- ---- what a reading leaves

noted_order : (f : Found) (s t : Content) → Reordered s t → Reordered (noted f s) (noted f t)
unfolding noted
noted_order None s t R = R
noted_order (Some e) s t R =
    record {
      offices = R.offices;
      clock = ap (λ (c : List ℕ). join c e.clock) R.clock;
      read = ap (λ (c : List ℕ). inserted c (id_of e)) R.read;
      own = R.own;
    }

all_order : (O : Office) (qs : List ℕ) (s t : Content) → Reordered s t → Reordered (noted_all O qs s) (noted_all O qs t)
unfolding noted_all
all_order O [] s t R = R
all_order O (q ∷ qs) s t R = all_order O qs (noted (current O q) s) (noted (current O q) t) (noted_order (current O q) s t R)

all_sane : (O : Office) (qs : List ℕ) (s : Content) → SaneContent s → SaneContent (noted_all O qs s)
unfolding noted_all
all_sane O [] s N = N
all_sane O (q ∷ qs) s N = all_sane O qs (noted (current O q) s) (noted_sane (current O q) s N)

noted_own : (f : Found) (s : Content) → (noted f s).own ≡ s.own
unfolding noted
noted_own None s = refl
noted_own (Some e) s = refl

all_own : (O : Office) (qs : List ℕ) (s : Content) → (noted_all O qs s).own ≡ s.own
unfolding noted_all
all_own O [] s = refl
all_own O (q ∷ qs) s = all_own O qs (noted (current O q) s) ∙ noted_own (current O q) s

-- a session sound for one number of plots whose own writes are in range for another is sound for that
ok_plots : (n p q : ℕ) (s r : Content) → session_ok n q r ≡ true → r.own ≡ s.own → session_ok n p s ≡ true → session_ok n p r ≡ true
ok_plots n p q s r h e k =
    let F = session_facts n q r h in
    facts_session n p r
    (record {
      offices = F.offices;
      few = F.few;
      clock = F.clock;
      ids = F.ids;
      own = own_settings n q n p r.read zeros r.own F.own (λ x i. own_ok_lem n p s (session_facts n p s k) x (rw e at i));
    })

module _ (s t : Content) (T : TwoOrders s t) (ws : List ℕ) (w32 : Words32 ws) where
  abbrev O : Office
  O = office_of ws

  -- the sessions left by an accepted reading are again two such
  left_again : (plots : List ℕ) → session_ok O.offices O.plots s ≡ true
      → session_ok O.offices O.plots (noted_all (reveal O s.read) plots s) ≡ true
      → session_ok O.offices O.plots (noted_all (reveal O t.read) plots t) ≡ true
      → TwoOrders (noted_all (reveal O s.read) plots s) (noted_all (reveal O t.read) plots t)
  left_again plots h hs ht =
      let e : T.n ≡ O.offices = sym (session_facts T.n T.p s T.first).offices ∙ (session_facts O.offices O.plots s h).offices in
      record {
        n = T.n;
        p = T.p;
        ring = T.ring;
        first =
            ok_plots T.n T.p O.plots s _ (ap (λ (m : ℕ). session_ok m O.plots (noted_all (reveal O s.read) plots s)) e ∙ hs)
            (all_own (reveal O s.read) plots s) T.first;
        second =
            ok_plots T.n T.p O.plots t _ (ap (λ (m : ℕ). session_ok m O.plots (noted_all (reveal O t.read) plots t)) e ∙ ht)
            (all_own (reveal O t.read) plots t) T.second;
        sane_first = all_sane (reveal O s.read) plots s T.sane_first;
        sane_second = all_sane (reveal O t.read) plots t T.sane_second;
        order = at_read s.read t.read T.order.read (all_order (reveal O s.read) plots s t T.order);
      }
    where
      at_read : (x y : List ℕ) → x ≡ y → Reordered (noted_all (reveal O s.read) plots s) (noted_all (reveal O x) plots t)
          → Reordered (noted_all (reveal O s.read) plots s) (noted_all (reveal O y) plots t)
      at_read x y q R = rw q at R

  -- the two answers, by their refusal numbers
  reply : (plots row : List ℕ) (x y : List ℕ) → x ≡ y → (b : Bool) (c d : ℕ) → c ≡ d
      → (b ≡ true → c ≡ 0 → TwoOrders (noted_all (reveal O s.read) plots s) (noted_all (reveal O t.read) plots t))
      → SameReply (worded b ws s row (given c O s row (read_all O s plots x))) (worded b ws t row (given d O t row (read_all O t plots y)))
  reply plots row x y rows true zero zero e h =
      record {
        code = refl;
        count = refl;
        found =
            all_same s t T (reveal O s.read) plots ∙ ap (λ (r : List ℕ). map (handed (reveal O r) t) plots) T.order.read;
        store = ap (λ (r : List ℕ). store_words ws (reveal O r)) T.order.read;
        row = rows;
        again = h refl refl;
      }
  reply plots row x y rows true (suc c) (suc d) e h = record { code = e; count = refl; found = refl; store = refl; row = refl; again = T }
  reply plots row x y rows true zero (suc d) e h = absurd (omega (arith, e))
  reply plots row x y rows true (suc c) zero e h = absurd (omega (arith, e))
  reply plots row x y rows false c d e h = record { code = refl; count = refl; found = refl; store = refl; row = refl; again = T }

  -- ---- of one plot

  read_code_lem : (plot : ℕ) → read_code O s plot ≡ read_code O t plot
  unfolding read_code
  read_code_lem plot =
      λ i.
      check (ok_same s t T O.offices O.plots i) 3
      (check (ltb plot O.plots) 4 (check (subset_of (T.order.read i) O.held) 12 0))

  read_sound : (plot : ℕ) (r : Content) → read_code O r plot ≡ 0 → session_ok O.offices O.plots r ≡ true
  unfolding read_code
  read_sound plot r c = (check_none (session_ok O.offices O.plots r) 3 _ (omega arith) c).0

  read_left : (plot : ℕ) (r : Content) → SaneContent r → sound_store ws ≡ true → read_code O r plot ≡ 0
      → session_ok O.offices O.plots (noted_all (reveal O r.read) (plot ∷ []) r) ≡ true
  unfolding read_on
  read_left plot r N h c =
      ap (λ (x : ℕ). session_ok O.offices O.plots (given x O r [] (read_all O r (plot ∷ []) [])).session) (sym c)
      ∙ read_session O (store_facts ws w32 h) r N (read_sound plot r c) plot

  pub read_same : (plot : ℕ) → SameReply (read_plot ws s plot) (read_plot ws t plot)
  unfolding read_plot read_on
  read_same plot =
      reply (plot ∷ []) [] [] [] refl (sound_store ws) (read_code O s plot) (read_code O t plot) (read_code_lem plot)
      (λ h c.
      left_again (plot ∷ []) (read_sound plot s c) (read_left plot s T.sane_first h c)
      (read_left plot t T.sane_second h (sym (read_code_lem plot) ∙ c)))

  -- ---- jointly

  joint_code_lem : (plots : List ℕ) (room : ℕ) → joint_code O s plots room ≡ joint_code O t plots room
  unfolding joint_code
  joint_code_lem plots room =
      λ i.
      check (ok_same s t T O.offices O.plots i) 3
      (check (both (leb (length plots) 16) (plots_ok O.plots plots)) 4
      (check (leb (3 * length plots) room) 8 (check (subset_of (T.order.read i) O.held) 12 0)))

  joint_sound : (plots : List ℕ) (room : ℕ) (r : Content) → joint_code O r plots room ≡ 0 → session_ok O.offices O.plots r ≡ true
  unfolding joint_code
  joint_sound plots room r c = (check_none (session_ok O.offices O.plots r) 3 _ (omega arith) c).0

  joint_left : (plots row : List ℕ) (r : Content) → SaneContent r → sound_store ws ≡ true → joint_code O r plots (length row) ≡ 0
      → session_ok O.offices O.plots (noted_all (reveal O r.read) plots r) ≡ true
  unfolding joint_on
  joint_left plots row r N h c =
      ap
      (λ (x : ℕ). session_ok O.offices O.plots (given x O r row (read_all O r plots (laid (answer_words (handed_all O r plots)) row))).session) (sym c)
      ∙ joint_session O (store_facts ws w32 h) r N (joint_sound plots (length row) r c) plots row

  pub joint_same : (plots row : List ℕ) → SameReply (read_joint ws s plots row) (read_joint ws t plots row)
  unfolding read_joint joint_on
  joint_same plots row =
      reply plots row (laid (answer_words (handed_all O s plots)) row) (laid (answer_words (handed_all O t plots)) row)
      (ap (λ (l : List Found). laid (answer_words l) row)
      (all_same s t T (reveal O s.read) plots ∙ ap (λ (r : List ℕ). map (handed (reveal O r) t) plots) T.order.read))
      (sound_store ws) (joint_code O s plots (length row)) (joint_code O t plots (length row)) (joint_code_lem plots (length row))
      (λ h c.
      left_again plots (joint_sound plots (length row) s c) (joint_left plots row s T.sane_first h c)
      (joint_left plots row t T.sane_second h (sym (joint_code_lem plots (length row)) ∙ c)))
