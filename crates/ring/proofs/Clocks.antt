-- An entry is later than everything in its writer's past (specs/Later.antt): what is kept for it. Assumes nothing.
use Rattle.std.proofs.Common.{None, Some}
use Prim.Native.Nat.{ℕ, ◌*◌, ◌+◌, ◌<◌, ◌≤◌, max, suc, zero}
use mathlib.Core.Bool.{true}
use mathlib.Core.List.{List, Memᴰ, [], ◌++◌, ◌∷◌, map}
use mathlib.Core.Logic.{◌⊎◌, inl, inr, ⊎_elim}
use mathlib.Core.Path.{◌∙◌, ◌≡◌, ap, refl, sym}
use native.Mathlib.Omega.{arith}
use lib.ListN.{get_or, length, set}
use Rattle.causal.specs.Clocks.{Covers, join}
use Rattle.causal.specs.Lists.{sum_below}
use Rattle.causal.specs.Rank.{higher, ranks_above}
use Rattle.causal.specs.Sets.{IdSet, has, inserted}
use Rattle.causal.proofs.Clocks.{join_at}
use Rattle.causal.proofs.Ranks.{higher_more, higher_same}
use Rattle.causal.proofs.Sets.{has_lt, ids_inserted, in_inserted, in_or_out}
use Rattle.causal.proofs.Tests.{eq_or_ne}
use Rattle.frame.specs.Entries.{id_of, outranks}
use Rattle.frame.specs.Sessions.{Content, fresh_content}
use Rattle.frame.specs.declared.entry.Entry.{Entry}
use Rattle.frame.specs.declared.entry.Frame.{Frame}
use Rattle.frame.proofs.Entries.{EntryFacts}
use Rattle.store.specs.Offices.{Found, Office, current, made, reveal}
use Rattle.store.proofs.Best.{current_from}
use Rattle.store.proofs.Counts.{counted}
use Rattle.office.specs.Calls.{Result, given, joint_code, joint_on, noted, noted_all, read_code, read_on, receive_code, receive_on, received_by}
use Rattle.ring.specs.Run.{Event, Tracked, TrackedToken, gained, over_contents, read_by, receive_by, upd}
use Rattle.ring.proofs.Fit.{Agrees, Sys, TrackedFit, Whole, ids, mem_set, upd_case, world}
use Rattle.ring.proofs.ReadKeeps.{C, cur, vis_is, vis_made}
use Rattle.ring.proofs.ReceiveKeeps.{changed}

-- no number of d's clock is above e's, and at e's office it is below e's serial
pub record Under (d e : Entry) : Type 0 where
  pub le : Covers e.clock d.clock
  pub lt : get_or d.clock e.office 0 < e.serial

-- a session's clock is above all that it has read and written, and not above what the offices made
pub record ClockFit (n : ℕ) (E : ℕ → Entry) (stores : ℕ → Office) (s : Content) : Type 0 where
  pub over : (k : ℕ) → (has s.read k ≡ 1) ⊎ Memᴰ k (map id_of s.own) → Covers s.clock (E k).clock
  pub bound : (j : ℕ) → j < n → get_or s.clock j 0 ≤ made (stores j)

pub record Clocks (n : ℕ) (E : ℕ → Entry) (g : Sys) : Type 0 where
  pub sessions : (r : Tracked) → Memᴰ r g.sessions → ClockFit n E g.stores r.session
  pub tokens : (r : TrackedToken Content) → Memᴰ r g.tokens → ClockFit n E g.stores r.token
  pub bound : (k : ℕ) → Memᴰ k (ids g.log) → (j : ℕ) → j < n → get_or (E k).clock j 0 ≤ made (g.stores j)
  pub deps : (k d : ℕ) → Memᴰ k (ids g.log) → has (E k).deps d ≡ 1 → Under (E d) (E k)

-- ---- counts grow

sum_mono : (f h : ℕ → ℕ) → ((i : ℕ) → f i ≤ h i) → (m : ℕ) → sum_below m f ≤ sum_below m h
unfolding sum_below
sum_mono f h e zero = omega arith
sum_mono f h e (suc m) = omega (arith, sum_mono f h e m, e m)

pub made_mono : (O O' : Office) → O.own ≡ O'.own → ((k : ℕ) → has O.held k ≡ 1 → has O'.held k ≡ 1) → made O ≤ made O'
unfolding made
made_mono O O' e to =
    sum_mono (λ s. has O.held (32 * O.own + s)) (λ s. has O'.held (32 * O'.own + s))
    (λ i.
    let q : has O'.held (32 * O.own + i) ≡ has O'.held (32 * O'.own + i) = ap (λ (x : ℕ). has O'.held (32 * x + i)) e in
    ⊎_elim (λ (h : has O.held (32 * O.own + i) ≡ 1). omega (arith, to (32 * O.own + i) h)) (λ (h : has O.held (32 * O.own + i) ≡ 0). omega arith) (in_or_out O.held (32 * O.own + i))) 32

-- without gaps, an own serial that is held is below the count
pub made_over : (O : Office) (c : ℕ) → c < 32
    → ((t : ℕ) → t < 31 → has O.held (32 * O.own + (t + 1)) ≡ 1 → has O.held (32 * O.own + t) ≡ 1) → has O.held (32 * O.own + c) ≡ 1
    → c < made O
unfolding made
made_over O c l gap h =
    (counted (λ s. has O.held (32 * O.own + s)) (λ i. has_lt O.held (32 * O.own + i)) 32 (λ t u x. gap t (omega arith) x)).below c l h

module _ (n : ℕ) (E : ℕ → Entry) where
  pub fit_later : (f f' : ℕ → Office) → ((j : ℕ) → made (f j) ≤ made (f' j)) → (s : Content) → ClockFit n E f s → ClockFit n E f' s
  fit_later f f' m s K = record { over = K.over; bound = λ j l. omega (arith, K.bound j l, m j) }

  pub upd_mono : (f : ℕ → Office) (o : ℕ) (O' : Office) → made (f o) ≤ made O' → (j : ℕ) → made (f j) ≤ made (upd f o O' j)
  upd_mono f o O' l j = upd_case (λ (X : Office). made (f j) ≤ made X) f o O' j (λ (e : j ≡ o). rw e l) (λ e. omega arith)

  -- a join
  noted_fit : (stores : ℕ → Office) (f : Found) (s : Content) → n ≤ 8 → IdSet s.read
      → ((h : Entry) → f ≡ Some h → (id_of h < 256) × (h ≡ E (id_of h)) × ((j : ℕ) → j < n → get_or (E (id_of h)).clock j 0 ≤ made (stores j))) →
      ClockFit n E stores s → ClockFit n E stores (noted f s)
  unfolding noted
  noted_fit stores None s n8 w c K = K
  noted_fit stores (Some h) s n8 w c K =
      let t = c h refl in
      record {
        over = λ k m j l. over t k m j l (join_at s.clock h.clock j l);
        bound = λ j l.
            let q = join_at s.clock h.clock j (omega arith) in
            let e : get_or h.clock j 0 ≡ get_or (E (id_of h)).clock j 0 = ap (λ (x : Entry). get_or x.clock j 0) t.1 in
            omega (arith, K.bound j l, t.2 j l);
      }
    where
      over : (id_of h < 256) × (h ≡ E (id_of h)) × ((j : ℕ) → j < n → get_or (E (id_of h)).clock j 0 ≤ made (stores j)) → (k : ℕ)
          → (has (inserted s.read (id_of h)) k ≡ 1) ⊎ Memᴰ k (map id_of s.own) → (j : ℕ) → j < 8 →
          get_or (join s.clock h.clock) j 0 ≡ max (get_or s.clock j 0) (get_or h.clock j 0) → get_or (E k).clock j 0 ≤ get_or
          (join s.clock h.clock) j 0
      over t k (inl m) j l q = ⊎_elim
          (λ (x : k ≡ id_of h).
          let e : get_or (E k).clock j 0 ≡ get_or h.clock j 0 =
          ap (λ (y : ℕ). get_or (E y).clock j 0) x ∙ ap (λ (y : Entry). get_or y.clock j 0) (sym t.1)
          in
          omega arith)
          (λ x. omega (arith, K.over k (inl x) j l)) (in_inserted s.read (id_of h) k t.0 w m)
      over t k (inr m) j l q = omega (arith, K.over k (inr m) j l)

-- ---- the calls

given_session : {A B : Type 0} (Q : Content → Type 0) (c : ℕ) (O : A) (s : Content) (row : List ℕ) (R : Result A B) → Q s → Q R.session
    → Q (given c O s row R).session
given_session Q zero O s row R a b = b
given_session Q (suc c) O s row R a b = a

given_store : {A B : Type 0} (Q : A → Type 0) (c : ℕ) (O : A) (s : Content) (row : List ℕ) (R : Result A B) → Q O → Q R.store
    → Q (given c O s row R).store
given_store Q zero O s row R a b = b
given_store Q (suc c) O s row R a b = a

module _ (n p : ℕ) (two : 2 ≤ n) (eight : n ≤ 8) (E : ℕ → Entry) (P : ℕ → List ℕ) (g : Sys) (w : Whole n p two E P g) (K : Clocks n E g) where
  -- only the stores and the sessions change
  pub later : (f : ℕ → Office) → ((j : ℕ) → made (g.stores j) ≤ made (f j)) → (es : List Tracked)
      → ((r : Tracked) → Memᴰ r es → ClockFit n E f r.session) → (l : ℕ → List Frame) (v : List Event) →
      Clocks n E (record { stores = f; lines = l; sessions = es; tokens = g.tokens; log = g.log; events = v })
  later f m es h l v =
      record {
        sessions = h;
        tokens = λ r i. fit_later n E g.stores f m r.token (K.tokens r i);
        bound = λ k i j lt. omega (arith, K.bound k i j lt, m j);
        deps = K.deps;
      }

  module _ (o : ℕ) (lt : o < n) where
    receive_mono : (f : Frame) (rest : List Frame) → g.lines o ≡ f ∷ rest → (row : List ℕ)
        → made (g.stores o) ≤ made (receive_on (g.stores o) f row).store
    unfolding receive_on
    receive_mono f rest e row =
        given_store (λ X. made (g.stores o) ≤ made X) (receive_code (g.stores o) f (length row)) (g.stores o) (fresh_content 0) row _
        (omega arith)
        (let H = changed n p two eight E P g w o lt f rest e in
        made_mono (g.stores o) (received_by (g.stores o) f) ((w.offices o).own ∙ sym H.fit.own) H.held_to)

    -- whatever the lines and the events
    receive_any : (f : Frame) (rest : List Frame) → g.lines o ≡ f ∷ rest → (row : List ℕ) (l : ℕ → List Frame) (v : List Event)
        → Clocks n E (record { stores = upd g.stores o (receive_on (g.stores o) f row).store; lines = l; sessions = g.sessions; tokens = g.tokens; log = g.log; events = v })
    receive_any f rest e row l v =
        let m = upd_mono n E g.stores o (receive_on (g.stores o) f row).store (receive_mono f rest e row) in
        later (upd g.stores o (receive_on (g.stores o) f row).store) m g.sessions
        (λ r i. fit_later n E g.stores (upd g.stores o (receive_on (g.stores o) f row).store) m r.session (K.sessions r i)) l v

    pub receive_clocks : (f : Frame) (rest : List Frame) → g.lines o ≡ f ∷ rest → (row : List ℕ) → (c : ℕ)
        → Clocks n E (receive_by over_contents n g o rest (receive_on (g.stores o) f row) c)
    receive_clocks f rest e row zero = receive_any f rest e row _ _
    receive_clocks f rest e row (suc c) = receive_any f rest e row _ _

    module _ (i : ℕ) (r : Tracked) (in-r : Memᴰ r g.sessions) (A : Agrees E P g.log) where
      abbrev s : Content
      s = r.session

      abbrev O1 : Office
      O1 = reveal (g.stores o) r.session.read

      F : TrackedFit n two E P (world g) r.session r.past
      F = w.sessions r in-r

      visible : made (g.stores o) ≤ made (reveal (g.stores o) r.session.read)
      visible =
          let H = C n p two eight E P g w A o lt i r in-r in
          made_mono (g.stores o) (reveal (g.stores o) r.session.read) ((w.offices o).own ∙ sym H.fit.own) H.held_to

      cur_fit : (q : ℕ) (h : Entry) → current (reveal (g.stores o) r.session.read) q ≡ Some h
          → (id_of h < 256) × (h ≡ E (id_of h)) × ((j : ℕ) → j < n → get_or (E (id_of h)).clock j 0 ≤ made (g.stores j))
      cur_fit q h e =
          let t = cur n p two eight E P g w A o lt i r in-r q h e in
          let m = vis_made n p two eight E P g w A o lt i r in-r (id_of h) t.0 in
          (omega (arith, t.1), same q h e, λ j l. K.bound (id_of h) m j l)
        where
          same : (q : ℕ) (h : Entry) → current (reveal (g.stores o) r.session.read) q ≡ Some h → h ≡ E (id_of h)
          same q h e =
              let u = current_from (reveal (g.stores o) r.session.read) q h e in
              let hk : h ≡ E u.0 = u.3 ∙ vis_is n p two eight E P g w A o lt i r in-r u.0 u.2 in
              let nm : id_of h ≡ u.0 = ap id_of hk ∙ (w.good u.0 (vis_made n p two eight E P g w A o lt i r in-r u.0 u.2)).id_is in
              hk ∙ ap E (sym nm)

      noted_all_lem : (qs : List ℕ) (x : Content) → IdSet x.read → ClockFit n E g.stores x
          → ClockFit n E g.stores (noted_all (reveal (g.stores o) r.session.read) qs x)
      unfolding noted_all noted
      noted_all_lem [] x wx c = c
      noted_all_lem (q ∷ qs) x wx c =
          noted_all_lem qs (noted (current (reveal (g.stores o) r.session.read) q) x)
          (words_noted (current (reveal (g.stores o) r.session.read) q))
          (noted_fit n E g.stores (current (reveal (g.stores o) r.session.read) q) x eight wx (cur_fit q) c)
        where
          words_noted : (f : Found) → IdSet (noted f x).read
          words_noted None = wx
          words_noted (Some e) = ids_inserted x.read (id_of e) wx

      -- whatever the past and the events
      with_past : (R : Result Office Frame) → made (g.stores o) ≤ made R.store → ClockFit n E g.stores R.session
          → (past : List ℕ) (v : List Event)
          → Clocks n E
          (record {
            stores = upd g.stores o R.store;
            lines = g.lines;
            sessions = set g.sessions i (record { session = R.session; past = past });
            tokens = g.tokens;
            log = g.log;
            events = v;
          })
      with_past R m k past v =
          let mm = upd_mono n E g.stores o R.store m in
          later (upd g.stores o R.store) mm (set g.sessions i (record { session = R.session; past = past }))
          (λ x j.
          ⊎_elim
          (λ (e : x ≡ record { session = R.session; past = past }).
          rw e (fit_later n E g.stores (upd g.stores o R.store) mm R.session k))
          (λ y. fit_later n E g.stores (upd g.stores o R.store) mm x.session (K.sessions x y))
          (mem_set g.sessions i (record { session = R.session; past = past }) x j)) g.lines v

      -- a reading that leaves the store X and the session x
      read_any : (R : Result Office Frame) (plots : List ℕ) → made (g.stores o) ≤ made R.store → ClockFit n E g.stores R.session
          → (c : ℕ) → Clocks n E (read_by over_contents n g o i r plots R c)
      read_any R plots m k zero = with_past R m k (gained g.log R.found r.past) _
      read_any R plots m k (suc c) = with_past R m k r.past _

      pub one_clocks : (plot : ℕ) → (c : ℕ) → Clocks n E (read_by over_contents n g o i r (plot ∷ []) (read_on (g.stores o) r.session plot) c)
      unfolding read_on
      one_clocks plot c =
          read_any (read_on (g.stores o) r.session plot) (plot ∷ [])
          (given_store (λ X. made (g.stores o) ≤ made X) (read_code (g.stores o) r.session plot) (g.stores o) r.session [] _
          (omega arith) visible)
          (given_session (λ x. ClockFit n E g.stores x) (read_code (g.stores o) r.session plot) (g.stores o) r.session [] _ (K.sessions r in-r)
          (noted_all_lem (plot ∷ []) r.session F.fit.read_set (K.sessions r in-r))) c

      pub joint_clocks : (plots row : List ℕ) → (c : ℕ)
          → Clocks n E (read_by over_contents n g o i r plots (joint_on (g.stores o) r.session plots row) c)
      unfolding joint_on
      joint_clocks plots row c =
          read_any (joint_on (g.stores o) r.session plots row) plots
          (given_store (λ X. made (g.stores o) ≤ made X) (joint_code (g.stores o) r.session plots (length row)) (g.stores o)
          r.session row _ (omega arith) visible)
          (given_session (λ x. ClockFit n E g.stores x) (joint_code (g.stores o) r.session plots (length row)) (g.stores o) r.session row _ (K.sessions r in-r)
          (noted_all_lem plots r.session F.fit.read_set (K.sessions r in-r))) c

-- ---- what it is for

-- pointwise at most, and below at one place: outranked
higher_by : (xs ys : List ℕ) (a b : ℕ) → length xs ≡ length ys → ((j : ℕ) → j < length xs → get_or ys j 0 ≤ get_or xs j 0) → (i : ℕ) → i < length xs
    → get_or ys i 0 < get_or xs i 0 → higher (xs ++ (a ∷ [])) (ys ++ (b ∷ [])) ≡ true
higher_by [] ys a b l h i li q = absurd (omega arith)
higher_by (x ∷ xs) [] a b l h i li q = absurd (omega arith)
higher_by (x ∷ xs) (y ∷ ys) a b l h i li q =
    go i li q (λ i' l' q'. higher_by xs ys a b (omega arith) (λ j u. h (suc j) (omega arith)) i' l' q') (eq_or_ne x y)
  where
    go : (i : ℕ) → i < length (x ∷ xs) → get_or (y ∷ ys) i 0 < get_or (x ∷ xs) i 0
        → ((i' : ℕ) → i' < length xs → get_or ys i' 0 < get_or xs i' 0 → higher (xs ++ (a ∷ [])) (ys ++ (b ∷ [])) ≡ true) → (x ≡ y) ⊎ (x ≡ y → ⊥)
        → higher ((x ∷ xs) ++ (a ∷ [])) ((y ∷ ys) ++ (b ∷ [])) ≡ true
    go i li q ih (inr ne) = higher_more x y (xs ++ (a ∷ [])) (ys ++ (b ∷ [])) (omega (arith, h 0 (omega arith)))
    go zero li q ih (inl e) = absurd (omega arith)
    go (suc i) li q ih (inl e) = higher_same x y (xs ++ (a ∷ [])) (ys ++ (b ∷ [])) e ∙ ih i (omega arith) q

pub under_outranks : (d e : Entry) (n p : ℕ) → n ≤ 8 → EntryFacts n p e → length e.clock ≡ 8 → length d.clock ≡ 8 → Under d e
    → outranks e d ≡ true
unfolding outranks ranks_above
under_outranks d e n p eight F le ld U =
    higher_by e.clock d.clock e.office d.office (le ∙ sym ld) (λ j l. U.le j (omega arith)) e.office
    (omega (arith, F.bounds.office_ok)) (omega (arith, U.lt, F.own_clock))
