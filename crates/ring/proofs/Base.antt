-- What the invariant says of the calls' tests: a made entry is never refused with 10 or 11, and what a session has read is held everywhere.
-- Assumes nothing.
use Prim.Native.Nat.{ℕ, ◌*◌, ◌/◌, ◌<◌, ◌≤◌}
use mathlib.Core.Bool.{Bool, false, true}
use mathlib.Core.List.Memᴰ
use mathlib.Core.List.{List, Memᴰ, [], ◌++◌, ◌∷◌}
use mathlib.Core.Logic.{⊎_elim}
use mathlib.Core.Path.{◌∙◌, ◌≡◌, ap, refl, sym}
use native.Mathlib.Omega.{arith}
use lib.Dec.{eqb, leb}
use lib.ListN.{length}
use borrow.Author.Tests.{eqb-true}
use Rattle.causal.specs.Codes.{check, or_else}
use Rattle.causal.specs.Sets.{IdSet, Within, has, is_in, subset_of}
use Rattle.causal.specs.Tests.{either, implies}
use Rattle.causal.proofs.Sets.{in_is, is_in_lem, subset_by}
use Rattle.causal.proofs.Tests.{implies_intro}
use Rattle.frame.specs.Calls.{laid}
use Rattle.frame.specs.Entries.{id_of, same_content}
use Rattle.frame.specs.Frames.{frame_words}
use Rattle.frame.specs.Sessions.{Content, SaneContent, SaneEntry, fresh_content}
use Rattle.frame.specs.Tokens.{rows_of}
use Rattle.frame.specs.declared.entry.Entry.{Entry}
use Rattle.frame.specs.declared.entry.Frame.{Frame}
use Rattle.frame.proofs.Entries.{EntryFacts, entry_facts}
use Rattle.frame.proofs.Ids.{id_office, id_range}
use Rattle.frame.proofs.SameContent.{same_refl}
use Rattle.store.specs.Offices.{Office, reveal}
use Rattle.office.specs.Calls.{Result, entry_code, given, onward, own_code, receive_code, receive_on, receive_sends, received_by, refusal}
use Rattle.mesh.specs.World.{Reach}
use Rattle.ring.specs.Run.{Event, Made, Tracked, event_of, noted_event, over_contents, refused_by, turned_by}
use Rattle.ring.proofs.Change.{Changed, Never, reveal_changed}
use Rattle.ring.proofs.Fit.{EventFit, Sys, TrackedFit, Whole, ids, mem_set, shape, upd_self, world}

module _ (n p : ℕ) (two : 2 ≤ n) (eight : n ≤ 8) (E : ℕ → Entry) (P : ℕ → List ℕ) (g : Sys) (w : Whole n p two E P g) where
  abbrev Made? : ℕ → Type 0
  Made? k = Memᴰ k (ids g.log)

  -- a session or token of the run is one that a program can have
  pub fit_sane : (s : Content) (past : List ℕ) → TrackedFit n two E P (world g) s past → SaneContent s
  fit_sane s past F = record { clock8 = F.fit.clock8; read = F.fit.read_set; own = own }
    where
      own : (e : Entry) → Memᴰ e s.own → SaneEntry e
      own e j =
          let is = F.fit.own_is e j in
          let G = w.good (id_of e) (F.sound.own_made (id_of e) (Memᴰ.map id_of j)) in
          record { clock8 = ap (λ (x : Entry). length x.clock) is ∙ G.clock8; deps_set = rw is G.deps_set }

  pub facts : (k : ℕ) → Made? k → EntryFacts n p (E k)
  facts k m = entry_facts n p (E k) (w.good k m).ok

  pub made_range : (k : ℕ) → Made? k → k < 32 * n
  made_range k m = let r = id_range n p (E k) (facts k m) in omega (arith, (w.good k m).id_is)

  pub made_office : (k : ℕ) → Made? k → k / 32 ≡ (E k).office
  made_office k m = ap (λ (x : ℕ). x / 32) (sym (w.good k m).id_is) ∙ id_office n p (E k) (facts k m)

  pub held_made : (o k : ℕ) → has (g.stores o).held k ≡ 1 → Made? k
  held_made o k h = w.inv.held_made o k h

  pub held_range : (o k : ℕ) → has (g.stores o).held k ≡ 1 → k < 32 * n
  held_range o k h = made_range k (held_made o k h)

  pub visible_held : (o k : ℕ) → o < n → has (g.stores o).visible k ≡ 1 → has (g.stores o).held k ≡ 1
  visible_held o k l h = w.inv.visible_held o k o l h

  -- what a made entry depends on is made
  pub dep_made : (k d : ℕ) → Made? k → has (E k).deps d ≡ 1 → Made? d
  dep_made k d m h = held_made (k / 32) d (w.inv.held_down (k / 32) k d (w.home k m) h)

  -- "An entry .. unmade or different means refusals .. 10 and 11": never of an entry that was made
  pub entry_code_lem : (o : ℕ) (e : Entry) → e ≡ E (id_of e) → Made? (id_of e) → entry_code (g.stores o) e ≡ 0
  unfolding entry_code check
  entry_code_lem o e is m = rw (home, same)
    where
      O : Office
      O = g.stores o

      at_home : eqb e.office (g.stores o).own ≡ true → is_in (g.stores o).held (id_of e) ≡ true
      at_home t =
          let q : e.office ≡ (g.stores o).own = eqb-true e.office (g.stores o).own t in
          let c : id_of e / 32 ≡ o = made_office (id_of e) m ∙ ap (λ (x : Entry). x.office) (sym is) ∙ q ∙ (w.offices o).own in
          is_in_lem (g.stores o).held (id_of e) (rw c at (w.home (id_of e) m))

      home : implies (eqb e.office (g.stores o).own) (is_in (g.stores o).held (id_of e)) ≡ true
      home = implies_intro (eqb e.office (g.stores o).own) (is_in (g.stores o).held (id_of e)) at_home

      alike : is_in (g.stores o).held (id_of e) ≡ true → same_content e ((g.stores o).entry (id_of e)) ≡ true
      alike t =
          let q : (g.stores o).entry (id_of e) ≡ e = (w.offices o).entry_is (id_of e) (in_is (g.stores o).held (id_of e) t) ∙ sym is in
          ap (same_content e) q ∙ same_refl e

      same : implies (is_in (g.stores o).held (id_of e)) (same_content e ((g.stores o).entry (id_of e))) ≡ true
      same = implies_intro (is_in (g.stores o).held (id_of e)) (same_content e ((g.stores o).entry (id_of e))) alike

  pub own_code_lem : (o : ℕ) (es : List Entry) → ((e : Entry) → Memᴰ e es → (e ≡ E (id_of e)) × Made? (id_of e)) → own_code (g.stores o) es ≡ 0
  unfolding own_code or_else
  own_code_lem o [] h = refl
  own_code_lem o (e ∷ es) h =
      let a = h e (Memᴰ.head refl) in
      rw (entry_code_lem o e a.0 a.1) (own_code_lem o es (λ f m. h f (Memᴰ.tail m)))

  -- what a session has read is held at every office
  pub read_within : (o : ℕ) → o < n → (s : Content) (past : List ℕ) → TrackedFit n two E P (world g) s past
      → Within s.read (g.stores o).held
  read_within o l s past F k h = let u = F.sound.reads_visible k h in w.inv.visible_held u.0 k o l u.1

  pub read_held : (o : ℕ) → o < n → (s : Content) (past : List ℕ) → TrackedFit n two E P (world g) s past
      → subset_of s.read (g.stores o).held ≡ true
  read_held o l s past F = subset_by s.read (g.stores o).held F.fit.read_set (w.offices o).held_set (read_within o l s past F)

  -- to reveal at o a set that is held there
  pub revealing : (o : ℕ) → o < n → (seeds : List ℕ) → IdSet seeds → Within seeds (g.stores o).held →
      Changed n p E o (g.stores o) (reveal (g.stores o) seeds) Never (λ k. (r : ℕ) × (has seeds r ≡ 1) × Reach (shape n two E) r k)
  revealing o l seeds ws hs =
      reveal_changed n p E o (g.stores o) (w.offices o) two (held_range o) (λ k h. (w.good k (held_made o k h)).deps_set)
      (λ k d h m. w.inv.held_down o k d h m) (λ k h. visible_held o k l h) (λ k d h m. w.inv.visible_down o k d h m) seeds ws hs

pub event_fine : (E : ℕ → Entry) (P : ℕ → List ℕ) (log : List Made) (v : Event) → (v.code ≡ 10 → ⊥) → (v.code ≡ 11 → ⊥) → (v.code ≡ 12 → ⊥) → v.reads ≡ []
    → v.past ≡ [] → EventFit E P log v
event_fine E P log v a b c e f =
    record {
      not10 = a;
      not11 = b;
      not12 = c;
      reads = λ q f m. absurd (Memᴰ.not-nil (rw e at m));
      handed = λ q f m. absurd (Memᴰ.not-nil (rw e at m));
      counted = λ q f m. absurd (Memᴰ.not-nil (rw e at m));
      past_made = λ k m. absurd (Memᴰ.not-nil (rw f at m));
    }

-- the events with one more
pub events_more : (E : ℕ → Entry) (P : ℕ → List ℕ) (log : List Made) (l : List Event) (v : Event) → ((x : Event) → Memᴰ x l → EventFit E P log x)
    → EventFit E P log v
    → (x : Event) → Memᴰ x (l ++ (v ∷ [])) → EventFit E P log x
events_more E P log l v old new x m =
    ⊎_elim (λ i. old x i) (λ (i : Memᴰ x (v ∷ [])). rw (Memᴰ.eq_of_singleton i) new) (Memᴰ.append_cases l m)

-- a call that is refused leaves all but the events
pub noted_whole : (n p : ℕ) (two : 2 ≤ n) (eight : n ≤ 8) (E : ℕ → Entry) (P : ℕ → List ℕ) (g : Sys) → Whole n p two E P g → (v : Event)
    → EventFit E P g.log v → Whole n p two E P (noted_event g v)
noted_whole n p two eight E P g w v F =
    record {
      inv = w.inv;
      law = w.law;
      offices = w.offices;
      good = w.good;
      home = w.home;
      lines = w.lines;
      sessions = w.sessions;
      tokens = w.tokens;
      tokens_ok = w.tokens_ok;
      events = events_more E P g.log g.events v w.events F;
    }

abbrev accepted_on : Office → Frame → List ℕ → Result Office Frame
accepted_on O f row =
    record {
      code = 0;
      count = length (rows_of (receive_sends f));
      found = [];
      store = received_by O f;
      session = fresh_content 0;
      row = laid (rows_of (receive_sends f)) row;
      sent = receive_sends f;
    }

-- the receive of a frame is not refused with 9
pub not_nine : (O : Office) (f : Frame) (row : List ℕ) → (receive_on O f row).code ≡ 9 → ⊥
unfolding receive_on receive_code entry_code check or_else
not_nine O f row =
    go (implies (eqb f.entry.office O.own) (is_in O.held (id_of f.entry)))
    (implies (is_in O.held (id_of f.entry)) (same_content f.entry (O.entry (id_of f.entry)))) (subset_of f.entry.deps O.held)
    (either (eqb f.hops 0) (leb (length (frame_words (onward f))) (length row)))
  where
    go : (a b x d : Bool)
        → (given (or_else (check a 10 (check b 11 0)) (check x 12 (check d 8 0))) O (fresh_content 0) row (accepted_on O f row)).code ≡ 9 → ⊥
    go true true true true e = omega arith
    go true true true false e = omega arith
    go true true false d e = omega arith
    go true false x d e = omega arith
    go false b x d e = omega arith

-- not one of the refusal numbers that never come up
abbrev pub Fine : ℕ → Type 0
Fine c = (c ≡ 10 → ⊥) × (c ≡ 11 → ⊥) × (c ≡ 12 → ⊥)

-- a refused call of an office leaves all but the events
module _ (n p : ℕ) (two : 2 ≤ n) (eight : n ≤ 8) (E : ℕ → Entry) (P : ℕ → List ℕ) (g : Sys) (w : Whole n p two E P g) (o c : ℕ)
    (row : List ℕ) where
  left : (s : Content) → Fine c
      → Whole n p two E P (noted_event g (event_of (refusal {A = Office} {B = Frame} c (g.stores o) s row)))
  left s f =
      noted_whole n p two eight E P g w (event_of (refusal {A = Office} {B = Frame} c (g.stores o) s row))
      (event_fine E P _ _ f.0 f.1 f.2 refl refl)

  pub turned_whole : (s : Content) → Fine c
      → Whole n p two E P (turned_by over_contents n g o (refusal {A = Office} {B = Frame} c (g.stores o) s row))
  turned_whole s f = rw (upd_self g.stores o) (left s f)

  pub refused_whole : (i : ℕ) (r : Tracked) → Memᴰ r g.sessions → Fine c
      → Whole n p two E P (refused_by over_contents n g o i r (refusal {A = Office} {B = Frame} c (g.stores o) r.session row))
  refused_whole i r m f =
      let W = left r.session f in
      rw (upd_self g.stores o)
      (record {
        inv = W.inv;
        law = W.law;
        offices = W.offices;
        good = W.good;
        home = W.home;
        lines = W.lines;
        sessions =
            λ x j. ⊎_elim (λ (e : x ≡ record { session = r.session; past = r.past }). rw e (w.sessions r m)) (λ k. w.sessions x k)
            (mem_set g.sessions i (record { session = r.session; past = r.past }) x j);
        tokens = W.tokens;
        tokens_ok = W.tokens_ok;
        events = W.events;
      })
