-- When the desk and its buffers show a scene: what a change of a store, of a session, of a line leaves; over 32 frames at one office.
-- Assumes nothing.
use Prim.Native.Nat.{ℕ, suc, zero, ◌*◌, ◌+◌, ◌<◌, ◌≤◌}
use mathlib.Core.Bool.{false, not, true}
use mathlib.Core.List.{List, [], ◌++◌, ◌∷◌}
use mathlib.Core.Logic.{◌≢◌, ⊎_elim}
use mathlib.Core.Path.{◌∙◌, ◌≡◌, ap, refl, subst, sym}
use native.Mathlib.Omega.{arith}
use lib.Dec.{leb}
use lib.ListN.{drop, get_or, length, set, take, take-append-drop}
use lib.Seq.{get_or-set_other, get_or-set_same, set-get_or, sets, sets-eq, take-add}
use borrow.Author.Tests.{le-leb, lt-leb}
use Rattle.causal.specs.Lists.{part}
use Rattle.causal.proofs.Lists.{part_length, part_sets_after, part_sets_before, part_sets_whole}
use Rattle.causal.proofs.Tests.{all_fails, all_intro, eq_or_ne, lt_or_le}
use Rattle.frame.specs.Sessions.{content_of}
use Rattle.frame.specs.declared.session.Session.{Session}
use Rattle.office.specs.Calls.{Result}
use Rattle.ring.specs.Run.{Tracked, at, next_of, over_words, refused_by, turned_by, upd}
use Rattle.ring.proofs.Fit.{next_other, next_step, next_wrap, upd_case}
use Rattle.player.specs.Desks.{Desk, no_session, session_at}
use Rattle.player.specs.Play.{Ring, Scene, crowded}
use Rattle.player.specs.Shows.{Session-is, Shows}

-- ---- the next office

pub next_low : (o : ℕ) → o < 3 → next_of 3 o < 3
next_low o h =
    ⊎_elim (λ (l : suc o < 3). let e = next_step 3 o l in omega arith) (λ (l : 3 ≤ suc o). let e = next_wrap 3 o (omega arith) in omega arith) (lt_or_le (suc o) 3)

pub next_ne : (o : ℕ) → o < 3 → o ≡ next_of 3 o → ⊥
next_ne o h e = next_other 3 o (omega arith) h e

-- ---- a store

pub store_in : (stores ws : List ℕ) (o : ℕ) → o < 3 → length stores ≡ 5241 → length ws ≡ 1747 → (f : ℕ → List ℕ) →
    ((q : ℕ) → q < 3 → part stores (1747 * q) 1747 ≡ f q) → (q : ℕ) → q < 3 → part (sets stores (1747 * o) ws) (1747 * q) 1747 ≡ upd f o ws q
store_in stores ws o ol long size f old q ql =
    upd_case (λ x. part (sets stores (1747 * o) ws) (1747 * q) 1747 ≡ x) f o ws q
    (λ (e : q ≡ o).
    ap (λ (x : ℕ). part (sets stores (1747 * o) ws) (1747 * x) 1747) e
    ∙ ap (part (sets stores (1747 * o) ws) (1747 * o)) (sym size)
    ∙ part_sets_whole stores (1747 * o) ws (omega arith))
    (λ (e : q ≢ o).
    ⊎_elim (λ (l : q < o). part_sets_before stores (1747 * q) 1747 (1747 * o) ws (omega arith))
    (λ (l : o ≤ q). ⊎_elim (λ (x : q ≡ o). absurd (e x)) (λ (x : q ≡ o → ⊥). part_sets_after stores (1747 * q) 1747 (1747 * o) ws (omega arith)) (eq_or_ne q o)) (lt_or_le q o)
    ∙ old q ql)

-- the words that stand there put there again
pub store_same : (stores : List ℕ) (a n : ℕ) → a + n ≤ length stores → sets stores a (part stores a n) ≡ stores
unfolding part
store_same stores a n h =
    sets-eq (part stores a n) stores a (omega (arith, part_length stores a n h))
    ∙ ap (λ (x : ℕ). take a stores ++ part stores a n ++ drop (a + x) stores) (part_length stores a n h)
    ∙ ap (λ (l : List ℕ). l ++ drop (a + n) stores) (sym (take-add a n stores))
    ∙ take-append-drop (a + n) stores

pub word_in : (i x : ℕ) (f : ℕ → List ℕ) (o : ℕ) (ws : List ℕ) → get_or ws i 0 ≡ x → ((q : ℕ) → q < 3 → get_or (f q) i 0 ≡ x) → (q : ℕ) → q < 3 → get_or (upd f o ws q) i 0 ≡ x
word_in i x f o ws new old q ql = upd_case (λ l. get_or l i 0 ≡ x) f o ws q (λ e. new) (λ e. old q ql)

-- ---- a session

module _ {A : Type 0} where
  at_same : (l : List A) (i : ℕ) (a x : A) → at l i ≡ a ∷ [] → at (set l i x) i ≡ x ∷ []
  unfolding at
  at_same [] i a x h = absurd (let z : ◌≡◌ {A = ℕ} 0 1 = ap length h in omega arith)
  at_same (y ∷ l) zero a x h = refl
  at_same (y ∷ l) (suc i) a x h = at_same l i a x h

  at_other : (l : List A) (i j : ℕ) (x : A) → (j ≡ i → ⊥) → at (set l i x) j ≡ at l j
  unfolding at
  at_other [] i j x h = refl
  at_other (y ∷ l) zero zero x h = absurd (h refl)
  at_other (y ∷ l) zero (suc j) x h = refl
  at_other (y ∷ l) (suc i) zero x h = refl
  at_other (y ∷ l) (suc i) (suc j) x h = at_other l i j x (λ e. h (ap suc e))

pub session_in : (rs : List Tracked) (ss : List Session) (i : ℕ) (r : Tracked) (s : Session) → i < 4 → length ss ≡ 4 → r.session ≡ content_of s → length s.own ≡ 16 →
    ((j : ℕ) → j < 4 → Session-is (at rs j) (get_or ss j no_session)) → (j : ℕ) → j < 4 → Session-is (at (set rs i r) j) (get_or (set ss i s) j no_session)
session_in rs ss i r s il four new size old j jl =
    ⊎_elim
    (λ (e : j ≡ i).
    subst (λ (x : ℕ). Session-is (at (set rs i r) x) (get_or (set ss i s) x no_session)) (sym e)
    (record {
      tracked = r;
      found = at_same rs i (old i il).tracked r (old i il).found;
      content = new ∙ ap content_of (sym (get_or-set_same ss i s no_session (omega arith)));
      size = ap (λ (x : Session). length x.own) (get_or-set_same ss i s no_session (omega arith)) ∙ size;
    }))
    (λ (e : j ≡ i → ⊥).
    record {
      tracked = (old j jl).tracked;
      found = at_other rs i j r e ∙ (old j jl).found;
      content = (old j jl).content ∙ ap content_of (sym (get_or-set_other ss i j s no_session e));
      size = ap (λ (x : Session). length x.own) (get_or-set_other ss i j s no_session e) ∙ (old j jl).size;
    })
    (eq_or_ne j i)

-- ---- a refused call changes nothing that is shown

module _ (g : Scene) (d : Desk) (stores lines : List ℕ) (S : Shows g d stores lines) (o : ℕ) (ol : o < 3) (R : Result (List ℕ) (List ℕ)) (e : R.store ≡ part stores (1747 * o) 1747) where
  same : R.store ≡ g.ring.stores o
  same = e ∙ S.store o ol

  store_still : (q : ℕ) → q < 3 → part stores (1747 * q) 1747 ≡ upd g.ring.stores o R.store q
  store_still q ql =
      upd_case (λ x. part stores (1747 * q) 1747 ≡ x) g.ring.stores o R.store q (λ (h : q ≡ o). ap (λ (x : ℕ). part stores (1747 * x) 1747) h ∙ sym e) (λ h. S.store q ql)

  pub turned_shows : Shows (record { ring = turned_by over_words 3 g.ring o R; place = g.place }) d stores lines
  turned_shows =
      record {
        four = S.four;
        four_places = S.four_places;
        three = S.three;
        three_counts = S.three_counts;
        long_stores = S.long_stores;
        long_lines = S.long_lines;
        store = store_still;
        offices = word_in 0 3 g.ring.stores o R.store (ap (λ (l : List ℕ). get_or l 0 0) same ∙ S.offices o ol) S.offices;
        plots = word_in 2 64 g.ring.stores o R.store (ap (λ (l : List ℕ). get_or l 2 0) same ∙ S.plots o ol) S.plots;
        line = S.line;
        session = S.session;
        place = S.place;
        placed = S.placed;
      }

  pub refused_shows : (i : ℕ) → i < 4 → (r : Tracked) → R.session ≡ content_of (session_at d i) → Shows (record { ring = refused_by over_words 3 g.ring o i r R; place = g.place }) d stores lines
  refused_shows i il r h =
      record {
        four = S.four;
        four_places = S.four_places;
        three = S.three;
        three_counts = S.three_counts;
        long_stores = S.long_stores;
        long_lines = S.long_lines;
        store = store_still;
        offices = word_in 0 3 g.ring.stores o R.store (ap (λ (l : List ℕ). get_or l 0 0) same ∙ S.offices o ol) S.offices;
        plots = word_in 2 64 g.ring.stores o R.store (ap (λ (l : List ℕ). get_or l 2 0) same ∙ S.plots o ol) S.plots;
        line = S.line;
        session = rw (set-get_or d.sessions i no_session) at (session_in g.ring.sessions d.sessions i (record { session = R.session; past = r.past }) (session_at d i) il S.four h (S.session i il).size S.session);
        place = S.place;
        placed = S.placed;
      }

-- ---- over 32 frames at one office

pub calm : (g : Ring) → ((o : ℕ) → o < 3 → length (g.lines o) ≤ 32) → crowded g ≡ false
unfolding crowded
calm g h = ap not (all_intro (λ o. leb (length (g.lines o)) 32) 3 (λ o l. le-leb (length (g.lines o)) 32 (h o l)))

pub jammed : (g : Ring) (o : ℕ) → o < 3 → 32 < length (g.lines o) → crowded g ≡ true
unfolding crowded
jammed g o l h = ap not (all_fails (λ o. leb (length (g.lines o)) 32) 3 o l (lt-leb (length (g.lines o)) 32 h))

pub line_few : (g : Scene) (d : Desk) (stores lines : List ℕ) → Shows g d stores lines → (o : ℕ) → o < 3 → length (g.ring.lines o) ≤ 32
line_few g d stores lines S o l = omega (arith, (S.line o l).counted, (S.line o l).few)
