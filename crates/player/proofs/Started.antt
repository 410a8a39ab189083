-- The start shows the opened ring with four fresh sessions. Assumes nothing.
use Prim.Native.Nat.{ℕ, suc, zero, ◌*◌, ◌+◌, ◌-◌, ◌<◌, ◌≤◌}
use mathlib.Core.List.{List, [], ◌++◌, ◌∷◌}
use mathlib.Core.Path.{◌∙◌, ◌≡◌, ap, refl, subst, sym}
use native.Mathlib.Omega.{arith}
use lib.ListN.{drop, get_or, get_or-replicate, length, replicate, take}
use lib.Seq.{length-sets, sets}
use borrow.Author.Tests.{le-leb, lt-ltb}
use Rattle.causal.specs.Codes.{check}
use Rattle.causal.specs.Lists.{part}
use Rattle.causal.specs.Tests.{both}
use Rattle.causal.proofs.Lists.{part_length, part_sets_after, part_sets_before, part_sets_whole}
use Rattle.frame.specs.Frames.{ring_ok}
use Rattle.frame.specs.Sessions.{filled, fresh_content, session_of}
use Rattle.frame.specs.declared.session.Session.{Session}
use Rattle.frame.proofs.OwnTurns.{content_back}
use Rattle.store.specs.Offices.{empty_office, settings_ok, store_words}
use Rattle.office.specs.Answers.{fresh_by}
use Rattle.office.specs.Calls.{fresh_code, open_office}
use Rattle.ring.specs.Run.{Tracked, at, run, step, words_run}
use Rattle.player.specs.Desks.{Desk, count_at, first_at, no_session, session_at}
use Rattle.player.specs.Play.{opening, starts}
use Rattle.player.specs.Shows.{Queue, Session-is, Shows, stores_in}
use Rattle.player.proofs.Delivery.{put_back}

abbrev pub fresh3 : Session
fresh3 = session_of (fresh_content 3)

abbrev pub start_desk : Desk
start_desk =
    record { sessions = replicate 4 fresh3; place = replicate 4 0; first = replicate 3 0; count = replicate 3 0 }

open_is : (o : ℕ) (ws : List ℕ) → o < 3 → 1747 ≤ length ws → (open_office 3 o 64 ws).1 ≡ store_words ws (empty_office 3 o 64)
unfolding open_office settings_ok ring_ok both
open_is o ws h l = rw (lt-ltb o 3 h, le-leb 1747 (length ws) l)

first_words_lem : (ws : List ℕ) (o : ℕ) → (get_or (store_words ws (empty_office 3 o 64)) 0 0 ≡ 3) × (get_or (store_words ws (empty_office 3 o 64)) 2 0 ≡ 64)
unfolding store_words
first_words_lem ws o = (refl, refl)

fresh_size : length fresh3.own ≡ 16
unfolding session_of filled
fresh_size = refl

tracked : Tracked
tracked = record { session = fresh_content 3; past = [] }

sessions_are : (rows : ℕ → List ℕ) → (words_run 3 64 rows starts).sessions ≡ tracked ∷ tracked ∷ tracked ∷ tracked ∷ []
unfolding words_run run step fresh_code check both tracked
sessions_are rows = refl

lines_are : (rows : ℕ → List ℕ) (o : ℕ) → (words_run 3 64 rows starts).lines o ≡ []
unfolding words_run run step fresh_code check both
lines_are rows o = refl

stores_are : (rows : ℕ → List ℕ) (o : ℕ) → (words_run 3 64 rows starts).stores o ≡ (open_office 3 o 64 (rows o)).1
unfolding words_run run step fresh_code check both
stores_are rows o = refl

session_is : (rs : List Tracked) → rs ≡ tracked ∷ [] → Session-is rs fresh3
unfolding tracked
session_is rs e = record { tracked = tracked; found = e; content = sym (content_back (fresh_content 3) (omega arith)); size = fresh_size }

at_replicate : (n i : ℕ) (r : Tracked) → i < n → at (replicate n r) i ≡ r ∷ []
unfolding at
at_replicate zero i r h = absurd (omega arith)
at_replicate (suc n) zero r h = refl
at_replicate (suc n) (suc i) r h = at_replicate n i r (omega arith)

at_start : (rows : ℕ → List ℕ) (i : ℕ) → i < 4 → Session-is (at (words_run 3 64 rows starts).sessions i) (session_at start_desk i)
at_start rows i h =
    subst (λ (s : Session). Session-is (at (words_run 3 64 rows starts).sessions i) s) (sym (get_or-replicate 4 i fresh3 no_session h))
    (session_is (at (words_run 3 64 rows starts).sessions i) (ap (λ (l : List Tracked). at l i) (sessions_are rows) ∙ at_replicate 4 i tracked h))

empty_queue : (lines : List ℕ) (o : ℕ) → Queue lines o 0 0 []
empty_queue lines o = record { start = omega arith; counted = refl; few = omega arith; short = λ j h. absurd (omega arith); slot = λ j h. absurd (omega arith) }

queue_start : (rows : ℕ → List ℕ) (lines : List ℕ) (o : ℕ) → o < 3 → Queue lines o (first_at start_desk o) (count_at start_desk o) ((words_run 3 64 rows starts).lines o)
queue_start rows lines o h = rw (get_or-replicate {A = ℕ} 3 o 0 0 h, lines_are rows o) (empty_queue lines o)

start_shows : (rows : ℕ → List ℕ) (stores lines : List ℕ) → length stores ≡ 5241 → length lines ≡ 9984 → ((o : ℕ) → o < 3 → length (rows o) ≡ 1747)
    → ((o : ℕ) → o < 3 → part stores (1747 * o) 1747 ≡ (open_office 3 o 64 (rows o)).1) → Shows (opening rows) start_desk stores lines
start_shows rows stores lines a b sizes opened =
    record {
      four = refl;
      four_places = refl;
      three = refl;
      three_counts = refl;
      long_stores = a;
      long_lines = b;
      store = λ o h. opened o h ∙ sym (stores_are rows o);
      offices = λ o h. ap (λ (l : List ℕ). get_or l 0 0) (stores_are rows o ∙ open_is o (rows o) h (omega (arith, sizes o h))) ∙ (first_words_lem (rows o) o).0;
      plots = λ o h. ap (λ (l : List ℕ). get_or l 2 0) (stores_are rows o ∙ open_is o (rows o) h (omega (arith, sizes o h))) ∙ (first_words_lem (rows o) o).1;
      line = queue_start rows lines;
      session = at_start rows;
      place = refl;
      placed = λ i h. rw (get_or-replicate {A = ℕ} 4 i 0 0 h) (omega arith);
    }

-- ---- three offices opened one after another

pub opens_at : (stores W new : List ℕ) (o : ℕ) → W ≡ part stores (1747 * o) 1747 → new ≡ (open_office 3 o 64 W).1 → 1747 * o + 1747 ≤ length stores → length new ≡ length W
    → (take (1747 * o) stores ++ (new ++ drop (1747 * o + 1747 - 1747 * o) (drop (1747 * o) stores)) ≡ sets stores (1747 * o) (open_office 3 o 64 (part stores (1747 * o) 1747)).1)
    × (length (open_office 3 o 64 (part stores (1747 * o) 1747)).1 ≡ 1747)
opens_at stores W new o e x h l =
    let n : length new ≡ 1747 = l ∙ ap length e ∙ part_length stores (1747 * o) 1747 h in
    let y : new ≡ (open_office 3 o 64 (part stores (1747 * o) 1747)).1 = x ∙ ap (λ (w : List ℕ). (open_office 3 o 64 w).1) e in
    (put_back stores new (1747 * o) 1747 h n ∙ ap (sets stores (1747 * o)) y, ap length (sym y) ∙ n)

here : (s w : List ℕ) (o : ℕ) → o < 3 → length s ≡ 5241 → length w ≡ 1747 → part (sets s (1747 * o) w) (1747 * o) 1747 ≡ w
here s w o ol l n = ap (part (sets s (1747 * o) w) (1747 * o)) (sym n) ∙ part_sets_whole s (1747 * o) w (omega arith)

module _ (s0 s1 s2 s3 w0 w1 w2 : List ℕ) (size : length s0 ≡ 5241) (e1 : s1 ≡ sets s0 0 w0) (e2 : s2 ≡ sets s1 1747 w1) (e3 : s3 ≡ sets s2 3494 w2)
    (x0 : w0 ≡ (open_office 3 0 64 (part s0 0 1747)).1) (x1 : w1 ≡ (open_office 3 1 64 (part s1 1747 1747)).1) (x2 : w2 ≡ (open_office 3 2 64 (part s2 3494 1747)).1)
    (l0 : length w0 ≡ 1747) (l1 : length w1 ≡ 1747) (l2 : length w2 ≡ 1747) where
  size1 : length s1 ≡ 5241
  size1 = ap length e1 ∙ length-sets s0 0 w0 ∙ size

  size2 : length s2 ≡ 5241
  size2 = ap length e2 ∙ length-sets s1 1747 w1 ∙ size1

  size3 : length s3 ≡ 5241
  size3 = ap length e3 ∙ length-sets s2 3494 w2 ∙ size2

  all_open : (o : ℕ) → o < 3 → part s3 (1747 * o) 1747 ≡ (open_office 3 o 64 (stores_in s0 o)).1
  all_open zero h =
      ap (λ (l : List ℕ). part l 0 1747) e3 ∙ part_sets_before s2 0 1747 3494 w2 (omega arith)
      ∙ ap (λ (l : List ℕ). part l 0 1747) e2 ∙ part_sets_before s1 0 1747 1747 w1 (omega arith)
      ∙ ap (λ (l : List ℕ). part l 0 1747) e1 ∙ here s0 w0 0 (omega arith) size l0 ∙ x0
  all_open (suc zero) h =
      ap (λ (l : List ℕ). part l 1747 1747) e3 ∙ part_sets_before s2 1747 1747 3494 w2 (omega arith)
      ∙ ap (λ (l : List ℕ). part l 1747 1747) e2 ∙ here s1 w1 1 (omega arith) size1 l1 ∙ x1
      ∙ ap (λ (l : List ℕ). (open_office 3 1 64 l).1) (ap (λ (l : List ℕ). part l 1747 1747) e1 ∙ part_sets_after s0 1747 1747 0 w0 (omega arith))
  all_open (suc (suc zero)) h =
      ap (λ (l : List ℕ). part l 3494 1747) e3 ∙ here s2 w2 2 (omega arith) size2 l2 ∙ x2
      ∙ ap (λ (l : List ℕ). (open_office 3 2 64 l).1)
      (ap (λ (l : List ℕ). part l 3494 1747) e2 ∙ part_sets_after s1 3494 1747 1747 w1 (omega arith)
      ∙ ap (λ (l : List ℕ). part l 3494 1747) e1 ∙ part_sets_after s0 3494 1747 0 w0 (omega arith))
  all_open (suc (suc (suc o))) h = absurd (omega arith)

  pub ring_opened : (f : Session) → f ≡ fresh3 → (lines : List ℕ) → length lines ≡ 9984
      → Shows (opening (stores_in s0)) (record { sessions = replicate 4 f; place = replicate 4 0; first = replicate 3 0; count = replicate 3 0 }) s3 lines
  ring_opened f e lines long =
      subst (λ (x : Session). Shows (opening (stores_in s0)) (record { sessions = replicate 4 x; place = replicate 4 0; first = replicate 3 0; count = replicate 3 0 }) s3 lines) (sym e)
      (start_shows (stores_in s0) s3 lines size3 long (λ o h. part_length s0 (1747 * o) 1747 (omega arith)) all_open)

pub fresh_is : session_of (fresh_by (fresh_code 3) 3) ≡ fresh3
unfolding fresh_by fresh_code check both
fresh_is = refl
