-- A move of a script, played; and lines that are none. Assumes nothing.
use Prim.Native.Nat.{ℕ, ◌<◌, ◌≤◌}
use mathlib.Core.List.{List, [], ◌∷◌}
use mathlib.Core.Logic.{◌⊎◌, ⊎_elim}
use mathlib.Core.Path.{◌∙◌, ◌≡◌, ap, refl}
use native.Mathlib.Omega.{arith}
use lib.ListN.{length-set, set}
use lib.Seq.{get_or-set_other, get_or-set_same}
use denote.Enum.Declared.{tag_of}
use types.Run.{OneOf}
use borrow.Author.Tests.{le-ltb, lt-ltb}
use Rattle.causal.specs.Tests.{both}
use Rattle.causal.proofs.Tests.{eq_or_ne}
use Rattle.script.specs.declared.line.Line.{Line}
use Rattle.script.specs.declared.line.Line.TheVariants.{Move, Other, Read, Receive, Write}
use Rattle.script.specs.contracts.line.Line.{the_type}
use Rattle.script.specs.declared.reply.Reply.TheVariants.{Moved, Odd}
use Rattle.player.specs.Desks.{Desk, with_place}
use Rattle.player.specs.Play.{Scene, moved, play}
use Rattle.player.specs.Shows.{Shows}
use Rattle.player.specs.Steps.{Plays, sessionless}
use Rattle.player.proofs.PlayWrite.{plays_by}

none : (k : ℕ) → k < 2 → OneOf (2 ∷ 3 ∷ 4 ∷ []) k → ⊥
none k l h = ⊎_elim (λ (e : k ≡ 2). omega arith) (λ (m : (k ≡ 3) ⊎ (k ≡ 4)). ⊎_elim (λ (e : k ≡ 3). omega arith) (λ (e : k ≡ 4). omega arith) m) h

-- ---- which lines no session plays, by the number of the variant

pub no_session : (line : Line) → OneOf (2 ∷ 3 ∷ 4 ∷ []) (tag_of the_type line) → sessionless line ≡ line
no_session (Write i plot value) h = absurd (none 0 (omega arith) h)
no_session (Read i plot) h = absurd (none 1 (omega arith) h)
no_session (Move i o) h = refl
no_session (Receive o) h = refl
no_session Other h = refl

pub odd_line : (line : Line) → ((i o : ℕ) → line ≡ Move i o → ⊥) → ((o : ℕ) → line ≡ Receive o → ⊥) → sessionless line ≡ Other
odd_line (Write i plot value) h k = refl
odd_line (Read i plot) h k = refl
odd_line (Move i o) h k = absurd (h i o refl)
odd_line (Receive o) h k = absurd (k o refl)
odd_line Other h k = refl

module _ (g : Scene) (d : Desk) (stores lines : List ℕ) (S : Shows g d stores lines) (row : List ℕ) where
  pub receive_odd : (o : ℕ) → 2 < o → Plays row g (Receive o) (record { desk = d; reply = Odd }) stores lines
  unfolding play
  receive_odd o h = plays_by row g (Receive o) d Odd stores lines g (rw (le-ltb o 3 (omega arith))) S

  pub other_odd : Plays row g Other (record { desk = d; reply = Odd }) stores lines
  unfolding play
  other_odd = plays_by row g Other d Odd stores lines g refl S

  pub move_odd : (i o : ℕ) → 3 < i → Plays row g (Move i o) (record { desk = d; reply = Odd }) stores lines
  unfolding play both
  move_odd i o h = plays_by row g (Move i o) d Odd stores lines g (rw (le-ltb i 4 (omega arith))) S

  pub move_far : (i o : ℕ) → i ≤ 3 → 2 < o → Plays row g (Move i o) (record { desk = d; reply = Odd }) stores lines
  unfolding play both
  move_far i o l h = plays_by row g (Move i o) d Odd stores lines g (rw (lt-ltb i 4 (omega arith), le-ltb o 3 (omega arith))) S

  pub move_done : (i o : ℕ) → i ≤ 3 → o ≤ 2 → Plays row g (Move i o) (record { desk = with_place d i o; reply = Moved }) stores lines
  unfolding play both
  move_done i o l h =
      plays_by row g (Move i o) (with_place d i o) Moved stores lines (moved g i o) (rw (lt-ltb i 4 (omega arith), lt-ltb o 3 (omega arith)))
      (record {
        four = S.four;
        four_places = length-set d.place i o ∙ S.four_places;
        three = S.three;
        three_counts = S.three_counts;
        long_stores = S.long_stores;
        long_lines = S.long_lines;
        store = S.store;
        offices = S.offices;
        plots = S.plots;
        line = S.line;
        session = S.session;
        place = ap (λ (x : List ℕ). set x i o) S.place;
        placed =
            λ j jl.
            ⊎_elim (λ (e : j ≡ i). rw (e, get_or-set_same d.place i o 0 (omega (arith, S.four_places))) (omega arith))
            (λ (e : j ≡ i → ⊥). rw (get_or-set_other d.place i j o 0 e) (S.placed j jl)) (eq_or_ne j i);
      })
