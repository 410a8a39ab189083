-- Whatever the bytes of a script, they are lines played one after another, and the text is that of the replies. Assumes nothing.
use Prim.Native.Nat.{ℕ}
use mathlib.Core.Bool.{Bool, cond, false, true}
use mathlib.Core.List.{List, [], ◌++◌, ◌∷◌, append_assoc, append-nil}
use mathlib.Core.Path.{◌∙◌, ◌≡◌, ap, refl, sym}
use lib.Dec.{eqb}
use Rattle.script.specs.Lines.{line_of}
use Rattle.script.specs.Replies.{reply_bytes}
use Rattle.script.specs.declared.line.Line.{Line}
use Rattle.player.specs.Play.{Scene, play, play_all}
use Rattle.ring_program.specs.Fed.{Fed, after, fed, last_fed, lines_in, lines_of, out_row, rowed, text_of, whole_fed}

-- f is what the lines ls lead to from the scene g
pub record Played-by (g : Scene) (ls : List Line) (f : Fed) : Type 0 where
  pub scene : f.scene ≡ (play_all g (rowed ls)).0
  pub text : f.text ≡ text_of (play_all g (rowed ls)).1

-- up to the last newline
pub fed_plays : (g : Scene) (l bs : List ℕ) → Played-by g (lines_in l bs) (fed g l bs)
unfolding fed lines_in play_all text_of
fed_plays g l [] = record { scene = refl; text = refl }
fed_plays g l (b ∷ bs) = by (eqb b 10) (fed_plays (play out_row g (line_of l)).0 [] bs) (fed_plays g (l ++ (b ∷ [])) bs)
  where
    said : List ℕ
    said = reply_bytes (play out_row g (line_of l)).1

    next : Scene
    next = (play out_row g (line_of l)).0

    by : (t : Bool) → Played-by next (lines_in [] bs) (fed next [] bs) → Played-by g (lines_in (l ++ (b ∷ [])) bs) (fed g (l ++ (b ∷ [])) bs)
        → Played-by g (cond t (line_of l ∷ lines_in [] bs) (lines_in (l ++ (b ∷ [])) bs)) (cond t (after said (fed next [] bs)) (fed g (l ++ (b ∷ [])) bs))
    by true p q = record { scene = p.scene; text = ap (λ (x : List ℕ). said ++ x) p.text }
    by false p q = q

-- with the input's end
pub whole_plays : (g : Scene) (l bs : List ℕ) → Played-by g (lines_of l bs) (whole_fed g l bs)
unfolding fed last_fed lines_of play_all text_of
whole_plays g [] [] = record { scene = refl; text = refl }
whole_plays g (a ∷ l) [] = record { scene = refl; text = sym (append-nil (reply_bytes (play out_row g (line_of (a ∷ l))).1)) }
whole_plays g l (b ∷ bs) = by (eqb b 10) (whole_plays (play out_row g (line_of l)).0 [] bs) (whole_plays g (l ++ (b ∷ [])) bs)
  where
    said : List ℕ
    said = reply_bytes (play out_row g (line_of l)).1

    next : Scene
    next = (play out_row g (line_of l)).0

    ended : Fed → Fed
    ended f = after f.text (last_fed f.scene f.rest)

    by : (t : Bool) → Played-by next (lines_of [] bs) (ended (fed next [] bs)) → Played-by g (lines_of (l ++ (b ∷ [])) bs) (ended (fed g (l ++ (b ∷ [])) bs))
        → Played-by g (cond t (line_of l ∷ lines_of [] bs) (lines_of (l ++ (b ∷ [])) bs)) (ended (cond t (after said (fed next [] bs)) (fed g (l ++ (b ∷ [])) bs)))
    by true p q =
        record {
          scene = p.scene;
          text = append_assoc said (fed next [] bs).text (last_fed (fed next [] bs).scene (fed next [] bs).rest).text ∙ ap (λ (x : List ℕ). said ++ x) p.text;
        }
    by false p q = q
