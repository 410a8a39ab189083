-- The ring program on bytes: what the bytes of a script lead to, and the text of the replies. Paper 01, "The ring program". Assumes nothing.
use Rattle.std.specs.Prelude.{ℕ, ◌+◌, Bool, cond, List, [], ◌++◌, ◌∷◌, map, ◌≡◌, eqb, length, replicate}
use Rattle.std.proofs.lemmas.List.Edits.{sets}
use Rattle.script.specs.Lines.{line_of}
use Rattle.script.specs.Pendings.{pending_of}
use Rattle.script.specs.Replies.{reply_bytes}
use Rattle.script.specs.declared.line.Line.{Line}
use Rattle.script.specs.declared.reply.Reply.{Reply}
use Rattle.player.specs.Desks.{Desk, desk}
use Rattle.player.specs.Play.{Scene, play}
use Rattle.player.specs.Shows.{Shows}
use Rattle.ring_program.specs.declared.feed.Stage.{Stage}

-- an out row of the program's length: which words it has makes no difference, `play_alike` of player/proofs/Rows.antt
abbrev pub out_row : List ℕ
out_row = replicate 1751 0

-- the scene, the bytes of a line whose end has not come, and the text of the replies
pub record Fed : Type 0 where
  pub scene : Scene
  pub rest : List ℕ
  pub text : List ℕ

abbrev pub after : List ℕ → Fed → Fed
after said f = record { scene = f.scene; rest = f.rest; text = said ++ f.text }

-- from the scene g, with the bytes l of a line pending, what the bytes bs lead to: "a line ends at a newline"
unfoldable pub fed : Scene → List ℕ → List ℕ → Fed
fed g l [] = record { scene = g; rest = l; text = [] }
fed g l (b ∷ bs) =
    cond (eqb b 10) (after (reply_bytes (play out_row g (line_of l)).1) (fed (play out_row g (line_of l)).0 [] bs)) (fed g (l ++ (b ∷ [])) bs)

-- the input ends with the bytes l pending: "a line ends at a newline or the input's end, and no line begins at the input's end"
unfoldable pub last_fed : Scene → List ℕ → Fed
last_fed g [] = record { scene = g; rest = []; text = [] }
last_fed g (b ∷ l) = record { scene = (play out_row g (line_of (b ∷ l))).0; rest = []; text = reply_bytes (play out_row g (line_of (b ∷ l))).1 }

-- a whole input: bytes, and their end
abbrev pub whole_fed : Scene → List ℕ → List ℕ → Fed
whole_fed g l bs = after (fed g l bs).text (last_fed (fed g l bs).scene (fed g l bs).rest)

-- the lines that the bytes bs end, with the bytes l of the first one pending
unfoldable pub lines_in : List ℕ → List ℕ → List Line
lines_in l [] = []
lines_in l (b ∷ bs) = cond (eqb b 10) (line_of l ∷ lines_in [] bs) (lines_in (l ++ (b ∷ [])) bs)

-- the same of a whole input: with the line that its end ends, if one has begun
abbrev pub last_line : List ℕ → List Line
last_line [] = []
last_line (b ∷ l) = line_of (b ∷ l) ∷ []

unfoldable pub lines_of : List ℕ → List ℕ → List Line
lines_of l [] = last_line l
lines_of l (b ∷ bs) = cond (eqb b 10) (line_of l ∷ lines_of [] bs) (lines_of (l ++ (b ∷ [])) bs)

-- each line with the program's out row, and replies as text, one behind the other
abbrev pub rowed : List Line → List (List ℕ × Line)
rowed ls = map (λ (x : Line). (out_row, x)) ls

unfoldable pub text_of : List Reply → List ℕ
text_of [] = []
text_of (r ∷ rs) = reply_bytes r ++ text_of rs

-- the sessions and the board
abbrev pub desk_of : Stage → Desk
desk_of r = desk r.sessions r.board

-- its text was written out, and taken or not
abbrev pub emptied : Stage → Bool → Stage
emptied r wrote = record { sessions = r.sessions; board = r.board; pending = r.pending; at = 0; wrote = wrote }

-- bytes fed: what they lead to is shown and pending, and the replies stand behind the text
pub record Follows (f : Fed) (at : ℕ) (text : List ℕ) (r : Stage) (stores lines text' : List ℕ) : Type 0 where
  pub shows : Shows f.scene (desk_of r) stores lines
  pub pending : r.pending ≡ pending_of f.rest
  pub at_is : r.at ≡ at + length f.text
  pub text_is : text' ≡ sets text at f.text

-- the same of the desk and what is pending alone, where the text is written out on the way
pub record Leads (f : Fed) (r : Stage) (stores lines : List ℕ) : Type 0 where
  pub shows : Shows f.scene (desk_of r) stores lines
  pub pending : r.pending ≡ pending_of f.rest

-- some scene is shown, and some bytes are pending
abbrev pub Staged : Stage → List ℕ → List ℕ → Type 0
Staged r stores lines = (g : Scene) × (l : List ℕ) × Shows g (desk_of r) stores lines × (r.pending ≡ pending_of l)

-- the input has ended: what is pending is played as the last line, and its reply stands at the text's beginning
pub record Finishes (g : Scene) (l text : List ℕ) (r : Stage) (stores lines text' : List ℕ) : Type 0 where
  pub leads : Leads (last_fed g l) r stores lines
  pub text_is : text' ≡ sets text 0 (last_fed g l).text
