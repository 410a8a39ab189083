-- What the program has done when it ends. Paper 01, "The ring program": "It reads standard input". No contract can say which bytes come, so there are
-- some, as many as were counted; all that the program shows is what these lead to. Assumes nothing.
use Rattle.std.specs.Prelude.{ℕ, ◌+◌, ◌<◌, Err, IsErr, IsOk, List, Ok, Result, [], ◌⊎◌, ◌≡◌, false, length, take, true, ⊤}
use Rattle.script.specs.Pendings.{pending_of}
use Rattle.player.specs.Play.{Scene, opening}
use Rattle.player.specs.Shows.{Shows, stores_in}
use Rattle.ring_program.specs.declared.Outcome.{Outcome}
use Rattle.ring_program.specs.declared.Progress.{Progress}
use Rattle.ring_program.specs.declared.ending.Failure.{Failure}
use Rattle.ring_program.specs.declared.ending.Failure.TheVariants.{Read, TooLong, Write}
use Rattle.ring_program.specs.declared.feed.Stage.{Stage}
use Rattle.ring_program.specs.Fed.{Finishes, Leads, desk_of, fed}

-- no more bytes come, with the bytes l of a line pending, by what the last read said: at the input's end it is the last line; where the read failed it
-- is not played, since it may be half a line
abbrev pub Closes : {E : Type 0} → Result ⊤ Failure → Result ℕ E → Scene → List ℕ → List ℕ → Stage → List ℕ → List ℕ → List ℕ → Type 0
Closes (Ok _) said g l text r stores lines text' = IsOk said × (r.wrote ≡ true) × Finishes g l text r stores lines text'
Closes (Err Write) said g l text r stores lines text' = IsOk said × (r.wrote ≡ false) × Finishes g l text r stores lines text'
Closes (Err Read) said g l text r stores lines text' = IsErr said × (r.wrote ≡ true) × Leads (record { scene = g; rest = l; text = [] }) r stores lines × (text' ≡ text)
Closes (Err TooLong) said g l text r stores lines text' = ⊥

-- the end that the input's end leads to: all lines are played, the last one with or without a newline
abbrev pub Finished : Scene → List ℕ → Stage → List ℕ → List ℕ → List ℕ → Type 0
Finished g bs r stores lines text' = (text : List ℕ) × Finishes (fed g [] bs).scene (fed g [] bs).rest text r stores lines text'

-- each way to end, from the scene g, after the bytes bs were read, by what the last read said. The input's end is a read that brings none and does not
-- fail. After a failed write nothing more is played: what was fed is a beginning of what was read, or all of it and the last line
abbrev pub Ends : Result ⊤ Failure → Scene → List ℕ → Progress → List ℕ → List ℕ → List ℕ → Type 0
Ends (Ok _) g bs r stores lines text' = (r.said ≡ Ok 0) × (r.stage.wrote ≡ true) × Finished g bs r.stage stores lines text'
Ends (Err Read) g bs r stores lines text' = IsErr r.said × (r.stage.wrote ≡ true) × Leads (fed g [] bs) r.stage stores lines
Ends (Err TooLong) g bs r stores lines text' = (r.stage.wrote ≡ true) × Leads (fed g [] bs) r.stage stores lines × (r.left < 4096)
Ends (Err Write) g bs r stores lines text' =
    (r.stage.wrote ≡ false) × (((k : ℕ) × Leads (fed g [] (take k bs)) r.stage stores lines) ⊎ Finished g bs r.stage stores lines text')

-- bytes were read from where r₀ stands, counted down from what it has left, and the program ended in one of these ways
pub record Reads (r₀ : Progress) (stores₀ lines₀ : List ℕ) (ending : Result ⊤ Failure) (r : Progress) (stores' lines' text' : List ℕ) : Type 0 where
  pub bytes : List ℕ
  pub counted : length bytes + r.left ≡ r₀.left
  pub ends : (g : Scene) → Shows g (desk_of r₀.stage) stores₀ lines₀ → r₀.stage.pending ≡ pending_of [] → Ends ending g bytes r stores' lines' text'

-- the whole program: bytes were read, counted down from 2^64 − 1, and it ended in one of these ways
pub record RunPromise (stores : List ℕ) (r : Outcome) (stores' lines' text' : List ℕ) : Type 0 where
  pub bytes : List ℕ
  pub counted : length bytes + r.reached.left ≡ 18446744073709551615
  pub ends : Ends r.ending (opening (stores_in stores)) bytes r.reached stores' lines' text'
