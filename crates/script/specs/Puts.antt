-- What a function that puts bytes into a row promises. Assumes nothing.
use Rattle.std.specs.Prelude.{ℕ, ◌+◌, ◌≡◌, List, length}
use Rattle.std.proofs.lemmas.List.Edits.{sets}

-- from at on the row has vs and is else as it was; end is right behind them
pub record Put (row : List ℕ) (at : ℕ) (vs after : List ℕ) (end : ℕ) : Type 0 where
  pub ends : end ≡ at + length vs
  pub holds : after ≡ sets row at vs
