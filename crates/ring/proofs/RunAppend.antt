-- A run of calls and then of more calls. Assumes nothing.
use Prim.Native.Nat.{ℕ}
use mathlib.Core.List.{List, [], ◌++◌, ◌∷◌}
use mathlib.Core.Path.{◌≡◌, refl}
use Rattle.ring.specs.Run.{Call, Calls, State, run, step}

module _ {A B C : Type 0} (F : Calls A B C) (n : ℕ) where
  pub run_append : (g : State A B C) (cs ds : List Call) → run F n g (cs ++ ds) ≡ run F n (run F n g cs) ds
  unfolding run
  run_append g [] ds = refl
  run_append g (c ∷ cs) ds = run_append (step F n g c) cs ds
