use mathlib.Core.Path.{◌≡◌}
use lib.ListN.{drop}
use Rattle.store.specs.Offices.{best_own}
use Rattle.reading.proofs.best.best_own.Given as goal

abbrev pub invariant-loop-e : goal.invariant-loop-e
invariant-loop-e l = best_own l.plot l.best (drop l.e-index l.own) ≡ best_own l.plot l.initial.best l.own
