use mathlib.Core.Path.{◌≡◌}
use lib.ListN.{drop, length}
use Rattle.office.specs.Steps.{holds_in}
use Rattle.office.proofs.entries.hold_own.Given as goal

abbrev pub invariant-loop-e : goal.invariant-loop-e
invariant-loop-e l = (length l.store ≡ length l.initial.store) × (holds_in l.held l.store (drop l.e-index l.own) ≡ holds_in l.held l.initial.store l.own)
