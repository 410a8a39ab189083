use Rattle.std.proofs.Common.{◌≡◌, ◌<◌, drop}
use Rattle.script.proofs.Numbers.{behind}
use Rattle.script.proofs.field.number.Given as goal

abbrev pub invariant-loop-b : goal.invariant-loop-b
invariant-loop-b l = (l.v < 4294967296) × (behind l.v (drop l.b-index l.field) ≡ behind 0 l.field)
