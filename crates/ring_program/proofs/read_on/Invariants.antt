use mathlib.Core.Path.{◌≡◌}
use lib.ListN.{length}
use Rattle.ring_program.proofs.Running.{Running}
use Rattle.ring_program.proofs.read_on.Given as goal

abbrev pub invariant-loop-reached : goal.invariant-loop-reached
invariant-loop-reached l = (length l.stores ≡ length l.initial.stores) × (length l.lines ≡ length l.initial.lines) × (length l.out ≡ length l.initial.out) × (length l.input ≡ length l.initial.input) × (length l.text ≡ length l.initial.text)
    × (l.reached.stage.at ≡ 0) × Running l.initial.reached l.initial.stores l.initial.lines l.reached l.stores l.lines

abbrev pub decreases-loop-reached : goal.decreases-loop-reached
decreases-loop-reached l = l.reached.left
