use Rattle.std.proofs.Common.{◌≡◌, ◌-◌, ◌*◌, get_or}
use Rattle.causal.specs.Lists.{part}
use Rattle.store.specs.Reveal.{revealed, steps as stepsFrom}
use Rattle.store.proofs.Reached.{State}
use Rattle.store.proofs.Ready.{deps_in}
use Rattle.store.proofs.reveal.reveal_on.Given as goal

abbrev pub invariant-loop-k : goal.invariant-loop-k
invariant-loop-k l = State (deps_in l.store) (part l.store 3 8) (part l.store 11 8) (get_or l.store 0 0) l.initial.pending l.pending l.visible l.steps × (revealed (deps_in l.store) (get_or l.store 0 0) (part l.store 11 8) l.initial.pending ≡ stepsFrom (32 * get_or l.store 0 0 - l.steps) (deps_in l.store) l.pending l.visible l.steps)

abbrev pub decreases-loop-k : goal.decreases-loop-k
decreases-loop-k l = 32 * get_or l.store 0 0 - l.steps
