use Rattle.std.proofs.Common.{◌≡◌, ◌*◌}
use Rattle.causal.specs.Lists.{part}
use Rattle.store.specs.Tops.{tops_to}
use Rattle.store.proofs.clock.office_clock.Given as goal

abbrev pub invariant-loop-i : goal.invariant-loop-i
invariant-loop-i l = l.tops ≡ tops_to l.store (part l.store 11 8) (32 * l.i)
