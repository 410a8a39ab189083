use Rattle.std.proofs.Common.{◌≡◌, ◌*◌}
use Rattle.store.specs.Current.{place_to}
use Rattle.store.proofs.current.current.Given as goal

abbrev pub invariant-loop-i : goal.invariant-loop-i
invariant-loop-i l = l.best ≡ place_to l.store l.fn.visible l.plot (32 * l.i)
