use mathlib.Core.Path.{◌≡◌}
use Prim.Native.Nat.{◌*◌}
use lib.ListN.{drop}
use Rattle.causal.specs.Sets.{lowest_in}
use Rattle.causal.proofs.set.lowest_of.Given as goal

abbrev pub invariant-loop-i : goal.invariant-loop-i
invariant-loop-i l = lowest_in l.w-items 0 ≡ lowest_in (drop l.i l.w-items) (32 * l.i)
