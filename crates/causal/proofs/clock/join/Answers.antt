use Rattle.std.proofs.Common.{rules}
use Prim.Native.Nat.{max}
use Rattle.causal.specs.Clocks.{join}
use Rattle.causal.proofs.Array.{zipped}
use Rattle.causal.proofs.clock.join.Goals as goal

pub returns : goal.returns
unfolding join
returns c = zipped _ _ max c.args.a c.args.b _ (λ i y q h k. search rules) c.from_fn.ensures.items
