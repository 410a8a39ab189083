use Rattle.std.proofs.Common.{rules}
use Rattle.causal.proofs.Array.{zipped}
use lib.Bits.{bit_or}
use Rattle.causal.specs.Sets.{unite}
use Rattle.causal.proofs.set.union.Goals as goal

pub returns : goal.returns
unfolding unite
returns c = zipped _ _ bit_or c.args.a c.args.b _ (λ i y q h k. search rules) c.from_fn.ensures.items
