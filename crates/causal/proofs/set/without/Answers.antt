use Rattle.std.proofs.Common.{rules}
use mathlib.Core.Path.{refl}
use lib.Bits.{bit_and}
use lib.ListN.{get_or}
use mir.Syntax.{w32}
use Rattle.std.specs.Int.{bit_not}
use Rattle.causal.specs.Sets.{minus}
use Rattle.causal.proofs.Array.{made, id_set}
use Rattle.causal.proofs.Sets.{minus_at}
use Rattle.causal.proofs.set.without.Goals as goal

pub returns : goal.returns
unfolding minus
returns c =
    made _ _ (λ i. bit_and (get_or c.args.a i 0) (bit_not w32 (get_or c.args.b i 0))) 8 (λ i y q h k. search rules)
    _ (minus c.args.a c.args.b) c.from_fn.ensures.items refl (minus_at c.args.a c.args.b (id_set c.args.a c.well_formed.0) (id_set c.args.b c.well_formed.1.0))
