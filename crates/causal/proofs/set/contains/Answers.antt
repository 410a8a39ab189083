use native.Mathlib.Omega.{arith}
use mathlib.Core.Path.{refl, sym, ◌∙◌}
use borrow.Author.Tests.{le-ltb}
use Rattle.causal.specs.Sets.{bit, has, is_in}
use Rattle.causal.proofs.Sets.{past}
use Rattle.causal.proofs.Array.{id_set}
use Rattle.causal.proofs.set.contains.Goals as goal

pub returns-then-k-lt256 : goal.returns-then-k-lt256
unfolding is_in has bit
returns-then-k-lt256 c = refl

pub returns-else-k-lt256 : goal.returns-else-k-lt256
returns-else-k-lt256 c =
    le-ltb _ _ c.if-k-lt256.false ∙ sym (past c.args.set c.args.k (omega (arith, (id_set c.args.set c.well_formed.0).eight)))
