use Rattle.std.proofs.Common.{arith}
use Rattle.std.proofs.lemmas.Grind.{common_steps}
use Rattle.causal.specs.Tests.{both}
use Rattle.store.proofs.Deps.{not_lone, all_asked}
use Rattle.store.proofs.sound.ids_fine.Goals as goal

pub returns-then-is_empty : goal.returns-then-is_empty
unfolding both
returns-then-is_empty c = grind (arith, common_steps, all_asked c.args.store.now c.args.n c.args.p c.args.ids c.args.all _ c.in-Some.ensures)

pub returns-else-is_empty : goal.returns-else-is_empty
unfolding both
returns-else-is_empty c = grind (arith, common_steps, all_asked c.args.store.now c.args.n c.args.p c.args.ids c.args.all _ c.in-Some.ensures)

pub returns-in-None : goal.returns-in-None
returns-in-None c = not_lone c.args.store.now c.args.n c.args.p c.args.ids c.args.all c.in-None.ensures
