use Rattle.std.proofs.Common.{refl, arith}
use Rattle.std.proofs.lemmas.Grind.{common_steps}
use Rattle.causal.specs.Tests.{both}
use Rattle.causal.specs.Sets.{minus}
use Rattle.causal.proofs.Array.{id_set}
use Rattle.store.proofs.Deps.{slots_are}
use Rattle.store.proofs.sound.slots_ok.Goals as goal

pub returns-then-ids_fine : goal.returns-then-ids_fine
unfolding both
returns-then-ids_fine c = slots_are c.args.store.now (λ i. (c.type_inv.store i).fits) c.args.n c.args.p c.requires.0 c.requires.1 c.args.held c.args.visible (minus c.args.held c.args.visible)
    (id_set c.args.held c.well_formed.1.1.1.0) (id_set c.args.visible c.well_formed.1.1.1.1.0) c.requires.2 refl _ (grind (arith, common_steps))

pub returns-else-ids_fine : goal.returns-else-ids_fine
unfolding both
returns-else-ids_fine c = slots_are c.args.store.now (λ i. (c.type_inv.store i).fits) c.args.n c.args.p c.requires.0 c.requires.1 c.args.held c.args.visible (minus c.args.held c.args.visible)
    (id_set c.args.held c.well_formed.1.1.1.0) (id_set c.args.visible c.well_formed.1.1.1.1.0) c.requires.2 refl _ (grind (arith, common_steps))
