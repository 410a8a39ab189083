use Rattle.std.proofs.Common.{arith}
use Rattle.std.proofs.lemmas.Grind.{common_steps}
use Rattle.causal.specs.Tests.{both}
use Rattle.frame.proofs.OwnTurns.{own_tests, far_own}
use Rattle.frame.proofs.session.own_ok.Goals as goal

pub returns-then-e-lt8 : goal.returns-then-e-lt8
unfolding both
returns-then-e-lt8 c =
    let z = c.args in
    let t = own_tests z.n z.p z.most z.read z.seen z.e.now c.requires.1 c.requires.2 c.requires.0 in
    grind (arith, common_steps, t)

pub returns-else-e-lt8 : goal.returns-else-e-lt8
unfolding both
returns-else-e-lt8 c =
    let z = c.args in
    let t = own_tests z.n z.p z.most z.read z.seen z.e.now c.requires.1 c.requires.2 c.requires.0 in
    grind (arith, common_steps, t, far_own)
