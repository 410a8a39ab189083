use Rattle.std.proofs.lemmas.Grind.{common_steps}
use native.Mathlib.Omega.{arith}
use Rattle.causal.specs.Codes.{check}
use Rattle.frame.specs.Refusals.{code_of, number_of}
use Rattle.store.specs.Offices.{office_of}
use Rattle.writing.specs.Writes.{second_codes}
use Rattle.writing.proofs.write.may_go_on.Goals as goal

pub returns-then-s-ge16 : goal.returns-then-s-ge16
unfolding second_codes check code_of number_of
returns-then-s-ge16 c = grind (arith, common_steps)

pub returns-then-made-ge32 : goal.returns-then-made-ge32
unfolding second_codes check code_of number_of
returns-then-made-ge32 c = grind (arith, common_steps)

pub returns-then-not-subset : goal.returns-then-not-subset
unfolding second_codes check code_of number_of office_of
returns-then-not-subset c = grind (arith, common_steps)

pub returns : goal.returns
unfolding second_codes check code_of number_of office_of
returns c = grind (arith, common_steps)
