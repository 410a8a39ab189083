use Rattle.std.proofs.Common.{arith, ◌∙◌}
use Rattle.std.proofs.lemmas.Bool.Decides.{nat_tests}
use Rattle.reading.proofs.JointReads.{none_own}
use Rattle.reading.proofs.best.handed.Goals as goal

pub returns-then-is_empty : goal.returns-then-is_empty
returns-then-is_empty c = c.entry_in.ensures ∙ none_own c.args.plot _ c.args.own.now (grind (arith, nat_tests))
