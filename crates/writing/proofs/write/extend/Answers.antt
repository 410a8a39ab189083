use mathlib.Core.Path.{refl}
use Rattle.office.specs.Answers.{extended_by}
use Rattle.writing.proofs.write.extend.Goals as goal

pub returns : goal.returns
unfolding extended_by
returns c = rw c.join-clock.ensures refl
