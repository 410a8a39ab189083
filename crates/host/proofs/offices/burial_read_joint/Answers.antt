use mathlib.Core.Path.{◌∙◌}
use Rattle.frame.specs.Refusals.{code_of}
use Rattle.host.proofs.offices.burial_read_joint.Goals as goal

pub returns-in-Err : goal.returns-in-Err
unfolding code_of
returns-in-Err c = let h = c.in-Err.ensures in (c.from.ensures ∙ h.0, h.1, h.2, h.3)

pub returns : goal.returns
unfolding code_of
returns c = c.in-Ok.ensures
