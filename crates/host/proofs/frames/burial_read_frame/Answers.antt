use mathlib.Core.Path.{◌∙◌}
use Rattle.frame.specs.Refusals.{code_of}
use Rattle.host.proofs.frames.burial_read_frame.Goals as goal

pub returns : goal.returns
unfolding code_of
returns c = c.in-Ok.ensures

pub returns-in-Err : goal.returns-in-Err
unfolding code_of
returns-in-Err c = let h = c.in-Err.ensures in (c.from.ensures ∙ h.0, c.blank_frame.ensures ∙ h.1)
