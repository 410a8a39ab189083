use Rattle.std.proofs.Common.{◌∙◌}
use Rattle.frame.proofs.entry.clock_ok.Goals as goal

pub returns : goal.returns
returns c = c.is_empty.ensures ∙ c.overs-left.ensures ∙ c.mosts-most.ensures _
