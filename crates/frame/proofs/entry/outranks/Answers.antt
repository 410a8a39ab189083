use Rattle.frame.specs.Entries.{outranks}
use Rattle.frame.proofs.entry.outranks.Goals as goal

pub returns : goal.returns
unfolding outranks
returns c = c.outranks.ensures
