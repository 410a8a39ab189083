use Rattle.causal.specs.Sets.{bit}
use Rattle.std.proofs.Common.{rules}
use Rattle.frame.proofs.entry.in_word.Goals as goal

pub returns : goal.returns
unfolding bit
returns c = search rules
