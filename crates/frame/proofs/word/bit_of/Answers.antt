use Rattle.std.proofs.Common.{arith}
use Rattle.causal.proofs.Bits.{one_shl}
use Rattle.frame.proofs.word.bit_of.Goals as goal

pub returns : goal.returns
returns c = one_shl _ (omega arith)
