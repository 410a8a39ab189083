use Rattle.causal.proofs.Bits.{one_shl}
use Rattle.frame.specs.Reading.{eight_bits}
use Rattle.frame.proofs.Ascents.{pow_shl}
use Rattle.std.proofs.Common.{refl, arith}
use Rattle.frame.proofs.word.with_eight.Goals as goal

pub returns : goal.returns
unfolding eight_bits
returns c = let b = c.args.b in rw (one_shl b (omega arith), pow_shl 1 b (omega arith), pow_shl 2 b (omega arith), pow_shl 3 b (omega arith), pow_shl 4 b (omega arith), pow_shl 5 b (omega arith), pow_shl 6 b (omega arith), pow_shl 7 b (omega arith)) refl
