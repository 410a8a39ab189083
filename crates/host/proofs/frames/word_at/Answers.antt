use native.Mathlib.Omega.{arith}
use Rattle.host.specs.Bytes.{word_at}
use Rattle.host.proofs.frames.word_at.Goals as goal

pub returns : goal.returns
unfolding word_at
returns c = omega (arith, c.from_le_bytes.ensures)
