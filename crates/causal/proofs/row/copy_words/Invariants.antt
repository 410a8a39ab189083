use Rattle.std.proofs.Common.{◌≡◌, length}
use lib.Seq.{sets}
use Rattle.causal.specs.Lists.{part}
use Rattle.causal.proofs.row.copy_words.Given as goal

abbrev pub invariant-loop-j : goal.invariant-loop-j
invariant-loop-j l = (length l.to ≡ length l.fn.to) × (l.to ≡ sets l.fn.to l.b (part l.fn.from l.a l.j))
