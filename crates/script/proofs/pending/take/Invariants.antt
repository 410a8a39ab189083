use Rattle.std.proofs.Common.{◌+◌}
use Rattle.script.proofs.Pendings.{Taking}
use Rattle.script.proofs.pending.take.Given as goal

abbrev pub invariant-loop-i : goal.invariant-loop-i
invariant-loop-i l = Taking l.fn.p l.bytes l.from (l.from + l.i) l.pending
