use Rattle.std.proofs.Common.{◌≡◌, ◌+◌}
use lib.Seq.{sets}
use Rattle.causal.specs.Lists.{tab, zeros}
use Rattle.frame.specs.Words.{pay_at}
use Rattle.frame.proofs.word.clock_from.Given as goal

abbrev pub invariant-loop-j : goal.invariant-loop-j
invariant-loop-j l = l.clock ≡ sets zeros 0 (tab l.j (λ i. pay_at l.fn.ws (l.fn.at + i)))
