use Rattle.std.proofs.Common.{◌≡◌, ◌+◌, length, take}
use lib.Seq.{sets}
use Rattle.frame.specs.Tokens.{own_rows}
use Rattle.frame.proofs.token.put_owns.Given as goal

abbrev pub invariant-loop-e : goal.invariant-loop-e
invariant-loop-e l = (l.to ≡ l.at + length (own_rows l.n (take l.e-index l.own))) × (l.out ≡ sets l.initial.out l.at (own_rows l.n (take l.e-index l.own)))
