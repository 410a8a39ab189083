use Rattle.std.proofs.Common.{◌≡◌, take}
use Rattle.frame.specs.Sessions.{ids_of}
use Rattle.frame.proofs.session.ids_of.Given as goal

abbrev pub invariant-loop-e : goal.invariant-loop-e
invariant-loop-e l = l.ids ≡ ids_of (take l.e-index l.own)
