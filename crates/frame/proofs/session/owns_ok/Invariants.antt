use Rattle.std.proofs.Common.{◌≡◌, drop, true}
use Rattle.causal.specs.Lists.{zeros}
use Rattle.frame.specs.Entries.{ids_ok}
use Rattle.frame.specs.Sessions.{own_ok}
use Rattle.frame.proofs.session.owns_ok.Given as goal

abbrev pub invariant-loop-e : goal.invariant-loop-e
invariant-loop-e l = (ids_ok l.n l.seen ≡ true) × (own_ok l.n l.p l.read zeros l.own ≡ own_ok l.n l.p l.read l.seen (drop l.e-index l.own))
