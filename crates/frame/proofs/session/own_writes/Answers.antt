use Rattle.std.proofs.Common.{◌≡◌, length, arith, rules}
use Rattle.frame.specs.Sessions.{content_of, nobody}
use Rattle.frame.proofs.OwnTurns.{taken}
use Rattle.frame.proofs.session.own_writes.Goals as goal

pub returns : goal.returns
unfolding content_of
returns c =
    let s = c.args.s.now in
    let l : length s.own ≡ 16 = search rules in
    taken nobody s.count s.own (omega (arith, c.requires))
