use Rattle.causal.specs.Lists.{zeros}
use Rattle.frame.specs.Sessions.{session_of, filled}
use Rattle.std.proofs.Common.{replicate}
use Rattle.frame.proofs.session.blank_session.Goals as goal

pub returns : goal.returns
unfolding session_of filled
returns c = let e = c.blank_entry.ensures in λ i. record { offices = 0; clock = zeros; read = zeros; count = 0; own = replicate 16 (e i) }
