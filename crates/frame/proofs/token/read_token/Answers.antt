use Rattle.std.proofs.Common.{sym}
use Rattle.frame.specs.Refusals.{code_of, number_of}
use Rattle.frame.proofs.TokenReads.{no_ring, answered}
use Rattle.frame.proofs.token.read_token.Goals as goal

pub returns-then-not-ring_ok : goal.returns-then-not-ring_ok
unfolding code_of number_of
returns-then-not-ring_ok c = no_ring c.args.offices c.args.plots c.args.ws.now (sym c.if-not-ring_ok.ensures)

pub returns : goal.returns
returns c = answered c.args.offices c.args.plots c.args.ws.now (sym c.if-not-ring_ok.ensures) _ c.session_from.ensures
