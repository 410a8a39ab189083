use Rattle.std.proofs.Common.{sym, ◌∙◌, eq-eqb}
use Rattle.frame.proofs.OwnTurns.{bare_ok}
use Rattle.frame.proofs.session.session_ok.Goals as goal

pub returns-then-s-eq0 : goal.returns-then-s-eq0
returns-then-s-eq0 c = eq-eqb _ 0 c.if-s-eq0.true ∙ sym (bare_ok c.args.offices c.args.plots c.args.s.now (sym c.if-head_ok.ensures) c.if-s-eq0.true)
