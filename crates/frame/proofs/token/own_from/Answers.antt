use Rattle.std.proofs.Common.{false, true, sym, ◌∙◌, arith, eq-eqb, ne_eqb}
use Rattle.frame.proofs.Entries.{ring_facts}
use Rattle.frame.proofs.TokenTurns as T
use Rattle.frame.proofs.token.own_from.Goals as goal

pub returns-then-ws-lt1 : goal.returns-then-ws-lt1
returns-then-ws-lt1 c = T.own_short c.args.n c.args.p c.args.ws.now (omega arith)

pub overflow_add-words : goal.overflow_add-words
overflow_add-words c = omega (arith, (ring_facts c.args.n c.args.p c.requires).high)

pub overflow_add-words-2 : goal.overflow_add-words-2
overflow_add-words-2 c = omega (arith, (ring_facts c.args.n c.args.p c.requires).high)

pub returns-then-words-ws : goal.returns-then-words-ws
returns-then-words-ws c = T.own_short c.args.n c.args.p c.args.ws.now (omega arith)

pub returns-in_err-frame : goal.returns-in_err-frame
returns-in_err-frame c = c.from_residual.ensures ∙ T.own_none c.args.n c.args.p c.args.ws.now (omega arith) c.in_err-frame.ensures

pub returns-then-frame-ne0 : goal.returns-then-frame-ne0
returns-then-frame-ne0 c =
    T.own_some c.args.n c.args.p c.args.ws.now (omega arith) c.in_ok-frame.frame c.in_ok-frame.ensures false (sym (ne_eqb _ 0 c.if-frame-ne0.true))

pub returns : goal.returns
returns c =
    T.own_some c.args.n c.args.p c.args.ws.now (omega arith) c.in_ok-frame.frame c.in_ok-frame.ensures true (sym (eq-eqb _ 0 c.if-frame-ne0.false))
