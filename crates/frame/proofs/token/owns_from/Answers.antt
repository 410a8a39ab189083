use Rattle.std.proofs.Common.{◌++◌, List, drop, ap, arith}
use Rattle.causal.proofs.Tests.{false_true}
use Rattle.frame.specs.declared.entry.Entry.{Entry}
use Rattle.frame.proofs.TokenTurns as T
use Rattle.frame.proofs.token.owns_from.Goals as goal

pub returns-in_default : goal.returns-in_default
returns-in_default c = let z = c.args in let l = c.loop-place in (
  T.turn_fails z.ws.now z.n z.p z.count l.place-items l.at l.place-index l.invariant (omega arith) c.in_default.ensures,
  λ e. absurd (false_true e),
)

pub overflow_add-at : goal.overflow_add-at
overflow_add-at c = let z = c.args in let l = c.loop-place in
    omega (arith, T.turn_fits z.ws.now z.n z.p z.count l.place-items l.at l.place-index l.invariant (omega arith) _ _ c.in-Some.ensures)

pub loop-place-preserved : goal.loop-place-preserved
loop-place-preserved c = let z = c.args in let l = c.loop-place in
    T.turn_next z.ws.now z.n z.p z.count l.place-items l.at l.place-index l.invariant (omega arith) _ _ c.in-Some.ensures

pub returns : goal.returns
returns c = let z = c.args in let l = c.loop-place in
    let e = T.turn_last z.ws.now z.n z.p z.count l.place-items l.at l.place-index l.invariant (omega arith) in
    (e.0, λ t. ap (λ (es : List Entry). es ++ drop z.count z.own.now) e.1)
