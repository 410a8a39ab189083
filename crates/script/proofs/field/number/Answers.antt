use Rattle.std.proofs.Common.{arith, ◌∙◌, sym}
use Rattle.std.proofs.lemmas.List.{at_drop_more, at_drop_all}
use Rattle.script.proofs.Numbers.{behind, behind_none, behind_digit, digit_below, behind_stop, no_first, zero_first, whole_number}
use Rattle.script.proofs.field.number.Goals as goal

pub returns-in_err-first : goal.returns-in_err-first
returns-in_err-first c = c.from_residual.ensures ∙ no_first c.args.field.now c.in_err-first.ensures.value

pub returns-then-field-gt1 : goal.returns-then-field-gt1
returns-then-field-gt1 c = zero_first c.args.field.now _ c.in_ok-first.ensures.value c.if-first-eq48.true c.if-field-gt1.true

pub loop-b-preserved : goal.loop-b-preserved
loop-b-preserved c =
    let L = c.loop-b in
    let e = sym c.with_digit.ensures ∙ c.in_ok-v.was in
    (digit_below _ _ _ e, sym (behind_digit _ _ _ _ e) ∙ sym (at_drop_more (behind L.v) c.args.field.now L.b-index 0 (omega arith)) ∙ L.invariant.1)

pub returns-in_err-v : goal.returns-in_err-v
returns-in_err-v c =
    let f = c.args.field.now in
    let L = c.loop-b in
    c.from_residual-in_err-v.ensures ∙ sym (behind_stop _ _ _ (sym c.with_digit.ensures ∙ c.in_err-v.was)) ∙ sym (at_drop_more (behind L.v) f L.b-index 0 (omega arith))
    ∙ L.invariant.1 ∙ whole_number f _ c.in_ok-first.ensures.value c.else-first-eq48.either

pub returns : goal.returns
returns c =
    let f = c.args.field.now in
    let L = c.loop-b in
    sym (behind_none L.v (omega arith)) ∙ sym (at_drop_all (behind L.v) f L.b-index (omega arith))
    ∙ L.invariant.1 ∙ whole_number f _ c.in_ok-first.ensures.value c.else-first-eq48.either
