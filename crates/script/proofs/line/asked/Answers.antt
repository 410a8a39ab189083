use Rattle.std.proofs.Common.{arith, refl, rules, sym, tests}
use Rattle.script.specs.Lines.{line_in, line_of}
use Rattle.script.proofs.Lines.{no_line}
use Rattle.script.proofs.Splits.{first_field, next_some, next_none, one_byte}
use Rattle.script.proofs.line.asked.Goals as goal

pub returns-in_default : goal.returns-in_default
unfolding line_of
returns-in_default c =
    let a = first_field _ _ c.args.bytes.now c.split-fields.ensures.rest c.split-fields.ensures.done c.split-fields.ensures.closure c.next.ensures.steps c.in_ok-next.was (λ x b q k. search (rules, tests)) in
    rw a.1 (sym (no_line _ a.0 (λ h. omega arith)))

pub returns-in_default-3 : goal.returns-in_default-3
unfolding line_of
returns-in_default-3 c =
    let a = first_field _ _ c.args.bytes.now c.split-fields.ensures.rest c.split-fields.ensures.done c.split-fields.ensures.closure c.next.ensures.steps c.in_ok-next.was (λ x b q k. search (rules, tests)) in
    rw a.1 (sym (no_line _ a.0 (λ h. omega arith)))

pub returns-in_err-first : goal.returns-in_err-first
unfolding line_of line_in
returns-in_err-first c =
    let a = first_field _ _ c.args.bytes.now c.split-fields.ensures.rest c.split-fields.ensures.done c.split-fields.ensures.closure c.next.ensures.steps c.in_ok-next.was (λ x b q k. search (rules, tests)) in
    rw (a.1, next_none a.2 c.next-2.ensures.steps c.in_err-first.was, c.from_residual-in_err-first.ensures) refl

pub returns-in-None-default-default : goal.returns-in-None-default-default
unfolding line_of
returns-in-None-default-default c =
    let a = first_field _ _ c.args.bytes.now c.split-fields.ensures.rest c.split-fields.ensures.done c.split-fields.ensures.closure c.next.ensures.steps c.in_ok-next.was (λ x b q k. search (rules, tests)) in
    let b = next_some a.2 c.next-2.ensures.steps c.in_ok-first.was in
    let n = c.in-None-default-default in
    rw (a.1, b.1, next_none {all = b.0} b.2 c.next-3.ensures.steps n.is-0, one_byte c.in_ok-next.field-0.now (omega arith)) c.one.ensures

pub returns-in-Some-None-default : goal.returns-in-Some-None-default
unfolding line_of
returns-in-Some-None-default c =
    let a = first_field _ _ c.args.bytes.now c.split-fields.ensures.rest c.split-fields.ensures.done c.split-fields.ensures.closure c.next.ensures.steps c.in_ok-next.was (λ x b q k. search (rules, tests)) in
    let b = next_some a.2 c.next-2.ensures.steps c.in_ok-first.was in
    let n = c.in-Some-None-default in
    let d = next_some b.2 c.next-3.ensures.steps n.is-0 in
    rw (a.1, b.1, d.1, next_none d.2 c.next-4.ensures.steps n.is-1, one_byte c.in_ok-next.field-0.now (omega arith)) c.two.ensures

pub returns-in-Some-Some-None : goal.returns-in-Some-Some-None
unfolding line_of
returns-in-Some-Some-None c =
    let a = first_field _ _ c.args.bytes.now c.split-fields.ensures.rest c.split-fields.ensures.done c.split-fields.ensures.closure c.next.ensures.steps c.in_ok-next.was (λ x b q k. search (rules, tests)) in
    let b = next_some a.2 c.next-2.ensures.steps c.in_ok-first.was in
    let n = c.in-Some-Some-None in
    let d = next_some b.2 c.next-3.ensures.steps n.is-0 in
    let e = next_some d.2 c.next-4.ensures.steps n.is-1 in
    rw (a.1, b.1, d.1, e.1, next_none e.2 c.next-5.ensures.steps n.is-2, one_byte c.in_ok-next.field-0.now (omega arith)) c.three.ensures

pub returns-in_default-2 : goal.returns-in_default-2
unfolding line_of line_in
returns-in_default-2 c =
    let a = first_field _ _ c.args.bytes.now c.split-fields.ensures.rest c.split-fields.ensures.done c.split-fields.ensures.closure c.next.ensures.steps c.in_ok-next.was (λ x b q k. search (rules, tests)) in
    let b = next_some a.2 c.next-2.ensures.steps c.in_ok-first.was in
    let n = c.in_default-2 in
    let d = next_some b.2 c.next-3.ensures.steps n.is-0 in
    let e = next_some d.2 c.next-4.ensures.steps n.is-1 in
    let f = next_some e.2 c.next-5.ensures.steps n.is-2 in
    rw (a.1, b.1, d.1, e.1, f.1) refl
