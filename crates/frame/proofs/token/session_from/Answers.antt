use Rattle.std.proofs.Common.{◌+◌, ◌≤◌, true, false, length, refl, sym, ap, ◌∙◌, arith, ok_or, eq-eqb, ne_eqb}
use Rattle.frame.specs.declared.refusal.Refusal.TheVariants.{Format}
use Rattle.frame.specs.Entries.{clock_ok, ids_ok}
use Rattle.frame.specs.Tokens.{token_reads}
use Rattle.frame.proofs.Entries.{ring_facts}
use Rattle.frame.proofs.Ascents.{ascends_wider, ids_range}
use Rattle.frame.proofs.TokenReads as R
use Rattle.frame.proofs.token.session_from.Goals as goal

pub start_ok-requires : goal.start_ok-requires
start_ok-requires c = (ring_facts c.args.offices c.args.plots c.requires).high

pub returns-then-not-start_ok : goal.returns-then-not-start_ok
returns-then-not-start_ok c = ap (λ o. ok_or o Format) (R.start_refused c.args.offices c.args.plots c.args.ws.now c.requires (sym c.if-not-start_ok.ensures))

pub clock_from-clock-requires : goal.clock_from-clock-requires
clock_from-clock-requires c =
    ((ring_facts c.args.offices c.args.plots c.requires).high, omega (arith, (R.start_shape c.args.offices c.args.plots c.args.ws.now (sym c.if-not-start_ok.ensures)).room))

pub returns-then-not-clock_ok : goal.returns-then-not-clock_ok
returns-then-not-clock_ok c =
    ap (λ o. ok_or o Format)
    (R.clock_refused c.args.offices c.args.plots c.args.ws.now c.requires (sym c.if-not-start_ok.ensures)
    (ap (clock_ok c.args.offices) (sym c.clock_from-clock.ensures) ∙ sym c.if-not-clock_ok.ensures))

pub bounds-ws-0 : goal.bounds-ws-0
bounds-ws-0 c = omega (arith, (R.start_shape c.args.offices c.args.plots c.args.ws.now (sym c.if-not-start_ok.ensures)).some)

pub slice_bounds-ids_from-end : goal.slice_bounds-ids_from-end
slice_bounds-ids_from-end c =
    let h : 1 + c.args.offices + token_reads c.args.ws.now ≤ length c.args.ws.now =
    omega (arith, (R.start_shape c.args.offices c.args.plots c.args.ws.now (sym c.if-not-start_ok.ensures)).room)
    in h

pub ids_from-read-requires : goal.ids_from-read-requires
ids_from-read-requires c =
    ascends_wider c.args.offices 8 0 _ (ring_facts c.args.offices c.args.plots c.requires).high (R.start_reads c.args.offices c.args.plots c.args.ws.now (sym c.if-not-start_ok.ensures))

pub slice_bounds-laden-count : goal.slice_bounds-laden-count
slice_bounds-laden-count c = omega (arith, (R.start_shape c.args.offices c.args.plots c.args.ws.now (sym c.if-not-start_ok.ensures)).room)

pub slice_bounds-laden-start : goal.slice_bounds-laden-start
slice_bounds-laden-start c =
    let h : 1 + c.args.offices + token_reads c.args.ws.now ≤ length c.args.ws.now =
    omega (arith, (R.start_shape c.args.offices c.args.plots c.args.ws.now (sym c.if-not-start_ok.ensures)).room)
    in h

pub laden-requires : goal.laden-requires
laden-requires c =
    let start = sym c.if-not-start_ok.ensures in (
      c.requires,
      (R.start_shape c.args.offices c.args.plots c.args.ws.now start).few,
      ap (ids_ok c.args.offices) c.ids_from-read.ensures ∙ ids_range _ _ (R.start_reads c.args.offices c.args.plots c.args.ws.now start),
    )

pub returns-then-count-ne0 : goal.returns-then-count-ne0
returns-then-count-ne0 c =
    c.laden.ensures
    ∙ ap (λ o. ok_or o Format)
    (R.laden_answer c.args.offices c.args.plots c.args.ws.now c.requires (sym c.if-not-start_ok.ensures)
    (ap (clock_ok c.args.offices) (sym c.clock_from-clock.ensures) ∙ sym c.if-not-clock_ok.ensures)
    _ _ _ c.clock_from-clock.ensures c.ids_from-read.ensures refl)

pub overflow_sub-ws : goal.overflow_sub-ws
overflow_sub-ws c = omega (arith, (R.start_shape c.args.offices c.args.plots c.args.ws.now (sym c.if-not-start_ok.ensures)).room)

pub returns-then-ws-to-ne1 : goal.returns-then-ws-to-ne1
returns-then-ws-to-ne1 c =
    ap (λ o. ok_or o Format)
    (R.bare_answer c.args.offices c.args.plots c.args.ws.now c.requires (sym c.if-not-start_ok.ensures)
    (ap (clock_ok c.args.offices) (sym c.clock_from-clock.ensures) ∙ sym c.if-not-clock_ok.ensures)
    _ _ c.clock_from-clock.ensures c.ids_from-read.ensures c.if-count-ne0.false _ refl false (sym (ne_eqb _ 1 c.if-ws-to-ne1.true)))

pub returns : goal.returns
returns c =
    ap (λ o. ok_or o Format)
    (R.bare_answer c.args.offices c.args.plots c.args.ws.now c.requires (sym c.if-not-start_ok.ensures)
    (ap (clock_ok c.args.offices) (sym c.clock_from-clock.ensures) ∙ sym c.if-not-clock_ok.ensures)
    _ _ c.clock_from-clock.ensures c.ids_from-read.ensures c.if-count-ne0.false _ c.blank_entry.ensures true (sym (eq-eqb _ 1 c.if-ws-to-ne1.false)))
