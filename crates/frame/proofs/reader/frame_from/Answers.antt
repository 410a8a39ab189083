use Rattle.std.proofs.Common.{◌+◌, ◌-◌, ◌≤◌, true, false, length, sym, arith}
use Rattle.frame.proofs.Ascents.{ascends_wider}
use Rattle.frame.proofs.Entries.{ring_facts}
use Rattle.frame.proofs.Reading as R
use Rattle.frame.proofs.reader.frame_from.Goals as goal

pub shape_ok-requires : goal.shape_ok-requires
shape_ok-requires c = (ring_facts c.args.offices c.args.plots c.requires).high

pub returns-then-not-shape_ok : goal.returns-then-not-shape_ok
returns-then-not-shape_ok c = R.shape_refused c.args.offices c.args.plots c.args.ws.now c.requires (sym c.if-not-shape_ok.ensures)

pub kinds_ok-requires : goal.kinds_ok-requires
kinds_ok-requires c =
    ((ring_facts c.args.offices c.args.plots c.requires).high, omega (arith, (R.shape_facts c.args.offices c.args.ws.now (sym c.if-not-shape_ok.ensures)).exact))

pub returns-then-not-kinds_ok : goal.returns-then-not-kinds_ok
returns-then-not-kinds_ok c =
    R.clock_refused c.args.offices c.args.plots c.args.ws.now c.requires (sym c.if-not-shape_ok.ensures) (sym c.if-not-kinds_ok.ensures)

pub overflow_sub-ids : goal.overflow_sub-ids
overflow_sub-ids c = omega (arith, (R.shape_facts c.args.offices c.args.ws.now (sym c.if-not-shape_ok.ensures)).exact)

pub slice_bounds-ids-count : goal.slice_bounds-ids-count
slice_bounds-ids-count c = omega (arith, (R.shape_facts c.args.offices c.args.ws.now (sym c.if-not-shape_ok.ensures)).exact)

pub slice_bounds-ids-start : goal.slice_bounds-ids-start
slice_bounds-ids-start c =
    let h : 3 + c.args.offices ≤ length c.args.ws.now - 1 = omega (arith, (R.shape_facts c.args.offices c.args.ws.now (sym c.if-not-shape_ok.ensures)).exact) in h

pub returns-then-not-ids_ascend : goal.returns-then-not-ids_ascend
returns-then-not-ids_ascend c =
    R.ids_refused c.args.offices c.args.plots c.args.ws.now c.requires (sym c.if-not-shape_ok.ensures) (sym c.if-not-kinds_ok.ensures) (sym c.if-not-ids_ascend.ensures)

pub clock_from-clock-requires : goal.clock_from-clock-requires
clock_from-clock-requires c =
    ((ring_facts c.args.offices c.args.plots c.requires).high, omega (arith, (R.shape_facts c.args.offices c.args.ws.now (sym c.if-not-shape_ok.ensures)).exact))

pub ids_from-requires : goal.ids_from-requires
ids_from-requires c = ascends_wider c.args.offices 8 0 _ (ring_facts c.args.offices c.args.plots c.requires).high (sym c.if-not-ids_ascend.ensures)

pub frame_of-frame-requires : goal.frame_of-frame-requires
frame_of-frame-requires c =
    (omega (arith, (R.shape_facts c.args.offices c.args.ws.now (sym c.if-not-shape_ok.ensures)).exact), c.clock_from-clock.ensures)

pub content_ok-requires : goal.content_ok-requires
content_ok-requires c = let n = c.args.offices in let p = c.args.plots in let ws = c.args.ws.now in
    let s : R.Seen n p ws = record { ring = c.requires; shape = sym c.if-not-shape_ok.ensures; kinds = sym c.if-not-kinds_ok.ensures; ids = sym c.if-not-ids_ascend.ensures } in
    let r = R.frame_read n p ws s _ c.ids_from.ensures _ c.frame_of-frame.ensures in
    let g = ring_facts n p c.requires in
    (g.low, g.high, omega (arith, (R.shape_facts n ws s.shape).exact), r.clock, r.deps)

pub returns-then-not-content_ok : goal.returns-then-not-content_ok
returns-then-not-content_ok c = let n = c.args.offices in let p = c.args.plots in let ws = c.args.ws.now in
    let s : R.Seen n p ws = record { ring = c.requires; shape = sym c.if-not-shape_ok.ensures; kinds = sym c.if-not-kinds_ok.ensures; ids = sym c.if-not-ids_ascend.ensures } in
    R.content_asked n p ws s _ (R.frame_read n p ws s _ c.ids_from.ensures _ c.frame_of-frame.ensures) false c.if-not-content_ok.ensures

pub returns : goal.returns
returns c = let n = c.args.offices in let p = c.args.plots in let ws = c.args.ws.now in
    let s : R.Seen n p ws = record { ring = c.requires; shape = sym c.if-not-shape_ok.ensures; kinds = sym c.if-not-kinds_ok.ensures; ids = sym c.if-not-ids_ascend.ensures } in
    R.content_asked n p ws s _ (R.frame_read n p ws s _ c.ids_from.ensures _ c.frame_of-frame.ensures) true c.if-not-content_ok.ensures
