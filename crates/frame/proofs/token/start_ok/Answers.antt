use Rattle.std.proofs.Common.{◌+◌, ◌≤◌, length, sym, arith}
use Rattle.frame.specs.Tokens.{token_reads}
use Rattle.frame.proofs.TokenChecks.{shape_facts}
use Rattle.frame.proofs.token.start_ok.Goals as goal

pub bounds-ws-0 : goal.bounds-ws-0
bounds-ws-0 c = omega (arith, (shape_facts c.args.n c.args.ws.now (sym c.if-not-shape_ok.ensures)).some)

pub clock_kinds-requires : goal.clock_kinds-requires
clock_kinds-requires c = omega (arith, (shape_facts c.args.n c.args.ws.now (sym c.if-not-shape_ok.ensures)).room)

pub slice_bounds-ids_ascend-end : goal.slice_bounds-ids_ascend-end
slice_bounds-ids_ascend-end c =
    let h : 1 + c.args.n + token_reads c.args.ws.now ≤ length c.args.ws.now = omega (arith, (shape_facts c.args.n c.args.ws.now (sym c.if-not-shape_ok.ensures)).room) in h

pub sum_ok-requires : goal.sum_ok-requires
sum_ok-requires c = omega (arith, (shape_facts c.args.n c.args.ws.now (sym c.if-not-shape_ok.ensures)).some)
