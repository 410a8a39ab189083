use Rattle.std.proofs.Common.{◌+◌, refl, arith}
use Rattle.causal.proofs.Walk.{passed_none}
use Rattle.store.proofs.Steps.{taken}
use Rattle.store.specs.Tops.{tops_in}
use Rattle.store.proofs.Joins.{tops_more, tops_done}
use Rattle.store.proofs.clock.tops_in.Goals as goal

pub loop-b-init : goal.loop-b-init
unfolding tops_in
loop-b-init c = (0, rw c.into_iter-b-iterator.ensures.into_iter_gives (passed_none c.args.w (omega arith)), refl)

pub clock_at-requires : goal.clock_at-requires
clock_at-requires c =
    let x = taken _ _ _ _ _ c.loop-b.invariant.1 c.in-Some.ensures.steps in
    c.requires.1 _ x.below x.member

pub loop-b-preserved : goal.loop-b-preserved
loop-b-preserved c =
    let x = taken _ _ _ _ _ c.loop-b.invariant.1 c.in-Some.ensures.steps in
    (c.in-Some.b + 1, rw c.in-Some.ensures.steps.2 x.then, tops_more c.args.store.now c.args.i c.args.w c.args.before c.loop-b.invariant.0 _ _ c.loop-b.tops _ _ x c.loop-b.invariant.2 c.clock_at.ensures c.join-more.ensures)

pub returns : goal.returns
returns c = tops_done c.args.store.now c.args.i c.args.w c.args.before c.loop-b.invariant.0 _ c.loop-b.tops c.loop-b.invariant.1 c.in-None.ensures.steps c.loop-b.invariant.2
