use Rattle.std.proofs.Common.{◌+◌, ◌*◌, refl, arith}
use Rattle.causal.proofs.Walk.{passed_none}
use Rattle.store.specs.Current.{place_in}
use Rattle.store.proofs.Places.{in_slots, place_more, place_done}
use Rattle.store.proofs.Steps.{taken}
use Rattle.store.proofs.current.best_in.Goals as goal

pub loop-b-init : goal.loop-b-init
unfolding place_in
loop-b-init c = (0, rw c.into_iter-b-iterator.ensures.into_iter_gives (passed_none c.args.w (omega arith)), c.requires.2, refl)

pub weigh-best-requires : goal.weigh-best-requires
weigh-best-requires c =
    let x = taken _ _ _ _ _ c.loop-b.invariant.1 c.in-Some.ensures.steps in
    (omega (arith, x.below), c.requires.1 _ x.below x.member, c.loop-b.invariant.2)

pub loop-b-preserved : goal.loop-b-preserved
loop-b-preserved c =
    let x = taken _ _ _ _ _ c.loop-b.invariant.1 c.in-Some.ensures.steps in (
      c.in-Some.b + 1,
      rw c.in-Some.ensures.steps.2 x.then,
      rw c.weigh-best.ensures (in_slots c.args.store.now _ c.args.plot (32 * c.args.i + c.in-Some.b) c.loop-b.best (omega (arith, x.below)) (c.requires.1 _ x.below x.member) c.loop-b.invariant.2),
      place_more c.args.store.now c.args.plot c.args.i c.args.w c.args.before c.loop-b.invariant.0 _ _ c.loop-b.best _ x c.loop-b.invariant.3 c.weigh-best.ensures,
    )

pub returns : goal.returns
returns c = place_done c.args.store.now c.args.plot c.args.i c.args.w c.args.before c.loop-b.invariant.0 _ c.loop-b.best c.loop-b.invariant.1 c.in-None.ensures.steps c.loop-b.invariant.3
