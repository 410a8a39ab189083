use Rattle.std.proofs.Common.{◌+◌, arith}
use Rattle.frame.specs.Entries.{under_ok}
use Rattle.causal.proofs.Walk.{passed_none}
use Rattle.store.proofs.Deps.{look_none, look_more, look_fails, look_done}
use Rattle.store.proofs.Steps.{taken}
use Rattle.store.proofs.sound.look.Goals as goal

pub loop-b-init : goal.loop-b-init
loop-b-init c = (0, rw c.into_iter-b-iterator.ensures.into_iter_gives (passed_none c.args.w (omega arith)), look_none _ _ _ _ _ _ _)

pub slot_ok-requires : goal.slot_ok-requires
slot_ok-requires c =
    let x = taken _ _ _ _ _ c.loop-b.invariant.1 c.in-Some.ensures.steps in
    (omega (arith, c.requires, x.below), c.requires.1, x.below)

pub returns-then-not-slot_ok : goal.returns-then-not-slot_ok
returns-then-not-slot_ok c =
    let x = taken _ _ _ _ _ c.loop-b.invariant.1 c.in-Some.ensures.steps in
    look_fails c.args.store.now (under_ok c.args.most) c.args.p c.args.i c.args.w c.args.before.bad c.args.before.deps c.loop-b.invariant.0 _ _ x _ c.slot_ok.ensures c.if-not-slot_ok.true

pub clock_at-requires : goal.clock_at-requires
clock_at-requires c =
    let x = taken _ _ _ _ _ c.loop-b.invariant.1 c.in-Some.ensures.steps in
    omega (arith, c.requires, x.below)

pub deps_at-requires : goal.deps_at-requires
deps_at-requires c =
    let x = taken _ _ _ _ _ c.loop-b.invariant.1 c.in-Some.ensures.steps in
    omega (arith, c.requires, x.below)

pub loop-b-preserved : goal.loop-b-preserved
loop-b-preserved c =
    let x = taken _ _ _ _ _ c.loop-b.invariant.1 c.in-Some.ensures.steps in (
      c.in-Some.b + 1,
      rw c.in-Some.ensures.steps.2 x.then,
      look_more c.args.store.now (under_ok c.args.most) c.args.p c.args.i c.args.w _ _ c.loop-b.invariant.0 _ _ _ _ x c.loop-b.invariant.2 _ c.slot_ok.ensures c.if-not-slot_ok.false
          _ _ _ c.clock_at.ensures c.overs-over.ensures c.union.ensures
          _ _ c.deps_at.ensures c.union-in-loop-b.ensures,
    )

pub returns : goal.returns
returns c = look_done c.args.store.now (under_ok c.args.most) c.args.p c.args.i c.args.w _ _ c.loop-b.invariant.0 _ c.loop-b.looked c.loop-b.invariant.1 c.in-None.ensures.steps c.loop-b.invariant.2
