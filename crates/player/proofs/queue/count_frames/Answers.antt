use Prim.Native.Nat.{◌+◌}
use mathlib.Core.Path.{◌∙◌, ◌≡◌, ap}
use native.Mathlib.Omega.{arith}
use Rattle.player.specs.Desks.{length_at, start_of}
use Rattle.player.proofs.Cuts as cuts
use Rattle.player.proofs.queue.count_frames.Goals as goal

pub loop-at-init : goal.loop-at-init
loop-at-init c = (cuts.start_none _, omega arith, omega arith, λ m k. omega arith)

pub overflow_add-at : goal.overflow_add-at
overflow_add-at c = omega (arith, c.length_at-at.ensures)

pub loop-at-preserved : goal.loop-at-preserved
loop-at-preserved c = let e : c.loop-at.at + c.length_at-at.result ≡ start_of c.args.row.now (c.loop-at.n + 1) =
    omega (arith, c.loop-at.invariant.0, c.length_at-at.ensures ∙ ap (length_at c.args.row.now) c.loop-at.invariant.0, cuts.start_more c.args.row.now c.loop-at.n) in
    (e, omega (arith, c.length_at-at.ensures), omega (arith, c.length_at-at.ensures), λ m k. cuts.count_goes c.args.row.now c.args.words m c.loop-at.n k (omega (arith, c.loop-at.invariant.0)) (c.loop-at.invariant.3 m k))

pub returns : goal.returns
returns c = λ m k. cuts.count_ends c.args.row.now c.args.words m c.loop-at.n k (omega (arith, c.loop-at.invariant.0)) (c.loop-at.invariant.3 m k)
