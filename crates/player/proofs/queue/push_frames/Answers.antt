use Prim.Native.Nat.{◌%◌, ◌+◌}
use mathlib.Core.List.{◌∷◌}
use mathlib.Core.Path.{◌∙◌, ◌≡◌, ap}
use native.Mathlib.Omega.{arith}
use lib.Seq.{sets}
use Rattle.causal.specs.Lists.{part}
use Rattle.player.specs.Desks.{frame_len, length_at, pushed, slot_at}
use Rattle.player.proofs.Cuts as cuts
use Rattle.player.proofs.queue.push_frames.Goals as goal

pub loop-k-init : goal.loop-k-init
loop-k-init c = (omega arith, cuts.start_none _, omega arith, cuts.pushed_none _ _ _ _)

pub length_at-len-requires : goal.length_at-len-requires
length_at-len-requires c = omega (arith, c.loop-k.invariant.1, cuts.start_next c.args.row.now c.loop-k.k c.args.n c.loop-k-test.true, c.requires.4)

pub push_frame-requires : goal.push_frame-requires
push_frame-requires c = let L = c.loop-k in
    let e : c.length_at-len.result ≡ frame_len c.args.row.now L.k = c.length_at-len.ensures ∙ ap (length_at c.args.row.now) L.invariant.1 in
    (omega (arith, c.requires.5 L.k c.loop-k-test.true), omega (arith, L.invariant.2, c.requires.0), omega (arith, L.invariant.1, cuts.start_next c.args.row.now L.k c.args.n c.loop-k-test.true, c.requires.4))

pub overflow_add-at : goal.overflow_add-at
overflow_add-at c = let L = c.loop-k in
    let e : c.length_at-len.result ≡ frame_len c.args.row.now L.k = c.length_at-len.ensures ∙ ap (length_at c.args.row.now) L.invariant.1 in
    omega (arith, c.well_formed, L.invariant.1, cuts.start_next c.args.row.now L.k c.args.n c.loop-k-test.true, c.requires.4)

pub loop-k-preserved : goal.loop-k-preserved
loop-k-preserved c = let L = c.loop-k in
    let e : c.length_at-len.result ≡ frame_len c.args.row.now L.k = c.length_at-len.ensures ∙ ap (length_at c.args.row.now) L.invariant.1 in (
      omega arith,
      omega (arith, L.invariant.1, cuts.start_more c.args.row.now L.k),
      c.push_frame.auto.lines ∙ L.invariant.2,
      c.push_frame.ensures ∙ (λ i. sets (L.invariant.3 i) (slot_at c.args.office ((c.args.q + L.k) % 32)) (e i ∷ part c.args.row.now (L.invariant.1 i) (e i))) ∙ cuts.pushed_more c.args.lines.now c.args.office c.args.q c.args.row.now L.k,
    )

pub returns : goal.returns
returns c = let e : c.loop-k.k ≡ c.args.n = omega arith in
    c.loop-k.invariant.3 ∙ ap (pushed c.args.lines.now c.args.office c.args.q c.args.row.now) e
