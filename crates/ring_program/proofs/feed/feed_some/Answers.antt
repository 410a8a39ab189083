use Prim.Native.Nat.{ℕ, ◌+◌, ◌≤◌}
use mathlib.Core.Path.{◌∙◌, ◌≡◌, ap, refl}
use native.Mathlib.Omega.{arith}
use lib.ListN.{length}
use lib.Seq.{sets}
use borrow.Author.Tests.{not-false, not-true}
use Rattle.script.specs.Replies.{reply_bytes}
use Rattle.ring_program.proofs.Feeding as fd
use Rattle.ring_program.proofs.feed.feed_some.Goals as goal

pub loop-i-init : goal.loop-i-init
loop-i-init c = let a = c.args in
    (omega arith, omega (arith, c.requires.2), refl, refl, refl, refl, omega (arith, c.requires.1), (λ (_ : a.from ≡ a.from). c.requires.1), c.requires.4, λ g l S e. fd.nothing_fed a.bytes.now a.from a.stage.now _ _ _ g l S e)

pub returns-then-not-taken : goal.returns-then-not-taken
returns-then-not-taken c = let L = c.loop-i in
    let k = c.take-taken in (
      omega (arith, fd.taken_some _ _ _ _ k.ensures c.loop-i-test.true, L.invariant.0),
      k.ensures.within,
      omega (arith, L.invariant.6, L.invariant.3),
      L.invariant.8,
      λ g l S e. fd.line_waits c.args.bytes.now c.args.from L.i L.invariant.0 g l c.args.stage.now.at _ _ _ _ _ (L.invariant.9 g l S e) _ k.ensures (not-true k.result.ended c.if-not-taken.true),
    )

pub play-reply-requires : goal.play-reply-requires
play-reply-requires c = let L = c.loop-i in
    let X = L.invariant.9 c.requires.3.0 c.requires.3.1 c.requires.3.2 c.requires.3.3 in
    (c.parse-line.ensures.1, L.invariant.2 ∙ c.requires.0, (_, X.shows))

pub loop-i-preserved : goal.loop-i-preserved
loop-i-preserved c = let a = c.args in
    let L = c.loop-i in
    let k = c.take-taken in
    let p = c.parse-line in
    let q = c.play-reply in
    let y = c.put_reply-stage in
    let e : q.new.stage.at ≡ L.stage.at = q.ensures.1 in
    let n : y.result ≤ q.new.stage.at + 40 = y.ensures.2 in
    let t : length y.new.out ≡ length L.text = y.auto.out in (
      omega (arith, fd.taken_some _ _ _ _ k.ensures c.loop-i-test.true, L.invariant.0),
      k.ensures.within,
      q.auto.out ∙ L.invariant.2,
      t ∙ L.invariant.3,
      q.auto.stores ∙ L.invariant.4,
      q.auto.lines ∙ L.invariant.5,
      omega (arith, n, e, t, c.if-text-stage-lt40.false, L.invariant.6),
      (λ (s : k.result.next ≡ a.from). absurd (omega (arith, s, fd.taken_some _ _ _ _ k.ensures c.loop-i-test.true, L.invariant.0))),
      q.ensures.2 ∙ L.invariant.8,
      λ g l S s.
          fd.line_played a.bytes.now a.from L.i L.invariant.0 g l a.stage.now.at _ _ _ _ _ (L.invariant.9 g l S s) _ k.ensures (not-false k.result.ended c.if-not-taken.false) p.result p.ensures.0 L.out (L.invariant.2 ∙ c.requires.0) _ _ _ _ c.nothing-stage.ensures q.result
          (λ h T. q.ensures.3 h T) (y.ensures.0 ∙ ap (λ (x : ℕ). x + length (reply_bytes q.result)) e) (y.ensures.1 ∙ ap (λ (x : ℕ). sets L.text x (reply_bytes q.result)) e),
    )
