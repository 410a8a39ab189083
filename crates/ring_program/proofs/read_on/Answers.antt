use mathlib.Core.Bool.{true}
use mathlib.Core.Path.{◌∙◌, ◌≡◌, ap, refl, sym}
use native.Mathlib.Omega.{arith}
use lib.ListN.{take}
use lib.Seq.{length-take-le}
use Rattle.std.proofs.lemmas.Result.{err_from_is_err_and}
use Rattle.std.specs.Prelude.{is_ok}
use Rattle.std.specs.Result.{result_unwrap_or}
use Rattle.ring_program.proofs.Running as rn
use Rattle.ring_program.proofs.read_on.Goals as goal

pub loop-reached-init : goal.loop-reached-init
loop-reached-init c = (refl, refl, refl, refl, refl, c.requires.3, rn.starts _ _ _ c.requires.4)

pub close-requires : goal.close-requires
close-requires c = let L = c.loop-reached in
    (L.invariant.2 ∙ c.requires.0, L.invariant.4 ∙ c.requires.2, L.invariant.5, rn.stands _ _ _ _ _ _ L.invariant.6 _ c.requires.6.1 c.requires.5, L.invariant.6.wrote)

pub returns-then-n-eq0 : goal.returns-then-n-eq0
returns-then-n-eq0 c = let L = c.loop-reached in
    let k = c.read_chunk-reached in
    let f = c.close in
    let z : result_unwrap_or k.result 0 ≡ 0 = sym c.unwrap_or-n.ensures ∙ c.if-n-eq0.true in
    rn.ends _ _ _ L.reached _ _ L.invariant.6 f.result (record { stage = f.new.stage; left = k.new.left; said = k.result }) (omega (arith, k.ensures.1, z)) z _ _ _ _ f.ensures

pub feed_all-requires : goal.feed_all-requires
feed_all-requires c = let L = c.loop-reached in
    (L.invariant.2 ∙ c.requires.0, L.invariant.4 ∙ c.requires.2, L.invariant.5, rn.stands _ _ _ _ _ _ L.invariant.6 _ c.requires.6.1 c.requires.5, L.invariant.6.wrote)

pub returns-in_err-feed_all : goal.returns-in_err-feed_all
returns-in_err-feed_all c = let L = c.loop-reached in
    let k = c.read_chunk-reached in
    let n = c.unwrap_or-n in
    let f = c.feed_all in
    let p = err_from_is_err_and c.from_residual.result c.from_residual.ensures.1 in
    rw (p.1, p.2)
    (rn.breaks _ _ _ L.reached _ _ L.invariant.6 (take n.result k.new.input) (record { stage = f.new.stage; left = k.new.left; said = k.result })
    (omega (arith, k.ensures.1, n.ensures, length-take-le n.result k.new.input (omega (arith, k.ensures.0, n.ensures, k.auto.input, L.invariant.3, c.requires.1))))
    f.ensures.2.0 _ _ f.ensures.2.3 (f.ensures.1 ∙ ap is_ok c.in_err-feed_all.was) _)

pub loop-reached-preserved : goal.loop-reached-preserved
loop-reached-preserved c = let L = c.loop-reached in
    let k = c.read_chunk-reached in
    let n = c.unwrap_or-n in
    let f = c.feed_all in
    let taken : is_ok f.result ≡ true = ap is_ok c.in_ok-feed_all.was in (
      f.auto.stores ∙ L.invariant.0,
      f.auto.lines ∙ L.invariant.1,
      f.auto.out ∙ L.invariant.2,
      k.auto.input ∙ L.invariant.3,
      f.auto.text ∙ L.invariant.4,
      f.ensures.0,
      rn.goes_on _ _ _ L.reached _ _ L.invariant.6 (take n.result k.new.input) (record { stage = f.new.stage; left = k.new.left; said = k.result })
          (omega (arith, k.ensures.1, n.ensures, length-take-le n.result k.new.input (omega (arith, k.ensures.0, n.ensures, k.auto.input, L.invariant.3, c.requires.1))))
          f.ensures.2.0 _ _ f.ensures.2.3 (f.ensures.2.2 taken) (f.ensures.1 ∙ taken),
    )
