use Rattle.std.proofs.Common.{◌≡◌, ℕ, ◌+◌, ◌-◌, ◌<◌, List, drop, get_or, length, take, set, refl, ap, ◌∙◌, arith, length-drop, length-take}
use lib.ListN.{length-set}
use lib.Seq.{get_or-take, get_or-drop}
use Rattle.causal.proofs.Lists.{copy_none, copy_more}
use Rattle.causal.proofs.row.copy_words.Goals as goal

pub loop-j-init : goal.loop-j-init
loop-j-init c = (refl, copy_none _ _ _ _)

pub loop-j-preserved : goal.loop-j-preserved
loop-j-preserved c =
    let z = c.args in
    let j = c.loop-j.j in
    let n = z.a + z.n - z.a in
    let rest = drop z.a z.from.now in
    let k : j < n = omega (arith, simp (length-take, length-drop) at c.loop-j-test.true) in
    let w : get_or (take n rest) j 0 ≡ get_or z.from.now (z.a + j) 0 = get_or-take n rest j 0 k ∙ get_or-drop z.a z.from.now j 0 in (
      simp length-set c.loop-j.invariant.0,
      ap (λ (x : ℕ). set c.loop-j.to (z.b + j) x) w
          ∙ ap (λ (l : List ℕ). set l (z.b + j) (get_or z.from.now (z.a + j) 0)) c.loop-j.invariant.1
          ∙ copy_more z.to.now z.from.now z.a z.b j (omega arith),
    )

pub returns : goal.returns
returns c =
    let z = c.args in
    let l : length (take (z.a + z.n - z.a) (drop z.a z.from.now)) ≡ z.n = simp (length-take, length-drop) (omega arith) in
    let e : c.loop-j.j ≡ z.n = omega arith in
    rw e at c.loop-j.invariant.1
