use Rattle.std.proofs.Common.{◌≡◌, ℕ, ◌+◌, ◌-◌, ◌<◌, List, drop, length, take, set, refl, sym, ap, ◌∙◌, zero-add, arith, length-drop, length-take}
use Rattle.frame.proofs.Turns.{clock_whole}
use lib.Seq.{sets, get_or-take, get_or-drop}
use Rattle.causal.specs.Lists.{tab, zeros}
use Rattle.causal.proofs.Lists.{sets_tab}
use Rattle.frame.specs.Words.{payload, pay_at}
use Rattle.frame.proofs.word.clock_from.Goals as goal

pub loop-j-init : goal.loop-j-init
unfolding tab
loop-j-init c = refl

pub loop-j-preserved : goal.loop-j-preserved
loop-j-preserved c =
    let z = c.args in
    let j = c.loop-j.j in
    let f = λ (i : ℕ). pay_at z.ws.now (z.at + i) in
    let part = take (z.at + z.n - z.at) (drop z.at z.ws.now) in
    let k : j < z.at + z.n - z.at = omega (arith, simp (length-take, length-drop) at c.loop-j-test.true) in
    ap (λ (w : ℕ). set c.loop-j.clock j (payload w)) (get_or-take (z.at + z.n - z.at) (drop z.at z.ws.now) j 0 k ∙ get_or-drop z.at z.ws.now j 0)
    ∙ ap (λ (l : List ℕ). set l j (f j)) c.loop-j.invariant
    ∙ ap (λ (i : ℕ). set (sets zeros 0 (tab j f)) i (f j)) (sym (zero-add j))
    ∙ sets_tab zeros 0 f j

pub returns : goal.returns
returns c =
    let z = c.args in
    let l : length (take (z.at + z.n - z.at) (drop z.at z.ws.now)) ≡ z.n = simp (length-take, length-drop) (omega arith) in
    let e : c.loop-j.j ≡ z.n = omega arith in
    rw e at c.loop-j.invariant ∙ clock_whole z.ws.now z.at z.n c.requires.0
