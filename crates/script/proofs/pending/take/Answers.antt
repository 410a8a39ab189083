use Rattle.std.proofs.Common.{◌+◌, ◌∙◌, sym, ap, length, arith}
use Rattle.std.proofs.lemmas.List.Edits.{length-between}
use Rattle.script.specs.Pendings.{pushed}
use Rattle.script.proofs.Pendings.{at_rest, taken_all, taken_line, taking_more}
use Rattle.script.proofs.pending.take.Goals as goal

pub returns-then-b-eq10 : goal.returns-then-b-eq10
returns-then-b-eq10 c =
    let L = c.loop-i in
    let r = at_rest c.args.bytes.now c.args.from L.i c.requires c.loop-i-test.true in
    taken_line _ _ _ (c.args.from + L.i) _ L.invariant r.0 (sym r.1 ∙ c.if-b-eq10.true)

pub loop-i-preserved : goal.loop-i-preserved
loop-i-preserved c =
    let L = c.loop-i in
    let r = at_rest c.args.bytes.now c.args.from L.i c.requires c.loop-i-test.true in
    taking_more _ _ _ (c.args.from + L.i) _ L.invariant r.0 (λ e. c.if-b-eq10.false (r.1 ∙ e)) _ _ (omega arith) (c.push.ensures ∙ ap (pushed L.pending) r.1)

pub returns : goal.returns
returns c =
    let L = c.loop-i in
    taken_all _ _ _ (c.args.from + L.i) _ L.invariant (omega (arith, length-between c.args.bytes.now c.args.from (length c.args.bytes.now)))
