use Prim.Native.Nat.{◌+◌}
use mathlib.Core.Bool.{Bool}
use mathlib.Core.Path.{◌∙◌, ap, sym}
use lib.ListN.{drop, get_or}
use borrow.Author.Tests.{eq-eqb, ne_eqb}
use Rattle.std.proofs.lemmas.List.{at_drop_all, at_drop_more}
use Rattle.frame.specs.Sessions.{nobody}
use Rattle.store.specs.Offices.{Found, best_own, consider}
use Rattle.reading.proofs.best.best_own.Goals as goal
use Rattle.reading.proofs.best.best_own.Goals.{then-e-plot, else-e-plot}

pub loop-e-preserved : goal.loop-e-preserved
unfolding best_own consider
loop-e-preserved c = let own = c.args.own.now in
    let i = c.loop-e.e-index in
    let e = get_or own i nobody in
    let best = c.loop-e.best in
    let on = λ (t : Bool). consider t e best in
    let rest = sym (at_drop_more (best_own c.args.plot best) own i nobody c.loop-e-test.true) ∙ c.loop-e.invariant in
    let turn = λ (b : Found). best_own c.args.plot b (drop (i + 1) own) in
    elim c.if-e-plot.branch [
      | then-e-plot w ↦ ap turn (w.best-is ∙ w.better-best.ensures ∙ sym (ap on (eq-eqb e.plot c.args.plot w.if-e-plot.true))) ∙ rest
      | else-e-plot w ↦ ap turn (w.best-is ∙ sym (ap on (ne_eqb e.plot c.args.plot w.if-e-plot.false))) ∙ rest
    ]

pub returns : goal.returns
unfolding best_own
returns c = sym (at_drop_all (best_own c.args.plot c.loop-e.best) c.args.own.now c.loop-e.e-index c.loop-e-test.false) ∙ c.loop-e.invariant
