use Prim.Native.Nat.{ℕ, ◌+◌}
use mathlib.Core.List.{List}
use mathlib.Core.Path.{◌∙◌, ap, sym}
use lib.ListN.{drop}
use Rattle.std.proofs.lemmas.List.{at_drop_all, at_drop_more}
use Rattle.frame.specs.Sessions.{nobody}
use Rattle.office.specs.Steps.{holds_in}
use Rattle.office.proofs.entries.hold_own.Goals as goal

pub loop-e-preserved : goal.loop-e-preserved
unfolding holds_in
loop-e-preserved c = let own = c.args.own.now in
    let i = c.loop-e.e-index in
    let held = c.args.held in (
      c.hold_new.auto.store ∙ c.loop-e.invariant.0,
      ap (λ (ws : List ℕ). holds_in held ws (drop (i + 1) own)) c.hold_new.ensures
          ∙ sym (at_drop_more (holds_in held c.loop-e.store) own i nobody c.loop-e-test.true) ∙ c.loop-e.invariant.1,
    )

pub returns : goal.returns
unfolding holds_in
returns c = sym (at_drop_all (holds_in c.args.held c.loop-e.store) c.args.own.now c.loop-e.e-index c.loop-e-test.false) ∙ c.loop-e.invariant.1
