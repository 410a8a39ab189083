use Rattle.std.proofs.Common.{sym, ◌∙◌, arith}
use Rattle.std.proofs.lemmas.Grind.{common_steps}
use Rattle.causal.specs.Tests.{both}
use Rattle.store.proofs.Rules.{content_is, empty_content}
use Rattle.store.proofs.sound.content_ok.Goals as goal

pub returns-then-not-subset : goal.returns-then-not-subset
unfolding both
returns-then-not-subset c = content_is c.args.store.now c.set_at-held.result c.set_at-visible.result c.set_at-held.ensures c.set_at-visible.ensures _ (grind (arith, common_steps))

pub returns-then-is_empty : goal.returns-then-is_empty
returns-then-is_empty c =
    content_is c.args.store.now c.set_at-held.result c.set_at-visible.result c.set_at-held.ensures c.set_at-visible.ensures _
    (c.if-is_empty.true
    ∙ empty_content c.args.store.now c.set_at-held.result c.set_at-visible.result (omega (arith, c.requires.few, c.requires.own)) (sym c.is_empty.ensures ∙ c.if-is_empty.true)
    (sym c.subset.ensures ∙ c.if-not-subset.false))

pub returns-then-slots_ok : goal.returns-then-slots_ok
unfolding both
returns-then-slots_ok c = content_is c.args.store.now c.set_at-held.result c.set_at-visible.result c.set_at-held.ensures c.set_at-visible.ensures _ (grind (arith, common_steps))

pub returns-else-slots_ok : goal.returns-else-slots_ok
unfolding both
returns-else-slots_ok c = content_is c.args.store.now c.set_at-held.result c.set_at-visible.result c.set_at-held.ensures c.set_at-visible.ensures _ (grind (arith, common_steps))
