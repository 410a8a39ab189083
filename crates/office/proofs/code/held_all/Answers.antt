use Rattle.causal.specs.Sets.{subset_of}
use native.Mathlib.Omega.{arith}
use mathlib.Core.Path.{ap, ◌∙◌}
use Rattle.store.proofs.Rules.{laid}
use Rattle.office.proofs.code.held_all.Goals as goal

pub set_at-held-requires : goal.set_at-held-requires
set_at-held-requires c = omega (arith, (laid c.args.store.now c.requires).long)

pub returns : goal.returns
returns c = c.subset.ensures ∙ ap (subset_of c.args.ids) c.set_at-held.ensures
