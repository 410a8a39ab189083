use mathlib.Core.Path.{◌∙◌}
use Rattle.causal.proofs.Array.{id_set}
use Rattle.causal.proofs.Equal.{equal_words}
use Rattle.causal.proofs.Sets.{zero_words}
use Rattle.causal.proofs.set.is_empty.Goals as goal

pub returns : goal.returns
returns c = equal_words _ _ _ c.eq.ensures ∙ zero_words c.args.set (id_set c.args.set c.well_formed.0).eight
