use native.Mathlib.Omega.{arith}
use Rattle.std.proofs.Common.{rules}
use mathlib.Core.Path.{◌≡◌, ◌∙◌}
use lib.Count.{ones}
use Rattle.std.specs.List.{sum_by}
use Rattle.std.proofs.lemmas.Iterator.{YieldsList-from_slice, YieldsList-from_map}
use Rattle.std.proofs.lemmas.Iterator.Consumers.{fits_by_from_yields_list}
use Rattle.causal.proofs.Array.{id_set}
use Rattle.causal.proofs.Sets.{size_le}
use Rattle.causal.proofs.Walk.{size_words}
use Rattle.causal.proofs.set.size.Goals as goal

pub sum-requires-clause-fits : goal.sum-requires-clause-fits
sum-requires-clause-fits c =
    let s = c.args.set in
    fits_by_from_yields_list ones s _ _ (YieldsList-from_map _ ones (YieldsList-from_slice s cc) c.map.ensures.closure (λ x r q k. search rules))
    (omega (arith, size_words s (id_set s c.well_formed.0), size_le s))

pub returns : goal.returns
returns c =
    let s = c.args.set in
    let e : c.sum.result ≡ sum_by ones s = search rules in
    e ∙ size_words s (id_set s c.well_formed.0)
