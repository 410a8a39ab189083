use Rattle.std.proofs.Common.{◌≡◌, eqb, ltb, get_or, ◌∙◌, rules}
use Rattle.causal.specs.Tests.{either}
use Rattle.frame.specs.Entries.{ids_ok, ids_place_ok}
use Rattle.frame.proofs.Chains.{each_made, none_set}
use Rattle.frame.proofs.entry.ids_ok.Goals as goal

pub returns : goal.returns
unfolding ids_ok ids_place_ok
returns c =
    let z = c.args in
    c.is_empty.ensures ∙ none_set _ (ids_place_ok z.n z.ids)
    (each_made _ _ (λ j w. eqb w 0 ≡ either (ltb j z.n) (eqb (get_or z.ids j 0) 0)) 8 (λ i y q h k. search rules) _ c.from_fn-left.ensures.items)
