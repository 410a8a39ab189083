use Rattle.std.proofs.Common.{◌≡◌, eqb, leb, get_or, rules}
use Rattle.frame.specs.Entries.{under_ok}
use Rattle.frame.proofs.Chains.{each_made, none_set}
use Rattle.frame.proofs.entry.overs.Goals as goal

pub returns : goal.returns
unfolding under_ok
returns c =
    let z = c.args in
    none_set _ (λ j. leb (get_or z.clock j 0) (get_or z.most j 0))
    (each_made _ _ (λ j o. eqb o 0 ≡ leb (get_or z.clock j 0) (get_or z.most j 0)) 8 (λ i y q h k. search rules) _ c.from_fn.ensures.items)
