use Rattle.std.proofs.Common.{◌+◌, ◌-◌, drop, take, ◌∙◌, rules, tests}
use Rattle.std.proofs.lemmas.Iterator.{YieldsList-from_slice}
use Rattle.std.proofs.lemmas.Iterator.Search.{all_from_yields_List}
use Rattle.frame.specs.Reading.{clock_kinds}
use Rattle.frame.specs.Words.{kind_is}
use Rattle.frame.proofs.Chains.{all_part}
use Rattle.frame.proofs.word.clock_kinds.Goals as goal

pub returns : goal.returns
unfolding clock_kinds
returns c =
    let z = c.args in
    let part = take (z.at + z.n - z.at) (drop z.at z.ws.now) in
    all_from_yields_List (kind_is 5) _ _ c.all.result c.all.ensures.ran (YieldsList-from_slice part cc) (λ x b q k. search (rules, tests))
    ∙ all_part (kind_is 5) z.ws.now z.at z.n c.requires
