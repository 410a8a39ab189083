use Rattle.std.proofs.Common.{ℕ, ◌+◌, ◌-◌, leb, drop, take, ◌∙◌, rules, tests}
use Rattle.std.proofs.lemmas.Iterator.{YieldsList-from_slice}
use Rattle.std.proofs.lemmas.Iterator.Search.{all_from_yields_List}
use Rattle.causal.specs.Tests.{both}
use Rattle.frame.specs.Reading.{clocks_in}
use Rattle.frame.specs.Words.{kind_is, payload}
use Rattle.frame.proofs.Chains.{all_part}
use Rattle.frame.proofs.word.clock_words.Goals as goal

pub returns : goal.returns
unfolding clocks_in
returns c =
    let z = c.args in
    let word = λ (w : ℕ). both (kind_is 5 w) (leb (payload w) 32) in
    let part = take (z.at + z.n - z.at) (drop z.at z.ws.now) in
    all_from_yields_List word _ _ c.all.result c.all.ensures.ran (YieldsList-from_slice part cc) (λ x b q k. search (rules, tests))
    ∙ all_part word z.ws.now z.at z.n c.requires
