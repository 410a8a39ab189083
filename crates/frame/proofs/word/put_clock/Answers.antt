use Rattle.std.proofs.Common.{◌≡◌, ℕ, ◌%◌, List, ap, ◌∙◌, rules}
use lib.Seq.{sets}
use Rattle.causal.specs.Lists.{tab}
use Rattle.frame.specs.Words.{clock_word, clock_words, total}
use Rattle.frame.proofs.Chains.{words_are}
use Rattle.frame.proofs.word.put_clock.Goals as goal

pub returns : goal.returns
unfolding clock_words
returns c =
    let z = c.args in
    let e = c.put_words.ensures in
    let q : e.0 ≡ tab z.n (clock_word z.clock) = words_are e.0 (clock_word z.clock) z.n e.1 (λ j h. let p = e.2 j h in search rules) in
    (e.3 ∙ ap (λ (l : List ℕ). total l % 268435456) q, e.4 ∙ ap (sets z.out.now z.at) q)
