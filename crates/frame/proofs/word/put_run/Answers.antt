use Rattle.std.proofs.Common.{◌≡◌, ℕ, ◌+◌, ◌%◌, List, ap, ◌∙◌, rules}
use lib.Seq.{sets}
use Rattle.causal.specs.Lists.{tab}
use Rattle.frame.specs.Words.{total}
use Rattle.frame.proofs.Chains.{words_are}
use Rattle.frame.proofs.word.put_run.Goals as goal

pub returns : goal.returns
returns c =
    let z = c.args in
    let e = c.put_words.ensures in
    let f = λ (i : ℕ). z.first + i in
    let q : e.0 ≡ tab z.count f = words_are e.0 f z.count e.1 (λ j h. let p = e.2 j h in search rules) in
    (e.3 ∙ ap (λ (l : List ℕ). total l % 268435456) q, e.4 ∙ ap (sets z.out.now z.at) q)
