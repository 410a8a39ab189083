use Rattle.std.proofs.Common.{ℕ, ◌+◌, List, [], ◌∷◌, ◌++◌, set, refl, sym, ap, ◌∙◌, arith, length-append}
use lib.Seq.{sets}
use Rattle.causal.proofs.Lists.{sets_append}
use Rattle.frame.specs.Words.{total}
use Rattle.frame.proofs.Words.{sum_more}
use Rattle.frame.proofs.Chains.{each_more}
use Rattle.frame.proofs.word.put_words.Goals as goal

pub loop-j-init : goal.loop-j-init
unfolding total
loop-j-init g c = ([], refl, λ j h. absurd (omega arith), refl, refl)

pub loop-j-preserved : goal.loop-j-preserved
loop-j-preserved g c =
    let l = c.loop-j in
    let i = l.invariant in
    let ws = i.0 in
    let w = c.word-w.result in
    let at = c.args.at in (
      ws ++ (w ∷ []),
      length-append ws (w ∷ []) ∙ ap (λ (n : ℕ). n + 1) i.1,
      each_more (goal.F-post g c.args.word) ws w l.j i.1 i.2 c.word-w.ensures,
      sum_more l.sum w ws i.3,
      ap (λ (o : List ℕ). set o (at + l.j) w) i.4
          ∙ ap (λ (n : ℕ). set (sets c.args.out.now at ws) (at + n) w) (sym i.1)
          ∙ sym (sets_append c.args.out.now at ws (w ∷ [])),
    )
