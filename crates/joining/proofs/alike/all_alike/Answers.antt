use Rattle.std.proofs.Common.{◌≡◌, ◌-◌, true, false, length, drop, take_all, rules, arith, length-drop, ◌∙◌}
use Rattle.std.proofs.lemmas.Iterator.{cases_from_all, YieldsList-from_slice}
use borrow.Author.Tests.{tests}
use Rattle.joining.specs.Joins.{alike as alikeOf, all_alike, each}
use Rattle.joining.proofs.Each.{each_all, each_behind}
use Rattle.joining.proofs.alike.all_alike.Goals as goal

pub returns : goal.returns
unfolding all_alike
returns c =
    each_all (λ e. each (alikeOf e) c.args.first.now) (drop c.args.front c.args.second.now) _
    (cases_from_all _ _ _ (λ e. each (alikeOf e) c.args.first.now ≡ true) (λ e. each (alikeOf e) c.args.first.now ≡ false) c.all.ensures.ran (YieldsList-from_slice (drop c.args.front c.args.second.now) (c.iter.ensures.rest ∙ take_all (length c.args.second.now - c.args.front) (drop c.args.front c.args.second.now) (simp length-drop (omega arith))))
    (λ x q k. search (rules, tests)) (λ x q k. search (rules, tests)))
    ∙ each_behind (λ e. each (alikeOf e) c.args.first.now) c.args.front c.args.second.now c.requires.3
