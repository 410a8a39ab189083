use Rattle.std.proofs.Common.{◌≡◌, true, false, rules, sym, ◌∙◌}
use Rattle.std.proofs.lemmas.Iterator.{cases_from_all, YieldsList-from_slice}
use borrow.Author.Tests.{tests}
use Rattle.causal.specs.Sets.{is_in}
use Rattle.frame.specs.Entries.{id_of}
use Rattle.joining.specs.Joins.{alike as alikeOf}
use Rattle.joining.proofs.Each.{alike_unknown, each_all}
use Rattle.joining.proofs.alike.alike_each.Goals as goal

pub returns-then-not-among : goal.returns-then-not-among
returns-then-not-among c =
    let out : is_in c.args.ids (id_of c.args.e.now) ≡ false = sym c.among.ensures ∙ c.if-not-among.true in
    rw c.if-not-among.true (sym (alike_unknown c.args.e.now c.args.own.now c.requires.0 (rw c.requires.1 at out)))

pub returns-else-not-among : goal.returns-else-not-among
returns-else-not-among c =
    each_all (alikeOf c.args.e.now) c.args.own.now _
    (cases_from_all _ _ _ (λ f. alikeOf c.args.e.now f ≡ true) (λ f. alikeOf c.args.e.now f ≡ false) c.all.ensures.ran (YieldsList-from_slice c.args.own.now cc)
    (λ x q k. search (rules, tests)) (λ x q k. search (rules, tests)))
