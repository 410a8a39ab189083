use Rattle.std.proofs.Common.{◌≡◌, ℕ, ◌-◌, ◌<◌, List, eqb, drop, get_or, length, take, sym, ap, ◌∙◌, arith, length-drop, take_all, rules, tests}
use Rattle.std.proofs.lemmas.Bool.Decides.{nat_tests}
use borrow.Author.Tests.{not-true, not-false}
use Rattle.std.specs.List.{list_all, zip}
use Rattle.std.proofs.lemmas.Fn.{fold_over, fronts}
use Rattle.std.proofs.lemmas.Iterator.{YieldsList-from_slice, YieldsList-from_zip, zips}
use Rattle.causal.specs.Tests.{both}
use Rattle.causal.proofs.Tests.{both_one}
use Rattle.frame.specs.Reading.{next_ok}
use Rattle.frame.proofs.Ascents.{Next, steps_pairs, wrong_more, ascends_none, first_wrong, last_wrong, office_wrong, all_right}
use Rattle.frame.proofs.word.ids_ascend.Goals as goal
use Rattle.frame.proofs.word.ids_ascend.Goals.{then-not-kind_is-via-then-not-kind_is, then-not-kind_is-via-else-not-kind_is+then-not-kind_is-2, then-not-kind_is-via-else-not-kind_is+else-not-kind_is-2+then-last-n}

pub returns-then-is_empty : goal.returns-then-is_empty
returns-then-is_empty c = ascends_none c.args.n 0 c.args.ws.now (grind (arith, nat_tests))

pub returns-then-not-kind_is : goal.returns-then-not-kind_is
returns-then-not-kind_is c =
    let ws = c.args.ws.now in
    let some : 0 < length ws = grind (arith, nat_tests) in
    elim c.then-not-kind_is.branch [
      | then-not-kind_is-via-then-not-kind_is w ↦ first_wrong c.args.n ws some (sym c.kind_is.ensures ∙ not-true _ w.if-not-kind_is.true-raw)
      | then-not-kind_is-via-else-not-kind_is+then-not-kind_is-2 w ↦ last_wrong c.args.n ws some (sym w.kind_is-else-not-kind_is.ensures ∙ not-true _ w.if-not-kind_is-2.true-raw)
      | then-not-kind_is-via-else-not-kind_is+else-not-kind_is-2+then-last-n w ↦ office_wrong c.args.n ws some w.if-last-n.true
    ]

pub returns : goal.returns
returns c =
    let ws = c.args.ws.now in
    let some : 0 < length ws = grind (arith, nat_tests) in
    let s = next_ok 1610612736 (get_or ws 0 0) in
    let J = λ (ps : List (ℕ × ℕ)) (a : ℕ). eqb a 0 ≡ both s (list_all Next ps) in
    let tail = take (length ws - 1) (drop 1 ws) in
    let whole : tail ≡ drop 1 ws = take_all (length ws - 1) (drop 1 ws) (simp length-drop (omega arith)) in
    let r : J (zip ws tail) c.fold-wrong.result =
    fold_over (zips fronts fronts) (λ p. (p.0.now, p.1.now)) _ J _ (λ ps a x b f' h k. search (rules, tests, wrong_more)) c.zip-pairs.result (zip ws tail) _ c.fold-wrong.result
    (YieldsList-from_zip {s = c.zip-pairs.result} (YieldsList-from_slice ws cc) (YieldsList-from_slice tail cc)).runs (c.not_next-start.ensures ∙ sym (both_one s)) c.fold-wrong.ensures.ran
    in
    r ∙ ap (λ (l : List ℕ). both s (list_all Next (zip ws l))) whole ∙ steps_pairs 1610612736 ws some
    ∙ all_right c.args.n ws some (sym c.kind_is-else-not-kind_is.ensures ∙ not-false _ c.if-not-kind_is-2.false-raw) c.if-last-n.false
