use Rattle.std.proofs.Common.{◌≡◌, Bool, eqb, get_or, rules, sym, ap, ◌∙◌, arith}
use borrow.Author.Tests.{tests}
use Rattle.std.specs.List.{zip, prefix_len}
use Rattle.std.proofs.lemmas.Iterator.{YieldsList-from_slice, YieldsList-from_zip}
use Rattle.std.proofs.lemmas.Iterator.Consumers.{count_from_yields_List}
use Rattle.std.proofs.lemmas.Iterator.Search.{YieldsList-from_take_while}
use Rattle.std.proofs.lemmas.List.Folds.{length-prefix_len}
use Rattle.std.proofs.lemmas.List.Sums.{prefix_len-le-length, prefix_len_passes}
use Rattle.std.proofs.lemmas.Slice.Zip.{get_or-zip, length-zip}
use Rattle.causal.specs.Tests.{both}
use Rattle.causal.proofs.Tests.{all_intro}
use Rattle.frame.specs.Entries.{id_of, same_content}
use Rattle.frame.specs.Sessions.{nobody}
use Rattle.frame.specs.declared.entry.Entry.{Entry}
use Rattle.joining.proofs.alike.same_front.Goals as goal

pub returns : goal.returns
returns c =
    let fs = c.args.first.now in
    let gs = c.args.second.now in
    let same : Entry × Entry → Bool = λ p. both (eqb (id_of p.0) (id_of p.1)) (same_content p.0 p.1) in
    let front : c.count.result ≡ prefix_len same (zip gs fs) =
    count_from_yields_List c.take_while.result _ c.count.ensures.ran
    (YieldsList-from_take_while _ same (YieldsList-from_zip (YieldsList-from_slice gs cc) (YieldsList-from_slice fs cc)) c.take_while.ensures.closure c.take_while.ensures.done
    (λ x b q k. search (rules, tests)))
    ∙ length-prefix_len same (zip gs fs) in
    let most = prefix_len-le-length same (zip gs fs) in
    let long = length-zip gs fs in (
      omega (arith, front, most, long),
      omega (arith, front, most, long),
      all_intro (λ j. both (eqb (id_of (get_or gs j nobody)) (id_of (get_or fs j nobody))) (same_content (get_or gs j nobody) (get_or fs j nobody))) c.count.result
          (λ j l. sym (ap same (get_or-zip gs fs j (nobody, nobody) (omega (arith, front, most, long)) (omega (arith, front, most, long)))) ∙ prefix_len_passes same (zip gs fs) j (nobody, nobody) (omega (arith, front))),
    )
