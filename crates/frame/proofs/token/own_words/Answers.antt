use Rattle.std.proofs.Common.{◌^◌, ◌<◌, arith, rules, sum_by}
use borrow.Author.Tests.{tests}
use Rattle.std.proofs.lemmas.Iterator.{YieldsList-from_map, YieldsList-from_slice}
use Rattle.std.proofs.lemmas.Iterator.Consumers.{fits_by_from_yields_list}
use Rattle.frame.proofs.TokenTurns.{size_in, rows_size, rows_few}
use Rattle.frame.proofs.token.own_words.Goals as goal

-- no frame has more than 268 words
pub sum-requires-clause-fits : goal.sum-requires-clause-fits
sum-requires-clause-fits c = let n = c.args.n in let own = c.args.own.now in
    let few : sum_by (size_in n) own < 2 ^ 64 = omega (arith, rows_size n own, rows_few n own c.requires.0, c.requires.1) in
    fits_by_from_yields_list (size_in n) own c.map.result (2 ^ 64)
    (YieldsList-from_map _ (size_in n) (YieldsList-from_slice own cc) c.map.ensures.closure (λ x r q k. search (rules, tests)))
    few
