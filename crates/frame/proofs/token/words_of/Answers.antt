use Rattle.std.proofs.Common.{◌≤◌, List, length, ap, arith}
use Rattle.causal.proofs.Sets.{size_le}
use Rattle.frame.specs.declared.entry.Entry.{Entry}
use Rattle.frame.specs.Tokens.{own_rows}
use Rattle.frame.proofs.Words.{ids_size}
use Rattle.frame.proofs.OwnTurns.{count_is}
use Rattle.frame.proofs.TokenTurns as T
use Rattle.frame.proofs.token.words_of.Goals as goal

pub own_words-words-requires : goal.own_words-words-requires
own_words-words-requires c = (c.requires.0, omega (arith, ap length c.own_writes.ensures, count_is c.args.s.now, c.requires.1))

pub overflow_add-result : goal.overflow_add-result
overflow_add-result c = let x = c.args.s.now in omega (arith, size_le x.read, c.size.ensures, c.requires.0)

pub overflow_add-result-2 : goal.overflow_add-result-2
overflow_add-result-2 c = let x = c.args.s.now in let own = c.own_writes.result.now in
    let few : length own ≤ 16 = omega (arith, ap length c.own_writes.ensures, count_is x, c.requires.1) in
    omega (arith, size_le x.read, c.size.ensures, c.own_words-words.ensures, T.rows_few x.offices own c.requires.0, c.requires.0)

pub overflow_add-result-3 : goal.overflow_add-result-3
overflow_add-result-3 c = let x = c.args.s.now in let own = c.own_writes.result.now in
    let few : length own ≤ 16 = omega (arith, ap length c.own_writes.ensures, count_is x, c.requires.1) in
    omega (arith, size_le x.read, c.size.ensures, c.own_words-words.ensures, T.rows_few x.offices own c.requires.0, c.requires.0)

pub returns : goal.returns
returns c = let x = c.args.s.now in
    omega (arith, T.size_of x, ids_size x.read, c.size.ensures, c.own_words-words.ensures, ap (λ (es : List Entry). length (own_rows x.offices es)) c.own_writes.ensures)
