use Rattle.std.proofs.Common.{length}
use Rattle.std.proofs.Common.{arith}
use mathlib.Core.Path.{ap, subst, sym, ◌∙◌}
use Rattle.std.proofs.lemmas.Bool.Decides.{nat_tests}
use Rattle.office.specs.Calls.{three_words}
use Rattle.reading.specs.Readings.{NamedIn}
use Rattle.reading.proofs.JointReads.{best_named, found_named, none_own}
use Rattle.reading.proofs.answer.handed_words.Goals as goal

pub returns-then-is_empty : goal.returns-then-is_empty
returns-then-is_empty c = c.words_at.ensures ∙ ap three_words (none_own c.args.plot _ c.args.own.now (grind (arith, nat_tests)))

pub three_words-requires : goal.three_words-requires
three_words-requires c = let ws = c.args.store.now in
    subst NamedIn (sym c.best_with.ensures) (best_named c.args.plot _ c.args.own.now (found_named ws (length ws) c.args.place c.requires.0) c.requires.1)

pub returns : goal.returns
returns c = c.three_words.ensures ∙ ap three_words c.best_with.ensures
