use Rattle.std.proofs.Common.{sym, refl, arith, le-ltb, lt-ltb}
use Rattle.causal.specs.Tests.{both}
use Rattle.frame.specs.Reading.{next_ok}
use Rattle.frame.proofs.word.not_next.Goals as goal

pub returns-then-w-before : goal.returns-then-w-before
unfolding next_ok both
returns-then-w-before c = let z = c.args in rw (le-ltb z.before z.w (omega (arith, c.if-w-before.true))) refl

pub returns : goal.returns
unfolding next_ok both
returns c = let z = c.args in sym (rw (lt-ltb z.before z.w (omega (arith, c.if-w-before.false))) refl)
