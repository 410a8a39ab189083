use Rattle.ring.proofs.Fit.{next_step, next_wrap}
use mathlib.Core.Path.{◌∙◌, sym}
use native.Mathlib.Omega.{arith}
use native.Mathlib.Numerals.{add-one}
use Rattle.player.proofs.queue.next_of.Goals as goal

pub returns-then-office-lt3 : goal.returns-then-office-lt3
returns-then-office-lt3 c = let o = c.args.office in add-one o ∙ sym (next_step 3 o (omega arith))

pub returns : goal.returns
returns c = let o = c.args.office in sym (next_wrap 3 o (omega (arith, c.requires)))
