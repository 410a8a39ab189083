use Prim.Native.Nat.{◌+◌}
use lib.ListN.{get_or, set, length-set}
use native.Mathlib.Omega.{arith}
use Rattle.reading.proofs.JointReads.{three_sets}
use Rattle.reading.proofs.answer.put_three.Goals as goal

pub bounds-answer-at-2 : goal.bounds-answer-at-2
bounds-answer-at-2 c = omega (arith, length-set c.args.answer.now c.args.at (get_or c.args.three 0 0), c.requires)

pub bounds-answer-at-3 : goal.bounds-answer-at-3
bounds-answer-at-3 c = let one = set c.args.answer.now c.args.at (get_or c.args.three 0 0) in
    omega (arith, length-set c.args.answer.now c.args.at (get_or c.args.three 0 0), length-set one (c.args.at + 1) (get_or c.args.three 1 0), c.requires)

pub returns : goal.returns
returns c = three_sets c.args.answer.now c.args.at c.args.three c.well_formed.0.1.0.1
