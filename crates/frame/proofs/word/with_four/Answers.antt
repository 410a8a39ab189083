use Rattle.std.proofs.Common.{◌+◌, refl, arith}
use Rattle.frame.specs.Reading.{four_bits}
use Rattle.frame.proofs.Ascents.{ascends_at}
use Rattle.frame.proofs.word.with_four.Goals as goal

pub bit_of-requires : goal.bit_of-requires
bit_of-requires c = let f = (ascends_at 8 0 c.args.ws.now c.requires.1 c.args.i (omega (arith, c.requires.0))).2 in
    omega (arith, f.from)

pub bit_of-requires-2 : goal.bit_of-requires-2
bit_of-requires-2 c = let f = (ascends_at 8 0 c.args.ws.now c.requires.1 (c.args.i + 1) (omega (arith, c.requires.0))).2 in
    omega (arith, f.from)

pub bit_of-requires-3 : goal.bit_of-requires-3
bit_of-requires-3 c = let f = (ascends_at 8 0 c.args.ws.now c.requires.1 (c.args.i + 2) (omega (arith, c.requires.0))).2 in
    omega (arith, f.from)

pub bit_of-requires-4 : goal.bit_of-requires-4
bit_of-requires-4 c = let f = (ascends_at 8 0 c.args.ws.now c.requires.1 (c.args.i + 3) (omega (arith, c.requires.0))).2 in
    omega (arith, f.from)

pub returns : goal.returns
unfolding four_bits
returns c = rw (c.bit_of-4.ensures, c.bit_of-3.ensures, c.bit_of-2.ensures, c.bit_of.ensures) refl
