use Rattle.std.proofs.Common.{◌≡◌, ◌%◌, ap, length, arith}
use Rattle.script.proofs.Decimals.{decimal_small, decimal_more, one_more}
use Rattle.script.proofs.Puts.{puts_then}
use Rattle.script.proofs.put.Row.+decimal.Goals as goal
use Rattle.script.proofs.put.Row.+decimal.Goals.{then-v-gt9, else-v-gt9}

pub decimal-requires : goal.decimal-requires
decimal-requires t c = (omega (arith, c.decreases), omega (arith, one_more c.args.v c.if-v-gt9.true))

pub text-requires : goal.text-requires
text-requires t c = elim c.if-v-gt9.branch [
  | then-v-gt9 w ↦ rw w.self-is (omega (arith, one_more c.args.v w.if-v-gt9.true, w.decimal.ensures.put.ends, w.decimal.ensures.room))
  | else-v-gt9 w ↦ rw w.self-is (omega (arith, ap length (decimal_small c.args.v (omega arith))))
]

pub returns : goal.returns
returns t c = elim c.if-v-gt9.branch [
  | then-v-gt9 w ↦ rw (decimal_more c.args.v w.if-v-gt9.true) (puts_then w.decimal.ensures (rw w.self-is at c.text.ensures))
  | else-v-gt9 w ↦ let e : c.args.v % 10 ≡ c.args.v = omega arith in
      rw (decimal_small c.args.v (omega arith)) (rw (w.self-is, e) at c.text.ensures)
]
