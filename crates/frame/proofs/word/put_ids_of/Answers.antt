use Rattle.std.proofs.Common.{ℕ, ◌%◌, List, sym, ap, ◌∙◌, arith}
use lib.Count.{count_leading_zeros, leading_le, leading_top}
use lib.Seq.{sets}
use Rattle.frame.proofs.Turns.{run_is, run_length}
use Rattle.frame.specs.Words.{total}
use Rattle.frame.proofs.word.put_ids_of.Goals as goal

pub overflow_shr-free : goal.overflow_shr-free
overflow_shr-free c = let w = c.args.w in let t = leading_top 32 w (omega (arith, c.if-w-lt256.false)) (omega arith) in omega (arith, t.1)

pub overflow_cast-count : goal.overflow_cast-count
overflow_cast-count c = omega (arith, leading_le 32 c.args.w)

pub overflow_sub-count : goal.overflow_sub-count
overflow_sub-count c = omega (arith, leading_le 32 c.args.w)

pub put_run-sum-requires : goal.put_run-sum-requires
put_run-sum-requires c = let z = c.args in let l = run_length z.j z.w (count_leading_zeros 32 z.w) (leading_le 32 z.w) c.if-w-free.false in (omega arith, omega arith, omega (arith, l, c.requires.1))

pub returns : goal.returns
returns c = let z = c.args in let f = count_leading_zeros 32 z.w in
    let l = run_length z.j z.w f (leading_le 32 z.w) c.if-w-free.false in
    let r = run_is z.j z.w f (leading_le 32 z.w) c.if-w-free.false in
    (omega (arith, l), c.put_run-sum.ensures.0 ∙ ap (λ (o : List ℕ). total o % 268435456) (sym r), c.put_run-sum.ensures.1 ∙ ap (sets z.out.now z.at) (sym r))
