use Rattle.std.proofs.Common.{ℕ, ◌+◌, set, ap, arith, length-take}
use Rattle.frame.proofs.word.put_sum.Goals as goal

pub slice_bounds-check_sum-end-2 : goal.slice_bounds-check_sum-end-2
slice_bounds-check_sum-end-2 c = simp length-take (omega (arith, c.requires))

pub returns : goal.returns
returns c = ap (λ (x : ℕ). set c.args.out.now c.args.end (4026531840 + x)) c.check_sum-sum.ensures
