use Rattle.std.proofs.lemmas.Result.{err_from_is_err_and}
use Rattle.frame.specs.Refusals.{code_of}
use Rattle.office.specs.Decide.{with_seen}
use Rattle.reading.proofs.joint.read_joint.Goals as goal

pub returns-in_err-seen : goal.returns-in_err-seen
unfolding code_of with_seen
returns-in_err-seen c = let p = err_from_is_err_and c.from_residual.result c.from_residual.ensures.1 in rw (p.1, p.2) c.in_err-seen.ensures

pub returns : goal.returns
unfolding code_of with_seen
returns c = let h = c.in_ok-seen.ensures in (h.0, h.1, h.2, h.3)
