use mathlib.Core.Path.{◌∙◌}
use Rattle.std.proofs.lemmas.Result.{err_from_is_err_and}
use Rattle.frame.specs.Refusals.{code_of}
use Rattle.reading.specs.Answers.{handed_by, seen_session, session_by}
use Rattle.reading.proofs.read.read_plot.Goals as goal

pub returns-in_err-entry : goal.returns-in_err-entry
unfolding code_of handed_by seen_session session_by
returns-in_err-entry c = let p = err_from_is_err_and c.from_residual.result c.from_residual.ensures.1 in rw (p.1, p.2) c.in_err-entry.ensures

pub returns : goal.returns
unfolding code_of handed_by seen_session session_by
returns c = let h = c.in_ok-entry.ensures in (h.0, h.1, h.2, c.set_seen.ensures ∙ h.3, h.4)
