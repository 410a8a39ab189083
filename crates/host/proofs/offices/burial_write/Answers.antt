use Prim.Native.Nat.{ℕ}
use mathlib.Core.Path.{◌∙◌, ap}
use Rattle.frame.specs.Refusals.{Reply, reply_of}
use Rattle.writing.specs.Answers.{session_by, wrote_by}
use Rattle.host.proofs.offices.burial_write.Goals as goal

pub returns : goal.returns
unfolding reply_of session_by wrote_by
returns c = c.in-Ok.ensures

pub returns-in-Err : goal.returns-in-Err
unfolding reply_of session_by wrote_by
returns-in-Err c = let h = c.in-Err.ensures in
    let refused : ℕ → Reply = λ k. record { code = k; words = 0 } in (ap refused c.from.ensures ∙ h.0, h.1, h.2, h.3)
