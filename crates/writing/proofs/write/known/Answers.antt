use Rattle.office.proofs.Shape.{session_sane}
use Rattle.writing.proofs.write.known.Goals as goal

pub returns : goal.returns
returns c = λ few. session_sane c.args.s _ c.well_formed.0 few
