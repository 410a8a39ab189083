use Rattle.player.specs.Desks.{desk}
use Rattle.player.proofs.PlayReceive as pr
use Rattle.player.proofs.play.receive_line.Goals as goal

pub returns-then-count-eq0 : goal.returns-then-count-eq0
returns-then-count-eq0 c = λ ss g T. pr.receive_none g (desk ss c.args.board) c.args.stores.now c.args.lines.now T c.args.office c.requires.0 c.args.out.now c.if-count-eq0.true
