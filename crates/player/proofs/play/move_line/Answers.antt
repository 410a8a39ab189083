use mathlib.Core.Path.{subst, sym}
use Rattle.player.proofs.PlayMove as mv
use Rattle.player.specs.Desks.{Desk, desk}
use Rattle.player.specs.Steps.{Plays}
use Rattle.script.specs.declared.line.Line.TheVariants.{Move}
use Rattle.script.specs.declared.reply.Reply.TheVariants.{Moved}
use Rattle.player.proofs.play.move_line.Goals as goal
use Rattle.player.proofs.play.move_line.Goals.{then-i-gt3-via-else-i-gt3+then-office-gt2, then-i-gt3-via-then-i-gt3}

pub returns-then-i-gt3 : goal.returns-then-i-gt3
returns-then-i-gt3 c = λ ss row stores lines g S.
    elim c.then-i-gt3.branch [
      | then-i-gt3-via-then-i-gt3 w ↦ mv.move_odd g (desk ss c.args.board) stores lines S row c.args.i c.args.office w.if-i-gt3.true
      | then-i-gt3-via-else-i-gt3+then-office-gt2 w ↦ mv.move_far g (desk ss c.args.board) stores lines S row c.args.i c.args.office w.if-i-gt3.false w.if-office-gt2.true
    ]

pub returns : goal.returns
returns c = λ ss row stores lines g S. subst (λ (d : Desk). Plays row g (Move c.args.i c.args.office) (record { desk = d; reply = Moved }) stores lines) (sym (c.with_place.ensures ss)) (mv.move_done g (desk ss c.args.board) stores lines S row c.args.i c.args.office c.if-i-gt3.false c.if-office-gt2.false)
