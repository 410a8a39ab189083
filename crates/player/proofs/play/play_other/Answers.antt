use Rattle.player.specs.Desks.{desk}
use Rattle.player.proofs.PlayMove as mv
use Rattle.player.proofs.play.play_other.Goals as goal

pub returns-then-office-gt2 : goal.returns-then-office-gt2
returns-then-office-gt2 c = λ ss g T.
    let a = c.args in
    rw c.in-Receive.is (mv.receive_odd g (desk ss a.board) a.stores.now a.lines.now T a.out.now c.in-Receive.office c.if-office-gt2.true)

pub returns-in-Move : goal.returns-in-Move
returns-in-Move c = λ ss g T.
    let a = c.args in
    rw c.in-Move.is (c.move_line.ensures ss a.out.now a.stores.now a.lines.now g T)

pub returns-else-office-gt2 : goal.returns-else-office-gt2
returns-else-office-gt2 c = λ ss g T.
    let a = c.args in
    rw c.in-Receive.is (c.receive_line.ensures ss g T)

pub returns-in_default : goal.returns-in_default
returns-in_default c = λ ss g T.
    let a = c.args in
    let odd = mv.odd_line a.line c.in_default.not-Move c.in_default.not-Receive in
    rw odd (mv.other_odd g (desk ss a.board) a.stores.now a.lines.now T a.out.now)
