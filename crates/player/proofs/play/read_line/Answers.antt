use Rattle.player.specs.Desks.{desk}
use Rattle.player.proofs.LineRead as rd
use Rattle.player.proofs.play.read_line.Goals as goal

pub returns-in-Ok : goal.returns-in-Ok
returns-in-Ok c = λ ss row lines g own S.
    let a = c.args in
    let q = c.read_at in
    let d = desk ss a.board in
    let x = c.in-Ok.field-0 in
    rw c.reply_of.ensures
    (rd.line_done g d a.stores.now lines S a.i c.requires.0 a.s.now own a.plot row q.new.stores q.ensures.1 x.entry _
    (rd.seen_done (rd.Promised g d a.stores.now lines S a.i c.requires.0 a.s.now own a.plot row q.new.stores q.ensures.1) a.s.now q.result x c.in-Ok.is q.ensures.0))

pub returns-in-Err : goal.returns-in-Err
returns-in-Err c = λ ss row lines g own S.
    let a = c.args in
    let q = c.read_at in
    let d = desk ss a.board in
    rw c.from.ensures
    (rd.line_refused g d a.stores.now lines S a.i c.requires.0 a.s.now own a.plot row q.new.stores q.ensures.1 c.in-Err.refusal
    (rd.seen_refused (rd.Promised g d a.stores.now lines S a.i c.requires.0 a.s.now own a.plot row q.new.stores q.ensures.1) a.s.now q.result c.in-Err.refusal c.in-Err.is q.ensures.0))
