use Rattle.script.specs.Replies.{reply_bytes, numbered}
use Rattle.script.proofs.Puts.{puts_then}
use Rattle.script.proofs.put.Row.reply.Goals as goal
use Rattle.script.proofs.put.Row.reply.Goals.{in-Wrote, in-Found, in-NoEntry, in-Moved, in-Received, in-NoFrame, in-Refused, in-Full, in-Odd}

pub returns-clause-puts : goal.returns-clause-puts
unfolding reply_bytes numbered
returns-clause-puts c =
    let p = c.text-2.ensures in
    elim c.match-reply.branch [
      | in-Wrote w ↦ rw w.in-Wrote.is (puts_then w.text.ensures (puts_then w.name.ensures (rw w.self-is at p)))
      | in-Found w ↦ rw w.in-Found.is
          (puts_then w.text-in-Found.ensures (puts_then w.decimal.ensures (puts_then w.text-in-Found-2.ensures (puts_then w.name-in-Found.ensures (rw w.self-is at p)))))
      | in-NoEntry w ↦ rw w.in-NoEntry.is (puts_then w.text-in-NoEntry.ensures (rw w.self-is at p))
      | in-Moved w ↦ rw w.in-Moved.is (puts_then w.text-in-Moved.ensures (rw w.self-is at p))
      | in-Received w ↦ rw w.in-Received.is (puts_then w.text-in-Received.ensures (puts_then w.decimal-in-Received.ensures (rw w.self-is at p)))
      | in-NoFrame w ↦ rw w.in-NoFrame.is (puts_then w.text-in-NoFrame.ensures (rw w.self-is at p))
      | in-Refused w ↦ rw w.in-Refused.is (puts_then w.text-in-Refused.ensures (puts_then w.decimal-in-Refused.ensures (rw w.self-is at p)))
      | in-Full w ↦ rw w.in-Full.is (puts_then w.text-in-Full.ensures (rw w.self-is at p))
      | in-Odd w ↦ rw w.in-Odd.is (puts_then w.text-in-Odd.ensures (rw w.self-is at p))
    ]
