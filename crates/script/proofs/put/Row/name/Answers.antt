use Rattle.script.specs.Replies.{name_bytes}
use Rattle.script.proofs.Puts.{puts_then}
use Rattle.script.proofs.put.Row.name.Goals as goal

pub returns : goal.returns
unfolding name_bytes
returns c = puts_then c.decimal.ensures (puts_then c.text.ensures c.decimal-2.ensures)
