use Rattle.store.proofs.Alike.{hold_is}
use Rattle.store.proofs.hold.hold.Goals as goal

pub returns : goal.returns
returns c = hold_is c.args.store.now c.args.e.now c.id_of-k.result c.set_at-held.result c.insert-more.result c.put_entry.new.store c.put.new.store c.id_of-k.ensures c.set_at-held.ensures c.insert-more.ensures c.put_entry.ensures.laid c.put.ensures.laid
