use Rattle.writing.specs.Writes.{started}
use Rattle.frame.proofs.Entries.{frame_facts}
use Rattle.writing.proofs.Sends.{skip_turn, send_fits, send_turn}
use Rattle.writing.proofs.send.put_turn.Goals as goal

pub returns-then-contains : goal.returns-then-contains
returns-then-contains c = skip_turn c.args.held c.args.n c.args.e.now _ _ c.id_of.ensures c.contains.ensures c.args.at c.args.out.now c.if-contains.true

pub started-requires : goal.started-requires
started-requires c = (frame_facts c.args.n 64 (started c.args.n c.args.e.now) c.requires.0).low

pub put_frame-requires : goal.put_frame-requires
put_frame-requires c = send_fits c.args.held c.args.n c.args.e.now _ _ c.id_of.ensures c.contains.ensures c.started.result c.args.at _ c.if-contains.false c.started.ensures c.requires.0 c.requires.1

pub returns : goal.returns
returns c = send_turn c.args.held c.args.n c.args.e.now _ _ c.id_of.ensures c.contains.ensures c.started.result c.args.at _ c.args.out.now _ c.if-contains.false c.started.ensures c.put_frame.ensures.0 c.put_frame.ensures.1
