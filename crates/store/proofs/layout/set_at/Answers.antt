use Rattle.store.proofs.Eights.{part_eight}
use Rattle.store.proofs.layout.set_at.Goals as goal

pub returns : goal.returns
returns c = part_eight c.args.store.now c.args.at c.requires
