use Rattle.writing.proofs.Writes.{wrote_few}
use Rattle.lent.proofs.calls.write.Goals as goal

pub extend-requires : goal.extend-requires
extend-requires c = let z = c.args in
    wrote_few z.store.now z.s.now z.plot z.value z.out.now c.in_ok-made.made _ _ c.in_ok-made.ensures
