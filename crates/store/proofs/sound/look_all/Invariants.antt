use Rattle.frame.specs.Entries.{under_ok}
use Rattle.store.proofs.Deps.{Upto}
use Rattle.store.proofs.sound.look_all.Given as goal

abbrev pub invariant-loop-i : goal.invariant-loop-i
invariant-loop-i l = Upto l.store (under_ok l.most) l.n l.p l.fn.ids l.i l.looked
