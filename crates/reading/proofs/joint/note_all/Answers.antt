use mathlib.Core.Path.{refl}
use Rattle.reading.specs.Readings.{found_among, seen_to}
use Rattle.reading.proofs.JointReads.{seen_more}
use Rattle.reading.proofs.joint.note_all.Goals as goal

pub loop-place-init : goal.loop-place-init
unfolding seen_to
loop-place-init c = refl

pub loop-place-preserved : goal.loop-place-preserved
unfolding found_among
loop-place-preserved c = seen_more (found_among c.args.store.now c.args.places.now) _ _ _ c.loop-place.place-index c.loop-place.invariant c.note-seen.ensures
