use mathlib.Core.Path.{◌≡◌}
use Rattle.reading.specs.Readings.{found_among, seen_to}
use Rattle.reading.proofs.joint.note_all.Given as goal

abbrev pub invariant-loop-place : goal.invariant-loop-place
invariant-loop-place l = l.seen ≡ seen_to (found_among l.store l.places) l.place-index l.initial.seen
