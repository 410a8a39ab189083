use mathlib.Core.Path.{◌≡◌}
use lib.ListN.{length}
use Rattle.reading.specs.Readings.{PlacesTo}
use Rattle.reading.proofs.joint.places_of.Given as goal

abbrev pub invariant-loop-i : goal.invariant-loop-i
invariant-loop-i l = (length l.places ≡ length l.initial.places) × PlacesTo l.store l.visible l.plots l.i l.places
