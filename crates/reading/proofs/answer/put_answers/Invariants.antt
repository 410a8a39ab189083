use Prim.Native.Nat.{◌*◌}
use mathlib.Core.Path.{◌≡◌}
use lib.ListN.{length}
use lib.Seq.{sets}
use Rattle.reading.specs.Readings.{handed_among, words_to}
use Rattle.reading.proofs.answer.put_answers.Given as goal

abbrev pub invariant-loop-plot : goal.invariant-loop-plot
invariant-loop-plot l = (length l.answer ≡ length l.initial.answer) × (l.at ≡ 3 * length l.yielded) × (l.answer ≡ sets l.initial.answer 0 (words_to (handed_among l.store l.own l.plots l.places) (length l.yielded)))
