use Prim.Native.Nat.{◌≤◌}
use mathlib.Core.Path.{◌≡◌}
use lib.ListN.{length}
use Rattle.player.specs.Desks.{pushed, start_of}
use Rattle.player.proofs.queue.push_frames.Given as goal

abbrev pub invariant-loop-k : goal.invariant-loop-k
invariant-loop-k l = (l.k ≤ l.n) × (l.at ≡ start_of l.row l.k) × (length l.lines ≡ 9984) × (l.lines ≡ pushed l.initial.lines l.office l.q l.row l.k)
