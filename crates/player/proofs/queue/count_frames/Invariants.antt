use Prim.Native.Nat.{ℕ, ◌-◌, ◌≤◌}
use mathlib.Core.Path.{◌≡◌}
use Rattle.player.specs.Desks.{Cut, start_of}
use Rattle.player.proofs.queue.count_frames.Given as goal

abbrev pub invariant-loop-at : goal.invariant-loop-at
invariant-loop-at l = (l.at ≡ start_of l.row l.n) × (l.n ≤ l.at) × (l.at ≤ 4400) × ((m : ℕ) → Cut l.row l.words m → l.n ≤ m)

abbrev pub decreases-loop-at : goal.decreases-loop-at
decreases-loop-at l = l.words - l.at
