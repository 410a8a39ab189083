use Rattle.std.proofs.Common.{◌≡◌, ℕ}
use Rattle.causal.proofs.Walk.{Passed}
use Rattle.store.specs.Tops.{tops_in}
use Rattle.store.proofs.clock.tops_in.Given as goal

abbrev pub invariant-loop-b : goal.invariant-loop-b
invariant-loop-b l = (b : ℕ) × Passed l.w b l.b-iterator.0 × (l.tops ≡ tops_in l.store l.i l.w b l.initial.tops)
