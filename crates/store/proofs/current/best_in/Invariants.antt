use Rattle.std.proofs.Common.{◌≡◌, ℕ, length}
use Rattle.causal.proofs.Walk.{Passed}
use Rattle.store.specs.Current.{InSlots, place_in}
use Rattle.store.proofs.current.best_in.Given as goal

abbrev pub invariant-loop-b : goal.invariant-loop-b
invariant-loop-b l = (b : ℕ) × Passed l.w b l.b-iterator.0 × InSlots (length l.store) l.best × (l.best ≡ place_in l.store l.plot l.i l.w b l.initial.best)
