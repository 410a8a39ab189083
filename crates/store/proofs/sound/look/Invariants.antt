use Rattle.std.proofs.Common.{ℕ}
use Rattle.frame.specs.Entries.{under_ok}
use Rattle.causal.proofs.Walk.{Passed}
use Rattle.store.proofs.Deps.{Below}
use Rattle.store.proofs.sound.look.Given as goal

abbrev pub invariant-loop-b : goal.invariant-loop-b
invariant-loop-b l = (b : ℕ) × Passed l.w b l.b-iterator.0 × Below l.store (under_ok l.most) l.p l.i l.w l.fn.before.bad l.fn.before.deps b l.looked.bad l.looked.deps
