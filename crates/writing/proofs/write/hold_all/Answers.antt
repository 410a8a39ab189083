use mathlib.Core.Path.{ap, ◌∙◌}
use mathlib.Core.List.{List}
use Prim.Native.Nat.{ℕ}
use Rattle.store.specs.Slots.{hold_words}
use Rattle.writing.proofs.write.hold_all.Goals as goal

pub returns : goal.returns
returns c = c.hold.ensures ∙ ap (λ (x : List ℕ). hold_words x c.args.e.now) c.hold_own.ensures
