use Prim.Native.Nat.{ℕ, ◌+◌, ◌-◌, ◌≤◌}
use mathlib.Core.Bool.{true}
use mathlib.Core.List.{List}
use mathlib.Core.Path.{◌≡◌}
use lib.ListN.{length}
use Rattle.causal.specs.Lists.{part}
use Rattle.script.specs.Pendings.{pending_of}
use Rattle.player.specs.Play.{Scene}
use Rattle.player.specs.Shows.{Shows}
use Rattle.ring_program.specs.Fed.{Follows, desk_of, fed}
use Rattle.ring_program.proofs.feed.feed_some.Given as goal

abbrev pub invariant-loop-i : goal.invariant-loop-i
invariant-loop-i l = (l.initial.i ≤ l.i) × (l.i ≤ length l.bytes) × (length l.out ≡ length l.initial.out) × (length l.text ≡ length l.initial.text) × (length l.stores ≡ length l.initial.stores) × (length l.lines ≡ length l.initial.lines) × (l.stage.at ≤ length l.text) × (l.i ≡ l.initial.i → l.stage.at + 40 ≤ length l.text) × (l.stage.wrote ≡ true)
    × ((g : Scene) (bs : List ℕ) → Shows g (desk_of l.initial.stage) l.initial.stores l.initial.lines → l.initial.stage.pending ≡ pending_of bs
    → Follows (fed g bs (part l.bytes l.initial.i (l.i - l.initial.i))) l.initial.stage.at l.initial.text l.stage l.stores l.lines l.text)

abbrev pub decreases-loop-i : goal.decreases-loop-i
decreases-loop-i l = length l.bytes - l.i
