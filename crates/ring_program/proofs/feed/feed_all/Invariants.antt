use Prim.Native.Nat.{ℕ, ◌-◌, ◌≤◌}
use mathlib.Core.Bool.{true}
use mathlib.Core.List.{List}
use mathlib.Core.Path.{◌≡◌}
use lib.ListN.{length}
use Rattle.causal.specs.Lists.{part}
use Rattle.script.specs.Pendings.{pending_of}
use Rattle.player.specs.Play.{Scene}
use Rattle.player.specs.Shows.{Shows}
use Rattle.ring_program.specs.Fed.{Leads, desk_of, fed}
use Rattle.ring_program.proofs.feed.feed_all.Given as goal

abbrev pub invariant-loop-from : goal.invariant-loop-from
invariant-loop-from l = (l.from ≤ length l.bytes) × (length l.out ≡ length l.initial.out) × (length l.text ≡ length l.initial.text) × (length l.stores ≡ length l.initial.stores) × (length l.lines ≡ length l.initial.lines) × (l.stage.at ≡ 0) × (l.stage.wrote ≡ true)
    × ((g : Scene) (bs : List ℕ) → Shows g (desk_of l.initial.stage) l.initial.stores l.initial.lines → l.initial.stage.pending ≡ pending_of bs → Leads (fed g bs (part l.bytes 0 l.from)) l.stage l.stores l.lines)

abbrev pub decreases-loop-from : goal.decreases-loop-from
decreases-loop-from l = length l.bytes - l.from
