use Prim.Native.Nat.{◌+◌}
use mathlib.Core.Path.{◌∙◌, refl}
use native.Mathlib.Omega.{arith}
use lib.ListN.{length-set, set}
use Rattle.causal.proofs.Copies.{copied}
use Rattle.player.proofs.Cuts as cuts
use Rattle.player.proofs.queue.push_frame.Goals as goal

pub returns : goal.returns
returns c = let a = c.args in
    copied (set a.lines.now a.slot a.len) (a.slot + 1) _ c.copy_from_slice.new.self a.row.now a.at a.len (a.at + a.len) c.copy_from_slice.ensures.after refl (omega arith) c.requires.2 (simp length-set (omega arith))
    ∙ cuts.push_one a.lines.now a.row.now a.slot a.at a.len c.requires.2
