use Prim.Native.Nat.{◌+◌}
use mathlib.Core.Path.{◌≡◌}
use lib.ListN.{length, drop}
use lib.Seq.{sets}
use Rattle.writing.specs.Writes.{all_frames}
use Rattle.writing.proofs.send.put_all.Given as goal

-- with what is still to send put behind, it is all
abbrev pub invariant-loop-own_write : goal.invariant-loop-own_write
invariant-loop-own_write l =
    (l.at + length (all_frames l.held l.n (drop l.own_write-index l.own) l.e) ≡ length (all_frames l.held l.n l.own l.e))
    × (sets l.out l.at (all_frames l.held l.n (drop l.own_write-index l.own) l.e) ≡ sets l.initial.out 0 (all_frames l.held l.n l.own l.e))
