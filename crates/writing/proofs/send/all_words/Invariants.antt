use Prim.Native.Nat.{◌+◌}
use mathlib.Core.Path.{◌≡◌}
use lib.ListN.{length, drop}
use Rattle.writing.specs.Writes.{all_frames}
use Rattle.writing.proofs.send.all_words.Given as goal

-- with what is still to send, it is all
abbrev pub invariant-loop-own_write : goal.invariant-loop-own_write
invariant-loop-own_write l = l.words + length (all_frames l.held l.n (drop l.own_write-index l.own) l.e) ≡ length (all_frames l.held l.n l.own l.e)
