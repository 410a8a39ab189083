use lib.ListN.{length, replicate}
use lib.Seq.{sets}
use Prim.Native.Nat.{◌≤◌}
use mathlib.Core.Path.{◌≡◌}
use Rattle.causal.specs.Lists.{tab}
use Rattle.host.specs.Bytes.{word_at}
use Rattle.host.proofs.frames.read_words.Given as goal

abbrev pub invariant-loop-i : goal.invariant-loop-i
invariant-loop-i l = (l.i ≤ l.n) × (length l.row ≡ 267) × (l.row ≡ sets (replicate 267 0) 0 (tab l.i (word_at l.bytes)))
