use Rattle.std.proofs.Common.{◌≡◌, ℕ, ◌+◌, ◌*◌, ◌%◌, length}
use lib.Seq.{sets}
use Rattle.causal.proofs.Walk.{Passed}
use Rattle.frame.specs.Words.{id_words_in, total}
use Rattle.frame.proofs.word.put_each.Given as goal

abbrev pub invariant-loop-rest : goal.invariant-loop-rest
invariant-loop-rest l = (l.first ≡ 1610612737 + 256 * l.j) × (length l.out ≡ length l.initial.out) × ((b : ℕ) × (Passed l.w b l.rest) × (l.to ≡ l.at + length (id_words_in l.j l.w b)) × (l.out ≡ sets l.initial.out l.at (id_words_in l.j l.w b)) × (l.sum % 268435456 ≡ total (id_words_in l.j l.w b) % 268435456))

abbrev pub decreases-loop-rest : goal.decreases-loop-rest
decreases-loop-rest l = l.rest
