use Rattle.std.proofs.Common.{◌≡◌, ◌+◌, ◌*◌, ◌%◌, length}
use lib.Seq.{sets}
use Rattle.frame.specs.Words.{id_words_to, total}
use Rattle.frame.proofs.word.put_ids.Given as goal

abbrev pub invariant-loop-j : goal.invariant-loop-j
invariant-loop-j l =
    (l.to ≡ l.at + length (id_words_to l.fn.ids (32 * l.j)))
    × (l.sum % 268435456 ≡ total (id_words_to l.fn.ids (32 * l.j)) % 268435456)
    × (l.out ≡ sets l.fn.out l.at (id_words_to l.fn.ids (32 * l.j)))
