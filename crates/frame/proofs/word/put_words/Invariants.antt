use Rattle.std.proofs.Common.{◌≡◌, ℕ, ◌%◌, ◌<◌, List, length, get_or}
use lib.Seq.{sets}
use Rattle.frame.specs.Words.{total}
use Rattle.frame.proofs.word.put_words.Given as goal

abbrev pub invariant-loop-j : goal.invariant-loop-j
invariant-loop-j g l =
    (ws : List ℕ)
    × (length ws ≡ l.j)
    × ((j : ℕ) → j < l.j → goal.F-post g l.word j (get_or ws j 0))
    × (l.sum % 268435456 ≡ total ws % 268435456)
    × (l.out ≡ sets l.fn.out l.at ws)
