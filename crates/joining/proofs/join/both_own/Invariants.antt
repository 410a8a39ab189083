use Rattle.std.proofs.Common.{◌≡◌, ◌+◌, ◌≤◌, ◌++◌, length}
use Rattle.causal.specs.Sets.{is_in}
use Rattle.frame.specs.Entries.{id_of}
use Rattle.frame.specs.Sessions.{filled}
use Rattle.joining.proofs.Turns as T
use Rattle.joining.proofs.join.both_own.Given as goal

abbrev pub invariant-loop-e : goal.invariant-loop-e
invariant-loop-e l =
    (l.count ≡ length l.first + length (T.Left (λ e. is_in l.ids (id_of e)) l.second (l.fn.front + l.e-index)))
    × (l.count ≤ 16 → l.own ≡ filled (l.first ++ T.Left (λ e. is_in l.ids (id_of e)) l.second (l.fn.front + l.e-index)))
