use Rattle.frame.proofs.TokenTurns as T
use Rattle.frame.proofs.token.owns_from.Given as goal

abbrev pub invariant-loop-place : goal.invariant-loop-place
invariant-loop-place l = T.Turn l.ws l.n l.p l.count l.place-items l.at l.place-index
