use Rattle.std.proofs.Common.{◌≡◌, length}
use lib.ListN.{drop}
use Rattle.causal.specs.Rank.{higher, rank_of, ranks_above}
use Rattle.causal.proofs.rank.outranks.Given as goal

abbrev pub invariant-loop-x : goal.invariant-loop-x
invariant-loop-x l = ranks_above l.fn.c l.o l.fn.d l.p ≡ higher (rank_of (drop (length l.yielded) l.fn.c) l.o) (rank_of (drop (length l.yielded) l.fn.d) l.p)
