use native.Mathlib.Omega.{arith}
use Prim.Native.Nat.{ℕ}
use mathlib.Core.Path.{ap, ◌∙◌}
use mathlib.Core.List.{List}
use lib.Seq.{sets}
use Rattle.causal.specs.Lists.{part}
use Rattle.causal.specs.Sets.{subset_of}
use Rattle.store.specs.Offices.{office_of, reveal}
use Rattle.store.proofs.Rules.{laid}
use Rattle.store.proofs.Changes.{revealed_visible}
use Rattle.hearing.proofs.receive.reveal_id.Goals as goal

pub revealed_by-requires : goal.revealed_by-requires
revealed_by-requires c = (c.requires.0, ap (λ (x : List ℕ). subset_of x (part c.args.store.now 3 8)) c.insert-seeds.ensures ∙ c.requires.1)

pub show-requires : goal.show-requires
show-requires c = let q = laid c.args.store.now c.requires.0 in
    omega (arith, q.long)

pub returns : goal.returns
returns c = let ws = c.args.store.now in
    c.show.ensures ∙ ap (sets ws 11) (revealed_visible ws c.insert-seeds.result c.revealed_by.result c.revealed_by.ensures ∙ ap (λ (x : List ℕ). (reveal (office_of ws) x).visible) c.insert-seeds.ensures)
