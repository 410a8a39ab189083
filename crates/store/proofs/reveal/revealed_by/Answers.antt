use Rattle.std.proofs.Common.{◌≡◌, ℕ, ◌*◌, true, List, get_or, sym, ap, ◌∙◌, arith}
use Rattle.causal.specs.Lists.{part}
use Rattle.causal.specs.Sets.{subset_of}
use Rattle.causal.proofs.Array.{id_set}
use Rattle.store.specs.Reveal.{revealed}
use Rattle.store.proofs.Rules.{rules_of}
use Rattle.store.proofs.Reached.{all_shown, step_end}
use Rattle.store.proofs.Ready.{deps_in, ready}
use Rattle.store.proofs.reveal.revealed_by.Goals as goal

pub set_at-visible-requires : goal.set_at-visible-requires
set_at-visible-requires c = let r = rules_of c.args.store.now c.requires.0 in
    omega (arith, r.laid.long)

pub returns-then-subset : goal.returns-then-subset
unfolding revealed
returns-then-subset c = let ws = c.args.store.now in
    let seeds = c.args.seeds in
    let ids = id_set seeds c.well_formed.1.0 in
    let shown = (ready ws (λ i. (c.type_inv.store i).fits) c.requires.0 seeds ids c.requires.1).visible_set in
    let all : subset_of seeds (part ws 11 8) ≡ true = ap (subset_of seeds) (sym c.set_at-visible.ensures) ∙ sym c.subset.ensures ∙ c.if-subset.true in
    let none = step_end (32 * get_or ws 0 0) (deps_in ws) seeds (part ws 11 8) 0 (all_shown seeds (part ws 11 8) ids shown all) in
    ap (λ (l : List ℕ). record { visible = l; steps = 0 }) c.set_at-visible.ensures ∙ sym none

pub returns : goal.returns
returns c = c.reveal_on.ensures
