use Rattle.std.proofs.Common.{◌≡◌, ℕ, ◌*◌, ◌<◌, length, get_or, ap, ◌∙◌, arith}
use Rattle.causal.proofs.Array.{id_set}
use Rattle.store.specs.Current.{place_to, current_at}
use Rattle.store.proofs.Places.{place_next, place_none, place_in_slots}
use Rattle.store.proofs.Rules.{rules_of, reaches, reach_word}
use Rattle.store.proofs.Steps.{front_at, front_end, front_in, front_all}
use Rattle.store.proofs.current.current.Goals as goal

pub loop-i-init : goal.loop-i-init
loop-i-init c = place_none c.args.store.now c.args.visible c.args.plot

pub best_in-best-requires : goal.best_in-best-requires
best_in-best-requires c =
    let r = rules_of c.args.store.now c.requires.0 in
    let e : length c.args.visible ≡ 8 = (id_set c.args.visible c.well_formed.1.0).eight in
    let m : c.loop-i.i < get_or c.args.store.now 0 0 = front_in _ _ _ c.loop-i-test.true in
    rw (front_at c.args.visible _ c.loop-i.i c.loop-i-test.true, c.loop-i.invariant) (
      omega (arith, r.laid.few),
      reach_word c.args.store.now c.args.visible r e c.requires.1 c.loop-i.i,
      place_in_slots c.args.store.now c.args.visible c.args.plot (length c.args.store.now)
          (λ k h. let g = reaches c.args.store.now c.args.visible r e c.requires.1 k h in (g.small, g.reach)) (32 * c.loop-i.i),
    )

pub loop-i-preserved : goal.loop-i-preserved
loop-i-preserved c = place_next c.args.store.now c.args.visible c.args.plot c.loop-i.i c.loop-i.best _ c.loop-i.invariant (rw (front_at c.args.visible _ c.loop-i.i c.loop-i-test.true) at c.best_in-best.ensures)

pub returns : goal.returns
unfolding current_at
returns c =
    let r = rules_of c.args.store.now c.requires.0 in
    let e : length c.args.visible ≡ 8 = (id_set c.args.visible c.well_formed.1.0).eight in
    let q : c.loop-i.i ≡ get_or c.args.store.now 0 0 = front_end c.args.visible _ _ e r.laid.few c.loop-i.auto.i-end c.loop-i-test.false in
    c.loop-i.invariant ∙ ap (λ (m : ℕ). place_to c.args.store.now c.args.visible c.args.plot (32 * m)) q

pub slice_bounds-w-items-end : goal.slice_bounds-w-items-end
slice_bounds-w-items-end c = front_all c.args.visible _ (id_set c.args.visible c.well_formed.1.0).eight (rules_of c.args.store.now c.requires.0).laid.few
