use Rattle.std.proofs.Common.{◌≡◌, ℕ, ◌*◌, ◌<◌, length, get_or, ap, ◌∙◌, arith}
use Rattle.causal.specs.Lists.{part}
use Rattle.causal.proofs.Lists.{part_length}
use Rattle.store.proofs.Rules.{rules_of, reach_word}
use Rattle.store.proofs.Steps.{front_at, front_end, front_in, front_all}
use Rattle.store.proofs.Joins.{tops_next, tops_none, clock_is}
use Rattle.store.proofs.Ready.{entry_visible}
use Rattle.store.specs.Tops.{tops_to}
use Rattle.store.proofs.clock.office_clock.Goals as goal

pub loop-i-init : goal.loop-i-init
loop-i-init c = tops_none c.args.store.now _

pub tops_in-more-requires : goal.tops_in-more-requires
tops_in-more-requires c =
    let r = rules_of c.args.store.now c.requires in
    let e : length (part c.args.store.now 11 8) ≡ 8 = part_length _ _ _ (omega (arith, r.laid.long)) in
    let m : c.loop-i.i < get_or c.args.store.now 0 0 = front_in _ _ _ c.loop-i-test.true in
    rw (front_at c.set_at-visible.result _ c.loop-i.i c.loop-i-test.true, c.set_at-visible.ensures)
    (omega (arith, r.laid.few), reach_word c.args.store.now (part c.args.store.now 11 8) r e r.visible_held c.loop-i.i)

pub loop-i-preserved : goal.loop-i-preserved
loop-i-preserved c = tops_next c.args.store.now (part c.args.store.now 11 8) c.loop-i.i c.loop-i.tops _ c.loop-i.invariant (rw (front_at c.set_at-visible.result _ c.loop-i.i c.loop-i-test.true, c.set_at-visible.ensures) at c.tops_in-more.ensures)

pub returns : goal.returns
returns c =
    let ws = c.args.store.now in
    let r = rules_of ws c.requires in
    let e : length c.set_at-visible.result ≡ 8 = ap length c.set_at-visible.ensures ∙ part_length _ _ _ (omega (arith, r.laid.long)) in
    let q : c.loop-i.i ≡ get_or ws 0 0 = front_end c.set_at-visible.result _ _ e r.laid.few c.loop-i.auto.i-end c.loop-i-test.false in
    clock_is ws (entry_visible ws r) c.made-count.result c.loop-i.tops c.made-count.ensures (omega (arith, r.laid.few, r.laid.own))
    (c.loop-i.invariant ∙ ap (λ (m : ℕ). tops_to ws (part ws 11 8) (32 * m)) q)

pub slice_bounds-w-items-end : goal.slice_bounds-w-items-end
slice_bounds-w-items-end c =
    let r = rules_of c.args.store.now c.requires in
    front_all c.set_at-visible.result _ (ap length c.set_at-visible.ensures ∙ part_length _ _ _ (omega (arith, r.laid.long))) r.laid.few
