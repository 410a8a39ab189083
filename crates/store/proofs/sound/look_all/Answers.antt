use Rattle.causal.proofs.Array.{id_set}
use Rattle.frame.specs.Entries.{clock_ok, under_ok}
use Rattle.store.proofs.Deps.{words_none, words_more, words_fail, words_done, looks_as}
use Rattle.store.proofs.Steps.{front_at, front_end, front_in, front_all}
use Rattle.store.proofs.sound.look_all.Goals as goal

pub slice_bounds-w-items-end : goal.slice_bounds-w-items-end
slice_bounds-w-items-end c = front_all c.args.ids _ (id_set c.args.ids c.well_formed.1.1.1.0).eight c.requires.1

pub loop-i-init : goal.loop-i-init
loop-i-init c = words_none _ _ _ _ _

pub returns-in_err-looked : goal.returns-in_err-looked
returns-in_err-looked c = rw c.from_residual.ensures (
    words_fail c.args.store.now (under_ok c.mosts-most.result) c.args.n c.args.p c.args.ids c.loop-i.i (front_in _ _ _ c.loop-i-test.true)
    (rw (front_at c.args.ids _ c.loop-i.i c.loop-i-test.true) at c.in_err-looked.ensures))

pub loop-i-preserved : goal.loop-i-preserved
loop-i-preserved c =
    words_more c.args.store.now (under_ok c.mosts-most.result) c.args.n c.args.p c.args.ids c.loop-i.i c.loop-i.looked _ c.loop-i.invariant
    (rw (front_at c.args.ids _ c.loop-i.i c.loop-i-test.true) at c.in_ok-looked.ensures)

pub returns : goal.returns
returns c =
    looks_as c.args.store.now (under_ok c.mosts-most.result) c.args.n c.args.p c.args.ids (clock_ok c.args.n) c.mosts-most.ensures _
    (words_done c.args.store.now (under_ok c.mosts-most.result) c.args.n c.args.p c.args.ids c.loop-i.i c.loop-i.looked c.loop-i.invariant
    (front_end c.args.ids _ _ (id_set c.args.ids c.well_formed.1.1.1.0).eight c.requires.1 c.loop-i.auto.i-end c.loop-i-test.false))
