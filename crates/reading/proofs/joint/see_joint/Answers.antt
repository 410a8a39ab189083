use Rattle.std.proofs.Common.{length-take-le}
use native.Mathlib.Omega.{arith}
use Prim.Native.Nat.{ℕ, ◌≤◌}
use mathlib.Core.List.{List}
use mathlib.Core.Path.{ap, subst, sym, ◌∙◌}
use lib.ListN.{length, take}
use lib.Seq.{sets}
use Rattle.frame.specs.declared.entry.Entry.{Entry}
use Rattle.frame.specs.Refusals.{code_of}
use Rattle.frame.specs.Sessions.{content_of}
use Rattle.store.proofs.Rules.{laid}
use Rattle.office.specs.Decide.{seen_of}
use Rattle.reading.specs.Readings.{OwnNamed, found_among, handed_among, seen_to, words_to}
use Rattle.reading.proofs.JointReads.{joint_accepted, joint_refused, places_front, sighted, stands_own, starts}
use Rattle.reading.proofs.joint.see_joint.Goals as goal

-- q: what is known where nothing is refused; L: what is current on each plot then

pub returns-in_err-may_read : goal.returns-in_err-may_read
unfolding code_of
returns-in_err-may_read c = joint_refused c.args.store.now c.args.s.now c.args.plots.now c.args.answer.now c.from_residual.result _ c.from_residual.ensures.1 c.in_err-may_read.ensures

pub shown_by-visible-requires : goal.shown_by-visible-requires
unfolding code_of
shown_by-visible-requires c = let q = starts c.args.store.now c.args.s.now c.args.plots.now (length c.args.answer.now) (sym c.in_ok-may_read.ensures) in
    (q.sound, q.held)

pub places_of-requires : goal.places_of-requires
unfolding code_of
places_of-requires c = let ws = c.args.store.now in
    let s = c.args.s.now in
    let q = starts ws s c.args.plots.now (length c.args.answer.now) (sym c.in_ok-may_read.ensures) in
    (q.sound, c.shown_by-visible.ensures.held, q.short)

pub slice_bounds-places-end : goal.slice_bounds-places-end
unfolding code_of
slice_bounds-places-end c = let q = starts c.args.store.now c.args.s.now c.args.plots.now (length c.args.answer.now) (sym c.in_ok-may_read.ensures) in
    omega (arith, q.short, c.places_of.ensures.long)

pub slice_bounds-places-end-2 : goal.slice_bounds-places-end-2
unfolding code_of
slice_bounds-places-end-2 c = let q = starts c.args.store.now c.args.s.now c.args.plots.now (length c.args.answer.now) (sym c.in_ok-may_read.ensures) in
    let n : length c.args.plots.now ≤ length c.places_of.new.places = omega (arith, q.short, c.places_of.ensures.long) in
    sym (length-take-le (length c.args.plots.now) c.places_of.new.places n)

pub own_writes-requires : goal.own_writes-requires
unfolding code_of
own_writes-requires c = (starts c.args.store.now c.args.s.now c.args.plots.now (length c.args.answer.now) (sym c.in_ok-may_read.ensures)).few

pub put_answers-requires : goal.put_answers-requires
unfolding code_of
put_answers-requires c = let ws = c.args.store.now in
    let s = c.args.s.now in
    let plots = c.args.plots.now in
    let q = starts ws s plots (length c.args.answer.now) (sym c.in_ok-may_read.ensures) in
    let all = c.places_of in
    let n : length plots ≤ length all.new.places = omega (arith, q.short, all.ensures.long) in
    let long = length-take-le (length plots) all.new.places n in
    let L = sighted ws s.read plots c.shown_by-visible.result (take (length plots) all.new.places) c.shown_by-visible.ensures (places_front ws c.shown_by-visible.result plots all.new.places all.ensures.found) in
    (subst OwnNamed (sym c.own_writes.ensures) q.named, q.short, long, q.room_for, λ j l. L.reach j (omega (arith, long)))

pub note_all-seen-requires : goal.note_all-seen-requires
unfolding code_of
note_all-seen-requires c = let ws = c.args.store.now in
    let s = c.args.s.now in
    let plots = c.args.plots.now in
    let q = starts ws s plots (length c.args.answer.now) (sym c.in_ok-may_read.ensures) in
    let all = c.places_of in
    let n : length plots ≤ length all.new.places = omega (arith, q.short, all.ensures.long) in
    let long = length-take-le (length plots) all.new.places n in
    let L = sighted ws s.read plots c.shown_by-visible.result (take (length plots) all.new.places) c.shown_by-visible.ensures (places_front ws c.shown_by-visible.result plots all.new.places all.ensures.found) in
    λ j l. L.reach j (omega (arith, long))

pub show-requires : goal.show-requires
unfolding code_of
show-requires c = omega (arith, (laid c.args.store.now (starts c.args.store.now c.args.s.now c.args.plots.now (length c.args.answer.now) (sym c.in_ok-may_read.ensures)).sound).long)

pub returns : goal.returns
unfolding code_of
returns c = let ws = c.args.store.now in
    let s = c.args.s.now in
    let plots = c.args.plots.now in
    let row = c.args.answer.now in
    let q = starts ws s plots (length row) (sym c.in_ok-may_read.ensures) in
    let all = c.places_of in
    let n : length plots ≤ length all.new.places = omega (arith, q.short, all.ensures.long) in
    let places = take (length plots) all.new.places in
    let L = sighted ws s.read plots c.shown_by-visible.result places c.shown_by-visible.ensures (places_front ws c.shown_by-visible.result plots all.new.places all.ensures.found) in
    let seen = c.note_all-seen.ensures ∙ ap (λ (m : ℕ). seen_to (found_among ws places) m (seen_of s)) (length-take-le (length plots) all.new.places n) in
    let out = c.put_answers.ensures ∙ ap (λ (own : List Entry). sets row 0 (words_to (handed_among ws own plots places) (length plots))) c.own_writes.ensures in
    joint_accepted ws s plots row places (handed_among ws (content_of s).own plots places) _ _ _ c.in_ok-may_read.ensures L (stands_own ws s plots places L) seen
    (c.show.ensures ∙ c.shown_by-visible.ensures.left) out
