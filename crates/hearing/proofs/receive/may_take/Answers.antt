use native.Mathlib.Omega.{arith}
use mathlib.Core.Path.{◌≡◌, sym, ap, ◌∙◌}
use mathlib.Core.Bool.{true, false}
use lib.ListN.{length, get_or}
use Rattle.causal.specs.Lists.{part}
use Rattle.causal.specs.Sets.{subset_of}
use Rattle.frame.specs.Refusals.{code_of, number_of}
use Rattle.frame.proofs.Entries.{frame_facts}
use Rattle.store.specs.Offices.{office_of}
use Rattle.store.proofs.Rules.{laid}
use Rattle.office.specs.Calls.{entry_code, receive_code}
use Rattle.office.proofs.Exits.{err_stops}
use Rattle.office.proofs.Slots.{slot_of}
use Rattle.hearing.proofs.Receives.{take_missing, take_room, take_goes}
use Rattle.hearing.proofs.receive.may_take.Goals as goal

pub comes_in-requires : goal.comes_in-requires
comes_in-requires c = let ws = c.args.store.now in
    let F = frame_facts (get_or ws 0 0) (get_or ws 2 0) c.args.f.now c.requires.2 in
    (c.requires.1, slot_of (get_or ws 0 0) (get_or ws 2 0) (length ws) c.args.f.now.entry (laid ws c.requires.0).long F.entry)

pub returns-in_err-comes_in : goal.returns-in_err-comes_in
unfolding receive_code code_of
returns-in_err-comes_in c = err_stops c.from_residual.result _ (entry_code (office_of c.args.store.now) c.args.f.now.entry) _ c.from_residual.ensures.1 c.in_err-comes_in.ensures

pub returns-then-not-subset : goal.returns-then-not-subset
unfolding code_of number_of
returns-then-not-subset c = let z = c.args in
    let no : subset_of z.f.now.entry.deps (part z.store.now 3 8) ≡ false =
    sym (ap (subset_of z.f.now.entry.deps) c.requires.1) ∙ sym c.subset.ensures ∙ c.if-not-subset.true in
    take_missing z.store.now z.f.now z.room c.in_ok-comes_in.ensures no

pub returns-then-words-room : goal.returns-then-words-room
unfolding code_of number_of
returns-then-words-room c = let z = c.args in
    let all : subset_of z.f.now.entry.deps (part z.store.now 3 8) ≡ true =
    sym (ap (subset_of z.f.now.entry.deps) c.requires.1) ∙ sym c.subset.ensures ∙ c.if-not-subset.false in
    take_room z.store.now z.f.now z.room c.in_ok-comes_in.ensures all c.if-f-ne0.true (omega (arith, c.requires.3, c.if-words-room.true))

pub returns : goal.returns
unfolding code_of
returns c = let z = c.args in
    let all : subset_of z.f.now.entry.deps (part z.store.now 3 8) ≡ true =
    sym (ap (subset_of z.f.now.entry.deps) c.requires.1) ∙ sym c.subset.ensures ∙ c.if-not-subset.false in
    take_goes z.store.now z.f.now z.room c.in_ok-comes_in.ensures z.words all c.requires.3 c.else-f-ne0.either
