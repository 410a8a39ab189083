use native.Mathlib.Omega.{arith}
use mathlib.Core.List.{List}
use mathlib.Core.Path.{ap, ap₂, subst, sym, ◌∙◌}
use lib.ListN.{length}
use Rattle.frame.specs.declared.entry.Entry.{Entry}
use Rattle.frame.specs.Refusals.{code_of}
use Rattle.store.specs.Current.{InSlots, current_at, found_at}
use Rattle.store.specs.Offices.{Found, best_own}
use Rattle.store.proofs.Rules.{laid}
use Rattle.office.specs.Decide.{noted_seen, seen_of}
use Rattle.reading.proofs.Readings.{reads, read_accepted, read_refused}
use Rattle.reading.proofs.read.see_plot.Goals as goal

-- q: what is known where nothing is refused

pub returns-in_err-may_read : goal.returns-in_err-may_read
unfolding code_of
returns-in_err-may_read c = read_refused c.args.store.now c.args.s.now c.args.plot c.from_residual.result _ c.from_residual.ensures.1 c.in_err-may_read.ensures

pub shown_by-visible-requires : goal.shown_by-visible-requires
unfolding code_of
shown_by-visible-requires c = let q = reads c.args.store.now c.args.s.now c.args.plot (sym c.in_ok-may_read.ensures) in (q.sound, q.held)

pub current-place-requires : goal.current-place-requires
unfolding code_of
current-place-requires c = let ws = c.args.store.now in
    let s = c.args.s.now in
    let q = reads ws s c.args.plot (sym c.in_ok-may_read.ensures) in
    (q.sound, c.shown_by-visible.ensures.held)

pub handed-requires : goal.handed-requires
handed-requires c = subst (InSlots (length c.args.store.now)) (sym c.current-place.ensures) (c.shown_by-visible.ensures.place c.args.plot)

pub own_writes-requires : goal.own_writes-requires
unfolding code_of
own_writes-requires c = (reads c.args.store.now c.args.s.now c.args.plot (sym c.in_ok-may_read.ensures)).few

pub note-requires : goal.note-requires
note-requires c = subst (InSlots (length c.args.store.now)) (sym c.current-place.ensures) (c.shown_by-visible.ensures.place c.args.plot)

pub show-requires : goal.show-requires
unfolding code_of
show-requires c = omega (arith, (laid c.args.store.now (reads c.args.store.now c.args.s.now c.args.plot (sym c.in_ok-may_read.ensures)).sound).long)

pub returns : goal.returns
unfolding code_of
returns c = let ws = c.args.store.now in
    let s = c.args.s.now in
    let plot = c.args.plot in
    let found = ap (found_at ws) c.current-place.ensures in
    let entry =
    c.handed.ensures ∙ ap₂ (λ (f : Found) (own : List Entry). best_own plot f own) found c.own_writes.ensures
    in
    read_accepted ws s plot (found_at ws (current_at ws c.shown_by-visible.result plot)) _ _ c.in_ok-may_read.ensures (c.shown_by-visible.ensures.found plot)
    entry (c.note.ensures ∙ ap (λ (f : Found). noted_seen f (seen_of s)) found) (c.show.ensures ∙ c.shown_by-visible.ensures.left)
