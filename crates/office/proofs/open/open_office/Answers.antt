use native.Mathlib.Omega.{arith}
use Prim.Native.Nat.{◌≤◌}
use mathlib.Core.Path.{refl, sym, ◌∙◌}
use lib.ListN.{length}
use borrow.Author.Tests.{le-leb, lt-leb}
use Rattle.frame.specs.Refusals.{code_of, number_of}
use Rattle.store.specs.Offices.{need}
use Rattle.store.proofs.Changes.{empty_words_lem}
use Rattle.office.specs.Calls.{open_office}
use Rattle.office.proofs.open.open_office.Goals as goal

pub returns-then-not-settings_ok : goal.returns-then-not-settings_ok
unfolding open_office code_of number_of
returns-then-not-settings_ok c = let h = sym c.settings_ok.ensures ∙ c.if-not-settings_ok.true in
    (rw h refl, rw h refl)

pub returns-then-need_of-store : goal.returns-then-need_of-store
unfolding open_office code_of number_of
returns-then-need_of-store c = let s = c.args in
    let h = sym c.settings_ok.ensures ∙ c.if-not-settings_ok.false in
    let g = lt-leb (need s.offices) (length s.store.now) (omega (arith, c.need_of.ensures)) in
    (rw (h, g) refl, rw (h, g) refl)

pub lay_empty-requires : goal.lay_empty-requires
lay_empty-requires c = omega (arith, c.need_of.ensures)

pub returns : goal.returns
unfolding open_office code_of
returns c = let s = c.args in
    let h = sym c.settings_ok.ensures ∙ c.if-not-settings_ok.false in
    let l : need s.offices ≤ length s.store.now = omega (arith, c.need_of.ensures) in
    let g = le-leb (need s.offices) (length s.store.now) l in
    (rw (h, g) refl, rw (h, g) (c.lay_empty.ensures ∙ empty_words_lem s.store.now s.offices s.own s.plots l))
