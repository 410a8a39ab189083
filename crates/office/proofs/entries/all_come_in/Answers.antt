use mathlib.Core.Path.{◌∙◌, refl, sym}
use Rattle.std.proofs.lemmas.List.{at_drop_all, at_drop_more}
use Rattle.causal.proofs.Codes.{or_goes}
use Rattle.frame.specs.Refusals.{code_of}
use Rattle.frame.specs.Sessions.{nobody}
use Rattle.store.specs.Offices.{office_of}
use Rattle.office.specs.Calls.{own_code}
use Rattle.office.proofs.Exits.{err_stops}
use Rattle.office.proofs.entries.all_come_in.Goals as goal

pub returns-in_err-comes_in : goal.returns-in_err-comes_in
unfolding own_code code_of
returns-in_err-comes_in c = let O = office_of c.args.store.now in
    err_stops _ _ _ _ c.from_residual.ensures.1 c.in_err-comes_in.ensures
    ∙ sym (at_drop_more (own_code O) c.args.own.now c.loop-e.e-index nobody c.loop-e-test.true) ∙ c.loop-e.invariant

pub loop-e-preserved : goal.loop-e-preserved
unfolding own_code code_of
loop-e-preserved c = let O = office_of c.args.store.now in
    or_goes _ 0 _ _ c.in_ok-comes_in.ensures refl refl
    ∙ sym (at_drop_more (own_code O) c.args.own.now c.loop-e.e-index nobody c.loop-e-test.true) ∙ c.loop-e.invariant

pub returns : goal.returns
unfolding own_code code_of
returns c = sym (at_drop_all (own_code (office_of c.args.store.now)) c.args.own.now c.loop-e.e-index c.loop-e-test.false) ∙ c.loop-e.invariant
