use native.Mathlib.Omega.{arith}
use mathlib.Core.Path.{refl, sym}
use Rattle.causal.proofs.Codes.{codes, or_goes}
use Rattle.frame.specs.Refusals.{code_of, number_of}
use Rattle.frame.specs.Sessions.{content_of}
use Rattle.store.proofs.Rules.{laid}
use Rattle.office.proofs.Exits.{err_stops}
use Rattle.office.proofs.Notes.{start_facts}
use Rattle.reading.specs.Readings.{joint_refusal}
use Rattle.reading.proofs.joint.may_read.Goals as goal

pub returns-in_err-start : goal.returns-in_err-start
unfolding code_of joint_refusal
returns-in_err-start c = err_stops _ _ _ _ c.from_residual.ensures.1 c.in_err-start.ensures

pub bounds-store-2 : goal.bounds-store-2
unfolding code_of
bounds-store-2 c = omega (arith, (laid c.args.store.now (start_facts _ _ (sym c.in_ok-start.ensures)).0).long)

pub returns-then-not-plots_ok : goal.returns-then-not-plots_ok
unfolding code_of number_of joint_refusal
returns-then-not-plots_ok c = or_goes _ 0 _ _ c.in_ok-start.ensures refl (search (codes, arith))

pub returns-then-room-plots : goal.returns-then-room-plots
unfolding code_of number_of joint_refusal
returns-then-room-plots c = or_goes _ 0 _ _ c.in_ok-start.ensures refl (search (codes, arith))

pub held_all-requires : goal.held_all-requires
unfolding code_of
held_all-requires c = (start_facts _ _ (sym c.in_ok-start.ensures)).0

pub returns-then-not-held_all : goal.returns-then-not-held_all
unfolding code_of number_of joint_refusal content_of
returns-then-not-held_all c = or_goes _ 0 _ _ c.in_ok-start.ensures refl (search (codes, arith))

pub returns : goal.returns
unfolding code_of joint_refusal content_of
returns c = or_goes _ 0 _ _ c.in_ok-start.ensures refl (search (codes, arith))
