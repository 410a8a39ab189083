use native.Mathlib.Omega.{arith}
use mathlib.Core.Path.{sym, ap}
use lib.ListN.{length}
use Rattle.frame.specs.Refusals.{code_of}
use Rattle.store.proofs.Rules.{laid}
use Rattle.office.proofs.Exits.{err_code}
use Rattle.writing.proofs.Forecasts.{outside_le, sends_are}
use Rattle.writing.proofs.Writes.{ready, few, few_own}
use Rattle.writing.proofs.forecast.write_forecast.Goals as goal

pub returns-in_err-may_write-clause-code : goal.returns-in_err-may_write-clause-code
unfolding code_of
returns-in_err-may_write-clause-code c = err_code c.from_residual.result _ _ c.from_residual.ensures.1 c.in_err-may_write.ensures

pub set_at-held-requires : goal.set_at-held-requires
unfolding code_of
set_at-held-requires c = let z = c.args in
    let R = ready z.store.now z.s.now z.plot z.value (sym c.in_ok-may_write.ensures) in
    omega (arith, (laid z.store.now R.sound).long)

pub own_writes-requires : goal.own_writes-requires
unfolding code_of
own_writes-requires c = let z = c.args in
    let R = ready z.store.now z.s.now z.plot z.value (sym c.in_ok-may_write.ensures) in
    omega (arith, few z.store.now z.s.now z.plot z.value R)

pub overflow_add-result : goal.overflow_add-result
unfolding code_of
overflow_add-result c = let z = c.args in
    let R = ready z.store.now z.s.now z.plot z.value (sym c.in_ok-may_write.ensures) in
    omega (
      arith,
      c.own_frames.ensures,
      outside_le c.set_at-held.result c.own_writes.result.now,
      ap length c.own_writes.ensures,
      few_own z.store.now z.s.now z.plot z.value R,
    )

pub returns : goal.returns
unfolding code_of
returns c = let z = c.args in
    record {
      code = c.in_ok-may_write.ensures;
      frames = sends_are z.store.now z.s.now z.plot z.value c.set_at-held.result c.own_writes.result.now _ c.set_at-held.ensures c.own_writes.ensures c.own_frames.ensures;
    }
