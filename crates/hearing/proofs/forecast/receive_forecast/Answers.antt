use native.Mathlib.Omega.{arith}
use Prim.Native.Nat.{◌<◌}
use mathlib.Core.Path.{◌≡◌, sym, ap, ◌∙◌}
use lib.ListN.{length, get_or}
use Rattle.frame.specs.Refusals.{Reply, code_of, number_of}
use Rattle.frame.specs.Frames.{frame_ok, frame_words}
use Rattle.frame.proofs.Back.{accepted_ok, accepted_written}
use Rattle.store.specs.Offices.{office_of}
use Rattle.store.proofs.Rules.{laid}
use Rattle.office.specs.Calls.{receive_code}
use Rattle.office.proofs.Exits.{err_code}
use Rattle.hearing.proofs.Forecasts.{receive_number}
use Rattle.hearing.proofs.Receives.{receive_unsound, ring, receive_format, no_format, some_frame}
use Rattle.hearing.proofs.forecast.receive_forecast.Goals as goal

pub returns-then-not-is_sound : goal.returns-then-not-is_sound
unfolding code_of number_of
returns-then-not-is_sound c = let z = c.args in
    λ row l. ap (λ (r : Reply). r.code) (receive_unsound z.store.now z.frame.now row (sym c.is_sound.ensures ∙ c.if-not-is_sound.true)).0

pub bounds-store-0 : goal.bounds-store-0
bounds-store-0 c = let ws = c.args.store.now in
    let h : 0 < length ws = omega (arith, (laid ws (sym c.is_sound.ensures ∙ c.if-not-is_sound.false)).long) in h

pub bounds-store-2 : goal.bounds-store-2
bounds-store-2 c = let ws = c.args.store.now in
    let h : 2 < length ws = omega (arith, (laid ws (sym c.is_sound.ensures ∙ c.if-not-is_sound.false)).long) in h

pub frame_from-requires : goal.frame_from-requires
frame_from-requires c = let z = c.args in
    ring z.store.now z.frame.now z.frame.now (sym c.is_sound.ensures ∙ c.if-not-is_sound.false)

pub returns-in_err-f : goal.returns-in_err-f
unfolding number_of
returns-in_err-f c = let z = c.args in
    let e = c.in_err-f.ensures in
    let t = sym c.is_sound.ensures ∙ c.if-not-is_sound.false in
    let nine : number_of c.in_err-f.field-0.0 ≡ 9 = ap number_of (no_format _ _ e.value e.ok_part) in
    λ row l. err_code c.from_residual.result _ 9 c.from_residual.ensures.1 nine
    ∙ ap (λ (r : Reply). r.code) (receive_format z.store.now z.frame.now row t (sym e.ok_part ∙ c.frame_from.ensures)).0

pub set_at-held-requires : goal.set_at-held-requires
set_at-held-requires c = omega (arith, (laid c.args.store.now (sym c.is_sound.ensures ∙ c.if-not-is_sound.false)).long)

pub may_take-requires : goal.may_take-requires
may_take-requires c = let ws = c.args.store.now in
    let fr = c.args.frame.now in
    let t = sym c.is_sound.ensures ∙ c.if-not-is_sound.false in
    let g = some_frame (get_or ws 0 0) (get_or ws 2 0) fr c.in_ok-f.f (sym c.in_ok-f.ensures.ok_part ∙ c.frame_from.ensures) in (
      t,
      c.set_at-held.ensures,
      ap (frame_ok (get_or ws 0 0) (get_or ws 2 0)) g.1 ∙ accepted_ok (get_or ws 0 0) (get_or ws 2 0) fr g.0,
      ap length (accepted_written (get_or ws 0 0) (get_or ws 2 0) fr g.0 ∙ ap frame_words (sym g.1)),
    )

pub returns : goal.returns
returns c = let ws = c.args.store.now in
    let fr = c.args.frame.now in
    let t = sym c.is_sound.ensures ∙ c.if-not-is_sound.false in
    let g = some_frame (get_or ws 0 0) (get_or ws 2 0) fr c.in_ok-f.f (sym c.in_ok-f.ensures.ok_part ∙ c.frame_from.ensures) in
    λ row l. c.may_take.ensures ∙ (λ i. receive_code (office_of ws) (g.1 i) (sym l i)) ∙ receive_number ws fr row t g.0
