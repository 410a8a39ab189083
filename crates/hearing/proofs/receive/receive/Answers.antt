use native.Mathlib.Omega.{arith}
use Prim.Native.Nat.{◌<◌}
use mathlib.Core.Path.{sym, ap, ◌∙◌, subst}
use lib.ListN.{length, get_or}
use Rattle.causal.specs.Sets.{IdSet}
use Rattle.frame.specs.declared.entry.Frame.{Frame}
use Rattle.frame.specs.Refusals.{reply_of, number_of}
use Rattle.frame.specs.Frames.{frame_ok, frame_words}
use Rattle.frame.proofs.Back.{accepted_ok, accepted_written}
use Rattle.frame.proofs.Sane.{frame_sane}
use Rattle.store.proofs.Rules.{laid}
use Rattle.hearing.proofs.Receives.{receive_unsound, ring, answered_format, receive_format, some_frame, receive_taken}
use Rattle.hearing.proofs.receive.receive.Goals as goal

pub returns-then-not-is_sound : goal.returns-then-not-is_sound
unfolding reply_of number_of
returns-then-not-is_sound c = let z = c.args in
    receive_unsound z.store.now z.frame.now z.out.now (sym c.is_sound.ensures ∙ c.if-not-is_sound.true)

pub bounds-store-0 : goal.bounds-store-0
bounds-store-0 c = let ws = c.args.store.now in
    let h : 0 < length ws = omega (arith, (laid ws (sym c.is_sound.ensures ∙ c.if-not-is_sound.false)).long) in h

pub bounds-store-2 : goal.bounds-store-2
bounds-store-2 c = let ws = c.args.store.now in
    let h : 2 < length ws = omega (arith, (laid ws (sym c.is_sound.ensures ∙ c.if-not-is_sound.false)).long) in h

pub frame_from-requires : goal.frame_from-requires
frame_from-requires c = let z = c.args in
    ring z.store.now z.frame.now z.out.now (sym c.is_sound.ensures ∙ c.if-not-is_sound.false)

pub returns-in_err-f : goal.returns-in_err-f
unfolding reply_of number_of
returns-in_err-f c = let z = c.args in
    let e = c.in_err-f.ensures in
    let t = sym c.is_sound.ensures ∙ c.if-not-is_sound.false in
    answered_format z.store.now z.frame.now z.out.now c.from_residual.result _ _ c.from_residual.ensures.1 e.value e.ok_part
    (receive_format z.store.now z.frame.now z.out.now t (sym e.ok_part ∙ c.frame_from.ensures))

pub taken-requires : goal.taken-requires
taken-requires c = let ws = c.args.store.now in
    let fr = c.args.frame.now in
    let t = sym c.is_sound.ensures ∙ c.if-not-is_sound.false in
    let g = some_frame (get_or ws 0 0) (get_or ws 2 0) fr c.in_ok-f.f (sym c.in_ok-f.ensures.ok_part ∙ c.frame_from.ensures) in
    let n = frame_sane fr in (
      t,
      ap (frame_ok (get_or ws 0 0) (get_or ws 2 0)) g.1 ∙ accepted_ok (get_or ws 0 0) (get_or ws 2 0) fr g.0,
      ap (λ (f : Frame). length f.entry.clock) g.1 ∙ n.clock8,
      subst (λ (f : Frame). IdSet f.entry.deps) (sym g.1) n.deps_set,
      g.1,
      accepted_written (get_or ws 0 0) (get_or ws 2 0) fr g.0 ∙ ap frame_words (sym g.1),
    )

pub returns : goal.returns
returns c = let z = c.args in
    let t = sym c.is_sound.ensures ∙ c.if-not-is_sound.false in
    let g = some_frame (get_or z.store.now 0 0) (get_or z.store.now 2 0) z.frame.now c.in_ok-f.f (sym c.in_ok-f.ensures.ok_part ∙ c.frame_from.ensures) in
    receive_taken z.store.now z.frame.now z.out.now c.in_ok-f.f _ _ _ t g.0 g.1 c.taken.ensures
