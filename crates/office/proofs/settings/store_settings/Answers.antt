use native.Mathlib.Omega.{arith}
use Prim.Native.Nat.{◌<◌}
use mathlib.Core.Path.{refl, sym, ◌∙◌}
use lib.ListN.{length}
use Rattle.frame.specs.Refusals.{code_of, number_of}
use Rattle.store.specs.Offices.{office_of}
use Rattle.store.proofs.Rules.{laid}
use Rattle.office.specs.Calls.{store_settings}
use Rattle.office.proofs.settings.store_settings.Goals as goal

pub returns-then-not-is_sound : goal.returns-then-not-is_sound
unfolding store_settings code_of number_of
returns-then-not-is_sound c = let h = sym c.is_sound.ensures ∙ c.if-not-is_sound.true in
    (rw h refl, rw h refl, rw h refl, rw h refl)

pub bounds-store-0 : goal.bounds-store-0
bounds-store-0 c = let ws = c.args.store.now in
    let t = sym c.is_sound.ensures ∙ c.if-not-is_sound.false in
    let h : 0 < length ws = omega (arith, (laid ws t).long) in h

pub bounds-store-1 : goal.bounds-store-1
bounds-store-1 c = let ws = c.args.store.now in
    let t = sym c.is_sound.ensures ∙ c.if-not-is_sound.false in
    let h : 1 < length ws = omega (arith, (laid ws t).long) in h

pub bounds-store-2 : goal.bounds-store-2
bounds-store-2 c = let ws = c.args.store.now in
    let t = sym c.is_sound.ensures ∙ c.if-not-is_sound.false in
    let h : 2 < length ws = omega (arith, (laid ws t).long) in h

pub returns : goal.returns
unfolding store_settings code_of office_of
returns c = let t = sym c.is_sound.ensures ∙ c.if-not-is_sound.false in
    (rw t refl, rw t refl, rw t refl, rw t refl)
