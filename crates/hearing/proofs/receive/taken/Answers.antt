use native.Mathlib.Omega.{arith}
use Prim.Native.Nat.{ℕ, ◌^◌, ◌<◌}
use mathlib.Core.Path.{◌≡◌, sym, ap, ◌∙◌}
use lib.ListN.{length, get_or}
use Rattle.frame.specs.Calls.{laid as Laid-in}
use Rattle.frame.specs.Frames.{frame_of, frame_words}
use Rattle.frame.specs.Refusals.{code_of, reply_of}
use Rattle.frame.proofs.Refusals.{number_some}
use Rattle.frame.specs.Sessions.{SaneEntry}
use Rattle.frame.specs.declared.entry.Frame.{Frame}
use Rattle.store.proofs.Rules.{laid}
use Rattle.office.specs.Calls.{onward}
use Rattle.hearing.proofs.Forwards.{length_onward}
use Rattle.hearing.proofs.Receives.{answered, slot, held_new, seed_ready, taken_refused, taken_last, on_room, taken_on}
use borrow.Author.Rules.{rules}
use Rattle.hearing.proofs.receive.taken.Goals as goal

pub set_at-held-requires : goal.set_at-held-requires
set_at-held-requires c = let q = laid c.args.store.now c.requires.0 in
    omega (arith, q.long)

pub may_take-requires : goal.may_take-requires
may_take-requires c = (c.requires.0, c.set_at-held.ensures, c.requires.1, ap length c.requires.5)

pub returns-in_err-may_take : goal.returns-in_err-may_take
unfolding code_of
returns-in_err-may_take c = let ws = c.args.store.now in
    let f = c.args.f.now in
    let out = c.args.out.now in
    answered ws f out c.from_residual.result _ c.from_residual.ensures.1 (taken_refused ws f out _ c.in_err-may_take.ensures (number_some _))

pub hold_new-requires : goal.hold_new-requires
hold_new-requires c = let ws = c.args.store.now in
    let f = c.args.f.now in
    let out = c.args.out.now in
    let fit : (i : ℕ) → get_or ws i 0 < 2 ^ 32 = search rules in
    let sane : SaneEntry f.entry = record { clock8 = c.requires.2; deps_set = c.requires.3 } in
    slot ws f out fit c.requires.0 c.requires.1 sane

pub reveal_id-requires : goal.reveal_id-requires
unfolding code_of
reveal_id-requires c = let ws = c.args.store.now in
    let f = c.args.f.now in
    let out = c.args.out.now in
    let fit : (i : ℕ) → get_or ws i 0 < 2 ^ 32 = search rules in
    let sane : SaneEntry f.entry = record { clock8 = c.requires.2; deps_set = c.requires.3 } in
    let z = sym c.in_ok-may_take.ensures in
    let h = held_new ws f out fit c.requires.0 c.requires.1 sane z c.set_at-held.result _ c.set_at-held.ensures c.hold_new.ensures in
    seed_ready ws f out fit c.requires.0 c.requires.1 sane z _ c.id_of.result h c.id_of.ensures

pub returns-then-f-eq0 : goal.returns-then-f-eq0
unfolding code_of reply_of
returns-then-f-eq0 c = let ws = c.args.store.now in
    let f = c.args.f.now in
    let out = c.args.out.now in
    let fit : (i : ℕ) → get_or ws i 0 < 2 ^ 32 = search rules in
    let sane : SaneEntry f.entry = record { clock8 = c.requires.2; deps_set = c.requires.3 } in
    let z = sym c.in_ok-may_take.ensures in
    let h = held_new ws f out fit c.requires.0 c.requires.1 sane z c.set_at-held.result _ c.set_at-held.ensures c.hold_new.ensures in
    taken_last ws f out fit c.requires.0 c.requires.1 sane z _ _ c.id_of.result c.if-f-eq0.true h c.id_of.ensures c.reveal_id.ensures

pub put_onward-requires : goal.put_onward-requires
unfolding code_of
put_onward-requires c = let ws = c.args.store.now in
    let fr = c.args.frame.now in
    let f = c.args.f.now in
    let out = c.args.out.now in
    let fit : (i : ℕ) → get_or ws i 0 < 2 ^ 32 = search rules in
    let sane : SaneEntry f.entry = record { clock8 = c.requires.2; deps_set = c.requires.3 } in
    let z = sym c.in_ok-may_take.ensures in
    let hops : f.hops ≡ (frame_of fr).hops = ap (λ (g : Frame). g.hops) c.requires.4 in
    let room = on_room ws f out fit c.requires.0 c.requires.1 sane z c.if-f-eq0.false in
    (c.requires.5 ∙ ap frame_words c.requires.4, omega (arith, hops, c.if-f-eq0.false), omega (arith, room, length_onward f, ap length c.requires.5))

pub returns : goal.returns
unfolding code_of reply_of
returns c = let ws = c.args.store.now in
    let f = c.args.f.now in
    let out = c.args.out.now in
    let fit : (i : ℕ) → get_or ws i 0 < 2 ^ 32 = search rules in
    let sane : SaneEntry f.entry = record { clock8 = c.requires.2; deps_set = c.requires.3 } in
    let z = sym c.in_ok-may_take.ensures in
    let h = held_new ws f out fit c.requires.0 c.requires.1 sane z c.set_at-held.result _ c.set_at-held.ensures c.hold_new.ensures in
    let row = c.put_onward.ensures ∙ ap (λ (g : Frame). Laid-in (frame_words (onward g)) out) (sym c.requires.4) in
    taken_on ws f out fit c.requires.0 c.requires.1 sane z _ _ _ c.if-f-eq0.false h (ap length c.requires.5 ∙ sym (length_onward f)) row
