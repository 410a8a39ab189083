use Prim.Native.Nat.{ℕ, ◌^◌, ◌<◌}
use native.Mathlib.Omega.{arith}
use mathlib.Core.Path.{refl, sym, ap, ◌∙◌}
use lib.ListN.{length, get_or}
use Rattle.frame.specs.Refusals.{code_of, number_of}
use Rattle.frame.specs.declared.refusal.Refusal.TheVariants.{Room}
use Rattle.office.specs.Answers.{extended_by}
use Rattle.store.proofs.Rules.{laid}
use Rattle.frame.proofs.Refusals.{number_some}
use Rattle.office.proofs.Slots.{settings}
use Rattle.writing.specs.Answers.{entry_by, words_by}
use Rattle.writing.proofs.Writes.{ready, few, few_own, slots, frames, new_slot, new_frame, store_left, row_left, write_early, write_late, write_done, not_made, refused, made_is}
use borrow.Author.Rules.{rules}
use Rattle.writing.proofs.write.make.Goals as goal

pub returns-in_err-may_write : goal.returns-in_err-may_write
unfolding code_of
returns-in_err-may_write c = let z = c.args in
    refused z.store.now z.s.now z.plot z.value z.out.now c.from_residual.result _ c.from_residual.ensures.1
    (write_early z.store.now z.s.now z.plot z.value z.out.now _ c.in_err-may_write.ensures (number_some _))

pub own_writes-own-requires : goal.own_writes-own-requires
unfolding code_of
own_writes-own-requires c = let z = c.args in
    let R = ready z.store.now z.s.now z.plot z.value (sym c.in_ok-may_write.ensures) in
    omega (arith, few z.store.now z.s.now z.plot z.value R)

pub entry_by-entry-requires : goal.entry_by-entry-requires
unfolding code_of
entry_by-entry-requires c = let z = c.args in
    let R = ready z.store.now z.s.now z.plot z.value (sym c.in_ok-may_write.ensures) in
    (R.sound, omega (arith, few z.store.now z.s.now z.plot z.value R))

pub bounds-store-0 : goal.bounds-store-0
unfolding code_of
bounds-store-0 c = let z = c.args in
    let R = ready z.store.now z.s.now z.plot z.value (sym c.in_ok-may_write.ensures) in
    let l : 0 < length z.store.now = omega (arith, (laid z.store.now R.sound).long) in l

pub set_at-held-requires : goal.set_at-held-requires
unfolding code_of
set_at-held-requires c = let z = c.args in
    let R = ready z.store.now z.s.now z.plot z.value (sym c.in_ok-may_write.ensures) in
    omega (arith, (laid z.store.now R.sound).long)

pub all_words-requires : goal.all_words-requires
unfolding code_of
all_words-requires c = let z = c.args in
    let R = ready z.store.now z.s.now z.plot z.value (sym c.in_ok-may_write.ensures) in
    let q = settings z.store.now R.sound in
    (omega (arith, ap length c.own_writes-own.ensures, few_own z.store.now z.s.now z.plot z.value R), q.low, q.high)

pub returns-then-all_words-out : goal.returns-then-all_words-out
unfolding code_of entry_by words_by number_of
returns-then-all_words-out c = let z = c.args in
    let r = row_left z.store.now z.s.now z.plot z.value c.set_at-held.result _ _ c.set_at-held.ensures c.own_writes-own.ensures c.entry_by-entry.ensures in
    not_made z.store.now z.s.now z.plot z.value z.out.now Room
    (write_late z.store.now z.s.now z.plot z.value z.out.now (sym c.in_ok-may_write.ensures) (omega (arith, ap length r, c.all_words.ensures, c.if-all_words-out.true)))

pub put_all-words-requires : goal.put_all-words-requires
unfolding code_of
put_all-words-requires c = let z = c.args in
    let R = ready z.store.now z.s.now z.plot z.value (sym c.in_ok-may_write.ensures) in
    let fit : (i : ℕ) → get_or z.store.now i 0 < 2 ^ 32 = search rules in
    let N = c.known.ensures (omega (arith, few z.store.now z.s.now z.plot z.value R)) in (
      frames z.store.now z.s.now R.sound R.session c.own_writes-own.result.now c.own_writes-own.ensures,
      new_frame z.store.now z.s.now z.plot z.value R fit N c.entry_by-entry.result c.entry_by-entry.ensures,
      omega (arith, c.all_words.ensures, c.if-all_words-out.false),
    )

pub hold_all-requires : goal.hold_all-requires
unfolding code_of
hold_all-requires c = let z = c.args in
    let R = ready z.store.now z.s.now z.plot z.value (sym c.in_ok-may_write.ensures) in
    let fit : (i : ℕ) → get_or z.store.now i 0 < 2 ^ 32 = search rules in
    let N = c.known.ensures (omega (arith, few z.store.now z.s.now z.plot z.value R)) in (
      slots z.store.now z.s.now R.sound R.session c.own_writes-own.result.now c.own_writes-own.ensures,
      new_slot z.store.now z.s.now z.plot z.value R fit N c.entry_by-entry.result c.entry_by-entry.ensures,
    )

pub returns : goal.returns
unfolding code_of entry_by words_by
returns c = let z = c.args in
    let none = sym c.in_ok-may_write.ensures in
    let R = ready z.store.now z.s.now z.plot z.value none in
    let fit : (i : ℕ) → get_or z.store.now i 0 < 2 ^ 32 = search rules in
    let N = c.known.ensures (omega (arith, few z.store.now z.s.now z.plot z.value R)) in
    let own = c.own_writes-own in
    let held = c.set_at-held in
    let new = c.entry_by-entry in
    let put = c.put_all-words.ensures in
    let left = c.hold_all.ensures ∙ store_left z.store.now z.s.now z.plot z.value R fit N held.result own.result.now new.result held.ensures own.ensures new.ensures in
    made_is z.store.now z.s.now z.plot z.value z.out.now _ new.result _ _ new.ensures
    (write_done z.store.now z.s.now z.plot z.value z.out.now none _ (extended_by z.s.now new.result) _ _ held.result own.result.now new.result held.ensures own.ensures new.ensures
    (omega (arith, c.all_words.ensures, c.if-all_words-out.false)) put.0 refl left put.1)
