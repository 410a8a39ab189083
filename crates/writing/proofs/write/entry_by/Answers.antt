use Prim.Native.Nat.{◌<◌}
use native.Mathlib.Omega.{arith}
use mathlib.Core.Path.{refl}
use lib.ListN.{length}
use Rattle.frame.specs.Sessions.{content_of}
use Rattle.store.specs.Offices.{office_of}
use Rattle.store.proofs.Rules.{laid}
use Rattle.office.specs.Calls.{new_entry}
use Rattle.writing.proofs.Writes.{made_le}
use Rattle.writing.proofs.write.entry_by.Goals as goal

pub bounds-store-1 : goal.bounds-store-1
bounds-store-1 c = let h : 1 < length c.args.store.now = omega (arith, (laid c.args.store.now c.requires.0).long) in h

pub made-serial-requires : goal.made-serial-requires
made-serial-requires c = laid c.args.store.now c.requires.0

pub overflow_add-serial : goal.overflow_add-serial
overflow_add-serial c = omega (arith, c.made-serial.ensures, made_le (office_of c.args.store.now))

pub overflow_cast-clock : goal.overflow_cast-clock
overflow_cast-clock c = let q = laid c.args.store.now c.requires.0 in omega (arith, q.own, q.few)

pub offset_bounds-clock-office : goal.offset_bounds-clock-office
offset_bounds-clock-office c = let q = laid c.args.store.now c.requires.0 in omega (arith, q.own, q.few)

pub bounds-clock-office : goal.bounds-clock-office
bounds-clock-office c = let q = laid c.args.store.now c.requires.0 in omega (arith, q.own, q.few)

pub returns : goal.returns
unfolding new_entry office_of content_of
returns c = rw (c.union.ensures, c.ids_of.ensures, c.own_writes.ensures, c.join-clock.ensures, c.office_clock.ensures, c.made-serial.ensures) refl
