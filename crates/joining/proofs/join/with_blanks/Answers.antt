use Rattle.std.proofs.Common.{length, replicate, refl, ap}
use Rattle.frame.specs.declared.entry.Entry.{Entry}
use Rattle.joining.proofs.Turns.{row_of}
use Rattle.joining.proofs.join.with_blanks.Goals as goal

pub returns : goal.returns
returns c =
    rw c.copy_from_slice.ensures.after
    (row_of (replicate 16 c.blank_entry-row.result) c.args.own.now (length c.args.own.now) (ap (λ (x : Entry). replicate 16 x) c.blank_entry-row.ensures) refl)
