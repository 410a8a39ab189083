use Rattle.std.proofs.Common.{◌≡◌, ℕ, ◌+◌, List, length, ap, ◌∙◌, arith, length-set}
use lib.Seq.{sets}
use Rattle.store.proofs.Eights.{entry_run, entry_eighteen}
use Rattle.store.proofs.hold.put_entry.Goals as goal

pub bounds-store-at-2 : goal.bounds-store-at-2
bounds-store-at-2 c = simp length-set (omega arith)

pub put-requires : goal.put-requires
put-requires c = simp length-set (omega arith)

pub put-requires-2 : goal.put-requires-2
put-requires-2 c =
    let len1 : length c.put.new.store ≡ length c.args.store.now = c.put.auto.store ∙ simp length-set in
    omega (arith, len1)

pub shape_of-store : goal.shape_of-store
shape_of-store c =
    let len1 : length c.put.new.store ≡ length c.args.store.now = c.put.auto.store ∙ simp length-set in
    let len2 : length c.put-2.new.store ≡ length c.args.store.now = c.put-2.auto.store ∙ len1 in
    len2

pub returns : goal.returns
returns c =
    let at = c.args.at in
    let e = c.args.e.now in
    record {
      laid = c.put-2.ensures.laid ∙ ap (λ (l : List ℕ). sets l (at + 10) e.deps) c.put.ensures.laid ∙ entry_run c.args.store.now at e c.put.ensures.eight;
      eighteen = entry_eighteen e c.put.ensures.eight c.put-2.ensures.eight;
    }
