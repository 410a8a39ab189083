use Prim.Native.Nat.{◌*◌}
use native.Mathlib.Omega.{arith}
use Rattle.office.specs.Promises.{MakePromise}
use Rattle.writing.specs.Answers.{entry_by, words_by}
use Rattle.player.proofs.Delivery as dl
use Rattle.player.proofs.play.write_at.Goals as goal

pub returns : goal.returns
returns c = let a = 1747 * c.args.office in
    let q = c.make in
    dl.lent_at c.args.stores.now _ q.new.store a (dl.lent_part c.args.stores.now a 1747)
    (λ W X. MakePromise W c.args.s.now c.args.plot c.args.value c.args.out.now (words_by q.result) (entry_by q.result) X q.new.out)
    q.ensures (omega (arith, c.requires.0, c.requires.1)) q.auto.store
