use Prim.Native.Nat.{◌*◌}
use native.Mathlib.Omega.{arith}
use Rattle.frame.specs.Refusals.{code_of}
use Rattle.office.specs.Promises.{ReadPromise}
use Rattle.reading.specs.Answers.{seen_entry, seen_found, seen_session}
use Rattle.player.proofs.Delivery as dl
use Rattle.player.proofs.play.read_at.Goals as goal

pub returns : goal.returns
returns c = let a = 1747 * c.args.office in
    let q = c.see_plot in
    dl.lent_at c.args.stores.now _ q.new.store a (dl.lent_part c.args.stores.now a 1747)
    (λ W X. ReadPromise W c.args.s.now c.args.plot (code_of q.result) (seen_found q.result) (seen_entry q.result) (seen_session c.args.s.now q.result) X)
    q.ensures (omega (arith, c.requires.0, c.requires.1)) q.auto.store
