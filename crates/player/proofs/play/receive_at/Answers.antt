use Prim.Native.Nat.{ℕ, ◌*◌, ◌+◌, ◌-◌}
use mathlib.Core.List.{List}
use mathlib.Core.Path.{subst}
use native.Mathlib.Omega.{arith}
use lib.ListN.{drop, get_or, take}
use Rattle.causal.specs.Lists.{part}
use Rattle.frame.specs.Refusals.{reply_of}
use Rattle.office.specs.Promises.{ReceivePromise}
use Rattle.player.proofs.Delivery as dl
use Rattle.player.proofs.play.receive_at.Goals as goal

pub returns : goal.returns
returns c = let a = 1747 * c.args.office in
    let f = c.args.slot + 1 in
    let n = get_or c.args.lines.now c.args.slot 0 in
    let q = c.receive in
    let stores = c.args.stores.now in
    let words = part c.args.lines.now f n in
    dl.lent_at stores (take (a + 1747 - a) (drop a stores)) q.new.store a (dl.lent_part stores a 1747) (λ W X. ReceivePromise W words c.args.out.now (reply_of q.result) X q.new.out)
    (subst (λ (x : List ℕ). ReceivePromise (take (a + 1747 - a) (drop a stores)) x c.args.out.now (reply_of q.result) q.new.store q.new.out) (dl.lent_part c.args.lines.now f n) q.ensures)
    (omega (arith, c.requires.0, c.requires.1)) q.auto.store
