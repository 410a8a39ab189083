use Prim.Native.Nat.{◌*◌}
use Rattle.std.proofs.lemmas.Result.{err_from_is_err_and}
use Rattle.player.proofs.Delivery as dl
use Rattle.player.proofs.Foretold as fo
use Rattle.player.proofs.ahead.write_ahead.Goals as goal

pub returns-then-waiting-le16 : goal.returns-then-waiting-le16
returns-then-waiting-le16 c = λ row long. fo.write_room _ c.requires.3 c.args.s.now c.args.plot c.args.value row long c.args.waiting c.if-waiting-le16.true

pub returns-in_err-frames : goal.returns-in_err-frames
returns-in_err-frames c = λ row long.
    let q = c.write_forecast in
    let p = err_from_is_err_and c.from_residual.result c.from_residual.ensures.1 in
    rw (p.1, p.2) (fo.write_told _ c.requires.3 c.args.s.now c.args.plot c.args.value row long _ (dl.lent_part c.args.stores.now (1747 * c.args.office) 1747) q.result q.ensures.code q.ensures.frames c.args.waiting _ c.in_err-frames.was)

pub returns-then-waiting-frames : goal.returns-then-waiting-frames
returns-then-waiting-frames c = λ row long.
    let q = c.write_forecast in
    fo.write_full _ c.requires.3 c.args.s.now c.args.plot c.args.value row long _ (dl.lent_part c.args.stores.now (1747 * c.args.office) 1747) q.result q.ensures.code q.ensures.frames _ c.in_ok-frames.was c.args.waiting c.requires.2 c.if-waiting-frames.true

pub returns : goal.returns
returns c = λ row long.
    let q = c.write_forecast in
    fo.write_goes _ c.requires.3 c.args.s.now c.args.plot c.args.value row long _ (dl.lent_part c.args.stores.now (1747 * c.args.office) 1747) q.result q.ensures.code q.ensures.frames _ c.in_ok-frames.was c.args.waiting c.requires.2 c.if-waiting-frames.false
