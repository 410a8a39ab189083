use Prim.Native.Nat.{◌*◌}
use native.Mathlib.Omega.{arith}
use Rattle.player.proofs.Delivery as dl
use Rattle.player.proofs.Started as st
use Rattle.player.proofs.opening.open_at.Goals as goal

pub returns : goal.returns
returns c = let q = c.open_office in
    st.opens_at c.args.stores.now _ q.new.store c.args.office (dl.lent_part c.args.stores.now (1747 * c.args.office) 1747) q.ensures.1 (omega (arith, c.requires.0, c.requires.1)) q.auto.store
