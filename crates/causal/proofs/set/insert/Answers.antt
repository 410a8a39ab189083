use native.Mathlib.Omega.{arith}
use Rattle.std.proofs.Common.{rules}
use mathlib.Core.Path.{sym}
use Prim.Native.Nat.{◌*◌, ◌/◌, ◌%◌, ◌^◌}
use lib.Bits.{bit_or}
use lib.Dec.{eqb}
use lib.ListN.{get_or}
use Rattle.std.specs.Int.{from_bool}
use Rattle.causal.specs.Sets.{inserted}
use Rattle.causal.proofs.Sets.{inserted_past, insert_at, ids_inserted}
use Rattle.causal.proofs.Array.{made, id_set}
use Rattle.causal.proofs.set.insert.Goals as goal

pub returns-then-k-ge256 : goal.returns-then-k-ge256
returns-then-k-ge256 c = sym (inserted_past c.args.set c.args.k (omega (arith, (id_set c.args.set c.well_formed.0).eight)))

pub returns : goal.returns
returns c =
    made _ _ (λ i. bit_or (get_or c.args.set i 0) (from_bool (eqb i (c.args.k / 32)) * 2 ^ (c.args.k % 32) % 2 ^ 32)) 8 (λ i y q h l. search rules)
    _ (inserted c.args.set c.args.k) c.from_fn.ensures.items (ids_inserted c.args.set c.args.k (id_set c.args.set c.well_formed.0)).eight
    (insert_at c.args.set c.args.k (id_set c.args.set c.well_formed.0) c.if-k-ge256.false)
