use Prim.Native.Nat.{ℕ, ◌^◌, ◌<◌}
use lib.ListN.{get_or}
use Rattle.causal.proofs.Array.{id_set}
use Rattle.store.proofs.Changes.{revealed_visible}
use Rattle.store.proofs.SoundChanges.{reveal_current, reveal_held, reveal_ids, reveal_store}
use Rattle.office.proofs.Notes.{current_slots}
use Rattle.reading.proofs.shown.shown_by.Goals as goal

pub returns : goal.returns
returns c = let ws = c.args.store.now in
    let read = c.args.read in
    let ids = id_set read c.well_formed.1.0 in
    let fit : (i : ℕ) → get_or ws i 0 < 2 ^ 32 = λ i. (c.type_inv.store i).fits in
    let at = c.revealed_by in
    let held = reveal_held ws fit c.requires.0 read ids c.requires.1 at.result at.ensures in
    record {
      shown = revealed_visible ws read at.result at.ensures;
      held = held;
      left = reveal_store ws fit c.requires.0 read ids c.requires.1 at.result at.ensures;
      place = λ plot. current_slots ws at.result.visible plot c.requires.0 (reveal_ids ws fit c.requires.0 read ids c.requires.1 at.result at.ensures).eight held;
      found = reveal_current ws fit c.requires.0 read ids c.requires.1 at.result at.ensures;
    }
