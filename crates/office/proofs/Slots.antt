-- A sound store: its settings, and the slot of an entry of its ring. Assumes nothing.
use Prim.Native.Nat.{ℕ, ◌+◌, ◌≤◌}
use mathlib.Core.Path.{◌≡◌}
use mathlib.Core.Bool.{true}
use mathlib.Core.List.{List}
use native.Mathlib.Omega.{arith}
use lib.ListN.{get_or}
use Rattle.causal.proofs.Tests.{both_true}
use Rattle.frame.specs.declared.entry.Entry.{Entry}
use Rattle.frame.specs.Entries.{id_of, entry_ok}
use Rattle.frame.specs.Frames.{ring_ok}
use Rattle.frame.proofs.Entries.{RingFacts, ring_facts, entry_facts}
use Rattle.frame.proofs.Ids.{id_range}
use Rattle.store.specs.Offices.{need, slot_at, settings_ok, sound_store}

pub settings : (ws : List ℕ) → sound_store ws ≡ true → RingFacts (get_or ws 0 0) (get_or ws 2 0)
unfolding sound_store settings_ok
settings ws sound =
    let a = both_true (settings_ok (get_or ws 0 0) (get_or ws 1 0) (get_or ws 2 0)) _ sound in
    ring_facts (get_or ws 0 0) (get_or ws 2 0) (both_true (ring_ok (get_or ws 0 0) (get_or ws 2 0)) _ a.0).0

pub slot_of : (n p m : ℕ) (e : Entry) → need n ≤ m → entry_ok n p e ≡ true → slot_at (id_of e) + 18 ≤ m
slot_of n p m e l ok = omega (arith, id_range n p e (entry_facts n p e ok))
