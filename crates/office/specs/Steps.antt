-- Own writes in a row of entries, and to hold entries that are new, on words. proofs/Holds.antt: it is what Calls says. Assumes nothing.
use Rattle.std.specs.Prelude.{ℕ, ◌+◌, ◌<◌, ◌≤◌, Bool, true, false, List, [], ◌∷◌, get_or, length}
use Rattle.causal.specs.Sets.{is_in}
use Rattle.frame.specs.declared.entry.Entry.{Entry}
use Rattle.frame.specs.Entries.{id_of}
use Rattle.frame.specs.Sessions.{nobody}
use Rattle.store.specs.Offices.{slot_at}
use Rattle.store.specs.Slots.{hold_words}

-- the first own writes of a row
abbrev pub own_at : List Entry → ℕ → Entry
own_at own i = get_or own i nobody

-- ---- the holds

abbrev pub hold_if : Bool → List ℕ → Entry → List ℕ
hold_if true ws e = ws
hold_if false ws e = hold_words ws e

-- the store with those entries that a set has not
unfoldable pub holds_in : List ℕ → List ℕ → List Entry → List ℕ
holds_in held ws [] = ws
holds_in held ws (e ∷ es) = holds_in held (hold_if (is_in held (id_of e)) ws e) es

-- the slots of own writes lie in a store of m words
abbrev pub Slots : List Entry → ℕ → Type 0
Slots own m = (i : ℕ) → i < length own → slot_at (id_of (own_at own i)) + 18 ≤ m
