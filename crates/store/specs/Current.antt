-- The current entry on a plot, by its id: what code finds in the slots of a store. Assumes nothing.
use Rattle.std.specs.Prelude.{◌≡◌, ℕ, zero, suc, ◌+◌, ◌*◌, ◌<◌, ◌≤◌, cond, List, ◌==◌, slice_index, None, Option, Some}
use Rattle.causal.specs.Sets.{bit, is_in}
use Rattle.frame.specs.Entries.{outranks}
use Rattle.store.specs.Offices.{slot_at, entry_at, Found}

-- the slots of what word i of a set has, w, lie in a store of m words
abbrev pub WordReaches : ℕ → ℕ → ℕ → Type 0
WordReaches m i w = (b : ℕ) → b < 32 → bit w b ≡ 1 → slot_at (32 * i + b) + 18 ≤ m

abbrev pub InSlots : ℕ → Option ℕ → Type 0
InSlots m None = Unit {0}
InSlots m (Some k) = (k < 256) × (slot_at k + 18 ≤ m)

-- the higher-ranked of id k and what was found, which stays where they tie
unfoldable pub better_at : List ℕ → ℕ → Option ℕ → Option ℕ
better_at ws k None = Some k
better_at ws k (Some b) = cond (outranks (entry_at ws k) (entry_at ws b)) (Some k) (Some b)

-- the same where k is on the plot
unfoldable pub weighed : List ℕ → ℕ → ℕ → Option ℕ → Option ℕ
weighed ws plot k best = cond ((entry_at ws k).plot == plot) (better_at ws k best) best

-- the best of the visible ids below k
unfoldable pub place_to : List ℕ → List ℕ → ℕ → ℕ → Option ℕ
place_to ws visible plot zero = None
place_to ws visible plot (suc k) = cond (is_in visible k) (weighed ws plot k (place_to ws visible plot k)) (place_to ws visible plot k)

-- the best of those that word i of a set has below bit b, w, and the best before
unfoldable pub place_in : List ℕ → ℕ → ℕ → ℕ → ℕ → Option ℕ → Option ℕ
place_in ws plot i w zero before = before
place_in ws plot i w (suc b) before = cond (bit w b == 1) (weighed ws plot (32 * i + b) (place_in ws plot i w b before)) (place_in ws plot i w b before)

-- the id of the current entry of a store, with another visible set
unfoldable pub current_at : List ℕ → List ℕ → ℕ → Option ℕ
current_at ws visible plot = place_to ws visible plot (32 * slice_index ws 0)

-- the entry at a place
unfoldable pub found_at : List ℕ → Option ℕ → Found
found_at ws None = None
found_at ws (Some k) = Some (entry_at ws k)
