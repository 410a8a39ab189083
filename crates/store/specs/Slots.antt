-- The rules of a store slot by slot, as code asks them, and the words after a hold. Assumes nothing.
use Rattle.std.specs.Prelude.{ℕ, ◌+◌, ◌*◌, ◌<◌, ◌≤◌, Bool, List, ◌∷◌, ◌++◌, length, ◌==◌, nat_lt, slice_index, slice_index_or}
use Rattle.std.proofs.lemmas.List.Edits.{sets}
use Rattle.causal.specs.Tests.{both, implies, all_below}
use Rattle.causal.specs.Lists.{part, zeros}
use Rattle.causal.specs.Sets.{bit, is_in, inserted, subset_of}
use Rattle.frame.specs.declared.entry.Entry.{Entry}
use Rattle.frame.specs.Entries.{id_of, entry_ok}
use Rattle.store.specs.Offices.{need, slot_at, entry_at, entry_words}

-- the store is long enough, its settings in range
pub record Laid (ws : List ℕ) : Type 0 where
  pub long : need (slice_index ws 0) ≤ length ws
  pub few : slice_index_or ws 0 0 ≤ 8
  pub own : slice_index_or ws 1 0 < slice_index ws 0

-- no bit of a word is set above one that is clear
unfoldable pub no_gap : ℕ → Bool
no_gap w = all_below 31 (λ s. implies (bit w (s + 1) == 1) (bit w s == 1))

-- the rules of the held entry e of id k: its own, its deps held, and visible if it is
unfoldable pub fits : ℕ → ℕ → Entry → ℕ → List ℕ → List ℕ → Bool
fits n p e k held visible =
    both (entry_ok n p e) (both (subset_of e.deps held) (implies (is_in visible k) (subset_of e.deps visible)))

-- the same of the slot k of a store
unfoldable pub slot_ok : List ℕ → ℕ → ℕ → List ℕ → List ℕ → ℕ → Bool
slot_ok ws n p held visible k = implies (is_in held k) (both (nat_lt k (32 * n)) (fits n p (entry_at ws k) k held visible))

-- the store with one entry more, hidden
unfoldable pub hold_words : List ℕ → Entry → List ℕ
hold_words ws e = sets (sets ws (slot_at (id_of e)) (entry_words e)) 3 (inserted (part ws 3 8) (id_of e))

-- the store of an office that holds nothing
unfoldable pub empty_words : List ℕ → ℕ → ℕ → ℕ → List ℕ
empty_words ws n o p = sets ws 0 (n ∷ o ∷ p ∷ zeros ++ zeros)
