-- One office: its content, its store as words, when a store is sound, its clock, to reveal, what is current on a plot.
-- Paper 01, "Entries and rank", "Sound stores and errands". Assumes nothing.
use Rattle.std.specs.Prelude.{ℕ, zero, suc, ◌+◌, ◌*◌, ◌/◌, ◌%◌, ◌^◌, ◌<◌, max, Bool, true, false, cond, List, [], ◌∷◌, ◌++◌, length, drop, ◌==◌, nat_le, nat_lt, slice_index, None, Option, Some}
use Rattle.causal.specs.Tests.{both, implies, all_below}
use Rattle.causal.specs.Lists.{part, tab, sum_below, zeros}
use Rattle.causal.specs.Sets.{has, is_in, inserted, subset_of}
use Rattle.frame.specs.declared.entry.Entry.{Entry}
use Rattle.frame.specs.Entries.{id_of, entry_ok, outranks, blank_entry}
use Rattle.frame.specs.Frames.{ring_ok}
use Rattle.store.specs.Reveal.{revealed}

-- "An office holds entries, each hidden or shown": held and visible are sets of ids; entry k is what a held id k stands for
pub record Office : Type 0 where
  pub offices : ℕ
  pub own : ℕ
  pub plots : ℕ
  pub held : List ℕ
  pub visible : List ℕ
  pub entry : ℕ → Entry

abbrev pub empty_office : ℕ → ℕ → ℕ → Office
empty_office n o p = record { offices = n; own = o; plots = p; held = zeros; visible = zeros; entry = λ k. blank_entry }

-- ---- the store

-- "the need given by a public call"
abbrev pub need : ℕ → ℕ
need n = 19 + 576 * n

abbrev pub slot_at : ℕ → ℕ
slot_at k = 19 + 18 * k

-- what holds of any store that a program has: words
abbrev pub Words32 : List ℕ → Type 0
Words32 ws = (i : ℕ) → slice_index ws i < 2 ^ 32

-- the entry in the slot of id k
unfoldable pub entry_at : List ℕ → ℕ → Entry
entry_at ws k =
    record {
      office = k / 32;
      serial = k % 32 + 1;
      plot = slice_index ws (slot_at k);
      value = slice_index ws (slot_at k + 1);
      clock = part ws (slot_at k + 2) 8;
      deps = part ws (slot_at k + 10) 8;
    }

-- what a store says. What stands in the slot of an id that is not held means nothing
unfoldable pub office_of : List ℕ → Office
office_of ws =
    record {
      offices = slice_index ws 0;
      own = slice_index ws 1;
      plots = slice_index ws 2;
      held = part ws 3 8;
      visible = part ws 11 8;
      entry = λ k. cond (is_in (part ws 3 8) k) (entry_at ws k) blank_entry;
    }

abbrev pub entry_words : Entry → List ℕ
entry_words e = e.plot ∷ e.value ∷ e.clock ++ e.deps

-- a slot after a call: the words of what is held; of an id that is not held, the words that were there
unfoldable pub slot_words : List ℕ → Office → ℕ → List ℕ
slot_words ws O k = cond (is_in O.held k) (entry_words (O.entry k)) (part ws (slot_at k) 18)

unfoldable pub slots_to : (ℕ → List ℕ) → ℕ → List ℕ
slots_to f zero = []
slots_to f (suc k) = slots_to f k ++ f k

-- the words of the office O in the store ws: all words of a store but these stay
unfoldable pub store_words : List ℕ → Office → List ℕ
store_words ws O =
    O.offices ∷ O.own ∷ O.plots ∷ O.held ++ (O.visible ++ (slots_to (slot_words ws O) (32 * O.offices) ++ drop (need O.offices) ws))

-- ---- soundness

unfoldable pub settings_ok : ℕ → ℕ → ℕ → Bool
settings_ok n o p = both (ring_ok n p) (nat_lt o n)

-- "each held entry keeps the rules above with plot and offices in range, every dependency of a held entry is held and of a shown entry shown"
unfoldable pub held_ok : Office → ℕ → Bool
held_ok O k =
    implies (is_in O.held k)
    (both (nat_lt k (32 * O.offices))
    (both (entry_ok O.offices O.plots (O.entry k))
    (both (subset_of (O.entry k).deps O.held) (implies (is_in O.visible k) (subset_of (O.entry k).deps O.visible)))))

-- "and this office's own serials held are exactly 1 to its count": no gap
unfoldable pub gapless : Office → ℕ → Bool
gapless O s = implies (is_in O.held (32 * O.own + (s + 1))) (is_in O.held (32 * O.own + s))

unfoldable pub sound_office : Office → Bool
sound_office O = both (subset_of O.visible O.held) (both (all_below 256 (held_ok O)) (all_below 31 (gapless O)))

-- "A store is sound if it is long enough, has its settings in range, .."
unfoldable pub sound_store : List ℕ → Bool
sound_store ws =
    both (settings_ok (slice_index ws 0) (slice_index ws 1) (slice_index ws 2)) (both (nat_le (need (slice_index ws 0)) (length ws)) (sound_office (office_of ws)))

-- ---- what the rules say of an office

-- "the count of entries it made"
unfoldable pub made : Office → ℕ
made O = sum_below 32 (λ s. has O.held (32 * O.own + s))

unfoldable pub max_to : (ℕ → ℕ) → ℕ → ℕ
max_to f zero = 0
max_to f (suc k) = max (max_to f k) (f k)

abbrev pub visible_at : Office → ℕ → ℕ → ℕ
visible_at O j k = cond (is_in O.visible k) (slice_index (O.entry k).clock j) 0

-- "The office's clock has, at its own place, the count of entries it made, elsewhere the greatest number at that place among shown
-- entries, or 0"
abbrev pub clock_place : Office → ℕ → ℕ
clock_place O j = cond (j == O.own) (made O) (max_to (visible_at O j) (32 * O.offices))

unfoldable pub clock_of : Office → List ℕ
clock_of O = tab 8 (clock_place O)

-- "To bring out an entry is to show it and everything reached through dependencies": all of a set at once
unfoldable pub reveal : Office → List ℕ → Office
reveal O seeds =
    record {
      offices = O.offices;
      own = O.own;
      plots = O.plots;
      held = O.held;
      visible = (revealed (λ k. (O.entry k).deps) O.offices O.visible seeds).visible;
      entry = O.entry;
    }

-- an entry is held, hidden
unfoldable pub hold : Office → Entry → Office
hold O e =
    record {
      offices = O.offices;
      own = O.own;
      plots = O.plots;
      held = inserted O.held (id_of e);
      visible = O.visible;
      entry = λ k. cond (k == id_of e) e (O.entry k);
    }

-- an entry, or none
abbrev pub Found : Type 0
Found = Option Entry

-- the higher-ranked of an entry and what was found, which stays where they tie
unfoldable pub better : Entry → Found → Found
better e None = Some e
better e (Some b) = cond (outranks e b) (Some e) (Some b)

unfoldable pub consider : Bool → Entry → Found → Found
consider true e b = better e b
consider false e b = b

unfoldable pub best_to : Office → ℕ → ℕ → Found
best_to O plot zero = None
best_to O plot (suc k) = consider (both (is_in O.visible k) ((O.entry k).plot == plot)) (O.entry k) (best_to O plot k)

-- "Per plot it presents the highest-ranked shown entry"
unfoldable pub current : Office → ℕ → Found
current O plot = best_to O plot (32 * O.offices)

-- the higher-ranked of what was found and the own entries on the plot
unfoldable pub best_own : ℕ → Found → List Entry → Found
best_own plot b [] = b
best_own plot b (e ∷ es) = best_own plot (consider (e.plot == plot) e b) es
