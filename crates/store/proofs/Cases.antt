-- Facts by computing: an empty office, an entry held, revealed and current; stores that are sound and that are not. Assumes nothing.
use Rattle.std.proofs.Common.{◌≡◌, ℕ, true, false, List, [], ◌∷◌, take, replicate, refl, None, Some}
use lib.Count.{count_trailing_zeros}
use Rattle.causal.specs.Lists.{part, sum_below, tab, zeros}
use Rattle.causal.specs.Rank.{higher, ranks_above}
use Rattle.causal.specs.Sets.{bit, has, inserted, is_in, lowest_in, lowest_of, minus, subset_of, unite, word_in}
use Rattle.causal.specs.Tests.{all_below, both, either, implies}
use Rattle.frame.specs.Entries.{bounds_ok, clock_ok, clock_place_ok, entry_ok, id_of, ids_ok, ids_place_ok, outranks}
use Rattle.frame.specs.Frames.{ring_ok}
use Rattle.frame.specs.declared.entry.Entry.{Entry}
use Rattle.frame.proofs.Cases.{entry_a, entry_b}
use Rattle.store.specs.Offices.{Office, best_to, better, clock_of, consider, current, empty_office, entry_at, gapless, held_ok, hold, made, max_to, office_of, reveal, settings_ok, slot_words, slots_to, sound_office, sound_store, store_words}
use Rattle.store.specs.Reveal.{revealed, steps}

abbrev empty : Office
empty = empty_office 3 2 64

-- A is held, then B, which depends on it; then B is revealed
abbrev held : Office
held = hold (hold empty entry_a) entry_b

abbrev visible : Office
visible = reveal held (inserted zeros (id_of entry_b))

abbrev room : List ℕ
room = replicate 1747 0

-- serial 2 of office 0, without serial 1
abbrev gap_a : Entry
gap_a = record { office = 0; serial = 2; plot = 5; value = 709; clock = 2 ∷ 0 ∷ 0 ∷ 0 ∷ 0 ∷ 0 ∷ 0 ∷ 0 ∷ []; deps = zeros }

-- an office with other sets: held h, visible v
abbrev settled : List ℕ → List ℕ → Office
settled h v = record { offices = 3; own = 2; plots = 64; held = h; visible = v; entry = held.entry }

pub record Cases : Type 0 where
  -- an office that made nothing
  pub none_made : made empty ≡ 0
  pub none_clock : clock_of empty ≡ zeros
  pub none_current : current empty 5 ≡ None
  -- what is held is hidden; to reveal it shows what it depends on too
  pub hidden : current held 6 ≡ None
  pub revealed_all : visible.visible ≡ 1 ∷ 1 ∷ 0 ∷ 0 ∷ 0 ∷ 0 ∷ 0 ∷ 0 ∷ []
  pub counted : (revealed (λ k. (held.entry k).deps) 3 zeros (inserted zeros (id_of entry_b))).steps ≡ 2
  pub current_a : current visible 5 ≡ Some entry_a
  pub current_b : current visible 6 ≡ Some entry_b
  -- the clock counts what is visible, and at its own place what was made
  pub clock_visible : clock_of visible ≡ 1 ∷ 1 ∷ 0 ∷ 0 ∷ 0 ∷ 0 ∷ 0 ∷ 0 ∷ []
  pub made_own : made (hold (empty_office 3 0 64) entry_a) ≡ 1
  -- soundness
  pub sound_both : sound_office held ≡ true
  pub unsound_dep : sound_office (hold empty entry_b) ≡ false
  pub unsound_gap : sound_office (hold (empty_office 3 0 64) gap_a) ≡ false
  -- visible but not held; visible with a hidden dependency; held on a plot that the office has not
  pub unsound_not_held : sound_office (settled zeros (1 ∷ 0 ∷ 0 ∷ 0 ∷ 0 ∷ 0 ∷ 0 ∷ 0 ∷ [])) ≡ false
  pub unsound_hidden_dep : sound_office (settled held.held (0 ∷ 1 ∷ 0 ∷ 0 ∷ 0 ∷ 0 ∷ 0 ∷ 0 ∷ [])) ≡ false
  pub sound_plot : sound_office (hold (empty_office 3 2 6) entry_a) ≡ true
  pub unsound_plot : sound_office (hold (empty_office 3 2 5) entry_a) ≡ false
  -- settings words out of range
  pub unsound_ring_9 : sound_store (9 ∷ 2 ∷ 64 ∷ replicate 5200 0) ≡ false
  pub unsound_own : sound_store (3 ∷ 3 ∷ 64 ∷ replicate 1744 0) ≡ false
  pub unsound_plots_65 : sound_store (3 ∷ 2 ∷ 65 ∷ replicate 1744 0) ≡ false
  pub sound_words : sound_store (store_words room visible) ≡ true
  pub short_words : sound_store (store_words (take 1746 room) empty) ≡ false
  pub nine_offices : settings_ok 9 0 64 ≡ false

pub cases : Cases
unfolding count_trailing_zeros both either implies all_below part tab sum_below bit has is_in unite minus inserted word_in subset_of lowest_in lowest_of higher ranks_above outranks clock_place_ok clock_ok ids_place_ok ids_ok bounds_ok entry_ok ring_ok steps revealed entry_at office_of slot_words slots_to store_words settings_ok held_ok gapless sound_office sound_store made max_to clock_of reveal hold better consider best_to current
cases =
    record {
      none_made = refl;
      none_clock = refl;
      none_current = refl;
      hidden = refl;
      revealed_all = refl;
      counted = refl;
      current_a = refl;
      current_b = refl;
      clock_visible = refl;
      made_own = refl;
      sound_both = refl;
      unsound_dep = refl;
      unsound_gap = refl;
      unsound_not_held = refl;
      unsound_hidden_dep = refl;
      sound_plot = refl;
      unsound_plot = refl;
      unsound_ring_9 = refl;
      unsound_own = refl;
      unsound_plots_65 = refl;
      sound_words = refl;
      short_words = refl;
      nine_offices = refl;
    }
