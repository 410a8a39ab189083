-- The three clocks of paper 01, by computing: "With [2,0], [0,3], [2,1] met in that order it keeps the first value, while [2,0], [2,1], [0,3] keeps
-- the value of [2,1]. Here one entry is kept whole." Assumes nothing.
use Rattle.std.proofs.Common.{Some}
use Prim.Native.Nat.{ℕ}
use mathlib.Core.Bool.{true}
use mathlib.Core.List.{List, [], ◌∷◌}
use mathlib.Core.Path.{◌≡◌, refl}
use lib.Count.{count_trailing_zeros}
use Rattle.causal.specs.Clocks.{join}
use Rattle.causal.specs.Codes.{check, or_else}
use Rattle.causal.specs.Lists.{eq_words, part, sum_below, tab, zeros}
use Rattle.causal.specs.Rank.{higher, ranks_above}
use Rattle.causal.specs.Sets.{bit, has, inserted, is_in, lowest_in, lowest_of, minus, subset_of, unite, word_in}
use Rattle.causal.specs.Tests.{all_below, both, either, implies}
use Rattle.frame.specs.Calls.{laid}
use Rattle.frame.specs.declared.entry.Entry.{Entry}
use Rattle.frame.specs.Entries.{bounds_ok, clock_ok, clock_place_ok, entry_ok, ids_ok, ids_place_ok, outranks, same_content}
use Rattle.frame.specs.Frames.{body_words, frame_words, framed}
use Rattle.frame.specs.Tokens.{rows_of}
use Rattle.frame.specs.Words.{clock_words, id_word_if, id_words, id_words_to, summed, total}
use Rattle.store.specs.Offices.{Office, best_to, better, consider, current, empty_office, hold, reveal, gapless, held_ok, sound_office}
use Rattle.store.specs.Reveal.{revealed, steps}
use Rattle.office.specs.Calls.{entry_code, hold_new, receive_code, receive_on, receive_sends, received_by}

-- an entry of office o with the serial s, the clock [a, b] and the value v: 0.2, 1.3 and 1.1, each with a value of its own
abbrev three : ℕ → ℕ → ℕ → ℕ → ℕ → Entry
three o s a b v = record { office = o; serial = s; plot = 7; value = v; clock = a ∷ b ∷ 0 ∷ 0 ∷ 0 ∷ 0 ∷ 0 ∷ 0 ∷ []; deps = zeros }

abbrev pub clock_2_0 : Entry
clock_2_0 = three 0 2 2 0 20

abbrev pub clock_0_3 : Entry
clock_0_3 = three 1 3 0 3 3

abbrev pub clock_2_1 : Entry
clock_2_1 = three 1 1 2 1 21

-- the office 2 of a ring of three, the last to receive each
abbrev pub hears : Office → Entry → Office
hears O e = (receive_on O (framed 3 0 e) []).store

abbrev pub hearer : Office
hearer = empty_office 3 2 64

-- the refusal codes of three hearings, one after another
abbrev pub codes_of : Entry → Entry → Entry → List ℕ
codes_of a b c =
    (receive_on hearer (framed 3 0 a) []).code
    ∷ (receive_on (hears hearer a) (framed 3 0 b) []).code
    ∷ (receive_on (hears (hears hearer a) b) (framed 3 0 c) []).code
    ∷ []

abbrev pub one_order : Office
one_order = hears (hears (hears hearer clock_2_0) clock_0_3) clock_2_1

abbrev pub other_order : Office
other_order = hears (hears (hears hearer clock_2_0) clock_2_1) clock_0_3

pub record Three : Type 0 where
  -- they keep the entry rules
  pub keeps_2_0 : entry_ok 3 64 clock_2_0 ≡ true
  pub keeps_0_3 : entry_ok 3 64 clock_0_3 ≡ true
  pub keeps_2_1 : entry_ok 3 64 clock_2_1 ≡ true
  -- none of the hearings is refused
  pub one_heard : codes_of clock_2_0 clock_0_3 clock_2_1 ≡ 0 ∷ 0 ∷ 0 ∷ []
  pub other_heard : codes_of clock_2_0 clock_2_1 clock_0_3 ≡ 0 ∷ 0 ∷ 0 ∷ []
  -- met in either order, the same one is kept, whole
  pub kept_one : current one_order 7 ≡ Some clock_2_1
  pub kept_other : current other_order 7 ≡ Some clock_2_1
  pub sound_one : sound_office one_order ≡ true
  pub sound_other : sound_office other_order ≡ true

pub three_clocks : Three
unfolding count_trailing_zeros both either implies all_below check or_else part tab sum_below eq_words bit has is_in unite minus inserted word_in subset_of lowest_in lowest_of join higher ranks_above outranks clock_words id_word_if id_words_to id_words total summed clock_place_ok clock_ok ids_place_ok ids_ok bounds_ok entry_ok same_content body_words frame_words laid rows_of steps revealed reveal hold better consider best_to current entry_code receive_code hold_new received_by receive_sends receive_on gapless held_ok sound_office
three_clocks =
    record {
      keeps_2_0 = refl;
      keeps_0_3 = refl;
      keeps_2_1 = refl;
      one_heard = refl;
      other_heard = refl;
      kept_one = refl;
      kept_other = refl;
      sound_one = refl;
      sound_other = refl;
    }
