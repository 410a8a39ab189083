-- The bounds of paper 01 in the calls of an office, by computing: each kept and passed by one; refusals 10 and 11
-- from each side, and what readings hand back. Assumes nothing.
use Rattle.std.proofs.Common.{None, Some}
use Prim.Native.Nat.{ℕ, ◌+◌}
use mathlib.Core.Bool.{true}
use mathlib.Core.List.{List, [], ◌∷◌}
use mathlib.Core.Path.{◌≡◌, refl}
use lib.Count.{count_trailing_zeros}
use lib.ListN.{replicate}
use Rattle.causal.specs.Clocks.{join}
use Rattle.causal.specs.Codes.{check, or_else}
use Rattle.causal.specs.Lists.{eq_words, part, sum_below, tab, zeros}
use Rattle.causal.specs.Rank.{higher, ranks_above}
use Rattle.causal.specs.Sets.{bit, has, inserted, is_in, lowest_in, lowest_of, minus, subset_of, unite, word_in}
use Rattle.causal.specs.Tests.{all_below, both, either, implies}
use Rattle.frame.specs.Calls.{laid}
use Rattle.frame.specs.Entries.{bounds_ok, clock_ok, clock_place_ok, entry_ok, ids_ok, ids_place_ok, outranks, same_content}
use Rattle.frame.specs.Frames.{accepts, body_words, frame_of, frame_ok, frame_words, framed, ring_ok}
use Rattle.frame.specs.Sessions.{Content, fresh_content, ids_of, leave_out, own_ok, session_ok}
use Rattle.frame.specs.Tokens.{rows_of}
use Rattle.frame.specs.Words.{clock_from, clock_words, id_word_if, id_words, id_words_to, ids_from, summed, total}
use Rattle.frame.specs.declared.entry.Entry.{Entry}
use Rattle.frame.proofs.Bounds.{carrying, loaded}
use Rattle.frame.proofs.Cases.{entry_a}
use Rattle.store.specs.Offices.{Office, best_own, best_to, better, clock_of, consider, current, empty_office, gapless, held_ok, hold, made, max_to, reveal, settings_ok, sound_office}
use Rattle.store.specs.Reveal.{revealed, steps}
use Rattle.office.specs.Calls.{answer_words, entry_code, handed, hold_all, hold_new, joint_code, joint_on, new_entry, noted, noted_all, open_office, own_code, plots_ok, read_code, read_on, receive_code, receive_on, receive_sends, received_by, sent_of, store_need, three_words, write_code, write_on, wrote_session}
use Rattle.office.proofs.Cases.{before, got_a}

-- office 0 of a ring of three that holds of its own entries those of the set w, all hidden
abbrev pub maker : ℕ → Office
maker w =
    record {
      offices = 3;
      own = 0;
      plots = 64;
      held = w ∷ 0 ∷ 0 ∷ 0 ∷ 0 ∷ 0 ∷ 0 ∷ 0 ∷ [];
      visible = zeros;
      entry =
          λ k.
          record { office = 0; serial = k + 1; plot = 5; value = k; clock = (k + 1) ∷ 0 ∷ 0 ∷ 0 ∷ 0 ∷ 0 ∷ 0 ∷ 0 ∷ []; deps = zeros };
    }

-- one that has made 31, and one that has made 32
abbrev pub made31 : Office
made31 = maker 2147483647

abbrev pub made32 : Office
made32 = maker 4294967295

-- the entry 0.1 with a plot, a value and the clock [1, a]
abbrev first : ℕ → ℕ → ℕ → Entry
first plot value a =
    record { office = 0; serial = 1; plot = plot; value = value; clock = 1 ∷ a ∷ 0 ∷ 0 ∷ 0 ∷ 0 ∷ 0 ∷ 0 ∷ []; deps = zeros }

-- A as it is not: each with one part of the content changed
abbrev pub other_plot : Entry
other_plot = first 6 709 0

abbrev pub other_value : Entry
other_value = first 5 710 0

abbrev pub other_clock : Entry
other_clock = first 5 709 1

abbrev pub other_deps : Entry
other_deps =
    record { office = 0; serial = 1; plot = 5; value = 709; clock = 1 ∷ 0 ∷ 0 ∷ 0 ∷ 0 ∷ 0 ∷ 0 ∷ 0 ∷ []; deps = 0 ∷ 1 ∷ 0 ∷ 0 ∷ 0 ∷ 0 ∷ 0 ∷ 0 ∷ [] }

-- entries on plot 5 that outrank A, and that A outranks
abbrev higher_than_a : Entry
higher_than_a = record { office = 0; serial = 2; plot = 5; value = 1; clock = 2 ∷ 0 ∷ 0 ∷ 0 ∷ 0 ∷ 0 ∷ 0 ∷ 0 ∷ []; deps = zeros }

abbrev lower_than_a : Entry
lower_than_a = record { office = 1; serial = 1; plot = 5; value = 1; clock = 0 ∷ 1 ∷ 0 ∷ 0 ∷ 0 ∷ 0 ∷ 0 ∷ 0 ∷ []; deps = zeros }

-- an office of 6 plots
abbrev six : Office
six = empty_office 3 2 6

-- a session with a clock and read names, that carries nothing
abbrev having : List ℕ → List ℕ → Content
having clock read = record { offices = 3; clock = clock; read = read; own = [] }

pub record Openings : Type 0 where
  -- ring of 2 to 8, 1 to 64 plots, own number below the ring size, a store of the need
  pub ring_1 : (open_office 1 0 64 (replicate 4627 0)).0 ≡ 1
  pub ring_2 : (open_office 2 0 64 (replicate 4627 0)).0 ≡ 0
  pub ring_8 : (open_office 8 0 64 (replicate 4627 0)).0 ≡ 0
  pub ring_9 : (open_office 9 0 64 (replicate 8192 0)).0 ≡ 1
  pub plots_0 : (open_office 2 0 0 (replicate 1171 0)).0 ≡ 1
  pub plots_1 : (open_office 2 0 1 (replicate 1171 0)).0 ≡ 0
  pub plots_64 : (open_office 2 0 64 (replicate 1171 0)).0 ≡ 0
  pub plots_65 : (open_office 2 0 65 (replicate 1171 0)).0 ≡ 1
  pub own_last : (open_office 2 1 64 (replicate 1171 0)).0 ≡ 0
  pub own_over : (open_office 2 2 64 (replicate 1171 0)).0 ≡ 1
  pub store_short : (open_office 2 0 64 (replicate 1170 0)).0 ≡ 2
  pub need_1 : store_need 1 0 64 ≡ (1, 0)
  pub need_2 : store_need 2 1 64 ≡ (0, 1171)
  pub need_8 : store_need 8 7 64 ≡ (0, 4627)
  pub need_own_over : store_need 8 8 64 ≡ (1, 0)
  pub need_plots_0 : store_need 3 2 0 ≡ (1, 0)
  pub need_plots_65 : store_need 3 2 65 ≡ (1, 0)

pub record Limits : Type 0 where
  -- plots 0 to 63 of 64
  pub read_63 : (read_on before (fresh_content 3) 63).code ≡ 0
  pub read_64 : (read_on before (fresh_content 3) 64).code ≡ 4
  -- 16 plots at most in a joint reading, three words for each
  pub joint_16 : (joint_on before (fresh_content 3) (replicate 16 63) (replicate 48 0)).code ≡ 0
  pub joint_short : (joint_on before (fresh_content 3) (replicate 16 63) (replicate 47 0)).code ≡ 8
  pub joint_17 : (joint_on before (fresh_content 3) (replicate 17 63) (replicate 51 0)).code ≡ 4
  pub joint_64 : (joint_on before (fresh_content 3) (5 ∷ 64 ∷ []) (replicate 6 0)).code ≡ 4
  pub joint_none : (joint_on before (fresh_content 3) [] []).code ≡ 0
  -- "32nd entry made, 33rd refused 6"
  pub sound_32 : sound_office made32 ≡ true
  pub makes_32 : (write_on made31 (fresh_content 3) 5 1 (replicate 7 0)).code ≡ 0
  pub makes_33 : (write_on made32 (fresh_content 3) 5 1 (replicate 7 0)).code ≡ 6
  -- "16 carried, 17th refused 7"
  pub carries_16 : (write_on before (loaded 15) 63 1 (replicate 127 0)).code ≡ 0
  pub carries_17 : (write_on before (loaded 16) 63 1 (replicate 135 0)).code ≡ 7
  pub write_64 : (write_on before (fresh_content 3) 64 1 (replicate 7 0)).code ≡ 4
  -- the carried ones and the new one have to fit: fifteen of 7 words, and one of 7 with fifteen dependencies
  pub carried_short : (write_on before (loaded 15) 63 1 (replicate 126 0)).code ≡ 8
  -- a frame that goes on has to fit; one that does not needs no room
  pub onward_fits : (receive_on before (framed 3 1 entry_a) (replicate 7 0)).code ≡ 0
  pub onward_short : (receive_on before (framed 3 1 entry_a) (replicate 6 0)).code ≡ 8
  pub last_needs_none : (receive_on before (framed 3 0 entry_a) []).code ≡ 0

-- the plots are the office's own, not 64
pub record SixPlots : Type 0 where
  pub read_5 : (read_on six (fresh_content 3) 5).code ≡ 0
  pub read_6 : (read_on six (fresh_content 3) 6).code ≡ 4
  pub joint_5 : (joint_on six (fresh_content 3) (5 ∷ []) (replicate 3 0)).code ≡ 0
  pub joint_6 : (joint_on six (fresh_content 3) (6 ∷ []) (replicate 3 0)).code ≡ 4
  pub write_5 : (write_on six (fresh_content 3) 5 1 (replicate 7 0)).code ≡ 0
  pub write_6 : (write_on six (fresh_content 3) 6 1 (replicate 7 0)).code ≡ 4
  pub carries_5 : (read_on six (carrying (entry_a ∷ [])) 5).code ≡ 0
  pub carries_6 : (read_on six (carrying (other_plot ∷ [])) 5).code ≡ 3

-- 3: "names, clocks and plots are in range for that ring"
pub record Unsound : Type 0 where
  pub clock_32 : (read_on before (having (32 ∷ 0 ∷ 0 ∷ 0 ∷ 0 ∷ 0 ∷ 0 ∷ 0 ∷ []) zeros) 5).code ≡ 0
  pub clock_33 : (read_on before (having (33 ∷ 0 ∷ 0 ∷ 0 ∷ 0 ∷ 0 ∷ 0 ∷ 0 ∷ []) zeros) 5).code ≡ 3
  pub clock_unused : (read_on before (having (0 ∷ 0 ∷ 0 ∷ 1 ∷ 0 ∷ 0 ∷ 0 ∷ 0 ∷ []) zeros) 5).code ≡ 3
  pub read_stranger : (read_on before (having zeros (0 ∷ 0 ∷ 0 ∷ 1 ∷ 0 ∷ 0 ∷ 0 ∷ 0 ∷ [])) 5).code ≡ 3

pub record Sides : Type 0 where
  -- 11: "it is held with other content", whichever part; and not with the same
  pub same_again : (receive_on (got_a 1) (framed 3 0 entry_a) []).code ≡ 0
  pub other_plot_lem : (receive_on (got_a 1) (framed 3 0 other_plot) []).code ≡ 11
  pub other_value_lem : (receive_on (got_a 1) (framed 3 0 other_value) []).code ≡ 11
  pub other_clock_lem : (receive_on (got_a 1) (framed 3 0 other_clock) []).code ≡ 11
  pub other_deps_lem : (receive_on (got_a 1) (framed 3 0 other_deps) []).code ≡ 11
  -- 10: "it names this office and was not made here"; held here, it was
  pub not_made : (receive_on (maker 0) (framed 3 0 entry_a) []).code ≡ 10
  pub made_here : (receive_on (hold (maker 0) entry_a) (framed 3 0 entry_a) []).code ≡ 0
  -- a reading hands back the higher-ranked; "the same name and clock but other content ties with the presented one, the presented one is handed back"
  pub hands_own : (read_on (got_a 0) (carrying (higher_than_a ∷ [])) 5).found ≡ Some higher_than_a ∷ []
  pub hands_presented : (read_on (got_a 0) (carrying (lower_than_a ∷ [])) 5).found ≡ Some entry_a ∷ []
  pub tie : (read_on (got_a 0) (carrying (other_value ∷ [])) 5).found ≡ Some entry_a ∷ []
  -- a joint one does as a single one (02, (i)), on each plot and at each repeat: its row has the own entry, the read names the presented one
  pub joint_own : (joint_on (got_a 0) (carrying (higher_than_a ∷ [])) (5 ∷ 6 ∷ 5 ∷ []) (replicate 9 0)).found ≡ Some higher_than_a ∷ None ∷ Some higher_than_a ∷ []
  pub joint_words : (joint_on (got_a 0) (carrying (higher_than_a ∷ [])) (5 ∷ 6 ∷ 5 ∷ []) (replicate 9 0)).row ≡ 1 ∷ 1 ∷ 2 ∷ 0 ∷ 0 ∷ 0 ∷ 1 ∷ 1 ∷ 2 ∷ []
  pub joint_reads : (joint_on (got_a 0) (carrying (higher_than_a ∷ [])) (5 ∷ 6 ∷ 5 ∷ []) (replicate 9 0)).session.read ≡ 1 ∷ 0 ∷ 0 ∷ 0 ∷ 0 ∷ 0 ∷ 0 ∷ 0 ∷ []
  pub joint_alone : (joint_on before (carrying (entry_a ∷ [])) (5 ∷ []) (replicate 3 0)).found ≡ Some entry_a ∷ []
  pub joint_presented : (joint_on (got_a 0) (carrying (lower_than_a ∷ [])) (5 ∷ []) (replicate 3 0)).found ≡ Some entry_a ∷ []
  pub joint_tie : (joint_on (got_a 0) (carrying (other_value ∷ [])) (5 ∷ []) (replicate 3 0)).found ≡ Some entry_a ∷ []

pub record Bounds : Type 0 where
  pub opening : Openings
  pub limits : Limits
  pub six_plots : SixPlots
  pub unsound : Unsound
  pub sides : Sides

pub bounds : Bounds
unfolding both ring_ok settings_ok open_office store_need count_trailing_zeros either implies all_below check or_else part tab sum_below eq_words bit has is_in unite minus inserted word_in subset_of lowest_in lowest_of join higher ranks_above outranks clock_words clock_from id_word_if id_words_to id_words ids_from total summed clock_place_ok clock_ok ids_place_ok ids_ok bounds_ok entry_ok same_content body_words frame_words frame_ok frame_of accepts laid ids_of own_ok session_ok rows_of steps revealed made max_to clock_of reveal hold better consider best_to current best_own entry_code own_code noted read_code handed plots_ok joint_code noted_all three_words answer_words new_entry leave_out sent_of write_code hold_all wrote_session receive_code hold_new received_by receive_sends read_on joint_on write_on receive_on held_ok gapless sound_office
bounds =
    record {
      opening =
          record {
            ring_1 = refl;
            ring_2 = refl;
            ring_8 = refl;
            ring_9 = refl;
            plots_0 = refl;
            plots_1 = refl;
            plots_64 = refl;
            plots_65 = refl;
            own_last = refl;
            own_over = refl;
            store_short = refl;
            need_1 = refl;
            need_2 = refl;
            need_8 = refl;
            need_own_over = refl;
            need_plots_0 = refl;
            need_plots_65 = refl;
          };
      limits =
          record {
            read_63 = refl;
            read_64 = refl;
            joint_16 = refl;
            joint_short = refl;
            joint_17 = refl;
            joint_64 = refl;
            joint_none = refl;
            sound_32 = refl;
            makes_32 = refl;
            makes_33 = refl;
            carries_16 = refl;
            carries_17 = refl;
            write_64 = refl;
            carried_short = refl;
            onward_fits = refl;
            onward_short = refl;
            last_needs_none = refl;
          };
      six_plots =
          record {
            read_5 = refl;
            read_6 = refl;
            joint_5 = refl;
            joint_6 = refl;
            write_5 = refl;
            write_6 = refl;
            carries_5 = refl;
            carries_6 = refl;
          };
      unsound =
          record {
            clock_32 = refl;
            clock_33 = refl;
            clock_unused = refl;
            read_stranger = refl;
          };
      sides =
          record {
            same_again = refl;
            other_plot_lem = refl;
            other_value_lem = refl;
            other_clock_lem = refl;
            other_deps_lem = refl;
            not_made = refl;
            made_here = refl;
            hands_own = refl;
            hands_presented = refl;
            tie = refl;
            joint_own = refl;
            joint_words = refl;
            joint_reads = refl;
            joint_alone = refl;
            joint_presented = refl;
            joint_tie = refl;
          };
    }
