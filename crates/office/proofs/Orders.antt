-- The order of refusals, by computing: "Each refusal is given if and only if its condition holds and no earlier one does". For each two neighbours
-- in a call's list, the codes of two calls: both conditions hold in the first, the later one alone in the second. Assumes nothing.
use Prim.Native.Nat.{ℕ}
use mathlib.Core.List.{List, [], ◌++◌, ◌∷◌}
use mathlib.Core.Path.{◌≡◌, refl}
use lib.Count.{count_trailing_zeros}
use lib.ListN.{replicate}
use Rattle.causal.specs.Clocks.{join}
use Rattle.causal.specs.Codes.{check, or_else}
use Rattle.causal.specs.Lists.{eq_words, part, sum_below, tab, zeros}
use Rattle.causal.specs.Rank.{higher, ranks_above}
use Rattle.causal.specs.Sets.{bit, has, inserted, is_in, lowest_in, lowest_of, minus, subset_of, unite, word_in}
use Rattle.causal.specs.Tests.{all_below, both, either, implies}
use Rattle.frame.specs.Calls.{laid}
use Rattle.frame.specs.Entries.{bounds_ok, clock_ok, clock_place_ok, entry_ok, ids_ok, ids_place_ok, outranks, same_content}
use Rattle.frame.specs.Frames.{accepts, body_words, frame_of, frame_ok, frame_words, framed, ring_ok}
use Rattle.frame.specs.Sessions.{Content, fresh_content, ids_of, leave_out, own_ok, session_ok}
use Rattle.frame.specs.Tokens.{rows_of}
use Rattle.frame.specs.Words.{clock_from, clock_words, id_word_if, id_words, id_words_to, ids_from, summed, total}
use Rattle.frame.specs.declared.entry.Entry.{Entry}
use Rattle.frame.proofs.Bounds.{carrying, loaded}
use Rattle.frame.proofs.Cases.{entry_a, entry_b}
use Rattle.store.specs.Offices.{best_own, best_to, better, clock_of, consider, current, entry_at, gapless, held_ok, hold, made, max_to, office_of, reveal, settings_ok, slot_words, slots_to, sound_office, sound_store, store_words}
use Rattle.store.specs.Reveal.{revealed, steps}
use Rattle.office.specs.Calls.{Result, answer_words, entry_code, handed, hold_all, hold_new, joint_code, joint_on, new_entry, noted, noted_all, open_office, own_code, plots_ok, read_code, read_joint, read_on, read_plot, receive, receive_code, receive_on, receive_sends, received_by, sent_of, three_words, write, write_code, write_on, wrote_session}
use Rattle.office.proofs.Bounds.{made32, other_deps, other_plot, other_value}
use Rattle.office.proofs.Cases.{before, got_a, got_b, read_b}

-- the store of `before`, office 2 of a ring of three, and of the same with A held
abbrev opened : List ℕ
opened = (open_office 3 2 64 (replicate 1747 0)).1

-- the same with 6 plots
abbrev opened6 : List ℕ
opened6 = (open_office 3 2 6 (replicate 1747 0)).1

abbrev stored_a : List ℕ
stored_a = store_words opened (got_a 1)

-- a session of another ring size; one that has read B and carries the entries es
abbrev stranger : Content
stranger = fresh_content 4

abbrev read_bWith : List Entry → Content
read_bWith es = record { offices = 3; clock = 1 ∷ 1 ∷ 0 ∷ 0 ∷ 0 ∷ 0 ∷ 0 ∷ 0 ∷ []; read = 0 ∷ 1 ∷ 0 ∷ 0 ∷ 0 ∷ 0 ∷ 0 ∷ 0 ∷ []; own = es }

-- an entry that names office 2; one on a plot where nothing is presented
abbrev unmade : List ℕ → Entry
unmade deps = record { office = 2; serial = 1; plot = 5; value = 1; clock = 0 ∷ 0 ∷ 1 ∷ 0 ∷ 0 ∷ 0 ∷ 0 ∷ 0 ∷ []; deps = deps }

abbrev elsewhere : Entry
elsewhere = record { office = 1; serial = 2; plot = 7; value = 1; clock = 0 ∷ 2 ∷ 0 ∷ 0 ∷ 0 ∷ 0 ∷ 0 ∷ 0 ∷ []; deps = zeros }

abbrev row : List ℕ
row = replicate 40 0

abbrev codes : {A B : Type 0} → Result A B → Result A B → List ℕ
codes r s = r.code ∷ s.code ∷ []

-- "Open an office. 1 .. 2"
pub record Opening : Type 0 where
  pub order_1_2 : (open_office 9 0 64 []).0 ∷ (open_office 8 0 64 []).0 ∷ [] ≡ 1 ∷ 2 ∷ []

-- "Read one plot. 2 .. 3 .. 4 .. 12"
pub record Reading : Type 0 where
  pub order_2_3 : codes (read_plot [] stranger 5) (read_plot opened stranger 5) ≡ 2 ∷ 3 ∷ []
  pub order_3_4 : codes (read_on before stranger 64) (read_on before (fresh_content 3) 64) ≡ 3 ∷ 4 ∷ []
  pub order_4_12 : codes (read_on before read_b 64) (read_on before read_b 5) ≡ 4 ∷ 12 ∷ []

-- "Read jointly. 2, 3 as before. 4 .. 8 .. 12"; then nothing (02, (i)), also where an own entry stands above what is presented
pub record Joint : Type 0 where
  pub order_2_3 : codes (read_joint [] stranger [] []) (read_joint opened stranger [] []) ≡ 2 ∷ 3 ∷ []
  pub order_3_4 : codes (joint_on before stranger (64 ∷ []) row) (joint_on before (fresh_content 3) (64 ∷ []) row) ≡ 3 ∷ 4 ∷ []
  pub order_4_8 : codes (joint_on before (fresh_content 3) (64 ∷ []) []) (joint_on before (fresh_content 3) (63 ∷ []) []) ≡ 4 ∷ 8 ∷ []
  pub order_17_8 : codes (joint_on before (fresh_content 3) (replicate 17 5) []) (joint_on before (fresh_content 3) (replicate 16 5) []) ≡ 4 ∷ 8 ∷ []
  pub order_8_12 : codes (joint_on before read_b (5 ∷ []) []) (joint_on before read_b (5 ∷ []) row) ≡ 8 ∷ 12 ∷ []
  pub last_12 : codes (joint_on before (read_bWith (elsewhere ∷ [])) (7 ∷ []) row) (joint_on got_b (read_bWith (elsewhere ∷ [])) (7 ∷ []) row) ≡ 12 ∷ 0 ∷ []

-- "Write. 2, 3, 4 as before. 5 .. 7 .. 6 .. 12 as before. Then for each own entry in order: 10 .. 11 .. 8"
pub record Writing : Type 0 where
  pub order_2_3 : codes (write [] stranger 5 1 row) (write opened stranger 5 1 row) ≡ 2 ∷ 3 ∷ []
  pub order_3_4 : codes (write_on before stranger 64 1 row) (write_on before (fresh_content 3) 64 1 row) ≡ 3 ∷ 4 ∷ []
  pub order_4_5 : codes (write_on before (fresh_content 3) 64 268435456 row) (write_on before (fresh_content 3) 63 268435456 row) ≡ 4 ∷ 5 ∷ []
  pub order_5_7 : codes (write_on before (loaded 16) 5 268435456 row) (write_on before (loaded 16) 5 268435455 row) ≡ 5 ∷ 7 ∷ []
  pub order_7_6 : codes (write_on made32 (loaded 16) 5 1 row) (write_on made32 (loaded 15) 5 1 row) ≡ 7 ∷ 6 ∷ []
  pub order_6_12 : codes (write_on made32 read_b 5 1 row) (write_on before read_b 5 1 row) ≡ 6 ∷ 12 ∷ []
  pub order_12_10 : codes (write_on before (read_bWith (unmade zeros ∷ [])) 5 1 row)
      (write_on got_b (read_bWith (unmade zeros ∷ [])) 5 1 row) ≡ 12 ∷ 10 ∷ []
  pub order_12_11 : codes (write_on (got_a 1) (read_bWith (other_value ∷ [])) 5 1 row) (write_on got_b (read_bWith (other_value ∷ [])) 5 1 row) ≡ 12 ∷ 11 ∷ []
  -- no entry is refused with both 10 and 11: the one is not held, the other is. "for each own entry in order": of two, the earlier one's comes first
  pub earlier_11 : codes (write_on (got_a 1) (carrying (other_value ∷ unmade zeros ∷ [])) 5 1 row)
      (write_on (got_a 1) (carrying (entry_a ∷ unmade zeros ∷ [])) 5 1 row) ≡ 11 ∷ 10 ∷ []
  pub earlier_10 : codes (write_on (got_a 1) (carrying (unmade zeros ∷ other_value ∷ [])) 5 1 row)
      (write_on (got_a 1) (carrying (elsewhere ∷ other_value ∷ [])) 5 1 row) ≡ 10 ∷ 11 ∷ []
  pub order_10_8 : codes (write_on before (carrying (unmade zeros ∷ [])) 5 1 []) (write_on before (carrying (elsewhere ∷ [])) 5 1 []) ≡ 10 ∷ 8 ∷ []
  pub order_11_8 : codes (write_on (got_a 1) (carrying (other_value ∷ [])) 5 1 []) (write_on (got_a 1) (carrying (entry_a ∷ [])) 5 1 []) ≡ 11 ∷ 8 ∷ []

-- "Hear a frame. 2 as before. 9 .. 10, 11 .. 12 .. 8"
pub record Receiving : Type 0 where
  pub order_2_9 : codes (receive [] [] []) (receive opened [] []) ≡ 2 ∷ 9 ∷ []
  -- one word more than the frame: what it says of its entry is as before
  pub order_9_10 : codes (receive opened (frame_words (framed 3 1 (unmade zeros)) ++ (0 ∷ [])) row)
      (receive opened (frame_words (framed 3 1 (unmade zeros))) row) ≡ 9 ∷ 10 ∷ []
  pub order_9_11 : codes (receive stored_a (frame_words (framed 3 1 other_value) ++ (0 ∷ [])) row)
      (receive stored_a (frame_words (framed 3 1 other_value)) row) ≡ 9 ∷ 11 ∷ []
  -- "9: not a frame for this ring and plots": of another ring size, with too many still to hear, with a wrong check, on a plot too high
  pub other_ring : (receive opened (frame_words (framed 4 1 entry_a)) row).code ≡ 9
  pub hops_over : (receive opened (frame_words (framed 3 2 entry_a)) row).code ≡ 9
  pub wrong_check : (receive opened (0x10011300 ∷ 0x30000005 ∷ 0x400002C5 ∷ 0x50000001 ∷ 0x50000000 ∷ 0x50000000 ∷ 0xF00115CA ∷ []) row).code ≡ 9
  pub six_plots : codes (receive opened6 (frame_words (framed 3 1 other_plot)) row) (receive opened6 (frame_words (framed 3 1 entry_a)) row) ≡ 9 ∷ 0 ∷ []
  -- 10 and 11 exclude each other, as above
  pub order_10_12 : codes (receive_on before (framed 3 1 (unmade (1 ∷ 0 ∷ 0 ∷ 0 ∷ 0 ∷ 0 ∷ 0 ∷ 0 ∷ []))) row)
      (receive_on before (framed 3 1 entry_b) row) ≡ 10 ∷ 12 ∷ []
  pub order_11_12 : codes (receive_on (got_a 1) (framed 3 1 other_deps) row) (receive_on before (framed 3 1 other_deps) row) ≡ 11 ∷ 12 ∷ []
  pub order_12_8 : codes (receive_on before (framed 3 1 entry_b) []) (receive_on (got_a 1) (framed 3 1 entry_b) []) ≡ 12 ∷ 8 ∷ []
  pub order_10_8 : codes (receive_on before (framed 3 1 (unmade zeros)) []) (receive_on before (framed 3 1 elsewhere) []) ≡ 10 ∷ 8 ∷ []
  pub order_11_8 : codes (receive_on (got_a 1) (framed 3 1 other_value) []) (receive_on (got_a 1) (framed 3 1 entry_a) []) ≡ 11 ∷ 8 ∷ []

pub record Orders : Type 0 where
  pub opening : Opening
  pub reading : Reading
  pub joint : Joint
  pub writing : Writing
  pub receiving : Receiving

pub orders : Orders
unfolding both ring_ok settings_ok open_office count_trailing_zeros either implies all_below check or_else part tab sum_below eq_words bit has is_in unite minus inserted word_in subset_of lowest_in lowest_of join higher ranks_above outranks clock_words clock_from id_word_if id_words_to id_words ids_from total summed clock_place_ok clock_ok ids_place_ok ids_ok bounds_ok entry_ok same_content body_words frame_words frame_ok frame_of accepts laid ids_of own_ok session_ok rows_of steps revealed made max_to clock_of reveal hold better consider best_to current best_own entry_code own_code noted read_code handed plots_ok joint_code noted_all three_words answer_words new_entry leave_out sent_of write_code hold_all wrote_session receive_code hold_new received_by receive_sends read_on joint_on write_on receive_on entry_at office_of slot_words slots_to store_words held_ok gapless sound_office sound_store read_plot read_joint write receive
orders =
    record {
      opening =
          record {
            order_1_2 = refl;
          };
      reading =
          record {
            order_2_3 = refl;
            order_3_4 = refl;
            order_4_12 = refl;
          };
      joint =
          record {
            order_2_3 = refl;
            order_3_4 = refl;
            order_4_8 = refl;
            order_17_8 = refl;
            order_8_12 = refl;
            last_12 = refl;
          };
      writing =
          record {
            order_2_3 = refl;
            order_3_4 = refl;
            order_4_5 = refl;
            order_5_7 = refl;
            order_7_6 = refl;
            order_6_12 = refl;
            order_12_10 = refl;
            order_12_11 = refl;
            earlier_11 = refl;
            earlier_10 = refl;
            order_10_8 = refl;
            order_11_8 = refl;
          };
      receiving =
          record {
            order_2_9 = refl;
            order_9_10 = refl;
            order_9_11 = refl;
            other_ring = refl;
            hops_over = refl;
            wrong_check = refl;
            six_plots = refl;
            order_10_12 = refl;
            order_11_12 = refl;
            order_12_8 = refl;
            order_10_8 = refl;
            order_11_8 = refl;
          };
    }
