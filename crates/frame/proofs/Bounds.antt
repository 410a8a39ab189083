-- The bounds of paper 01's table in frames, tokens and sessions, by computing: each bound kept and passed by one; and the order of refusals: each
-- with two conditions at once, then with the later one alone. Assumes nothing.
use Rattle.std.proofs.Common.{◌≡◌, ℕ, ◌+◌, true, false, List, [], ◌∷◌, refl}
use Rattle.causal.specs.Codes.{check}
use Rattle.causal.specs.Lists.{eq_words, part, tab, zeros}
use Rattle.causal.specs.Sets.{bit, has, inserted, is_in, subset_of, unite, word_in}
use Rattle.causal.specs.Tests.{all_below, both, either}
use Rattle.frame.specs.Calls.{read_frame_code, write_frame_code}
use Rattle.frame.specs.Entries.{bounds_ok, clock_ok, clock_place_ok, entry_ok, ids_ok, ids_place_ok}
use Rattle.frame.specs.Frames.{accepts, body_words, frame_of, frame_ok, frame_words, framed, ring_ok}
use Rattle.frame.specs.Sessions.{Content, fresh_content, own_ok, session_ok}
use Rattle.frame.specs.TokenCalls.{read_token_code, write_token_code}
use Rattle.frame.specs.Tokens.{accepts_token, content_from, own_from, rows_of, token_words}
use Rattle.frame.specs.Words.{clock_from, clock_words, id_word_if, id_words, id_words_to, ids_from, summed, total}
use Rattle.frame.specs.declared.entry.Entry.{Entry}
use Rattle.frame.proofs.Cases.{entry_a, entry_b, row_a}

-- the entry of office 1 with the serial s and the dependencies d
abbrev pub numbered : ℕ → List ℕ → Entry
numbered s d = record { office = 1; serial = s; plot = 5; value = s; clock = 0 ∷ s ∷ 0 ∷ 0 ∷ 0 ∷ 0 ∷ 0 ∷ 0 ∷ []; deps = d }

-- the same on a plot, with the number a at its own place of the clock
abbrev clocked : ℕ → ℕ → ℕ → Entry
clocked s a plot = record { office = 1; serial = s; plot = plot; value = s; clock = 0 ∷ a ∷ 0 ∷ 0 ∷ 0 ∷ 0 ∷ 0 ∷ 0 ∷ []; deps = zeros }

-- a session of a ring of three that carries the entries es; one that carries n
abbrev pub carrying : List Entry → Content
carrying es = record { offices = 3; clock = zeros; read = zeros; own = es }

abbrev pub loaded : ℕ → Content
loaded n = carrying (tab n (λ i. numbered (i + 1) zeros))

-- id 32 + i, of office 1 and the serial i + 1, alone
abbrev only : ℕ → List ℕ
only i = inserted zeros (32 + i)

-- "offices in a ring: 2 to 8", "plots: 1 to 64"
pub record Rings : Type 0 where
  pub ring_1 : ring_ok 1 64 ≡ false
  pub ring_2 : ring_ok 2 64 ≡ true
  pub ring_8 : ring_ok 8 64 ≡ true
  pub ring_9 : ring_ok 9 64 ≡ false
  pub plots_0 : ring_ok 3 0 ≡ false
  pub plots_1 : ring_ok 3 1 ≡ true
  pub plots_64 : ring_ok 3 64 ≡ true
  pub plots_65 : ring_ok 3 65 ≡ false

-- the entry rules: office, serial, plot, value; then clock, own number and dependencies
pub record Rules : Type 0 where
  pub office_2 : bounds_ok 3 64 2 1 5 709 ≡ true
  pub office_3 : bounds_ok 3 64 3 1 5 709 ≡ false
  pub serial_0 : bounds_ok 3 64 0 0 5 709 ≡ false
  pub serial_1 : bounds_ok 3 64 0 1 5 709 ≡ true
  pub serial_32 : bounds_ok 3 64 0 32 5 709 ≡ true
  pub serial_33 : bounds_ok 3 64 0 33 5 709 ≡ false
  pub plot_63 : bounds_ok 3 64 0 1 63 709 ≡ true
  pub plot_64 : bounds_ok 3 64 0 1 64 709 ≡ false
  pub value_top : bounds_ok 3 64 0 1 5 268435455 ≡ true
  pub value_over : bounds_ok 3 64 0 1 5 268435456 ≡ false
  -- "each 0 to 32", "unused offices zero"
  pub clock_32 : clock_ok 3 (0 ∷ 0 ∷ 32 ∷ 0 ∷ 0 ∷ 0 ∷ 0 ∷ 0 ∷ []) ≡ true
  pub clock_33 : clock_ok 3 (0 ∷ 0 ∷ 33 ∷ 0 ∷ 0 ∷ 0 ∷ 0 ∷ 0 ∷ []) ≡ false
  pub clock_unused : clock_ok 3 (0 ∷ 0 ∷ 0 ∷ 1 ∷ 0 ∷ 0 ∷ 0 ∷ 0 ∷ []) ≡ false
  -- "its own office's number equals its serial"; "No entry depends on itself"; names of offices that the ring has
  pub own_number : entry_ok 3 64 (numbered 4 zeros) ≡ true
  pub other_number : entry_ok 3 64 (clocked 4 3 5) ≡ false
  pub on_another : entry_ok 3 64 (numbered 4 (only 2)) ≡ true
  pub on_itself : entry_ok 3 64 (numbered 4 (only 3)) ≡ false
  pub on_a_stranger : entry_ok 3 64 (numbered 4 (0 ∷ 0 ∷ 0 ∷ 1 ∷ 0 ∷ 0 ∷ 0 ∷ 0 ∷ [])) ≡ false

-- "own entries carried by an errand: 16"; "own entries have distinct names .., and each depends only on read names and earlier own entries"
pub record Carried : Type 0 where
  pub carries_16 : session_ok 3 64 (loaded 16) ≡ true
  pub carries_17 : session_ok 3 64 (loaded 17) ≡ false
  pub other_ring : session_ok 4 64 (loaded 1) ≡ false
  pub fewer_plots : session_ok 3 5 (loaded 1) ≡ false
  pub same_name : session_ok 3 64 (carrying (numbered 1 zeros ∷ numbered 1 zeros ∷ [])) ≡ false
  pub on_earlier : session_ok 3 64 (carrying (numbered 1 zeros ∷ numbered 2 (only 0) ∷ [])) ≡ true
  pub on_later : session_ok 3 64 (carrying (numbered 1 (only 1) ∷ numbered 2 zeros ∷ [])) ≡ false

pub record Frames : Type 0 where
  -- "The "still to hear" count is at most offices − 2"
  pub hops_in_2 : frame_ok 2 64 (framed 2 0 entry_a) ≡ true
  pub hops_over_2 : frame_ok 2 64 (framed 2 1 entry_a) ≡ false
  pub hops_in_3 : frame_ok 3 64 (framed 3 1 entry_a) ≡ true
  pub hops_over_3 : frame_ok 3 64 (framed 3 2 entry_a) ≡ false
  pub hops_in_8 : frame_ok 8 64 (framed 8 6 entry_a) ≡ true
  pub hops_over_8 : frame_ok 8 64 (framed 8 7 entry_a) ≡ false
  -- read as a frame of its ring and plots, of another ring, of too few plots
  pub reads : read_frame_code 3 6 row_a ≡ 0
  pub other_ring : read_frame_code 4 64 row_a ≡ 9
  pub fewer_plots : read_frame_code 3 5 row_a ≡ 9
  -- reading: 1 and 9; 9
  pub order_1_9 : read_frame_code 9 64 [] ∷ read_frame_code 8 64 [] ∷ [] ≡ 1 ∷ 9 ∷ []
  -- writing: room, and one word short; 3 and 8; 8
  pub room : write_frame_code (framed 3 1 entry_b) 8 ∷ write_frame_code (framed 3 1 entry_b) 7 ∷ [] ≡ 0 ∷ 8 ∷ []
  pub order_3_8 : write_frame_code (framed 3 2 entry_b) 7 ∷ write_frame_code (framed 3 1 entry_b) 7 ∷ [] ≡ 3 ∷ 8 ∷ []
  pub order_3_8_ring : write_frame_code (framed 9 1 entry_b) 0 ∷ write_frame_code (framed 8 1 entry_b) 0 ∷ [] ≡ 3 ∷ 8 ∷ []
  -- plot 63 is in a frame of its ring size with 64 plots, 64 is not
  pub last_plot : write_frame_code (framed 3 1 (clocked 1 1 63)) 7 ≡ 0
  pub plot_over : write_frame_code (framed 3 1 (clocked 1 1 64)) 7 ≡ 3

pub record Tokens : Type 0 where
  -- twelve words, read with plots that cover its own entry, with too few, in another ring
  pub reads : read_token_code 3 6 (token_words (loaded 1)) ≡ 0
  pub fewer_plots : read_token_code 3 5 (token_words (loaded 1)) ≡ 9
  pub other_ring : read_token_code 4 64 (token_words (loaded 1)) ≡ 9
  -- reading: 1 and 9; 9
  pub order_1_9 : read_token_code 9 64 [] ∷ read_token_code 8 64 [] ∷ [] ≡ 1 ∷ 9 ∷ []
  -- writing: room, and one word short; 3 and 8; 8
  pub room : write_token_code (loaded 1) 12 ∷ write_token_code (loaded 1) 11 ∷ [] ≡ 0 ∷ 8 ∷ []
  pub order_3_8 : write_token_code (carrying (numbered 0 zeros ∷ [])) 0 ∷ write_token_code (loaded 1) 0 ∷ [] ≡ 3 ∷ 8 ∷ []
  pub order_3_8_ring : write_token_code (fresh_content 9) 0 ∷ write_token_code (fresh_content 8) 0 ∷ [] ≡ 3 ∷ 8 ∷ []
  pub carries_16 : write_token_code (loaded 16) 117 ≡ 0
  pub carries_17 : write_token_code (loaded 17) 0 ≡ 3

pub record Bounds : Type 0 where
  pub rings : Rings
  pub rules : Rules
  pub carried : Carried
  pub frames : Frames
  pub tokens : Tokens

pub bounds : Bounds
unfolding both ring_ok either all_below bit has is_in inserted clock_place_ok clock_ok ids_place_ok ids_ok bounds_ok entry_ok tab unite word_in subset_of own_ok session_ok check eq_words part clock_words clock_from id_word_if id_words_to id_words ids_from total summed body_words frame_words frame_ok frame_of accepts read_frame_code write_frame_code rows_of token_words own_from content_from accepts_token read_token_code write_token_code
bounds =
    record {
      rings =
          record {
            ring_1 = refl;
            ring_2 = refl;
            ring_8 = refl;
            ring_9 = refl;
            plots_0 = refl;
            plots_1 = refl;
            plots_64 = refl;
            plots_65 = refl;
          };
      rules =
          record {
            office_2 = refl;
            office_3 = refl;
            serial_0 = refl;
            serial_1 = refl;
            serial_32 = refl;
            serial_33 = refl;
            plot_63 = refl;
            plot_64 = refl;
            value_top = refl;
            value_over = refl;
            clock_32 = refl;
            clock_33 = refl;
            clock_unused = refl;
            own_number = refl;
            other_number = refl;
            on_another = refl;
            on_itself = refl;
            on_a_stranger = refl;
          };
      carried =
          record {
            carries_16 = refl;
            carries_17 = refl;
            other_ring = refl;
            fewer_plots = refl;
            same_name = refl;
            on_earlier = refl;
            on_later = refl;
          };
      frames =
          record {
            hops_in_2 = refl;
            hops_over_2 = refl;
            hops_in_3 = refl;
            hops_over_3 = refl;
            hops_in_8 = refl;
            hops_over_8 = refl;
            reads = refl;
            other_ring = refl;
            fewer_plots = refl;
            order_1_9 = refl;
            room = refl;
            order_3_8 = refl;
            order_3_8_ring = refl;
            last_plot = refl;
            plot_over = refl;
          };
      tokens =
          record {
            reads = refl;
            fewer_plots = refl;
            other_ring = refl;
            order_1_9 = refl;
            room = refl;
            order_3_8 = refl;
            order_3_8_ring = refl;
            carries_16 = refl;
            carries_17 = refl;
          };
    }
