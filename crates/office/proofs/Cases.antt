-- Facts by computing that the substitutes of paper 01's last section and the old clerk's ways do not meet. Assumes nothing.
use Rattle.std.proofs.Common.{None, Some}
use Prim.Native.Nat.{ℕ, ◌*◌, ◌+◌}
use mathlib.Core.Bool.{true}
use mathlib.Core.List.{List, [], ◌∷◌, map}
use mathlib.Core.Path.{◌≡◌, refl}
use lib.Count.{count_trailing_zeros}
use lib.ListN.{replicate}
use Rattle.causal.specs.Clocks.{join}
use Rattle.causal.specs.Codes.{check, or_else}
use Rattle.causal.specs.Lists.{eq_words, part, sum_below, tab, zeros}
use Rattle.causal.specs.Rank.{higher, ranks_above}
use Rattle.causal.specs.Sets.{bit, has, inserted, is_in, lowest_in, lowest_of, minus, subset_of, unite, word_in}
use Rattle.causal.specs.Tests.{all_below, both, either, implies}
use Rattle.frame.specs.Calls.{laid}
use Rattle.frame.specs.Entries.{bounds_ok, clock_ok, clock_place_ok, entry_ok, ids_ok, ids_place_ok, outranks, same_content}
use Rattle.frame.specs.Frames.{accepts, body_words, frame_of, frame_ok, frame_words, framed, ring_ok}
use Rattle.frame.specs.Sessions.{Content, fresh_content, ids_of, leave_out, own_ok, session_ok}
use Rattle.frame.specs.Tokens.{rows_of}
use Rattle.frame.specs.Words.{clock_from, clock_words, id_word_if, id_words, id_words_to, ids_from, summed, total}
use Rattle.frame.specs.declared.entry.Frame.{Frame}
use Rattle.frame.proofs.Cases.{entry_a, entry_b}
use Rattle.store.specs.Offices.{Office, best_own, best_to, better, clock_of, consider, current, empty_office, hold, made, max_to, reveal, settings_ok}
use Rattle.store.specs.Reveal.{revealed, steps}
use Rattle.office.specs.Calls.{answer_words, entry_code, fresh_code, handed, hold_all, hold_new, joint_code, joint_on, new_entry, noted, noted_all, open_office, own_code, plots_ok, read_code, read_on, receive_code, receive_on, receive_sends, received_by, sent_of, store_need, three_words, write_code, write_on, wrote_session}

abbrev row : List ℕ
row = replicate 20 0

-- an office of the ring, that holds nothing; after it received A with t hops to go; after it received A and then B
abbrev pub before : Office
before = empty_office 3 2 64

abbrev pub got_a : ℕ → Office
got_a t = (receive_on before (framed 3 t entry_a) row).store

abbrev pub got_b : Office
got_b = (receive_on (got_a 1) (framed 3 1 entry_b) row).store

-- a session that has read B elsewhere; one that carries A
abbrev pub read_b : Content
read_b = record { offices = 3; clock = 1 ∷ 1 ∷ 0 ∷ 0 ∷ 0 ∷ 0 ∷ 0 ∷ 0 ∷ []; read = 0 ∷ 1 ∷ 0 ∷ 0 ∷ 0 ∷ 0 ∷ 0 ∷ 0 ∷ []; own = [] }

abbrev pub carries_a : Content
carries_a = record { offices = 3; clock = 1 ∷ 0 ∷ 0 ∷ 0 ∷ 0 ∷ 0 ∷ 0 ∷ 0 ∷ []; read = zeros; own = entry_a ∷ [] }

pub record Cases : Type 0 where
  -- the last office to receive it shows it; an office in the middle does not, and sends it on, also if it holds it already
  pub last_shows : (got_a 0).visible ≡ 1 ∷ 0 ∷ 0 ∷ 0 ∷ 0 ∷ 0 ∷ 0 ∷ 0 ∷ []
  pub middle_hides : (got_a 1).visible ≡ zeros
  pub middle_sends : (receive_on before (framed 3 1 entry_a) row).sent ≡ framed 3 0 entry_a ∷ []
  pub again_sends : (receive_on (got_a 1) (framed 3 1 entry_a) row).sent ≡ framed 3 0 entry_a ∷ []
  pub again_shows : (receive_on (got_a 1) (framed 3 0 entry_a) row).store.visible ≡ 1 ∷ 0 ∷ 0 ∷ 0 ∷ 0 ∷ 0 ∷ 0 ∷ 0 ∷ []
  -- a reading reveals what was read, with what it depends on, and hands it back; a joint one likewise
  pub reading_shows : (read_on got_b read_b 6).store.visible ≡ 1 ∷ 1 ∷ 0 ∷ 0 ∷ 0 ∷ 0 ∷ 0 ∷ 0 ∷ []
  pub reading_hands : (read_on got_b read_b 6).found ≡ Some entry_b ∷ []
  pub joint_hands : (joint_on got_b read_b (6 ∷ 7 ∷ []) row).found ≡ Some entry_b ∷ None ∷ []
  pub joint_row : (joint_on got_b read_b (6 ∷ 7 ∷ []) (9 ∷ 9 ∷ 9 ∷ 9 ∷ 9 ∷ 9 ∷ 9 ∷ [])).row ≡ 1 ∷ 1 ∷ 257 ∷ 0 ∷ 0 ∷ 0 ∷ 9 ∷ []
  pub joint_own : (joint_on before carries_a (5 ∷ 6 ∷ []) row).found ≡ Some entry_a ∷ None ∷ []
  pub joint_own_unread : (joint_on before carries_a (5 ∷ 6 ∷ []) row).session ≡ carries_a
  -- a write on an office that made nothing is accepted, is framed in seven words, and is held
  pub write_code_lem : (write_on before (fresh_content 3) 5 709 row).code ≡ 0
  pub write_count : (write_on before (fresh_content 3) 5 709 row).count ≡ 7
  pub write_held : (write_on before (fresh_content 3) 5 709 row).store.held ≡ 0 ∷ 0 ∷ 1 ∷ 0 ∷ 0 ∷ 0 ∷ 0 ∷ 0 ∷ []
  -- carried entries go ahead of the new one
  pub carried_first : map (λ (f : Frame). f.entry.serial + 100 * f.entry.office) (write_on before carries_a 6 1 row).sent ≡ 1 ∷ 201 ∷ []
  -- what was read and is not held here: 12
  pub write_misses : (write_on before read_b 6 2 row).code ≡ 12
  -- a write joins the session's clock: the correction outranks what was read
  pub correction : map (λ (f : Frame). outranks f.entry entry_b) (write_on got_b read_b 6 2 row).sent ≡ true ∷ []
  -- "value 2^28 − 1 written, 2^28 refused 5; out row one word short, 8; ring of 9, refused 1"
  pub value_top : (write_on before (fresh_content 3) 5 268435455 row).code ≡ 0
  pub value_over : (write_on before (fresh_content 3) 5 268435456 row).code ≡ 5
  pub row_enough : (write_on before (fresh_content 3) 5 709 (replicate 7 0)).code ≡ 0
  pub row_short : (write_on before (fresh_content 3) 5 709 (replicate 6 0)).code ≡ 8
  pub ring_of_9 : fresh_code 9 ≡ 1
  pub office_of_9 : open_office 9 0 64 [] ≡ (1, [])
  pub need_of_9 : store_need 9 0 64 ≡ (1, 0)
  pub need_of_3 : store_need 3 2 64 ≡ (0, 1747)

pub cases : Cases
unfolding count_trailing_zeros both either implies all_below check or_else part tab sum_below eq_words bit has is_in unite minus inserted word_in subset_of lowest_in lowest_of join higher ranks_above outranks clock_words clock_from id_word_if id_words_to id_words ids_from total summed clock_place_ok clock_ok ids_place_ok ids_ok bounds_ok entry_ok same_content ring_ok body_words frame_words frame_ok frame_of accepts laid ids_of own_ok session_ok rows_of steps revealed settings_ok made max_to clock_of reveal hold better consider best_to current best_own entry_code own_code noted read_code handed plots_ok joint_code noted_all three_words answer_words new_entry leave_out sent_of write_code hold_all wrote_session receive_code hold_new received_by receive_sends read_on joint_on write_on receive_on fresh_code open_office store_need
cases =
    record {
      last_shows = refl;
      middle_hides = refl;
      middle_sends = refl;
      again_sends = refl;
      again_shows = refl;
      reading_shows = refl;
      reading_hands = refl;
      joint_hands = refl;
      joint_row = refl;
      joint_own = refl;
      joint_own_unread = refl;
      write_code_lem = refl;
      write_count = refl;
      write_held = refl;
      carried_first = refl;
      write_misses = refl;
      correction = refl;
      value_top = refl;
      value_over = refl;
      row_enough = refl;
      row_short = refl;
      ring_of_9 = refl;
      office_of_9 = refl;
      need_of_9 = refl;
      need_of_3 = refl;
    }
