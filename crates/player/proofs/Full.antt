-- "`full` if a call not refused would leave over 32 frames waiting at one office, nothing changed", by computing over stores and rows of zeros:
-- 32 may wait, the 33rd is `full`, and a refusal comes before it. Assumes nothing.
use Prim.Native.Nat.{ℕ}
use mathlib.Core.Bool.{cond, false, true}
use mathlib.Core.List.{List, [], ◌∷◌}
use mathlib.Core.Path.{◌≡◌, refl}
use lib.Count.{count_trailing_zeros}
use lib.Dec.{eqb}
use lib.ListN.{replicate}
use Rattle.causal.specs.Clocks.{join}
use Rattle.causal.specs.Codes.{check, or_else}
use Rattle.causal.specs.Lists.{eq_words, part, sum_below, tab}
use Rattle.causal.specs.Rank.{higher, ranks_above}
use Rattle.causal.specs.Sets.{bit, has, inserted, is_in, lowest_in, lowest_of, minus, subset_of, unite, word_in}
use Rattle.causal.specs.Tests.{all_below, both, either, implies}
use Rattle.frame.specs.Calls.{laid}
use Rattle.frame.specs.Entries.{bounds_ok, clock_ok, clock_place_ok, entry_ok, ids_ok, ids_place_ok, outranks, same_content}
use Rattle.frame.specs.Frames.{accepts, body_words, frame_of, frame_ok, frame_words, ring_ok}
use Rattle.frame.specs.Sessions.{ids_of, leave_out, own_ok, session_ok}
use Rattle.frame.specs.Tokens.{rows_of}
use Rattle.frame.specs.Words.{clock_from, clock_words, id_word_if, id_words, id_words_to, ids_from, summed, total}
use Rattle.store.specs.Offices.{best_own, best_to, better, clock_of, consider, current, hold, made, max_to, reveal, settings_ok}
use Rattle.store.specs.Reveal.{revealed, steps}
use Rattle.office.specs.Calls.{entry_code, fresh_code, handed, hold_all, hold_new, new_entry, noted, noted_all, own_code, read_code, read_on, receive_code, receive_on, receive_sends, received_by, sent_of, write_code, write_on, wrote_session}
use Rattle.ring.specs.Run.{at, gained, last_of, next_of, run, step, together, upd, writer_past}
use Rattle.store.specs.Offices.{entry_at, gapless, held_ok, office_of, slot_words, slots_to, sound_office, sound_store, store_words}
use Rattle.office.specs.Calls.{open_office, read_plot, receive, write}
use Rattle.ring.specs.Run.{over_words, words_run}
use Rattle.script.specs.declared.line.Line.TheVariants.{Move, Read, Receive, Write}
use Rattle.script.specs.declared.reply.Reply.TheVariants.{Full, NoEntry, Odd, Received, Refused, Wrote}
use Rattle.frame.proofs.Cases.{row_a}
use Rattle.player.proofs.Table.{zero_rows}
use Rattle.player.specs.Play.{Scene, crowded, opening, play, play_all, play_read, play_receive, play_write, read_reply, settled, wrote_reply}

abbrev row : List ℕ
row = replicate 1751 0

-- the opened ring with a frames A waiting at office 1, and b at office 2
abbrev waiting : ℕ → ℕ → Scene
waiting a b =
    record {
      ring =
          record {
            stores = (opening zero_rows).ring.stores;
            lines = λ o. cond (eqb o 1) (replicate a row_a) (cond (eqb o 2) (replicate b row_a) []);
            sessions = (opening zero_rows).ring.sessions;
            tokens = [];
            log = [];
            events = [];
          };
      place = 0 ∷ 0 ∷ 0 ∷ 0 ∷ [];
    }

pub record Full-at-33 : Type 0 where
  pub holds_32 : crowded (waiting 32 0).ring ≡ false
  pub not_33 : crowded (waiting 33 0).ring ≡ true
  -- a write at office 0 sends one frame to office 1
  pub the_32nd : (play row (waiting 31 0) (Write 0 5 709)).1 ≡ Wrote 0 1
  pub the_33rd : (play row (waiting 32 0) (Write 0 5 709)).1 ≡ Full
  pub nothing_changed : (play row (waiting 32 0) (Write 0 5 709)).0 ≡ waiting 32 0
  pub refused_first : (play row (waiting 32 0) (Write 0 5 268435456)).1 ≡ Refused 5
  -- a hearing at office 1 sends one to office 2; the frame stays where that is `full`
  pub heard_32 : (play row (waiting 2 31) (Receive 1)).1 ≡ Received 1
  pub heard_33 : (play row (waiting 2 32) (Receive 1)).1 ≡ Full
  pub still_waits : (play row (waiting 2 32) (Receive 1)).0 ≡ waiting 2 32
  -- a reading sends nothing
  pub reads_on : (play row (waiting 32 32) (Read 0 5)).1 ≡ NoEntry
  -- "errands above 3 and offices above 2 also give `line?`"
  pub errand_4 : (play row (waiting 0 0) (Read 4 5)).1 ≡ Odd
  pub office_3 : (play row (waiting 0 0) (Move 0 3)).1 ≡ Odd

pub full_at_33 : Full-at-33
unfolding count_trailing_zeros both either implies all_below check or_else part tab sum_below eq_words bit has is_in unite minus inserted word_in subset_of lowest_in lowest_of join higher ranks_above outranks clock_words clock_from id_word_if id_words_to id_words ids_from total summed clock_place_ok clock_ok ids_place_ok ids_ok bounds_ok entry_ok same_content ring_ok body_words frame_words frame_ok frame_of accepts laid ids_of own_ok session_ok rows_of steps revealed settings_ok made max_to clock_of reveal hold better consider best_to current best_own entry_code own_code noted noted_all read_code handed new_entry leave_out sent_of write_code hold_all wrote_session receive_code hold_new received_by receive_sends read_on write_on receive_on read_plot write receive open_office entry_at office_of slot_words slots_to store_words held_ok gapless sound_office sound_store fresh_code at upd next_of writer_past gained together last_of step run over_words words_run crowded settled wrote_reply read_reply play_write play_read play_receive play play_all
full_at_33 =
    record {
      holds_32 = refl;
      not_33 = refl;
      the_32nd = refl;
      the_33rd = refl;
      nothing_changed = refl;
      refused_first = refl;
      heard_32 = refl;
      heard_33 = refl;
      still_waits = refl;
      reads_on = refl;
      errand_4 = refl;
      office_3 = refl;
    }
