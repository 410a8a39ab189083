-- The script of paper 01, "The ring program", by computing over stores and rows of zeros, as the program has them: the eleven replies, and the
-- frames that the first and the third line send. Assumes nothing.
use Prim.Native.Nat.{ℕ}
use mathlib.Core.List.{List, [], ◌∷◌, map}
use mathlib.Core.Path.{◌≡◌, refl}
use lib.Count.{count_trailing_zeros}
use lib.ListN.{replicate, take}
use Rattle.causal.specs.Clocks.{join}
use Rattle.causal.specs.Codes.{check, or_else}
use Rattle.causal.specs.Lists.{eq_words, part, sum_below, tab}
use Rattle.causal.specs.Rank.{higher, ranks_above}
use Rattle.causal.specs.Sets.{bit, has, inserted, is_in, lowest_in, lowest_of, minus, subset_of, unite, word_in}
use Rattle.causal.specs.Tests.{all_below, both, either, implies}
use Rattle.frame.specs.Calls.{laid}
use Rattle.frame.specs.Entries.{bounds_ok, clock_ok, clock_place_ok, entry_ok, ids_ok, ids_place_ok, outranks, same_content}
use Rattle.frame.specs.Frames.{accepts, body_words, frame_of, frame_ok, frame_words, ring_ok}
use Rattle.frame.specs.Sessions.{ids_of, leave_out, own_ok, session_ok}
use Rattle.frame.specs.Tokens.{rows_of}
use Rattle.frame.specs.Words.{clock_from, clock_words, id_word_if, id_words, id_words_to, ids_from, summed, total}
use Rattle.store.specs.Offices.{best_own, best_to, better, clock_of, consider, current, hold, made, max_to, reveal, settings_ok}
use Rattle.store.specs.Reveal.{revealed, steps}
use Rattle.office.specs.Calls.{entry_code, fresh_code, handed, hold_all, hold_new, new_entry, noted, noted_all, own_code, read_code, read_on, receive_code, receive_on, receive_sends, received_by, sent_of, write_code, write_on, wrote_session}
use Rattle.ring.specs.Run.{at, gained, last_of, next_of, run, step, together, upd, writer_past}
use Rattle.store.specs.Offices.{entry_at, gapless, held_ok, office_of, slot_words, slots_to, sound_office, sound_store, store_words}
use Rattle.office.specs.Calls.{open_office, read_plot, receive, write}
use Rattle.ring.specs.Run.{over_words, words_run}
use Rattle.script.specs.declared.line.Line.{Line}
use Rattle.script.proofs.Cases.{table_lines, table_replies}
use Rattle.frame.proofs.Cases.{row_a, row_b}
use Rattle.player.specs.Play.{Scene, crowded, opening, play, play_all, play_read, play_receive, play_write, read_reply, settled, wrote_reply}

abbrev pub zero_rows : ℕ → List ℕ
zero_rows o = replicate 1747 0

-- the lines, each with an out row of zeros, played from the opening on
abbrev pub zero_rowed : List Line → List (List ℕ × Line)
zero_rowed ls = map (λ (l : Line). (replicate 1751 0, l)) ls

abbrev scene_after : List Line → Scene
scene_after ls = (play_all (opening zero_rows) (zero_rowed ls)).0

pub record Plays : Type 0 where
  pub replies : (play_all (opening zero_rows) (zero_rowed table_lines)).1 ≡ table_replies
  pub first_sends : (scene_after (take 1 table_lines)).ring.lines 1 ≡ row_a ∷ []
  pub third_sends : (scene_after (take 3 table_lines)).ring.lines 2 ≡ row_a ∷ row_b ∷ []

pub table_plays : Plays
unfolding count_trailing_zeros both either implies all_below check or_else part tab sum_below eq_words bit has is_in unite minus inserted word_in subset_of lowest_in lowest_of join higher ranks_above outranks clock_words clock_from id_word_if id_words_to id_words ids_from total summed clock_place_ok clock_ok ids_place_ok ids_ok bounds_ok entry_ok same_content ring_ok body_words frame_words frame_ok frame_of accepts laid ids_of own_ok session_ok rows_of steps revealed settings_ok made max_to clock_of reveal hold better consider best_to current best_own entry_code own_code noted noted_all read_code handed new_entry leave_out sent_of write_code hold_all wrote_session receive_code hold_new received_by receive_sends read_on write_on receive_on read_plot write receive open_office entry_at office_of slot_words slots_to store_words held_ok gapless sound_office sound_store fresh_code at upd next_of writer_past gained together last_of step run over_words words_run crowded settled wrote_reply read_reply play_write play_read play_receive play play_all
table_plays = record { replies = refl; first_sends = refl; third_sends = refl }
