-- A foreman corrects his own entry in another office: a run that has what `LaterCounts` asks of a correction, and the answer of a reading there;
-- computed on contents, and so on words whatever the rows held before they were opened. Assumes nothing.
use Rattle.std.proofs.Common.{Some}
use Prim.Native.Nat.{ℕ, ◌<◌, ◌≤◌}
use mathlib.Core.List.Memᴰ
use mathlib.Core.List.{List, [], ◌++◌, ◌∷◌, map}
use mathlib.Core.Path.{◌∙◌, ◌≡◌, ap, refl}
use native.Mathlib.Omega.{arith}
use lib.Count.{count_trailing_zeros}
use lib.ListN.{length, replicate}
use Rattle.causal.specs.Clocks.{join}
use Rattle.causal.specs.Codes.{check, or_else}
use Rattle.causal.specs.Lists.{eq_words, part, sum_below, tab}
use Rattle.causal.specs.Rank.{higher, ranks_above}
use Rattle.causal.specs.Sets.{bit, has, inserted, is_in, lowest_in, lowest_of, minus, subset_of, unite, word_in}
use Rattle.causal.specs.Tests.{all_below, both, either, implies}
use Rattle.frame.specs.Calls.{laid}
use Rattle.frame.specs.Entries.{bounds_ok, clock_ok, clock_place_ok, entry_ok, id_of, ids_ok, ids_place_ok, outranks, same_content}
use Rattle.frame.specs.Frames.{body_words, frame_words, ring_ok}
use Rattle.frame.specs.Sessions.{ids_of, leave_out, own_ok, session_ok}
use Rattle.frame.specs.Tokens.{rows_of}
use Rattle.frame.specs.Words.{clock_words, id_word_if, id_words, id_words_to, summed, total}
use Rattle.frame.specs.declared.entry.Entry.{Entry}
use Rattle.frame.proofs.Cases.{entry_a}
use Rattle.store.specs.Offices.{Office, best_own, best_to, better, clock_of, consider, current, hold, made, max_to, need, reveal}
use Rattle.store.specs.Reveal.{revealed, steps}
use Rattle.office.specs.Calls.{entry_code, fresh_code, handed, hold_all, hold_new, new_entry, noted, noted_all, own_code, read_code, read_on, receive_code, receive_on, receive_sends, received_by, sent_of, write_code, write_on, wrote_session}
use Rattle.ring.specs.Holds.{Same, Shows}
use Rattle.ring.specs.Later.{Knew}
use Rattle.ring.specs.Run.{Call, Event, Made, at, contents_run, fresh, gained, last_of, next_of, over_contents, reading, receiving, run, step, together, upd, words_run, writer_past, writing}
use Rattle.ring.proofs.Theorem.{demand3}

abbrev row : List ℕ
row = replicate 64 0

-- he writes plot 5 at office 0, goes to office 1 and writes it anew before any frame was heard: that write sends both entries, and office 2 and
-- then office 0 hear both
abbrev pub heard : List Call
heard =
    fresh 3
    ∷ fresh 3
    ∷ writing 0 0 5 709 row
    ∷ writing 1 0 5 710 row
    ∷ receiving 2 row
    ∷ receiving 2 row
    ∷ receiving 0 row
    ∷ receiving 0 row
    ∷ []

-- a visitor reads plot 5 at office 0
abbrev pub visited : List Call
visited = heard ++ (reading 0 1 5 ∷ [])

-- by the clock of office 1 alone it would be 0, 1, .. and lose to A's 1, 0, ..
abbrev pub entry_c : Entry
entry_c =
    record { office = 1; serial = 1; plot = 5; value = 710; clock = 1 ∷ 1 ∷ 0 ∷ 0 ∷ 0 ∷ 0 ∷ 0 ∷ 0 ∷ []; deps = 1 ∷ 0 ∷ 0 ∷ 0 ∷ 0 ∷ 0 ∷ 0 ∷ 0 ∷ [] }

abbrev pub first : Made
first = record { entry = entry_a; past = [] }

abbrev pub correction : Made
correction = record { entry = entry_c; past = 0 ∷ [] }

pub record Corrected (rows : ℕ → List ℕ) : Type 0 where
  pub knew : Knew (words_run 3 64 rows heard).log correction first
  -- both are visible at office 0
  pub shows : Shows ((words_run 3 64 rows heard).stores 0) entry_c
  pub shows_first : Shows ((words_run 3 64 rows heard).stores 0) entry_a
  -- and the visitor is handed back the correction
  pub handed_back : map (λ (v : Event). v.reads) (at (words_run 3 64 rows visited).events 8) ≡ ((5, Some entry_c) ∷ []) ∷ []

record Computed : Type 0 where
  log : (contents_run 3 64 heard).log ≡ first ∷ correction ∷ []
  shows : has ((contents_run 3 64 heard).stores 0).visible (id_of entry_c) ≡ 1
  shows_first : has ((contents_run 3 64 heard).stores 0).visible (id_of entry_a) ≡ 1
  handed_back : map (λ (v : Event). v.reads) (at (contents_run 3 64 visited).events 8) ≡ ((5, Some entry_c) ∷ []) ∷ []

computed : Computed
unfolding count_trailing_zeros both either implies all_below check or_else part tab sum_below eq_words bit has is_in unite minus inserted word_in subset_of lowest_in lowest_of join higher ranks_above outranks clock_words id_word_if id_words_to id_words total summed clock_place_ok clock_ok ids_place_ok ids_ok bounds_ok entry_ok same_content ring_ok body_words frame_words laid ids_of own_ok session_ok rows_of steps revealed made max_to clock_of reveal hold better consider best_to current best_own entry_code own_code noted noted_all read_code handed new_entry leave_out sent_of write_code hold_all wrote_session receive_code hold_new received_by receive_sends read_on write_on receive_on fresh_code at upd next_of writer_past gained together last_of step run over_contents contents_run
computed = record { log = refl; shows = refl; shows_first = refl; handed_back = refl }

pub corrected : (rows : ℕ → List ℕ) → ((o : ℕ) → o < 3 → need 3 ≤ length (rows o)) → Corrected rows
corrected rows long =
    record {
      knew =
          rw ((same heard).log ∙ computed.log)
          (record { made = Memᴰ.tail (Memᴰ.head refl); earlier = Memᴰ.head refl; known = Memᴰ.head refl });
      shows = ap (λ (O : Office). has O.visible (id_of entry_c)) ((same heard).stores 0 (omega arith)) ∙ computed.shows;
      shows_first = ap (λ (O : Office). has O.visible (id_of entry_a)) ((same heard).stores 0 (omega arith)) ∙ computed.shows_first;
      handed_back = ap (λ (l : List Event). map (λ (v : Event). v.reads) (at l 8)) (same visited).events ∙ computed.handed_back;
    }
  where
    same : (cs : List Call) → Same 3 rows (words_run 3 64 rows cs) (contents_run 3 64 cs)
    same cs = (demand3 3 64 (omega arith) (omega arith) (omega arith) (omega arith) rows long cs).same
