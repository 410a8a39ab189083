-- A run with every kind of call, accepted and refused, and with every way in which a call finds nothing to do: what it leads to, by computing on
-- contents, and so on words whatever the rows held before they were opened. It begins as the script of paper 01's table. So the definitions
-- of a run do what they say, also where the script does not go: joint readings, tokens, copies, joins, refusals, other words. Assumes nothing.
use Rattle.std.proofs.Common.{None, Some}
use Prim.Native.Nat.{ℕ, ◌<◌, ◌≤◌}
use mathlib.Core.List.{List, [], ◌++◌, ◌∷◌, map}
use mathlib.Core.Path.{◌∙◌, ◌≡◌, ap, refl}
use native.Mathlib.Omega.{arith}
use lib.Count.{count_trailing_zeros}
use lib.ListN.{drop, length, replicate, take}
use Rattle.causal.specs.Clocks.{join}
use Rattle.causal.specs.Codes.{check, or_else}
use Rattle.causal.specs.Lists.{eq_words, part, sum_below, tab}
use Rattle.causal.specs.Rank.{higher, ranks_above}
use Rattle.causal.specs.Sets.{bit, has, inserted, is_in, lowest_in, lowest_of, minus, subset_of, unite, word_in}
use Rattle.causal.specs.Tests.{all_below, both, either, implies}
use Rattle.frame.specs.Calls.{laid, laid_if}
use Rattle.frame.specs.Entries.{bounds_ok, clock_ok, clock_place_ok, entry_ok, id_of, ids_ok, ids_place_ok, outranks, same_content}
use Rattle.frame.specs.Frames.{accepts, body_words, frame_of, frame_ok, frame_words, ring_ok}
use Rattle.frame.specs.Sessions.{ids_of, leave_out, own_ok, session_ok}
use Rattle.frame.specs.TokenCalls.{write_token_code, write_token_row}
use Rattle.frame.specs.Tokens.{rows_of, token_words}
use Rattle.frame.specs.Words.{clock_from, clock_words, id_word_if, id_words, id_words_to, ids_from, summed, total}
use Rattle.frame.proofs.Cases.{entry_a, entry_b, row_a, row_b}
use Rattle.joining.specs.Joins.{all_alike, alike, each, join_code, joined}
use Rattle.store.specs.Offices.{best_own, best_to, better, clock_of, consider, current, hold, made, max_to, need, reveal, settings_ok}
use Rattle.store.specs.Reveal.{revealed, steps}
use Rattle.office.specs.Calls.{answer_words, entry_code, fresh_code, handed, hold_all, hold_new, joint_code, joint_on, new_entry, noted, noted_all, own_code, plots_ok, read_code, read_on, receive_code, receive_on, receive_sends, received_by, sent_of, three_words, write_code, write_on, wrote_session}
use Rattle.ring.specs.Holds.{Same, token_on}
use Rattle.ring.specs.Run.{Call, Event, Made, Tracked, TrackedToken, at, contents_run, copy_session, copy_token, fresh, gained, joining, joint, last_of, next_of, over_contents, reading, receiving, receiving_words, run, step, together, token_reading, token_writing, upd, words_run, writer_past, writing}
use Rattle.ring.proofs.Theorem.{demand3}

abbrev row : List ℕ
row = replicate 64 0

-- ---- the calls

-- sessions 0 to 3 start; then the lines of the script, each with the office at which the session stands. A move is no call
abbrev pub script : List Call
script =
    fresh 3
    ∷ fresh 3
    ∷ fresh 3
    ∷ fresh 3
    ∷ writing 0 0 5 709 row
    ∷ writing 1 0 6 1 row
    ∷ reading 0 1 6
    ∷ receiving 2 row
    ∷ receiving 2 row
    ∷ receiving 0 row
    ∷ receiving 0 row
    ∷ reading 0 1 6
    ∷ reading 2 1 5
    ∷ []

abbrev pub others : List Call
others =
    joint 2 1 (5 ∷ 6 ∷ 7 ∷ 5 ∷ []) row  -- A, B, none, A again
    ∷ joint 2 1 (5 ∷ []) []  -- 8
    ∷ token_writing 1 row
    ∷ token_writing 1 []  -- 8
    ∷ token_reading 0 3 4  -- no own entries, so four plots cover it: session 4
    ∷ token_reading 0 4 64  -- of another ring size: 9
    ∷ copy_session 4  -- session 5
    ∷ copy_token 0  -- token 1
    ∷ receiving_words 0 (1 ∷ 2 ∷ []) row  -- no frame: 9
    ∷ writing 1 5 3 8 row  -- 1.2, by a copy of a session read from a token
    ∷ receiving 2 []  -- 8, and its frame stays
    ∷ joint 0 5 (3 ∷ []) row  -- its own 1.2, which that office does not hold
    ∷ fresh 9  -- 1
    ∷ writing 0 0 64 1 row  -- 4
    ∷ reading 0 1 64  -- 4
    ∷ token_reading 0 9 64  -- 1
    ∷ fresh 4  -- session 6, of another ring
    ∷ reading 0 6 5  -- 3
    ∷ joining 5 0 3 64  -- session 7: 1.2, then 0.1 and 1.1, which session 5 has read and session 0 wrote
    ∷ joining 0 5 3 64  -- session 8, the other way round
    ∷ joining 7 8 3 64  -- session 9: what both carry stands once
    ∷ joining 7 7 3 4  -- plots 5 and 6 are no plots of four: 3
    ∷ joining 0 6 3 64  -- of another ring: 3
    ∷ joining 0 1 3 65  -- 1
    ∷ joint 2 7 (3 ∷ 5 ∷ 6 ∷ []) row  -- 1.2, 0.1 and 1.1
    ∷ joint 2 8 (3 ∷ 5 ∷ 6 ∷ []) row  -- the same
    ∷ joining 9 9 3 64  -- session 10, the same as 9
    ∷ joining 6 6 4 64  -- session 11, of the other ring
    ∷ writing 1 10 7 9 row  -- 1.3, after all that either of the two knew: that office holds what is carried
    ∷ token_writing 10 row
    ∷ token_reading 2 3 64  -- session 12
    ∷ []

-- no such office; no such session; no such token; no frame waits; words that would not be refused with 9 (proofs/NoCall.antt: they change nothing)
abbrev pub absent : List Call
absent =
    writing 3 0 5 1 row
    ∷ reading 3 0 5
    ∷ joint 3 0 [] row
    ∷ receiving 3 row
    ∷ receiving_words 3 [] row
    ∷ writing 0 13 5 1 row
    ∷ reading 0 13 5
    ∷ joint 0 13 [] row
    ∷ token_writing 13 row
    ∷ copy_session 13
    ∷ joining 13 0 3 64
    ∷ joining 0 13 3 64
    ∷ token_reading 3 3 64
    ∷ copy_token 3
    ∷ receiving 0 row
    ∷ receiving_words 2 row_a row
    ∷ []

abbrev pub every_call : List Call
every_call = script ++ (others ++ absent)

-- ---- what they lead to: replies, sessions, entries made

-- the token of session 1; the frame of 1.2
abbrev pub token : List ℕ
token = 0x83000002 ∷ 0x50000001 ∷ 0x50000001 ∷ 0x50000000 ∷ 0x60000001 ∷ 0x60000101 ∷ 0xF3000106 ∷ []

abbrev pub row_c : List ℕ
row_c = 0x11021302 ∷ 0x30000003 ∷ 0x40000008 ∷ 0x50000001 ∷ 0x50000002 ∷ 0x50000000 ∷ 0x60000001 ∷ 0x60000101 ∷ 0xF1021412 ∷ []

-- .. and of 1.3: it depends on 0.1, 1.1 and 1.2
abbrev pub row_d : List ℕ
row_d = 0x11031303 ∷ 0x30000007 ∷ 0x40000009 ∷ 0x50000001 ∷ 0x50000003 ∷ 0x50000000 ∷ 0x60000001 ∷ 0x60000101 ∷ 0x60000102 ∷ 0xF103151B ∷ []

-- the past of session 1: it read 1.1 (id 32), whose writer had written 0.1 (id 0); 0.1; and jointly 0.1, 1.1 and 0.1 again
abbrev pub past_1 : List ℕ
past_1 = 0 ∷ 32 ∷ 0 ∷ 0 ∷ 0 ∷ 32 ∷ 0 ∷ []

-- that of session 0, which wrote both; that of session 5, which wrote and then read 1.2 (id 33)
abbrev pub past_0 : List ℕ
past_0 = 32 ∷ 0 ∷ []

abbrev pub past_5 : List ℕ
past_5 = 33 ∷ (past_1 ++ (33 ∷ past_1))

-- that of session 9, joined from 7 and 8 before they read
abbrev pub past_9 : List ℕ
past_9 = (past_5 ++ past_0) ++ (past_0 ++ past_5)

-- token 0 and its copy
abbrev pub twice : List (TrackedToken (List ℕ))
twice = record { token = token; past = past_1 } ∷ record { token = token; past = past_1 } ∷ []

pub record Led (events : List Event) (sessions : List Tracked) (log : List Made) : Type 0 where
  -- the script; then `others`; `absent` leaves no reply
  pub codes : map (λ (v : Event). v.code) events
      ≡ 0 ∷ 0 ∷ 0 ∷ 0 ∷ 0 ∷ 0 ∷ 0 ∷ 0 ∷ 0 ∷ 0 ∷ 0 ∷ 0 ∷ 0
      ∷ 0 ∷ 8 ∷ 0 ∷ 8 ∷ 0 ∷ 9 ∷ 9 ∷ 0 ∷ 8 ∷ 0 ∷ 1 ∷ 4 ∷ 4 ∷ 1 ∷ 0 ∷ 3 ∷ 0 ∷ 0 ∷ 0 ∷ 3 ∷ 3 ∷ 1 ∷ 0 ∷ 0 ∷ 0 ∷ 0 ∷ 0 ∷ 0 ∷ 0 ∷ []
  -- the script's last reading, and the joint one: what was handed back, the past, the answer row
  pub last_read : map (λ (v : Event). v.reads) (at events 12) ≡ ((5, Some entry_a) ∷ []) ∷ []
  pub last_past : map (λ (v : Event). v.past) (at events 12) ≡ (0 ∷ 32 ∷ 0 ∷ []) ∷ []
  pub joint_read : map (λ (v : Event). v.reads) (at events 13)
      ≡ ((5, Some entry_a) ∷ (6, Some entry_b) ∷ (7, None) ∷ (5, Some entry_a) ∷ []) ∷ []
  pub joint_past : map (λ (v : Event). v.past) (at events 13) ≡ past_1 ∷ []
  pub joint_row : map (λ (v : Event). take 13 v.row) (at events 13) ≡ (1 ∷ 709 ∷ 1 ∷ 1 ∷ 1 ∷ 257 ∷ 0 ∷ 0 ∷ 0 ∷ 1 ∷ 709 ∷ 1 ∷ 0 ∷ []) ∷ []
  -- .. and one that hands back an own entry, with its writer's past
  pub own_read : map (λ (v : Event). v.reads) (at events 22) ≡ ((3, Some (frame_of row_c).entry) ∷ []) ∷ []
  pub own_row : map (λ (v : Event). take 4 v.row) (at events 22) ≡ (1 ∷ 8 ∷ 258 ∷ 0 ∷ []) ∷ []
  -- the token's words in its row
  pub token_count : map (λ (v : Event). v.count) (at events 15) ≡ 7 ∷ []
  pub token_row : map (λ (v : Event). take 7 v.row) (at events 15) ≡ token ∷ []
  -- sessions read from tokens, and copies, keep the past of their origin
  pub pasts : map (λ (r : Tracked). r.past) (take 7 sessions) ≡ past_0 ∷ past_1 ∷ [] ∷ [] ∷ past_1 ∷ past_5 ∷ [] ∷ []
  pub entries_made : map (λ (m : Made). id_of m.entry) log ≡ 0 ∷ 32 ∷ 33 ∷ 34 ∷ []

-- the joined sessions
pub record LedJoined (events : List Event) (sessions : List Tracked) (log : List Made) : Type 0 where
  -- both pasts; 7 and 8 have then read 1.2, 0.1 and 1.1
  pub joined_pasts : map (λ (r : Tracked). r.past) (take 3 (drop 7 sessions))
      ≡ (32 ∷ 0 ∷ 0 ∷ 33 ∷ (past_1 ++ (past_5 ++ past_0)))
      ∷ (32 ∷ 0 ∷ 0 ∷ 33 ∷ (past_1 ++ (past_0 ++ past_5)))
      ∷ past_9
      ∷ []
  -- .. and carries the first's own entries, then those of the second not among them, and has read what either has read
  pub joined_own : map (λ (r : Tracked). map id_of r.session.own) (take 3 (drop 7 sessions)) ≡ (33 ∷ 0 ∷ 32 ∷ []) ∷ (0 ∷ 32 ∷ 33 ∷ []) ∷ (33 ∷ 0 ∷ 32 ∷ []) ∷ []
  pub joined_read : map (λ (r : Tracked). take 2 r.session.read) (take 3 (drop 7 sessions)) ≡ (1 ∷ 1 ∷ []) ∷ (1 ∷ 1 ∷ []) ∷ (1 ∷ 1 ∷ []) ∷ []
  pub joined_replies : map (λ (v : Event). take 9 v.row) (at events 35 ++ at events 36)
      ≡ (1 ∷ 8 ∷ 258 ∷ 1 ∷ 709 ∷ 1 ∷ 1 ∷ 1 ∷ 257 ∷ []) ∷ (1 ∷ 8 ∷ 258 ∷ 1 ∷ 709 ∷ 1 ∷ 1 ∷ 1 ∷ 257 ∷ []) ∷ []
  -- what a joined session writes has both pasts, and its token reads back to it
  pub joined_write : map (λ (m : Made). m.past) (at log 3) ≡ (past_9 ++ past_9) ∷ []
  pub joined_token : map (λ (r : Tracked). map id_of r.session.own) (at sessions 12) ≡ (33 ∷ 0 ∷ 32 ∷ 34 ∷ []) ∷ []

-- .. and frames and tokens
pub record EveryCall (rows : ℕ → List ℕ) : Type 0 where
  pub led : Led (words_run 3 64 rows every_call).events (words_run 3 64 rows every_call).sessions (words_run 3 64 rows every_call).log
  pub led_joined : LedJoined (words_run 3 64 rows every_call).events (words_run 3 64 rows every_call).sessions (words_run 3 64 rows every_call).log
  -- the first write sends A to office 1; the second sends "A again, then B" to office 2
  pub sent_1 : (words_run 3 64 rows (take 5 script)).lines 1 ≡ row_a ∷ []
  pub sent_2 : (words_run 3 64 rows (take 6 script)).lines 2 ≡ row_a ∷ row_b ∷ []
  -- of those that wait at the end, that of 1.2 was refused with 8
  pub waiting_0 : (words_run 3 64 rows every_call).lines 0 ≡ []
  pub waiting_1 : (words_run 3 64 rows every_call).lines 1 ≡ row_a ∷ []
  pub waiting_2 : (words_run 3 64 rows every_call).lines 2 ≡ row_c ∷ row_d ∷ []
  pub tokens : take 2 (words_run 3 64 rows every_call).tokens ≡ twice

-- ---- on contents, by computing

pub record Computed : Type 0 where
  pub led : Led (contents_run 3 64 every_call).events (contents_run 3 64 every_call).sessions (contents_run 3 64 every_call).log
  pub sent_1 : map frame_words ((contents_run 3 64 (take 5 script)).lines 1) ≡ row_a ∷ []
  pub sent_2 : map frame_words ((contents_run 3 64 (take 6 script)).lines 2) ≡ row_a ∷ row_b ∷ []
  pub waiting_0 : map frame_words ((contents_run 3 64 every_call).lines 0) ≡ []
  pub waiting_1 : map frame_words ((contents_run 3 64 every_call).lines 1) ≡ row_a ∷ []
  pub waiting_2 : map frame_words ((contents_run 3 64 every_call).lines 2) ≡ row_c ∷ row_d ∷ []
  pub tokens : take 2 (map token_on (contents_run 3 64 every_call).tokens) ≡ twice

pub computed : Computed
unfolding count_trailing_zeros both either implies all_below check or_else part tab sum_below eq_words bit has is_in unite minus inserted word_in subset_of lowest_in lowest_of join higher ranks_above outranks clock_words clock_from id_word_if id_words_to id_words ids_from total summed clock_place_ok clock_ok ids_place_ok ids_ok bounds_ok entry_ok same_content ring_ok body_words frame_words frame_ok frame_of accepts laid laid_if ids_of own_ok session_ok write_token_code write_token_row token_words rows_of steps revealed settings_ok made max_to clock_of reveal hold better consider best_to current best_own entry_code own_code noted noted_all plots_ok joint_code joint_on three_words answer_words read_code handed new_entry leave_out sent_of write_code hold_all wrote_session receive_code hold_new received_by receive_sends read_on write_on receive_on fresh_code each alike all_alike joined join_code at upd next_of writer_past gained together last_of step run over_contents contents_run
computed =
    record {
      led =
          record {
            codes = refl;
            last_read = refl;
            last_past = refl;
            joint_read = refl;
            joint_past = refl;
            joint_row = refl;
            own_read = refl;
            own_row = refl;
            token_count = refl;
            token_row = refl;
            pasts = refl;
            entries_made = refl;
          };
      sent_1 = refl;
      sent_2 = refl;
      waiting_0 = refl;
      waiting_1 = refl;
      waiting_2 = refl;
      tokens = refl;
    }

computed_joined : LedJoined (contents_run 3 64 every_call).events (contents_run 3 64 every_call).sessions (contents_run 3 64 every_call).log
unfolding count_trailing_zeros both either implies all_below check or_else part tab sum_below eq_words bit has is_in unite minus inserted word_in subset_of lowest_in lowest_of join higher ranks_above outranks clock_words clock_from id_word_if id_words_to id_words ids_from total summed clock_place_ok clock_ok ids_place_ok ids_ok bounds_ok entry_ok same_content ring_ok body_words frame_words frame_ok frame_of accepts laid laid_if ids_of own_ok session_ok write_token_code write_token_row token_words rows_of steps revealed settings_ok made max_to clock_of reveal hold better consider best_to current best_own entry_code own_code noted noted_all plots_ok joint_code joint_on three_words answer_words read_code handed new_entry leave_out sent_of write_code hold_all wrote_session receive_code hold_new received_by receive_sends read_on write_on receive_on fresh_code each alike all_alike joined join_code at upd next_of writer_past gained together last_of step run over_contents contents_run
computed_joined =
    record { joined_pasts = refl; joined_own = refl; joined_read = refl; joined_replies = refl; joined_write = refl; joined_token = refl }

-- ---- on words, by the theorem

pub every_call_lem : (rows : ℕ → List ℕ) → ((o : ℕ) → o < 3 → need 3 ≤ length (rows o)) → EveryCall rows
every_call_lem rows long =
    record {
      led =
          rw ((same every_call).events, (same every_call).sessions, (same every_call).log) computed.led;
      led_joined = rw ((same every_call).events, (same every_call).sessions, (same every_call).log) computed_joined;
      sent_1 = (same (take 5 script)).lines 1 ∙ computed.sent_1;
      sent_2 = (same (take 6 script)).lines 2 ∙ computed.sent_2;
      waiting_0 = (same every_call).lines 0 ∙ computed.waiting_0;
      waiting_1 = (same every_call).lines 1 ∙ computed.waiting_1;
      waiting_2 = (same every_call).lines 2 ∙ computed.waiting_2;
      tokens = ap (take 2) (same every_call).tokens ∙ computed.tokens;
    }
  where
    same : (cs : List Call) → Same 3 rows (words_run 3 64 rows cs) (contents_run 3 64 cs)
    same cs = (demand3 3 64 (omega arith) (omega arith) (omega arith) (omega arith) rows long cs).same
