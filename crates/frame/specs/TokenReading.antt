-- What the reader of a token checks, word by word. `token_checks_accept` of proofs/TokenChecks.antt: these checks accept a row just where it is
-- the writing of a sound session (`accepts_token`). Assumes nothing.
use Rattle.std.specs.Prelude.{ℕ, zero, suc, ◌+◌, ◌/◌, ◌%◌, Bool, cond, List, length, take, drop, ◌==◌, nat_le, nat_lt, slice_index, None, Option, Some}
use Rattle.causal.specs.Tests.{both}
use Rattle.causal.specs.Lists.{part, zeros}
use Rattle.frame.specs.declared.entry.Entry.{Entry}
use Rattle.frame.specs.Words.{pay_at, kind_is, clock_from, ids_from}
use Rattle.frame.specs.Frames.{frame_of, accepts}
use Rattle.frame.specs.Reading.{clock_kinds, ascends, sum_ok}
use Rattle.frame.specs.Sessions.{Content, own_ok, session_ok}
use Rattle.frame.specs.Tokens.{frame_length, token_offices, token_owns, token_reads, own_from, content_from}

-- the head is one, for n offices, with bits "15–9 zero" and at most 16 own entries; clock, read names and check fit into the row
unfoldable pub token_shape : ℕ → List ℕ → Bool
token_shape n ws =
    both (nat_lt 0 (length ws))
    (both (kind_is 8 (slice_index ws 0))
    (both (token_offices ws == n)
    (both (pay_at ws 0 / 512 % 128 == 0)
    (both (nat_le (token_owns ws) 16) (nat_le (n + token_reads ws + 2) (length ws))))))

-- the row begins with a whole frame for n offices and p plots, "with 0 still to hear"
unfoldable pub own_frame_ok : ℕ → ℕ → List ℕ → Bool
own_frame_ok n p ws =
    both (nat_le (frame_length n ws) (length ws))
    (both (accepts n p (take (frame_length n ws) ws)) ((frame_of (take (frame_length n ws) ws)).hops == 0))

-- the entry of that frame, and how many words it has
unfoldable pub own_in : ℕ → ℕ → List ℕ → Option (Entry × ℕ)
own_in n p ws =
    cond (own_frame_ok n p ws) (Some ((frame_of (take (frame_length n ws) ws)).entry, frame_length n ws)) None

-- k such frames, and behind them the check
unfoldable pub own_frames_ok : ℕ → ℕ → ℕ → List ℕ → Bool
own_frames_ok zero n p ws = length ws == 1
own_frames_ok (suc k) n p ws = both (own_frame_ok n p ws) (own_frames_ok k n p (drop (frame_length n ws) ws))

-- head, clock words, read names and own frames are ones
unfoldable pub fields_ok : ℕ → ℕ → List ℕ → Bool
fields_ok n p ws =
    both (token_shape n ws)
    (both (clock_kinds ws 1 n)
    (both (ascends n 0 (part ws (1 + n) (token_reads ws))) (own_frames_ok (token_owns ws) n p (drop (1 + n + token_reads ws) ws))))

unfoldable pub token_checked : ℕ → ℕ → List ℕ → Bool
token_checked n p ws = both (fields_ok n p ws) (both (session_ok n p (content_from ws)) (sum_ok ws))

-- the same in the order in which a reader asks: first all but the numbers of the clock and the own frames, ..
unfoldable pub start_ok : ℕ → List ℕ → Bool
start_ok n ws =
    both (token_shape n ws) (both (clock_kinds ws 1 n) (both (ascends n 0 (part ws (1 + n) (token_reads ws))) (sum_ok ws)))

-- .. and last k own frames, and what they say behind what was read
unfoldable pub carried_ok : ℕ → ℕ → ℕ → List ℕ → List ℕ → Bool
carried_ok k n p read ws = both (own_frames_ok k n p ws) (own_ok n p read zeros (own_from k n ws))

-- the content of a row for n offices, where it is a token
unfoldable pub content_at : ℕ → List ℕ → Content
content_at n ws =
    record {
      offices = n;
      clock = clock_from ws 1 n;
      read = ids_from (part ws (1 + n) (token_reads ws));
      own = own_from (token_owns ws) n (drop (1 + n + token_reads ws) ws);
    }
