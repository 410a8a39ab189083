-- Tokens (01: slips) as rows of words: the writing, the fields of a row, and which rows are accepted. Assumes nothing.
use Rattle.std.specs.Prelude.{ℕ, zero, suc, ◌+◌, ◌*◌, ◌/◌, ◌%◌, Bool, List, [], ◌∷◌, ◌++◌, map, length, take, drop}
use Rattle.causal.specs.Tests.{both}
use Rattle.causal.specs.Lists.{part, eq_words}
use Rattle.frame.specs.declared.entry.Entry.{Entry}
use Rattle.frame.specs.declared.entry.Frame.{Frame}
use Rattle.frame.specs.Words.{pay_at, clock_words, clock_from, id_words, ids_from, summed}
use Rattle.frame.specs.Frames.{framed, frame_words, frame_of, count_in}
use Rattle.frame.specs.Sessions.{Content, session_ok}

-- frames one behind the other
unfoldable pub rows_of : List Frame → List ℕ
rows_of [] = []
rows_of (f ∷ fs) = frame_words f ++ rows_of fs

-- own entries, "each own entry as a frame with 0 still to hear"
abbrev pub own_rows : ℕ → List Entry → List ℕ
own_rows n es = rows_of (map (framed n 0) es)

-- "kind 8 head (bits 27–24 offices, 23–16 own entries, 15–9 zero, 8–0 read names)"
abbrev pub token_head : ℕ → ℕ → ℕ → ℕ
token_head n owns reads = 2147483648 + (n * 16777216 + (owns * 65536 + reads))

-- "the clock in kind 5 words; read names in kind 6 words, strictly ascending; each own entry as a frame with 0 still to hear; a check
-- word over all words before"
unfoldable pub token_words : Content → List ℕ
token_words s =
    summed
    (token_head s.offices (length s.own) (length (id_words s.read))
    ∷ (clock_words s.offices s.clock ++ (id_words s.read ++ rows_of (map (framed s.offices 0) s.own))))

-- the words of the first frame of a row
abbrev pub frame_length : ℕ → List ℕ → ℕ
frame_length n ws = n + count_in ws + 4

unfoldable pub own_from : ℕ → ℕ → List ℕ → List Entry
own_from zero n ws = []
own_from (suc k) n ws = (frame_of (take (frame_length n ws) ws)).entry ∷ own_from k n (drop (frame_length n ws) ws)

-- ring size, own entries and read names, by the head of a row
abbrev pub token_offices : List ℕ → ℕ
token_offices ws = pay_at ws 0 / 16777216

abbrev pub token_owns : List ℕ → ℕ
token_owns ws = pay_at ws 0 / 65536 % 256

abbrev pub token_reads : List ℕ → ℕ
token_reads ws = pay_at ws 0 % 512

-- the fields of a row; whether it is a token is said by `accepts_token`
unfoldable pub content_from : List ℕ → Content
content_from ws =
    record {
      offices = token_offices ws;
      clock = clock_from ws 1 (token_offices ws);
      read = ids_from (part ws (1 + token_offices ws) (token_reads ws));
      own = own_from (token_owns ws) (token_offices ws) (drop (1 + token_offices ws + token_reads ws) ws);
    }

-- "Its content is an errand that is sound, as below, for the ring size and plots": a row is accepted where it is the writing of one
unfoldable pub accepts_token : ℕ → ℕ → List ℕ → Bool
accepts_token n p ws = both (session_ok n p (content_from ws)) (eq_words ws (token_words (content_from ws)))
