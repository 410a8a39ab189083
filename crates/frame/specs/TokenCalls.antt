-- The calls on tokens: "Read frame or slip; write frame or slip". Assumes nothing.
use Rattle.std.specs.Prelude.{ℕ, zero, suc, cond, List, length, nat_le, None, Option, Some}
use Rattle.causal.specs.Tests.{both}
use Rattle.causal.specs.Codes.{check}
use Rattle.frame.specs.Refusals.{Reply, replied}
use Rattle.frame.specs.Frames.{ring_ok}
use Rattle.frame.specs.Calls.{laid_if}
use Rattle.frame.specs.declared.session.Session.{Session}
use Rattle.frame.specs.Sessions.{Content, session_ok, session_of, fresh_content}
use Rattle.frame.specs.Tokens.{token_words, content_from, accepts_token}

-- "Reading, with ring size and plots given: 1 if these are out of range, then 9 if it breaks a rule above"
unfoldable pub read_token_code : ℕ → ℕ → List ℕ → ℕ
read_token_code n p ws = check (ring_ok n p) 1 (check (accepts_token n p ws) 9 0)

-- the session that is read; on a refusal a fixed blank
unfoldable pub content_if : ℕ → List ℕ → Content
content_if zero ws = content_from ws
content_if (suc c) ws = fresh_content 0

unfoldable pub read_token : ℕ → ℕ → List ℕ → Content
read_token n p ws = content_if (read_token_code n p ws) ws

-- the session that a row has, where it is a token for n offices and p plots; blanks behind its own writes
unfoldable pub session_in : ℕ → ℕ → List ℕ → Option Session
session_in n p ws = cond (accepts_token n p ws) (Some (session_of (content_from ws))) None

-- "Writing: 3 for content that no frame or slip of its ring size with 64 plots has, then 8"
unfoldable pub write_token_code : Content → ℕ → ℕ
write_token_code s room =
    check (both (ring_ok s.offices 64) (session_ok s.offices 64 s)) 3 (check (nat_le (length (token_words s)) room) 8 0)

-- "the number of words written is returned"
unfoldable pub write_token : Content → ℕ → Reply
write_token s room = replied (write_token_code s room) (length (token_words s))

-- the row that is left
unfoldable pub write_token_row : Content → List ℕ → List ℕ
write_token_row s row = laid_if (write_token_code s (length row)) (token_words s) row
