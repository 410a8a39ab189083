-- Frames as bytes: "Host programs in C test a frame as bytes, each word lowest byte first; a byte count not divisible by 4 is refusal 9,
-- after 1." Assumes nothing.
use Rattle.std.specs.Prelude.{ℕ, ◌+◌, ◌*◌, ◌/◌, ◌%◌, List, ◌≡◌, eqb, length, get_or}
use Rattle.causal.specs.Codes.{check}
use Rattle.causal.specs.Lists.{tab}
use Rattle.frame.specs.Frames.{ring_ok}
use Rattle.frame.specs.Calls.{read_frame_code}

-- word i of a row of bytes
unfoldable pub word_at : List ℕ → ℕ → ℕ
word_at bs i = get_or bs (4 * i) 0 + (256 * get_or bs (4 * i + 1) 0 + (65536 * get_or bs (4 * i + 2) 0 + 16777216 * get_or bs (4 * i + 3) 0))

unfoldable pub words_of : List ℕ → List ℕ
words_of bs = tab (length bs / 4) (word_at bs)

-- 1 for the settings, then 9 for a byte count not divisible by 4, else as the words are read
unfoldable pub check_bytes : ℕ → ℕ → List ℕ → ℕ
check_bytes n p bs = check (ring_ok n p) 1 (check (eqb (length bs % 4) 0) 9 (read_frame_code n p (words_of bs)))

-- what the test of a frame as bytes promises
abbrev pub CheckPromise : List ℕ → ℕ → ℕ → ℕ → Type 0
CheckPromise bs n p code = code ≡ check_bytes n p bs
