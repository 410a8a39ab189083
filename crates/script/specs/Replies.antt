-- The replies to the lines of a script, as bytes (01, "The ring program"). Assumes nothing.
use Rattle.std.specs.Prelude.{ℕ, zero, suc, ◌+◌, ◌/◌, ◌%◌, ◌<◌, List, [], ◌∷◌, ◌++◌}
use Rattle.script.specs.declared.reply.Reply.{Reply}
use Rattle.script.specs.declared.reply.Reply.TheVariants.{Wrote, Found, NoEntry, Moved, Received, NoFrame, Refused, Full, Odd}

-- the decimal digits of n, none for 0; k bounds how many, and n itself is bound enough
unfoldable pub digits_in : ℕ → ℕ → List ℕ
digits_in zero n = []
digits_in (suc k) zero = []
digits_in (suc k) (suc m) = digits_in k (suc m / 10) ++ ((48 + suc m % 10) ∷ [])

-- n in decimal: its last digit, and in front of it the digits of n / 10
unfoldable pub decimal : ℕ → List ℕ
decimal n = digits_in n (n / 10) ++ ((48 + n % 10) ∷ [])

-- "Names print as office.serial"
unfoldable pub name_bytes : ℕ → ℕ → List ℕ
name_bytes o s = decimal o ++ (46 ∷ decimal s)

-- a text, a number and a newline
unfoldable pub numbered : List ℕ → ℕ → List ℕ
numbered text n = text ++ (decimal n ++ (10 ∷ []))

unfoldable pub reply_bytes : Reply → List ℕ
reply_bytes (Wrote o s) = 87 ∷ 32 ∷ name_bytes o s ++ (10 ∷ [])  -- W o.s
reply_bytes (Found v o s) = 82 ∷ 32 ∷ decimal v ++ (32 ∷ name_bytes o s ++ (10 ∷ []))  -- R v o.s
reply_bytes NoEntry = 82 ∷ 32 ∷ 110 ∷ 111 ∷ 110 ∷ 101 ∷ 10 ∷ []  -- R none
reply_bytes Moved = 77 ∷ 32 ∷ 111 ∷ 107 ∷ 10 ∷ []  -- M ok
reply_bytes (Received n) = numbered (72 ∷ 32 ∷ []) n  -- H n
reply_bytes NoFrame = 72 ∷ 32 ∷ 110 ∷ 111 ∷ 110 ∷ 101 ∷ 10 ∷ []  -- H none
reply_bytes (Refused n) = numbered (114 ∷ 101 ∷ 102 ∷ 117 ∷ 115 ∷ 101 ∷ 100 ∷ 32 ∷ []) n  -- refused n
reply_bytes Full = 102 ∷ 117 ∷ 108 ∷ 108 ∷ 10 ∷ []  -- full
reply_bytes Odd = 108 ∷ 105 ∷ 110 ∷ 101 ∷ 63 ∷ 10 ∷ []  -- line?

-- its numbers have 32 bits
abbrev pub ReplyFits : Reply → Type 0
ReplyFits (Wrote o s) = (o < 4294967296) × (s < 4294967296)
ReplyFits (Found v o s) = (v < 4294967296) × (o < 4294967296) × (s < 4294967296)
ReplyFits NoEntry = Unit {0}
ReplyFits Moved = Unit {0}
ReplyFits (Received n) = n < 4294967296
ReplyFits NoFrame = Unit {0}
ReplyFits (Refused n) = n < 4294967296
ReplyFits Full = Unit {0}
ReplyFits Odd = Unit {0}
