-- Lines, numbers and replies by computing: the table of 01, lines that are none, numbers in decimal. Assumes nothing.
use Prim.Native.Nat.{ℕ}
use mathlib.Core.Path.{◌≡◌, refl}
use mathlib.Core.List.{List, [], ◌∷◌, map}
use Rattle.causal.specs.Tests.{both}
use Rattle.causal.specs.Lists.{eq_words}
use Rattle.script.specs.Fields.{fields, in_front, is_digit, all_digits, proper, value_of, is_below}
use Rattle.script.specs.Lines.{line_in, line_of}
use Rattle.script.specs.Replies.{decimal, digits_in, name_bytes, numbered, reply_bytes}
use Rattle.script.specs.declared.line.Line.{Line}
use Rattle.script.specs.declared.line.Line.TheVariants.{Write, Read, Move, Receive, Other}
use Rattle.script.specs.declared.reply.Reply.{Reply}
use Rattle.script.specs.declared.reply.Reply.TheVariants.{Wrote, Found, NoEntry, Moved, Received, NoFrame, Refused, Full, Odd}

-- ---- the table of 01

-- its input, line by line, as bytes
abbrev pub table_input : List (List ℕ)
table_input =
    (87 ∷ 32 ∷ 48 ∷ 32 ∷ 53 ∷ 32 ∷ 55 ∷ 48 ∷ 57 ∷ []) ∷  -- W 0 5 709
    (77 ∷ 32 ∷ 48 ∷ 32 ∷ 49 ∷ []) ∷  -- M 0 1
    (87 ∷ 32 ∷ 48 ∷ 32 ∷ 54 ∷ 32 ∷ 49 ∷ []) ∷  -- W 0 6 1
    (82 ∷ 32 ∷ 49 ∷ 32 ∷ 54 ∷ []) ∷  -- R 1 6
    (72 ∷ 32 ∷ 50 ∷ []) ∷  -- H 2
    (72 ∷ 32 ∷ 50 ∷ []) ∷  -- H 2
    (72 ∷ 32 ∷ 48 ∷ []) ∷  -- H 0
    (72 ∷ 32 ∷ 48 ∷ []) ∷  -- H 0
    (82 ∷ 32 ∷ 49 ∷ 32 ∷ 54 ∷ []) ∷  -- R 1 6
    (77 ∷ 32 ∷ 49 ∷ 32 ∷ 50 ∷ []) ∷  -- M 1 2
    (82 ∷ 32 ∷ 49 ∷ 32 ∷ 53 ∷ []) ∷  -- R 1 5
    []

-- what each line asks for
abbrev pub table_lines : List Line
table_lines =
    Write 0 5 709
    ∷ Move 0 1
    ∷ Write 0 6 1
    ∷ Read 1 6
    ∷ Receive 2
    ∷ Receive 2
    ∷ Receive 0
    ∷ Receive 0
    ∷ Read 1 6
    ∷ Move 1 2
    ∷ Read 1 5
    ∷ []

pub table_asks : map line_of table_input ≡ table_lines
unfolding line_of line_in fields in_front is_digit all_digits proper value_of is_below both eq_words
table_asks = refl

-- its output, as replies
abbrev pub table_replies : List Reply
table_replies = Wrote 0 1
    ∷ Moved
    ∷ Wrote 1 1
    ∷ NoEntry
    ∷ Received 1
    ∷ Received 0
    ∷ Received 1
    ∷ Received 0
    ∷ Found 1 1 1
    ∷ Moved
    ∷ Found 709 0 1
    ∷ []

-- and as bytes, each with its newline
abbrev pub table_output : List (List ℕ)
table_output =
    (87 ∷ 32 ∷ 48 ∷ 46 ∷ 49 ∷ 10 ∷ []) ∷  -- W 0.1
    (77 ∷ 32 ∷ 111 ∷ 107 ∷ 10 ∷ []) ∷  -- M ok
    (87 ∷ 32 ∷ 49 ∷ 46 ∷ 49 ∷ 10 ∷ []) ∷  -- W 1.1
    (82 ∷ 32 ∷ 110 ∷ 111 ∷ 110 ∷ 101 ∷ 10 ∷ []) ∷  -- R none
    (72 ∷ 32 ∷ 49 ∷ 10 ∷ []) ∷  -- H 1
    (72 ∷ 32 ∷ 48 ∷ 10 ∷ []) ∷  -- H 0
    (72 ∷ 32 ∷ 49 ∷ 10 ∷ []) ∷  -- H 1
    (72 ∷ 32 ∷ 48 ∷ 10 ∷ []) ∷  -- H 0
    (82 ∷ 32 ∷ 49 ∷ 32 ∷ 49 ∷ 46 ∷ 49 ∷ 10 ∷ []) ∷  -- R 1 1.1
    (77 ∷ 32 ∷ 111 ∷ 107 ∷ 10 ∷ []) ∷  -- M ok
    (82 ∷ 32 ∷ 55 ∷ 48 ∷ 57 ∷ 32 ∷ 48 ∷ 46 ∷ 49 ∷ 10 ∷ []) ∷  -- R 709 0.1
    []

pub table_prints : map reply_bytes table_replies ≡ table_output
unfolding reply_bytes name_bytes numbered decimal digits_in
table_prints = refl

-- the other replies: none waits, a refusal, full, a line that is none
pub others_print : map reply_bytes (NoFrame ∷ Refused 12 ∷ Full ∷ Odd ∷ [])
    ≡ (72 ∷ 32 ∷ 110 ∷ 111 ∷ 110 ∷ 101 ∷ 10 ∷ [])
    ∷ (114 ∷ 101 ∷ 102 ∷ 117 ∷ 115 ∷ 101 ∷ 100 ∷ 32 ∷ 49 ∷ 50 ∷ 10 ∷ [])
    ∷ (102 ∷ 117 ∷ 108 ∷ 108 ∷ 10 ∷ [])
    ∷ (108 ∷ 105 ∷ 110 ∷ 101 ∷ 63 ∷ 10 ∷ [])
    ∷ []
unfolding reply_bytes name_bytes numbered decimal digits_in
others_print = refl

-- ---- more lines

-- W 3 4294967295 4294967295, the longest
pub longest : line_of (87 ∷ 32 ∷ 51 ∷ 32 ∷ 52 ∷ 50 ∷ 57 ∷ 52 ∷ 57 ∷ 54 ∷ 55 ∷ 50 ∷ 57 ∷ 53 ∷ 32 ∷ 52 ∷ 50 ∷ 57 ∷ 52 ∷ 57 ∷ 54 ∷ 55 ∷ 50 ∷ 57 ∷ 53 ∷ []) ≡ Write 3 4294967295 4294967295
unfolding line_of line_in fields in_front is_digit all_digits proper value_of is_below both eq_words
longest = refl

-- lines that are none
abbrev pub odd_lines : List (List ℕ)
odd_lines =
    (87 ∷ 32 ∷ 48 ∷ 32 ∷ 48 ∷ 53 ∷ 32 ∷ 55 ∷ []) ∷  -- `W 0 05 7`
    (87 ∷ 32 ∷ 48 ∷ 32 ∷ 53 ∷ 32 ∷ 32 ∷ 55 ∷ []) ∷  -- `W 0 5  7`
    (87 ∷ 32 ∷ 48 ∷ 32 ∷ 53 ∷ 32 ∷ 55 ∷ 32 ∷ []) ∷  -- `W 0 5 7 `
    (87 ∷ 32 ∷ 48 ∷ 32 ∷ 32 ∷ 55 ∷ []) ∷  -- `W 0  7`
    (82 ∷ 32 ∷ 49 ∷ 32 ∷ []) ∷  -- `R 1 `
    (82 ∷ 32 ∷ 52 ∷ 32 ∷ 49 ∷ []) ∷  -- `R 4 1`
    (77 ∷ 32 ∷ 48 ∷ 32 ∷ 51 ∷ []) ∷  -- `M 0 3`
    (72 ∷ 32 ∷ 51 ∷ []) ∷  -- `H 3`
    (87 ∷ 32 ∷ 52 ∷ 32 ∷ 48 ∷ 32 ∷ 48 ∷ []) ∷  -- `W 4 0 0`
    (77 ∷ 32 ∷ 52 ∷ 32 ∷ 48 ∷ []) ∷  -- `M 4 0`
    (72 ∷ 32 ∷ 52 ∷ 50 ∷ 57 ∷ 52 ∷ 57 ∷ 54 ∷ 55 ∷ 50 ∷ 57 ∷ 54 ∷ []) ∷  -- `H 4294967296`
    [] ∷  -- ``
    (87 ∷ 32 ∷ 48 ∷ 32 ∷ 53 ∷ 32 ∷ 52 ∷ 50 ∷ 57 ∷ 52 ∷ 57 ∷ 54 ∷ 55 ∷ 50 ∷ 57 ∷ 54 ∷ []) ∷  -- `W 0 5 4294967296`
    (87 ∷ 32 ∷ 48 ∷ 32 ∷ 53 ∷ []) ∷  -- `W 0 5`
    (32 ∷ 72 ∷ 32 ∷ 48 ∷ []) ∷  -- ` H 0`
    (72 ∷ []) ∷  -- `H`
    (72 ∷ 32 ∷ 48 ∷ 32 ∷ 49 ∷ []) ∷  -- `H 0 1`
    (87 ∷ 32 ∷ 48 ∷ 32 ∷ 53 ∷ 32 ∷ 55 ∷ 32 ∷ 49 ∷ []) ∷  -- `W 0 5 7 1`
    (119 ∷ 32 ∷ 48 ∷ 32 ∷ 53 ∷ 32 ∷ 55 ∷ []) ∷  -- `w 0 5 7`
    (87 ∷ 32 ∷ 48 ∷ 32 ∷ 53 ∷ 32 ∷ 45 ∷ 55 ∷ []) ∷  -- `W 0 5 -7`
    (87 ∷ 32 ∷ 48 ∷ 48 ∷ 32 ∷ 53 ∷ 32 ∷ 55 ∷ []) ∷  -- `W 00 5 7`
    []

pub odd_asks : map line_of odd_lines ≡ map (λ l. Other) odd_lines
unfolding line_of line_in fields in_front is_digit all_digits proper value_of is_below both eq_words
odd_asks = refl

-- ---- numbers in decimal: 0, 7, 10, 709 and 4294967295

pub decimals : map decimal (0 ∷ 7 ∷ 10 ∷ 709 ∷ 4294967295 ∷ [])
    ≡ (48 ∷ [])
    ∷ (55 ∷ [])
    ∷ (49 ∷ 48 ∷ [])
    ∷ (55 ∷ 48 ∷ 57 ∷ [])
    ∷ (52 ∷ 50 ∷ 57 ∷ 52 ∷ 57 ∷ 54 ∷ 55 ∷ 50 ∷ 57 ∷ 53 ∷ [])
    ∷ []
unfolding decimal digits_in
decimals = refl
