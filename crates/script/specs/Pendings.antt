-- A line whose end has not come yet: its first 32 bytes and its length, which stops at 33. Assumes nothing.
use Rattle.std.specs.Prelude.{ℕ, ◌+◌, ◌≤◌, min, Bool, cond, false, true, List, [], ◌++◌, ◌∷◌, ◌≡◌, eqb, leb, drop, length, take, set, replicate}
use Rattle.std.proofs.lemmas.List.Edits.{sets}
use Rattle.script.specs.Lines.{line_of}
use Rattle.script.specs.declared.line.Line.{Line}
use Rattle.script.specs.declared.line.Line.TheVariants.{Other}
use Rattle.script.specs.declared.pending.Pending.{Pending}
use Rattle.script.specs.declared.pending.Taken.{Taken}

-- the bytes l so far. (A store past the end of a list changes nothing, so `sets` keeps the first 32.)
unfoldable pub pending_of : List ℕ → Pending
pending_of l = record { bytes = sets (replicate 32 0) 0 l; len = min (length l) 33 }

-- with one byte more
unfoldable pub pushed : Pending → ℕ → Pending
pushed p b = record { bytes = set p.bytes p.len b; len = min (p.len + 1) 33 }

-- the bytes before the first newline (byte 10), or all of them
unfoldable pub first_line : List ℕ → List ℕ
first_line [] = []
first_line (b ∷ l) = cond (eqb b 10) [] (b ∷ first_line l)

-- is there a newline
unfoldable pub has_end : List ℕ → Bool
has_end [] = false
has_end (b ∷ l) = cond (eqb b 10) true (has_end l)

-- the bytes of the first line, with its newline if it has one
abbrev pub line_size : List ℕ → ℕ
line_size l = length (first_line l) + cond (has_end l) 1 0

-- the first line from `from` on, taken: behind the bytes that were pending
pub record Takes (p : Pending) (bytes : List ℕ) (from : ℕ) (r : Taken) : Type 0 where
  pub next : r.next ≡ from + line_size (drop from bytes)
  pub within : r.next ≤ length bytes
  pub ended : r.ended ≡ has_end (drop from bytes)
  pub pending : (l : List ℕ) → p ≡ pending_of l → r.pending ≡ pending_of (l ++ first_line (drop from bytes))

-- the line that it is: one of more than 32 bytes asks for nothing
unfoldable pub parsed : Pending → Line
parsed p = cond (leb p.len 32) (line_of (take p.len p.bytes)) Other

unfoldable pub is_empty : Pending → Bool
is_empty p = eqb p.len 0
