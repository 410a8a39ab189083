-- The lines of a script (01, "The ring program"): what a line asks for. Assumes nothing.
use Rattle.std.specs.Prelude.{ℕ, ◌<◌, Bool, cond, List, [], ◌∷◌}
use Rattle.causal.specs.Tests.{both}
use Rattle.causal.specs.Lists.{eq_words}
use Rattle.script.specs.Fields.{fields, value_of, is_below}
use Rattle.script.specs.declared.line.Line.{Line}
use Rattle.script.specs.declared.line.Line.TheVariants.{Write, Read, Move, Receive, Other}

-- the field is this one byte
abbrev pub is : ℕ → List ℕ → Bool
is b f = eq_words f (b ∷ [])

-- errands 0 to 3, offices 0 to 2, other numbers 0 to 2^32 − 1
abbrev pub session : List ℕ → Bool
session f = is_below 4 f

abbrev pub place : List ℕ → Bool
place f = is_below 3 f

abbrev pub number : List ℕ → Bool
number f = is_below 4294967296 f

-- `H office`; `R session plot` and `M session office`; `W session plot value`
unfoldable pub line_in : List (List ℕ) → Line
line_in [] = Other
line_in (k ∷ []) = Other
line_in (k ∷ o ∷ []) = cond (both (is 72 k) (place o)) (Receive (value_of o)) Other
line_in (k ∷ s ∷ x ∷ []) =
    cond (both (is 82 k) (both (session s) (number x)))
    (Read (value_of s) (value_of x))
    (cond (both (is 77 k) (both (session s) (place x))) (Move (value_of s) (value_of x)) Other)
line_in (k ∷ s ∷ p ∷ v ∷ []) =
    cond (both (is 87 k) (both (session s) (both (number p) (number v))))
    (Write (value_of s) (value_of p) (value_of v))
    Other
line_in (k ∷ s ∷ p ∷ v ∷ x ∷ fs) = Other

-- the line of these bytes, its newline not among them
unfoldable pub line_of : List ℕ → Line
line_of l = line_in (fields l)

-- the sessions and offices that a line names are there
abbrev pub Named : Line → Type 0
Named (Write s plot value) = s < 4
Named (Read s plot) = s < 4
Named (Move s o) = (s < 4) × (o < 3)
Named (Receive o) = o < 3
Named Other = Unit {0}
