-- What the steps of the parser compute, and what the methods of a row promise. Assumes nothing.
use Rattle.std.specs.Prelude.{◌≡◌, ℕ, List, length, cond, ltb, Option, Some, None}
use Rattle.causal.specs.Tests.{both}
use Rattle.script.specs.Fields.{is_digit, is_below, value_of, with_digit}
use Rattle.script.specs.Puts.{Put}
use Rattle.script.specs.declared.put.Row.{Row}

-- one digit more
unfoldable pub with_digit_of : ℕ → ℕ → Option ℕ
with_digit_of v b = cond (both (is_digit b) (ltb (with_digit v b) 4294967296)) (Some (with_digit v b)) None

-- the number that a field writes, if it is one and below n
unfoldable pub below_of : ℕ → List ℕ → Option ℕ
below_of n f = cond (is_below n f) (Some (value_of f)) None

-- the number that a field writes, if it is one and below 2^32
unfoldable pub number_of : List ℕ → Option ℕ
number_of f = below_of 4294967296 f

-- vs are put where the next byte goes; the row is the same reference
pub record Puts (old : Row) (vs : List ℕ) (new : Row) : Type 0 where
  pub same : new.out.ghost_name ≡ old.out.ghost_name
  pub room : length new.out.now ≡ length old.out.now
  pub put : Put old.out.now old.at vs new.out.now new.at
