-- A truth value as C has it. Assumes nothing.
use Rattle.std.specs.Prelude.{ℕ, suc, zero, Bool, false, true}

-- what a number says of which a promise says that it is 0 or 1
unfoldable pub is_set : ℕ → Bool
is_set zero = false
is_set (suc n) = true
