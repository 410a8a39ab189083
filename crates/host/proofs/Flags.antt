-- A truth value as C has it, from a `bool`. Assumes nothing.
use Rattle.std.proofs.Common.{◌≡◌, ◌≤◌, ℕ, Bool, true, false, refl, arith}
use mir.Val.{bool_byte}
use Rattle.host.specs.Flags.{is_set}

pub flag_low : (b : Bool) (n : ℕ) → n ≡ bool_byte b → n ≤ 1
flag_low true n e = omega (arith, e)
flag_low false n e = omega (arith, e)

pub flag_says : (b : Bool) (n : ℕ) → n ≡ bool_byte b → is_set n ≡ b
unfolding is_set
flag_says true n e = rw e refl
flag_says false n e = rw e refl
