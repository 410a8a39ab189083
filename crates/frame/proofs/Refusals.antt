-- Refusals as numbers are at most 12, so no call that answers a refusal answers 13 (paper 02, (i)). Assumes nothing.
use Rattle.std.proofs.Common.{◌≡◌, ℕ, ◌<◌, ◌≤◌, ◌≢◌, arith, Err, Ok, Result}
use Rattle.frame.specs.Refusals.{code_of, number_of, reply_of}
use Rattle.frame.specs.declared.refusal.Refusal.{Refusal}
use Rattle.frame.specs.declared.refusal.Refusal.TheVariants.{Settings, Store, Content, Plot, Value, OfficeFull, SessionFull, Room, Format, Unmade, Different, Missing}

number_range : (r : Refusal) → (1 ≤ number_of r) × (number_of r ≤ 12)
unfolding number_of
number_range Settings = (omega arith, omega arith)
number_range Store = (omega arith, omega arith)
number_range Content = (omega arith, omega arith)
number_range Plot = (omega arith, omega arith)
number_range Value = (omega arith, omega arith)
number_range OfficeFull = (omega arith, omega arith)
number_range SessionFull = (omega arith, omega arith)
number_range Room = (omega arith, omega arith)
number_range Format = (omega arith, omega arith)
number_range Unmade = (omega arith, omega arith)
number_range Different = (omega arith, omega arith)
number_range Missing = (omega arith, omega arith)

-- no refusal has another number
pub unknown : (n : ℕ) → (1 ≤ n → 12 < n) → (r : Refusal) → number_of r ≢ n
unknown n h r e = omega (arith, number_range r, h (omega (arith, number_range r)))

pub status_small : {A : Type 0} (s : Result A Refusal) → code_of s ≤ 12
unfolding code_of
status_small (Ok x) = omega arith
status_small (Err r) = (number_range r).1

pub written_small : (w : Result ℕ Refusal) → (reply_of w).code ≤ 12
unfolding reply_of
written_small (Ok n) = omega arith
written_small (Err r) = (number_range r).1

-- no refusal has the number of none
pub number_some : (r : Refusal) → number_of r ≡ 0 → ⊥
number_some r h = omega (arith, number_range r, h)
