-- Refusals and answers: "a definition gives this paper's number and values for each of its cases, and the promises use that definition".
-- Assumes nothing.
use Rattle.std.specs.Prelude.{◌≡◌, ◌≢◌, ℕ, zero, suc, Err, Ok, Result, MatchResult}
use Rattle.frame.specs.declared.refusal.Refusal.{Refusal}
use Rattle.frame.specs.declared.refusal.UnknownRefusal.{UnknownRefusal}
use Rattle.frame.specs.declared.refusal.Refusal.TheVariants.{Settings, Store, Content, Plot, Value, OfficeFull, SessionFull, Room, Format, Unmade, Different, Missing}

-- the paper's number of a refusal
unfoldable pub number_of : Refusal → ℕ
number_of Settings = 1
number_of Store = 2
number_of Content = 3
number_of Plot = 4
number_of Value = 5
number_of OfficeFull = 6
number_of SessionFull = 7
number_of Room = 8
number_of Format = 9
number_of Unmade = 10
number_of Different = 11
number_of Missing = 12

-- the refusal that has a number, or an error with the number where none has it
abbrev pub Names : ℕ → Result Refusal UnknownRefusal → Type 0
Names n r = MatchResult r (λ x. number_of x ≡ n) (λ e. (e.0 ≡ n) × ((x : Refusal) → number_of x ≢ n))

-- the refusal number of an answer, 0 for none
unfoldable pub code_of : {A : Type 0} → Result A Refusal → ℕ
code_of (Ok _) = 0
code_of (Err x) = number_of x

-- what a call that writes words answers: the refusal number, 0 for none, and "the number of words written"; or, where it says how many words a
-- store needs, that number
pub record Reply : Type 0 where
  pub code : ℕ
  pub words : ℕ

unfoldable pub reply_of : Result ℕ Refusal → Reply
reply_of (Ok n) = record { code = 0; words = n }
reply_of (Err x) = record { code = number_of x; words = 0 }

-- n words, or "a refusal number with nothing else"
unfoldable pub replied : ℕ → ℕ → Reply
replied zero n = record { code = 0; words = n }
replied (suc c) n = record { code = suc c; words = 0 }
