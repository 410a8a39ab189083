use Rattle.std.proofs.Common.{◌≡◌, ℕ, Result, Ok, Err, refl}
use Rattle.std.specs.Result.{result_unwrap_or}
use Rattle.frame.specs.Refusals.{Reply, code_of, reply_of}
use Rattle.frame.specs.declared.refusal.Refusal.{Refusal}
use Rattle.host.proofs.answer.WordsAnswerFromResultUsizeRefusal.from.Goals as goal

replied_as : (r : Result ℕ Refusal) (code words : ℕ) → code ≡ code_of r → words ≡ result_unwrap_or r 0 → ◌≡◌ {A = Reply} (record { code = code; words = words }) (reply_of r)
unfolding code_of reply_of
replied_as (Ok n) code words p q = rw (p, q) refl
replied_as (Err x) code words p q = rw (p, q) refl

pub returns : goal.returns
returns c = replied_as c.args.answer _ _ c.code_of.ensures c.unwrap_or.ensures
