-- The code of the call meets its contract (`_met`), which is its promise in specs/Promises.antt (`_is`) and asks for nothing (`_asks`): a changed
-- `ensures` or an added `requires` breaks this file. Assumes nothing.
use Prim.Native.Nat.{ℕ}
use mathlib.Core.Path.{◌≡◌, refl}
use base.Logic.{SProp, emp}
use contract.Monad.{Fun, fact}
use types.Logic.{Logic}
use seplogic.Ra.Ura.{Ura}
use prog.Memory.{Memory}
use prog.Routine.{Routine}
use Rattle.std.proofs.Common.{Result}
use Rattle.std.specs.Result.{result_unwrap_or}
use Rattle.frame.specs.Refusals.{code_of}
use Rattle.frame.specs.Sessions.{fresh_content, session_of}
use Rattle.frame.specs.declared.refusal.Refusal.{Refusal}
use Rattle.frame.specs.declared.session.Session.{Session}
use Rattle.joining.specs.Promises.{JoinPromise}
use Rattle.joining.proofs.join.join_sessions as JoinSessions
use Rattle.joining.specs.contracts.join.join_sessions as JoinSessionsContract

module _ {M : Type 1} {𝓤 : Ura M} (𝓛 : Logic 𝓤) (mem : Memory → SProp 𝓤) (run : Routine → Fun 𝓤) where
  pub record JoiningContracts : Type 2 where
    pub join_sessions_met : JoinSessions.Statement.statement M
    pub join_sessions_is : (n p : ℕ) (a b : Session) (r : Result Session Refusal)
        → (JoinSessionsContract.clauses 𝓛 mem run tt (n, (p, (a, (b, tt))))).ensures tt r (n, (p, (a, (b, tt))))
        ≡ fact 𝓤 (JoinPromise n p a b (code_of r) (result_unwrap_or r (session_of (fresh_content 0))))
    pub join_sessions_asks : (n p : ℕ) (a b : Session) → (JoinSessionsContract.clauses 𝓛 mem run tt (n, (p, (a, (b, tt))))).requires tt ≡ emp 𝓤

  pub joining_contracts : JoiningContracts
  joining_contracts =
      record {
        join_sessions_met = JoinSessions.Met.met;
        join_sessions_is = λ n p a b r. refl;
        join_sessions_asks = λ n p a b. refl;
      }
