-- The code of each call meets its contract (`_met`), which is its promise in office/specs/Promises.antt (`_is`) and asks for nothing (`_asks`): a
-- changed `ensures` or an added `requires` breaks this file. Assumes nothing.
use Rattle.std.proofs.Common.{Result}
use Prim.Native.Nat.{ℕ}
use mathlib.Core.Path.{◌≡◌, refl}
use base.Logic.{SProp, emp}
use contract.Monad.{Fun, fact}
use types.Logic.{Logic}
use seplogic.Ra.Ura.{Ura}
use prog.Memory.{Memory}
use prog.Routine.{Routine}
use Rattle.frame.specs.declared.refusal.Refusal.{Refusal}
use Rattle.frame.specs.Refusals.{reply_of}
use Rattle.frame.proofs.Contract.{MutRow, Row, Three}
use Rattle.office.specs.Promises.{ReceivePromise}
use Rattle.hearing.proofs.receive.receive as Receive
use Rattle.hearing.specs.contracts.receive.receive as ReceiveContract

module _ {M : Type 1} {𝓤 : Ura M} (𝓛 : Logic 𝓤) (mem : Memory → SProp 𝓤) (run : Routine → Fun 𝓤) where
  pub record HearingContracts : Type 2 where
    pub receive_met : Receive.Statement.statement M
    pub receive_is : (κs : Three) (ws : MutRow) (frame : Row) (row : MutRow) (r : Result ℕ Refusal) (ws' : MutRow) (frame' : Row) (row' : MutRow)
        → (ReceiveContract.clauses 𝓛 mem run κs (ws, (frame, (row, tt)))).ensures tt r (ws', (frame', (row', tt)))
        ≡ fact 𝓤 (ReceivePromise ws.now frame.now row.now (reply_of r) ws'.now row'.now)
    pub receive_asks : (κs : Three) (ws : MutRow) (frame : Row) (row : MutRow) → (ReceiveContract.clauses 𝓛 mem run κs (ws, (frame, (row, tt)))).requires tt ≡ emp 𝓤

  pub hearing_contracts : HearingContracts
  hearing_contracts =
      record {
        receive_met = Receive.Met.met;
        receive_is = λ κs ws frame row r ws' frame' row'. refl;
        receive_asks = λ κs ws frame row. refl;
      }
