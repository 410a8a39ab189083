-- The calls that lend a session make the same steps of a run: the code of each meets its contract (`_met`), which is the promise of the call by
-- value, of the session as it is left (`_is`), and asks for nothing (`_asks`). Assumes nothing.
use Rattle.std.proofs.Common.{Option, Result}
use Rattle.std.specs.Prelude.{◌≡◌, ℕ}
use mathlib.Core.Path.{refl}
use base.Logic.{SProp, emp}
use contract.Monad.{Fun, fact}
use types.Logic.{Logic}
use seplogic.Ra.Ura.{Ura}
use prog.Memory.{Memory}
use prog.Routine.{Routine}
use Rattle.frame.specs.declared.entry.Entry.{Entry}
use Rattle.frame.specs.declared.refusal.Refusal.{Refusal}
use Rattle.frame.specs.Refusals.{code_of, reply_of}
use Rattle.frame.proofs.Contract.{Four, Lent, MutRow, Row, Three, Two}
use Rattle.office.specs.Promises.{JointPromise, ReadPromise, WritePromise}
use Rattle.lent.specs.Answers.{entry_by, found_by}
use Rattle.lent.proofs.calls.read_joint as ReadJoint
use Rattle.lent.specs.contracts.calls.read_joint as ReadJointContract
use Rattle.lent.proofs.calls.read_plot as ReadPlot
use Rattle.lent.specs.contracts.calls.read_plot as ReadPlotContract
use Rattle.lent.proofs.calls.write as Write
use Rattle.lent.specs.contracts.calls.write as WriteContract

module _ {M : Type 1} {𝓤 : Ura M} (𝓛 : Logic 𝓤) (mem : Memory → SProp 𝓤) (run : Routine → Fun 𝓤) where
  pub record LentContracts : Type 2 where
    pub read_met : ReadPlot.Statement.statement M
    pub read_is : (κs : Two) (ws : MutRow) (s : Lent) (plot : ℕ) (r : Result (Option Entry) Refusal) (ws' : MutRow) (s' : Lent)
        → (ReadPlotContract.clauses 𝓛 mem run κs (ws, (s, (plot, tt)))).ensures tt r (ws', (s', (plot, tt)))
        ≡ fact 𝓤 (ReadPromise ws.now s.now plot (code_of r) (found_by r) (entry_by r) s'.now ws'.now)
    pub read_asks : (κs : Two) (ws : MutRow) (s : Lent) (plot : ℕ) → (ReadPlotContract.clauses 𝓛 mem run κs (ws, (s, (plot, tt)))).requires tt ≡ emp 𝓤
    pub joint_met : ReadJoint.Statement.statement M
    pub joint_is : (κs : Four) (ws : MutRow) (s : Lent) (plots : Row) (row : MutRow) (r : Result (Unit {0}) Refusal) (ws' : MutRow) (s' : Lent) (plots' : Row) (row' : MutRow)
        → (ReadJointContract.clauses 𝓛 mem run κs (ws, (s, (plots, (row, tt))))).ensures tt r (ws', (s', (plots', (row', tt))))
        ≡ fact 𝓤 (JointPromise ws.now s.now plots.now row.now (code_of r) s'.now ws'.now row'.now)
    pub joint_asks : (κs : Four) (ws : MutRow) (s : Lent) (plots : Row) (row : MutRow) → (ReadJointContract.clauses 𝓛 mem run κs (ws, (s, (plots, (row, tt))))).requires tt ≡ emp 𝓤
    pub write_met : Write.Statement.statement M
    pub write_is : (κs : Three) (ws : MutRow) (s : Lent) (plot value : ℕ) (row : MutRow) (r : Result ℕ Refusal) (ws' : MutRow) (s' : Lent) (row' : MutRow)
        → (WriteContract.clauses 𝓛 mem run κs (ws, (s, (plot, (value, (row, tt)))))).ensures tt r (ws', (s', (plot, (value, (row', tt)))))
        ≡ fact 𝓤 (WritePromise ws.now s.now plot value row.now (reply_of r) s'.now ws'.now row'.now)
    pub write_asks : (κs : Three) (ws : MutRow) (s : Lent) (plot value : ℕ) (row : MutRow) → (WriteContract.clauses 𝓛 mem run κs (ws, (s, (plot, (value, (row, tt)))))).requires tt ≡ emp 𝓤

  pub lent_contracts : LentContracts
  lent_contracts =
      record {
        read_met = ReadPlot.Met.met;
        read_is = λ κs ws s plot r ws' s'. refl;
        read_asks = λ κs ws s plot. refl;
        joint_met = ReadJoint.Met.met;
        joint_is = λ κs ws s plots row r ws' s' plots' row'. refl;
        joint_asks = λ κs ws s plots row. refl;
        write_met = Write.Met.met;
        write_is = λ κs ws s plot value row r ws' s' row'. refl;
        write_asks = λ κs ws s plot value row. refl;
      }
