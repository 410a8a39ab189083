-- The code of each call meets its contract (`_met`), which is its promise in office/specs/Promises.antt (`_is`) and asks for nothing (`_asks`): a
-- changed `ensures` or an added `requires` breaks this file. Assumes nothing.
use Rattle.std.proofs.Common.{Bor, Result}
use Rattle.std.specs.Result.{result_unwrap_or}
use Prim.Native.Nat.{ℕ}
use mathlib.Core.Path.{◌≡◌, ◌∙◌, ap, refl}
use mathlib.Core.List.{List}
use base.Logic.{SProp, both⊢, emp}
use contract.Monad.{Fun, fact, fact_mono}
use types.Logic.{Logic}
use seplogic.Ra.Ura.{Ura}
use prog.Memory.{Memory}
use prog.Routine.{Routine}
use Rattle.frame.specs.Refusals.{code_of}
use Rattle.frame.specs.declared.entry.Entry.{Entry}
use Rattle.frame.specs.declared.refusal.Refusal.{Refusal}
use Rattle.frame.specs.declared.session.Session.{Session}
use Rattle.frame.proofs.Contract.{Four, MutRow, One, Row, Three, Two}
use Rattle.office.specs.Decide.{alone, seen_of, with_seen}
use Rattle.office.specs.declared.note.Seen.{Seen}
use Rattle.office.specs.Promises.{JointPromise, ReadPromise}
use Rattle.reading.proofs.Alone.{alone_joint, alone_read}
use Rattle.reading.specs.Answers.{entry_by, found_by, seen_entry, seen_found, seen_session, session_by}
use Rattle.reading.specs.declared.read.PlotRead.{PlotRead}
use Rattle.reading.specs.declared.read.PlotSeen.{PlotSeen}
use Rattle.reading.proofs.joint.read_joint as ReadJoint
use Rattle.reading.specs.contracts.joint.read_joint as ReadJointContract
use Rattle.reading.proofs.joint.see_joint as SeeJoint
use Rattle.reading.specs.contracts.joint.see_joint as SeeJointContract
use Rattle.reading.proofs.read.read_plot as ReadPlot
use Rattle.reading.specs.contracts.read.read_plot as ReadPlotContract
use Rattle.reading.proofs.read.see_plot as SeePlot
use Rattle.reading.specs.contracts.read.see_plot as SeePlotContract

module _ {M : Type 1} {𝓤 : Ura M} (𝓛 : Logic 𝓤) (mem : Memory → SProp 𝓤) (run : Routine → Fun 𝓤) where
  -- what see_plot and see_joint promise of a session
  abbrev ReadOf : List ℕ → Session → ℕ → Result PlotSeen Refusal → List ℕ → Type 0
  ReadOf ws s plot r left = ReadPromise ws s plot (code_of r) (seen_found r) (seen_entry r) (seen_session s r) left

  abbrev JointOf : List ℕ → Session → List ℕ → List ℕ → Result Seen Refusal → List ℕ → List ℕ → Type 0
  JointOf ws s plots row r left out = JointPromise ws s plots row (code_of r) (with_seen s (result_unwrap_or r (seen_of s))) left out

  -- of one that carries nothing: for one row of entries it is the promise for every row
  read_every : (n : ℕ) (clock read : List ℕ) (own : List Entry) (ws : List ℕ) (plot : ℕ) (r : Result PlotSeen Refusal) (left : List ℕ)
      → fact 𝓤 (ReadOf ws (alone n clock read own) plot r left) ≡ fact 𝓤 ((own' : List Entry) → ReadOf ws (alone n clock read own') plot r left)
  read_every n clock read own ws plot r left =
      both⊢ 𝓤
      (fact_mono 𝓤 (ReadOf ws (alone n clock read own) plot r left) ((own' : List Entry) → ReadOf ws (alone n clock read own') plot r left) (λ p own'. alone_read n clock read own own' ws plot (code_of r) (seen_found r) (seen_entry r) r left p))
      (fact_mono 𝓤 ((own' : List Entry) → ReadOf ws (alone n clock read own') plot r left) (ReadOf ws (alone n clock read own) plot r left) (λ q. q own))

  joint_every : (n : ℕ) (clock read : List ℕ) (own : List Entry) (ws plots row : List ℕ) (r : Result Seen Refusal) (left out : List ℕ)
      → fact 𝓤 (JointOf ws (alone n clock read own) plots row r left out) ≡ fact 𝓤 ((own' : List Entry) → JointOf ws (alone n clock read own') plots row r left out)
  joint_every n clock read own ws plots row r left out =
      both⊢ 𝓤
      (fact_mono 𝓤 (JointOf ws (alone n clock read own) plots row r left out) ((own' : List Entry) → JointOf ws (alone n clock read own') plots row r left out) (λ p own'. alone_joint n clock read own own' ws plots row (code_of r) r left out p))
      (fact_mono 𝓤 ((own' : List Entry) → JointOf ws (alone n clock read own') plots row r left out) (JointOf ws (alone n clock read own) plots row r left out) (λ q. q own))

  pub record ReadingContracts : Type 2 where
    pub read_met : ReadPlot.Statement.statement M
    pub read_is : (κs : One) (ws : MutRow) (s : Session) (plot : ℕ) (r : Result PlotRead Refusal) (ws' : MutRow)
        → (ReadPlotContract.clauses 𝓛 mem run κs (ws, (s, (plot, tt)))).ensures tt r (ws', (s, (plot, tt)))
        ≡ fact 𝓤 (ReadPromise ws.now s plot (code_of r) (found_by r) (entry_by r) (session_by s r) ws'.now)
    pub read_asks : (κs : One) (ws : MutRow) (s : Session) (plot : ℕ) → (ReadPlotContract.clauses 𝓛 mem run κs (ws, (s, (plot, tt)))).requires tt ≡ emp 𝓤
    pub see_met : SeePlot.Statement.statement M
    pub see_is : (κs : Two) (ws : MutRow) (s : Bor Session) (plot : ℕ) (r : Result PlotSeen Refusal) (ws' : MutRow) (s' : Bor Session)
        → (SeePlotContract.clauses 𝓛 mem run κs (ws, (s, (plot, tt)))).ensures tt r (ws', (s', (plot, tt)))
        ≡ fact 𝓤 (ReadPromise ws.now s.now plot (code_of r) (seen_found r) (seen_entry r) (seen_session s.now r) ws'.now)
    pub see_asks : (κs : Two) (ws : MutRow) (s : Bor Session) (plot : ℕ) → (SeePlotContract.clauses 𝓛 mem run κs (ws, (s, (plot, tt)))).requires tt ≡ emp 𝓤
    -- of a session that carries nothing: one answer is right whatever stands in its row of entries (own'), not for the row that it has alone
    pub see_alone_met : SeePlot.Statement.statement M
    pub see_alone_is : (κs : Two) (ws : MutRow) (s : Bor Session) (n : ℕ) (clock read : List ℕ) (own : List Entry) → s.now ≡ alone n clock read own
        → (plot : ℕ) (r : Result PlotSeen Refusal) (ws' : MutRow) (s' : Bor Session)
        → (SeePlotContract.clauses 𝓛 mem run κs (ws, (s, (plot, tt)))).ensures tt r (ws', (s', (plot, tt)))
        ≡ fact 𝓤 ((own' : List Entry) → ReadPromise ws.now (alone n clock read own') plot (code_of r) (seen_found r) (seen_entry r) (seen_session (alone n clock read own') r) ws'.now)
    pub see_alone_row_is : (κs : Two) (ws : MutRow) (s : Bor Session) (n : ℕ) (clock read : List ℕ) (own : List Entry) → s.now ≡ alone n clock read own
        → (plot : ℕ) (r : Result PlotSeen Refusal) (ws' : MutRow) (s' : Bor Session)
        → (SeePlotContract.clauses 𝓛 mem run κs (ws, (s, (plot, tt)))).ensures tt r (ws', (s', (plot, tt)))
        ≡ fact 𝓤 (ReadPromise ws.now (alone n clock read own) plot (code_of r) (seen_found r) (seen_entry r) (seen_session (alone n clock read own) r) ws'.now)
    pub see_alone_asks : (κs : Two) (ws : MutRow) (s : Bor Session) (plot : ℕ) → (SeePlotContract.clauses 𝓛 mem run κs (ws, (s, (plot, tt)))).requires tt ≡ emp 𝓤
    pub joint_met : ReadJoint.Statement.statement M
    pub joint_is : (κs : Three) (ws : MutRow) (s : Session) (plots : Row) (row : MutRow) (r : Result Session Refusal) (ws' : MutRow) (plots' : Row) (row' : MutRow)
        → (ReadJointContract.clauses 𝓛 mem run κs (ws, (s, (plots, (row, tt))))).ensures tt r (ws', (s, (plots', (row', tt))))
        ≡ fact 𝓤 (JointPromise ws.now s plots.now row.now (code_of r) (result_unwrap_or r s) ws'.now row'.now)
    pub joint_asks : (κs : Three) (ws : MutRow) (s : Session) (plots : Row) (row : MutRow) → (ReadJointContract.clauses 𝓛 mem run κs (ws, (s, (plots, (row, tt))))).requires tt ≡ emp 𝓤
    pub see_joint_met : SeeJoint.Statement.statement M
    pub see_joint_is : (κs : Four) (ws : MutRow) (s : Bor Session) (plots : Row) (row : MutRow) (r : Result Seen Refusal) (ws' : MutRow) (s' : Bor Session) (plots' : Row) (row' : MutRow)
        → (SeeJointContract.clauses 𝓛 mem run κs (ws, (s, (plots, (row, tt))))).ensures tt r (ws', (s', (plots', (row', tt))))
        ≡ fact 𝓤 (JointPromise ws.now s.now plots.now row.now (code_of r) (with_seen s.now (result_unwrap_or r (seen_of s.now))) ws'.now row'.now)
    pub see_joint_asks : (κs : Four) (ws : MutRow) (s : Bor Session) (plots : Row) (row : MutRow) → (SeeJointContract.clauses 𝓛 mem run κs (ws, (s, (plots, (row, tt))))).requires tt ≡ emp 𝓤
    pub see_joint_alone_met : SeeJoint.Statement.statement M
    pub see_joint_alone_is : (κs : Four) (ws : MutRow) (s : Bor Session) (n : ℕ) (clock read : List ℕ) (own : List Entry) → s.now ≡ alone n clock read own
        → (plots : Row) (row : MutRow) (r : Result Seen Refusal) (ws' : MutRow) (s' : Bor Session) (plots' : Row) (row' : MutRow)
        → (SeeJointContract.clauses 𝓛 mem run κs (ws, (s, (plots, (row, tt))))).ensures tt r (ws', (s', (plots', (row', tt))))
        ≡ fact 𝓤 ((own' : List Entry) → JointPromise ws.now (alone n clock read own') plots.now row.now (code_of r) (with_seen (alone n clock read own') (result_unwrap_or r (seen_of (alone n clock read own')))) ws'.now row'.now)
    pub see_joint_alone_row_is : (κs : Four) (ws : MutRow) (s : Bor Session) (n : ℕ) (clock read : List ℕ) (own : List Entry) → s.now ≡ alone n clock read own
        → (plots : Row) (row : MutRow) (r : Result Seen Refusal) (ws' : MutRow) (s' : Bor Session) (plots' : Row) (row' : MutRow)
        → (SeeJointContract.clauses 𝓛 mem run κs (ws, (s, (plots, (row, tt))))).ensures tt r (ws', (s', (plots', (row', tt))))
        ≡ fact 𝓤 (JointPromise ws.now (alone n clock read own) plots.now row.now (code_of r) (with_seen (alone n clock read own) (result_unwrap_or r (seen_of (alone n clock read own)))) ws'.now row'.now)
    pub see_joint_alone_asks : (κs : Four) (ws : MutRow) (s : Bor Session) (plots : Row) (row : MutRow) → (SeeJointContract.clauses 𝓛 mem run κs (ws, (s, (plots, (row, tt))))).requires tt ≡ emp 𝓤

  pub reading_contracts : ReadingContracts
  reading_contracts =
      record {
        read_met = ReadPlot.Met.met;
        read_is = λ κs ws s plot r ws'. refl;
        read_asks = λ κs ws s plot. refl;
        see_met = SeePlot.Met.met;
        see_is = λ κs ws s plot r ws' s'. refl;
        see_asks = λ κs ws s plot. refl;
        see_alone_met = SeePlot.Met.met;
        see_alone_is =
            λ κs ws s n clock read own e plot r ws' s'.
            ap (λ (t : Session). fact 𝓤 (ReadOf ws.now t plot r ws'.now)) e ∙ read_every n clock read own ws.now plot r ws'.now;
        see_alone_row_is = λ κs ws s n clock read own e plot r ws' s'. ap (λ (t : Session). fact 𝓤 (ReadOf ws.now t plot r ws'.now)) e;
        see_alone_asks = λ κs ws s plot. refl;
        joint_met = ReadJoint.Met.met;
        joint_is = λ κs ws s plots row r ws' plots' row'. refl;
        joint_asks = λ κs ws s plots row. refl;
        see_joint_met = SeeJoint.Met.met;
        see_joint_is = λ κs ws s plots row r ws' s' plots' row'. refl;
        see_joint_asks = λ κs ws s plots row. refl;
        see_joint_alone_met = SeeJoint.Met.met;
        see_joint_alone_is =
            λ κs ws s n clock read own e plots row r ws' s' plots' row'.
            ap (λ (t : Session). fact 𝓤 (JointOf ws.now t plots.now row.now r ws'.now row'.now)) e ∙ joint_every n clock read own ws.now plots.now row.now r ws'.now row'.now;
        see_joint_alone_row_is =
            λ κs ws s n clock read own e plots row r ws' s' plots' row'. ap (λ (t : Session). fact 𝓤 (JointOf ws.now t plots.now row.now r ws'.now row'.now)) e;
        see_joint_alone_asks = λ κs ws s plots row. refl;
      }
