-- The code of each call meets its contract (`_met`), which is its promise in office/specs/Promises.antt (`_is`) and asks for nothing (`_asks`): a
-- changed `ensures` or an added `requires` breaks this file. Assumes nothing.
use Rattle.std.proofs.Common.{Bor, Result}
use Prim.Native.Nat.{ℕ}
use mathlib.Core.Path.{◌≡◌, ◌∙◌, refl, ap}
use mathlib.Core.List.{List}
use base.Logic.{SProp, emp}
use contract.Monad.{Fun, fact, fact_mono}
use seplogic.Bi.Basic.Entails
use types.Logic.{Logic}
use seplogic.Ra.Ura.{Ura}
use prog.Memory.{Memory}
use prog.Routine.{Routine}
use Rattle.frame.specs.Refusals.{reply_of}
use Rattle.frame.specs.declared.entry.Entry.{Entry}
use Rattle.frame.specs.declared.refusal.Refusal.{Refusal}
use Rattle.frame.specs.declared.session.Session.{Session}
use Rattle.frame.proofs.Contract.{MutRow, Three, Two}
use Rattle.office.specs.Decide.{alone}
use Rattle.office.specs.Promises.{MakePromise, WritePromise}
use Rattle.writing.proofs.Answers.{made_alone}
use Rattle.writing.specs.Answers.{entry_by, session_by, words_by, wrote_by}
use Rattle.writing.specs.declared.write.Made.{Made}
use Rattle.writing.specs.declared.write.Wrote.{Wrote}
use Rattle.writing.proofs.write.make as Make
use Rattle.writing.specs.contracts.write.make as MakeContract
use Rattle.writing.proofs.write.write as Write
use Rattle.writing.specs.contracts.write.write as WriteContract

module _ {M : Type 1} {𝓤 : Ura M} (𝓛 : Logic 𝓤) (mem : Memory → SProp 𝓤) (run : Routine → Fun 𝓤) where
  pub record WritingContracts : Type 2 where
    pub write_met : Write.Statement.statement M
    pub write_is : (κs : Two) (ws : MutRow) (s : Session) (plot value : ℕ) (row : MutRow) (r : Result Wrote Refusal) (ws' row' : MutRow)
        → (WriteContract.clauses 𝓛 mem run κs (ws, (s, (plot, (value, (row, tt)))))).ensures tt r (ws', (s, (plot, (value, (row', tt)))))
        ≡ fact 𝓤 (WritePromise ws.now s plot value row.now (reply_of (wrote_by r)) (session_by s r) ws'.now row'.now)
    pub write_asks : (κs : Two) (ws : MutRow) (s : Session) (plot value : ℕ) (row : MutRow) → (WriteContract.clauses 𝓛 mem run κs (ws, (s, (plot, (value, (row, tt)))))).requires tt ≡ emp 𝓤
    pub make_met : Make.Statement.statement M
    pub make_is : (κs : Three) (ws : MutRow) (s : Bor Session) (plot value : ℕ) (row : MutRow) (r : Result Made Refusal) (ws' row' : MutRow) (s' : Bor Session)
        → (MakeContract.clauses 𝓛 mem run κs (ws, (s, (plot, (value, (row, tt)))))).ensures tt r (ws', (s', (plot, (value, (row', tt)))))
        ≡ fact 𝓤 (MakePromise ws.now s.now plot value row.now (words_by r) (entry_by r) ws'.now row'.now)
    pub make_asks : (κs : Three) (ws : MutRow) (s : Bor Session) (plot value : ℕ) (row : MutRow) → (MakeContract.clauses 𝓛 mem run κs (ws, (s, (plot, (value, (row, tt)))))).requires tt ≡ emp 𝓤
    -- of a session that carries nothing: right whatever stands in its row of entries
    pub make_alone_met : Make.Statement.statement M
    pub make_alone_is : (κs : Three) (ws : MutRow) (s : Bor Session) (n : ℕ) (clock read : List ℕ) (own : List Entry) (plot value : ℕ) (row : MutRow) (r : Result Made Refusal)
        (ws' row' : MutRow) (s' : Bor Session) → s.now ≡ alone n clock read own
        → (MakeContract.clauses 𝓛 mem run κs (ws, (s, (plot, (value, (row, tt)))))).ensures tt r (ws', (s', (plot, (value, (row', tt)))))
        ≡ fact 𝓤 ((own' : List Entry) → MakePromise ws.now (alone n clock read own') plot value row.now (words_by r) (entry_by r) ws'.now row'.now)
    pub make_alone_asks : (κs : Three) (ws : MutRow) (s : Bor Session) (plot value : ℕ) (row : MutRow) → (MakeContract.clauses 𝓛 mem run κs (ws, (s, (plot, (value, (row, tt)))))).requires tt ≡ emp 𝓤

  same_fact : (φ ψ : Type 0) → (φ → ψ) → (ψ → φ) → fact 𝓤 φ ≡ fact 𝓤 ψ
  same_fact φ ψ f g = Entails.antisymm 𝓤.op (fact_mono 𝓤 φ ψ f) (fact_mono 𝓤 ψ φ g)

  pub writing_contracts : WritingContracts
  writing_contracts =
      record {
        write_met = Write.Met.met;
        write_is = λ κs ws s plot value row r ws' row'. refl;
        write_asks = λ κs ws s plot value row. refl;
        make_met = Make.Met.met;
        make_is = λ κs ws s plot value row r ws' row' s'. refl;
        make_asks = λ κs ws s plot value row. refl;
        make_alone_met = Make.Met.met;
        make_alone_is =
            λ κs ws s n clock read own plot value row r ws' row' s' e.
            ap (λ (t : Session). fact 𝓤 (MakePromise ws.now t plot value row.now (words_by r) (entry_by r) ws'.now row'.now)) e
            ∙ same_fact (MakePromise ws.now (alone n clock read own) plot value row.now (words_by r) (entry_by r) ws'.now row'.now)
            ((own' : List Entry) → MakePromise ws.now (alone n clock read own') plot value row.now (words_by r) (entry_by r) ws'.now row'.now)
            (λ h own'. made_alone ws.now n clock read own own' plot value row.now (words_by r) (entry_by r) ws'.now row'.now h)
            (λ h. h own);
        make_alone_asks = λ κs ws s plot value row. refl;
      }
