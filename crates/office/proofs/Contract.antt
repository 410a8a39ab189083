-- The code of each call meets its contract (`_met`), which is its promise in specs/Promises.antt (`_is`) and asks for nothing (`_asks`): a
-- changed `ensures` or an added `requires` breaks this file. Assumes nothing.
use Rattle.std.proofs.Common.{Result}
use Rattle.std.specs.Result.{result_unwrap_or}
use Prim.Native.Nat.{ℕ}
use mathlib.Core.Path.{◌≡◌, refl}
use base.Logic.{SProp, emp}
use contract.Monad.{Fun, fact}
use types.Logic.{Logic}
use seplogic.Ra.Ura.{Ura}
use prog.Memory.{Memory}
use prog.Routine.{Routine}
use Rattle.frame.specs.declared.refusal.Refusal.{Refusal}
use Rattle.frame.specs.Refusals.{code_of, reply_of}
use Rattle.frame.specs.Sessions.{fresh_content, session_of}
use Rattle.frame.specs.declared.session.Session.{Session}
use Rattle.frame.proofs.Contract.{MutRow, One, Row}
use Rattle.office.specs.Promises.{FreshPromise, NeedPromise, OpenPromise, SettingsPromise}
use Rattle.office.specs.Answers.{no_settings}
use Rattle.office.specs.declared.settings.Settings.{Settings}
use Rattle.office.proofs.need.store_need as StoreNeed
use Rattle.office.specs.contracts.need.store_need as StoreNeedContract
use Rattle.office.proofs.open.fresh_session as FreshSession
use Rattle.office.specs.contracts.open.fresh_session as FreshSessionContract
use Rattle.office.proofs.open.open_office as OpenOffice
use Rattle.office.specs.contracts.open.open_office as OpenOfficeContract
use Rattle.office.proofs.settings.store_settings as StoreSettings
use Rattle.office.specs.contracts.settings.store_settings as StoreSettingsContract

module _ {M : Type 1} {𝓤 : Ura M} (𝓛 : Logic 𝓤) (mem : Memory → SProp 𝓤) (run : Routine → Fun 𝓤) where
  pub record OfficeContracts : Type 2 where
    pub need_met : StoreNeed.Statement.statement M
    pub need_is : (n o p : ℕ) (r : Result ℕ Refusal)
        → (StoreNeedContract.clauses 𝓛 mem run tt (n, (o, (p, tt)))).ensures tt r (n, (o, (p, tt)))
        ≡ fact 𝓤 (NeedPromise n o p (reply_of r))
    pub need_asks : (n o p : ℕ) → (StoreNeedContract.clauses 𝓛 mem run tt (n, (o, (p, tt)))).requires tt ≡ emp 𝓤
    pub open_met : OpenOffice.Statement.statement M
    pub open_is : (κs : One) (n o p : ℕ) (ws : MutRow) (r : Result (Unit {0}) Refusal) (ws' : MutRow)
        → (OpenOfficeContract.clauses 𝓛 mem run κs (n, (o, (p, (ws, tt))))).ensures tt r (n, (o, (p, (ws', tt))))
        ≡ fact 𝓤 (OpenPromise n o p ws.now (code_of r) ws'.now)
    pub open_asks : (κs : One) (n o p : ℕ) (ws : MutRow) → (OpenOfficeContract.clauses 𝓛 mem run κs (n, (o, (p, (ws, tt))))).requires tt ≡ emp 𝓤
    pub fresh_met : FreshSession.Statement.statement M
    pub fresh_is : (n : ℕ) (r : Result Session Refusal)
        → (FreshSessionContract.clauses 𝓛 mem run tt (n, tt)).ensures tt r (n, tt)
        ≡ fact 𝓤 (FreshPromise n (code_of r) (result_unwrap_or r (session_of (fresh_content 0))))
    pub fresh_asks : (n : ℕ) → (FreshSessionContract.clauses 𝓛 mem run tt (n, tt)).requires tt ≡ emp 𝓤
    pub settings_met : StoreSettings.Statement.statement M
    pub settings_is : (κs : One) (ws : Row) (r : Result Settings Refusal) (ws' : Row)
        → (StoreSettingsContract.clauses 𝓛 mem run κs (ws, tt)).ensures tt r (ws', tt)
        ≡ fact 𝓤 (SettingsPromise ws.now (code_of r) (result_unwrap_or r no_settings).offices (result_unwrap_or r no_settings).own (result_unwrap_or r no_settings).plots)
    pub settings_asks : (κs : One) (ws : Row) → (StoreSettingsContract.clauses 𝓛 mem run κs (ws, tt)).requires tt ≡ emp 𝓤

  pub office_contracts : OfficeContracts
  office_contracts =
      record {
        need_met = StoreNeed.Met.met;
        need_is = λ n o p r. refl;
        need_asks = λ n o p. refl;
        open_met = OpenOffice.Met.met;
        open_is = λ κs n o p ws r ws'. refl;
        open_asks = λ κs n o p ws. refl;
        fresh_met = FreshSession.Met.met;
        fresh_is = λ n r. refl;
        fresh_asks = λ n. refl;
        settings_met = StoreSettings.Met.met;
        settings_is = λ κs ws r ws'. refl;
        settings_asks = λ κs ws. refl;
      }
