-- THE THIRD DEMAND, as one statement: code → contract → promise → run → Holds. Its one theorem is `third_demand`, proofs/Demand.antt. The links meet
-- in the promises, which contracts and claim cite by name.
--   code → contract → promise   `frame`, `joining`, `office`, `reading`, `writing`, `hearing`, `lent`, `host`: the code of each call, lent call
--                               and call of host meets its contract; that asks for nothing, and ensures the promise (frame/specs/Promises.antt,
--                               joining/specs/Promises.antt, office/specs/Promises.antt; of bytes and version host/specs/Bytes.antt,
--                               Version.antt; the links are in Contract.antt, in the proofs of each of these crates)
--   promise → run               `claim`, `answered`: whatever the answers, if they keep the promises, a list of calls leads to its run; and
--                               every list of calls has such answers (specs/Claim.antt; what is read off an answer: specs/Answers.antt)
--   run → Holds                 in `claim` too; given apart, since the program stands on them: `opens`, `demand3`: openings in range are accepted, and
--                               every run keeps what paper 01 asks of it (specs/Run.antt, specs/Holds.antt)
--                               Beside it `settings`, of the call that paper 01 does not have: specs/Settings.antt; `joint_together`, what the
--                               replies of a joint reading show together: specs/Joint.antt; `later_counts`, an entry and its writer's past:
--                               specs/Later.antt; `join_laws`, what a join of two sessions keeps: joining/specs/Laws.antt; `carrying_order`,
--                               `either_way`, `goes_on`, `keeps_on`, what later calls make of it: specs/Carrying.antt
-- Assumes nothing.
use base.Logic.{SProp}
use contract.Monad.{Fun}
use types.Logic.{Logic}
use seplogic.Ra.Ura.{Ura}
use prog.Memory.{Memory}
use prog.Routine.{Routine}
use Rattle.frame.proofs.Contract.{FrameContracts}
use Rattle.joining.specs.Laws.{LawsOfJoin}
use Rattle.joining.proofs.Contract.{JoiningContracts}
use Rattle.office.proofs.Contract.{OfficeContracts}
use Rattle.reading.proofs.Contract.{ReadingContracts}
use Rattle.writing.proofs.Contract.{WritingContracts}
use Rattle.hearing.proofs.Contract.{HearingContracts}
use Rattle.lent.proofs.Contract.{LentContracts}
use Rattle.host.proofs.Contract.{HostContracts}
use Rattle.ring.specs.Carrying.{CarryingOrder, EitherWay, GoesOn, KeepsOn}
use Rattle.ring.specs.Claim.{Answered, Claim}
use Rattle.ring.specs.Holds.{Demand3, Opens}
use Rattle.ring.specs.Joint.{JointTogether}
use Rattle.ring.specs.Later.{LaterCounts}
use Rattle.ring.specs.Settings.{SettingsStay}

-- for every model of memory
abbrev pub Everywhere : ((M : Type 1) (𝓤 : Ura M) (𝓛 : Logic 𝓤) → (Memory → SProp 𝓤) → (Routine → Fun 𝓤) → Type 2) → Type 2
Everywhere C = (M : Type 1) (𝓤 : Ura M) (𝓛 : Logic 𝓤) (mem : Memory → SProp 𝓤) (run : Routine → Fun 𝓤) → C M 𝓤 𝓛 mem run

pub record ThirdDemand : Type 2 where
  pub frame : Everywhere (λ M 𝓤 𝓛 mem run. FrameContracts 𝓛 mem run)
  pub joining : Everywhere (λ M 𝓤 𝓛 mem run. JoiningContracts 𝓛 mem run)
  pub office : Everywhere (λ M 𝓤 𝓛 mem run. OfficeContracts 𝓛 mem run)
  pub reading : Everywhere (λ M 𝓤 𝓛 mem run. ReadingContracts 𝓛 mem run)
  pub writing : Everywhere (λ M 𝓤 𝓛 mem run. WritingContracts 𝓛 mem run)
  pub hearing : Everywhere (λ M 𝓤 𝓛 mem run. HearingContracts 𝓛 mem run)
  pub lent : Everywhere (λ M 𝓤 𝓛 mem run. LentContracts 𝓛 mem run)
  pub host : Everywhere (λ M 𝓤 𝓛 mem run. HostContracts 𝓛 mem run)
  pub claim : Claim
  pub answered : Answered
  pub opens : Opens
  pub demand3 : Demand3
  pub settings : SettingsStay
  pub joint_together : JointTogether
  pub later_counts : LaterCounts
  pub join_laws : LawsOfJoin
  pub carrying_order : CarryingOrder
  pub either_way : EitherWay
  pub goes_on : GoesOn
  pub keeps_on : KeepsOn
