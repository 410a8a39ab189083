-- THE THEOREM of the third demand (specs/Demand.antt). Assumes nothing.
use Rattle.frame.proofs.Contract.{frame_contracts}
use Rattle.joining.proofs.Contract.{joining_contracts}
use Rattle.joining.proofs.Laws.{join_laws}
use Rattle.office.proofs.Contract.{office_contracts}
use Rattle.reading.proofs.Contract.{reading_contracts}
use Rattle.writing.proofs.Contract.{writing_contracts}
use Rattle.hearing.proofs.Contract.{hearing_contracts}
use Rattle.lent.proofs.Contract.{lent_contracts}
use Rattle.host.proofs.Contract.{host_contracts}
use Rattle.ring.specs.Demand.{ThirdDemand}
use Rattle.ring.proofs.Chain.{all_answered}
use Rattle.ring.proofs.Claim.{claim}
use Rattle.ring.proofs.EitherWay.{carrying_order, either_way}
use Rattle.ring.proofs.GoesOn.{goes_on}
use Rattle.ring.proofs.JointTogether.{joint_together}
use Rattle.ring.proofs.KeepsOn.{keeps_on}
use Rattle.ring.proofs.LaterCounts.{later_counts}
use Rattle.ring.proofs.Settings.{settings_stay}
use Rattle.ring.proofs.Theorem.{demand3, opens}

pub third_demand : ThirdDemand
third_demand =
    record {
      frame = λ M 𝓤 𝓛 mem run. frame_contracts 𝓛 mem run;
      joining = λ M 𝓤 𝓛 mem run. joining_contracts 𝓛 mem run;
      office = λ M 𝓤 𝓛 mem run. office_contracts 𝓛 mem run;
      reading = λ M 𝓤 𝓛 mem run. reading_contracts 𝓛 mem run;
      writing = λ M 𝓤 𝓛 mem run. writing_contracts 𝓛 mem run;
      hearing = λ M 𝓤 𝓛 mem run. hearing_contracts 𝓛 mem run;
      lent = λ M 𝓤 𝓛 mem run. lent_contracts 𝓛 mem run;
      host = λ M 𝓤 𝓛 mem run. host_contracts 𝓛 mem run;
      claim = claim;
      answered = all_answered;
      opens = opens;
      demand3 = demand3;
      settings = settings_stay;
      joint_together = joint_together;
      later_counts = later_counts;
      join_laws = join_laws;
      carrying_order = carrying_order;
      either_way = either_way;
      goes_on = goes_on;
      keeps_on = keeps_on;
    }
