-- The claims about the carrying order (specs/Carrying.antt): of calls, and of any two sessions of a run joined either way round. Assumes nothing.
use mathlib.Core.Path.{◌∙◌}
use Rattle.joining.proofs.Laws.{join_laws, joinable}
use Rattle.ring.specs.Carrying.{CarryingOrder, EitherWay}
use Rattle.ring.specs.Run.{contents_run}
use Rattle.ring.proofs.Base.{fit_sane}
use Rattle.ring.proofs.Carrying.{joint_same, ok_same, read_same}
use Rattle.ring.proofs.CarryJoins.{joins_first, joins_second}
use Rattle.ring.proofs.CarryWrites.{write_codes, write_same}
use Rattle.ring.proofs.Steps.{contents_ok, ok_whole}
use Rattle.ring.proofs.Theorem.{demand3}

pub carrying_order : CarryingOrder
carrying_order =
    record {
      sound = ok_same;
      reads = read_same;
      reads_jointly = joint_same;
      writes = λ s t T ws w plot value row. write_same s t T ws plot value w row;
      write_codes = write_codes;
      joins = joins_first;
      joins_second = joins_second;
    }

pub either_way : EitherWay
either_way n p two eight one p64 rows long cs r u i j m q =
    let S = (demand3 n p two eight one p64 rows long cs).same.sessions in
    let w = ok_whole n p two eight (contents_run n p cs) (contents_ok n p two eight cs) in
    let A = fit_sane n p two eight _ _ (contents_run n p cs) w r.session r.past (w.sessions r (rw S at i)) in
    let B = fit_sane n p two eight _ _ (contents_run n p cs) w u.session u.past (w.sessions u (rw S at j)) in
    let swap = join_laws.swapped_code m q r.session u.session (λ x. A) (λ x. B) in (
      swap,
      λ h.
          let J = joinable m q r.session u.session h in
          let L = join_laws.accepted m q r.session u.session (λ x. A) (λ x. B) h in
          let M = join_laws.accepted m q u.session r.session (λ x. B) (λ x. A) (swap ∙ h) in
          record {
            n = m;
            p = q;
            ring = J.ring;
            first = L.sound m q J.ring J.first J.second;
            second = M.sound m q J.ring J.second J.first;
            sane_first = L.sane;
            sane_second = M.sane;
            order = L.swapped;
          },
    )
