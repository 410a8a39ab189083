use mathlib.Core.Bool.{true}
use mathlib.Core.Path.{◌∙◌, ◌≡◌, ap, refl}
use native.Mathlib.Omega.{arith}
use Rattle.std.proofs.lemmas.Result.{err_from_is_err_and}
use Rattle.std.specs.Prelude.{is_ok}
use Rattle.ring_program.specs.declared.feed.Stage.{Stage}
use Rattle.ring_program.specs.Fed.{desk_of}
use Rattle.ring_program.proofs.Feeding as fd
use Rattle.ring_program.proofs.feed.feed_all.Goals as goal

pub loop-from-init : goal.loop-from-init
loop-from-init c = let a = c.args in
    (omega arith, refl, refl, refl, refl, c.requires.2, c.requires.4, λ g l S e. fd.leads_none a.bytes.now a.stage.now a.stores.now a.lines.now g l S e)

pub feed_some-from-requires : goal.feed_some-from-requires
feed_some-from-requires c = let L = c.loop-from in
    let B = L.invariant.7 c.requires.3.0 c.requires.3.1 c.requires.3.2 c.requires.3.3 in
    (L.invariant.1 ∙ c.requires.0, omega (arith, L.invariant.5, L.invariant.2, c.requires.1), c.loop-from-test.true, (_, _, B.shows, B.pending), L.invariant.6)

pub returns-in_err-write_out : goal.returns-in_err-write_out
returns-in_err-write_out c = let L = c.loop-from in
    let q = c.feed_some-from in
    let w = c.write_out in
    let p = err_from_is_err_and c.from_residual.result c.from_residual.ensures.1 in
    rw p.1 (
      ap (λ (x : Stage). x.at) w.ensures,
      ap (λ (x : Stage). x.wrote) w.ensures ∙ ap is_ok c.in_err-write_out.was,
      (
        q.result,
        q.ensures.1,
        (λ h. cc),
        λ g l S e.
            let X = L.invariant.7 g l S e in
            fd.leads_then c.args.bytes.now L.from q.result (omega (arith, q.ensures.0)) g l L.stage.at _ q.new.stage w.new.stage _ _ _ (q.ensures.4 _ _ X.shows X.pending) (ap desk_of w.ensures) (ap (λ (x : Stage). x.pending) w.ensures),
      ),
    )

pub loop-from-preserved : goal.loop-from-preserved
loop-from-preserved c = let L = c.loop-from in
    let q = c.feed_some-from in
    let w = c.write_out in
    let taken : is_ok w.result ≡ true = ap is_ok c.in_ok-write_out.was in (
      q.ensures.1,
      q.auto.out ∙ L.invariant.1,
      q.auto.text ∙ L.invariant.2,
      q.auto.stores ∙ L.invariant.3,
      q.auto.lines ∙ L.invariant.4,
      ap (λ (x : Stage). x.at) w.ensures,
      ap (λ (x : Stage). x.wrote) w.ensures ∙ taken,
      λ g l S e.
          let X = L.invariant.7 g l S e in
          fd.leads_then c.args.bytes.now L.from q.result (omega (arith, q.ensures.0)) g l L.stage.at _ q.new.stage w.new.stage _ _ _ (q.ensures.4 _ _ X.shows X.pending) (ap desk_of w.ensures) (ap (λ (x : Stage). x.pending) w.ensures),
    )
