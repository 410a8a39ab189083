use Rattle.std.proofs.Common.{◌≡◌, ◌+◌, ◌-◌, ◌<◌, Bool, length, get_or, take, drop, sym, ◌∙◌, arith, length-drop}
use Rattle.std.proofs.lemmas.List.{length-take}
use Rattle.causal.specs.Sets.{is_in}
use Rattle.frame.specs.Entries.{id_of}
use Rattle.frame.specs.Sessions.{nobody}
use Rattle.frame.specs.declared.entry.Entry.{Entry}
use Rattle.joining.proofs.Turns as T
use Rattle.joining.proofs.Turns.{at_behind}
use Rattle.joining.proofs.join.both_own.Goals as goal
use Rattle.joining.proofs.join.both_own.Goals.{then-not-among, else-not-among, then-count-lt16, else-count-lt16}

pub overflow_add-count : goal.overflow_add-count
overflow_add-count c = omega (arith, (T.left_below (λ e. is_in c.args.ids (id_of e)) c.args.second.now (c.args.front + c.loop-e.e-index)).1, c.loop-e.invariant.0, c.requires)

pub loop-e-preserved : goal.loop-e-preserved
loop-e-preserved c =
    let es = c.args.second.now in
    let t : Entry → Bool = λ e. is_in c.args.ids (id_of e) in
    let l = c.loop-e in
    let i = c.args.front + l.e-index in
    let k = length es - c.args.front in
    let below : i < length es = omega (arith, length-take k (drop c.args.front es), length-drop c.args.front es, c.loop-e-test.true) in
    let step : c.args.front + (l.e-index + 1) ≡ i + 1 = omega arith in
    let e : Entry = get_or (take k (drop c.args.front es)) l.e-index nobody in
    let is : e ≡ get_or es i nobody = at_behind es c.args.front k l.e-index c.loop-e-test.true in (
      elim c.if-not-among.branch [
        | then-not-among w ↦ w.count-is ∙ T.place_more t es i _ below step e is c.args.first.now l.count l.own l.invariant.0 l.invariant.1 (sym c.among.ensures ∙ w.if-not-among.true)
        | else-not-among w ↦ w.count-is ∙ T.place_same t es i _ below step e is c.args.first.now l.count l.own l.invariant.0 l.invariant.1 (sym c.among.ensures ∙ w.if-not-among.false)
      ],
      λ few. elim c.if-not-among.branch [
        | then-not-among w ↦ elim w.if-count-lt16.branch [
          | then-count-lt16 v ↦ w.own-is ∙ v.own-is ∙ T.row_more t es i _ below step e is c.args.first.now l.count l.own l.invariant.0 l.invariant.1 (sym c.among.ensures ∙ w.if-not-among.true) v.if-count-lt16.true
          | else-count-lt16 v ↦ absurd (omega (arith, w.count-is, v.if-count-lt16.false, few))
        ]
        | else-not-among w ↦ w.own-is ∙ T.row_same t es i _ below step e is c.args.first.now l.count l.own l.invariant.0 l.invariant.1 (sym c.among.ensures ∙ w.if-not-among.false) (omega (arith, w.count-is, few))
      ],
    )
