use Prim.Native.Nat.{◌<◌}
use mathlib.Core.Bool.{true}
use mathlib.Core.Path.{◌∙◌, ◌≡◌}
use native.Mathlib.Omega.{arith}
use Rattle.std.proofs.lemmas.Result.{err_from_is_err_and}
use Rattle.ring.specs.Run.{next_of}
use Rattle.player.specs.Desks.{desk, place_at}
use Rattle.player.proofs.LineWrite as lw
use Rattle.player.proofs.Scenes.{next_low}
use Rattle.player.proofs.play.try_write.Goals as goal

pub offset_bounds-board-next : goal.offset_bounds-board-next
offset_bounds-board-next c = let a = c.args in
    let ol : place_at (desk c.requires.2.0 a.board) a.i < 3 = c.requires.2.2.1.placed a.i c.requires.0 in
    omega (arith, next_low _ ol, c.next_of-next.ensures)

pub bounds-board-next : goal.bounds-board-next
bounds-board-next c = let a = c.args in
    let ol : place_at (desk c.requires.2.0 a.board) a.i < 3 = c.requires.2.2.1.placed a.i c.requires.0 in
    omega (arith, next_low _ ol, c.next_of-next.ensures)

pub returns-in_err-write_ahead : goal.returns-in_err-write_ahead
returns-in_err-write_ahead c = let a = c.args in
    let q = c.write_ahead in
    let p = err_from_is_err_and c.from_residual.result c.from_residual.ensures.1 in
    rw (p.1, p.2) (
      (λ h. cc),
      λ ss g own T.
          let d = desk ss a.board in
          lw.stays _ g _ ss a.i a.s.now a.board _ _ _ own
          (lw.ahead_stays g d a.stores.now a.lines.now T a.i c.requires.0 a.s.now own a.plot a.value a.out.now _ c.next_of-next.ensures q.result (q.ensures a.out.now c.requires.1) _ c.in_err-write_ahead.was),
    )

pub returns-in_err-words : goal.returns-in_err-words
returns-in_err-words c = let a = c.args in
    let q = c.write_at in
    let p = err_from_is_err_and c.from_residual-in_err-words.result c.from_residual-in_err-words.ensures.1 in
    rw (p.1, p.2) (
      (λ h. cc),
      λ ss g own T.
          let d = desk ss a.board in
          lw.stays _ g _ ss a.i a.s.now a.board _ _ _ own
          (lw.line_refused g d a.stores.now a.lines.now T a.i c.requires.0 a.s.now own a.plot a.value a.out.now _ c.next_of-next.ensures q.new.stores q.new.out q.ensures.1 _ _
          (lw.made_refused (lw.Promised g d a.stores.now a.lines.now T a.i c.requires.0 a.s.now own a.plot a.value a.out.now _ c.next_of-next.ensures q.new.stores q.new.out q.ensures.1) q.result _ c.in_err-words.was q.ensures.0)),
    )

pub deliver-requires : goal.deliver-requires
deliver-requires c = let a = c.args in
    let S = c.requires.2.2.1 in
    let d = desk c.requires.2.0 a.board in
    let o = place_at d a.i in
    let ol : o < 3 = S.placed a.i c.requires.0 in
    let e : c.next_of-next.result ≡ next_of 3 o = c.next_of-next.ensures in
    let N = S.line (next_of 3 o) (next_low o ol) in
    let h = c.write_ahead in
    let q = c.write_at in
    let m = c.in_ok-words.field-0 in
    let A = lw.made_done (lw.Promised c.requires.2.2.0 d a.stores.now a.lines.now S a.i c.requires.0 a.s.now c.requires.2.1 a.plot a.value a.out.now _ c.next_of-next.ensures q.new.stores q.new.out q.ensures.1) q.result m c.in_ok-words.was q.ensures.0 in (
      omega (arith, next_low o ol),
      rw e N.start,
      S.long_lines,
      q.auto.out ∙ c.requires.1,
      omega (arith, lw.small c.requires.2.2.0 d a.stores.now a.lines.now S a.i c.requires.0 a.s.now c.requires.2.1 a.plot a.value a.out.now _ c.next_of-next.ensures q.new.stores q.new.out q.ensures.1 m.words m.entry A, c.requires.1),
      (
        _,
        lw.cut c.requires.2.2.0 d a.stores.now a.lines.now S a.i c.requires.0 a.s.now c.requires.2.1 a.plot a.value a.out.now _ c.next_of-next.ensures q.new.stores q.new.out q.ensures.1 m.words m.entry A,
        lw.ahead_goes c.requires.2.2.0 d a.stores.now a.lines.now S a.i c.requires.0 a.s.now c.requires.2.1 a.plot a.value a.out.now _ c.next_of-next.ensures h.result (h.ensures a.out.now c.requires.1) _ c.in_ok-write_ahead.was (lw.code c.requires.2.2.0 d a.stores.now a.lines.now S a.i c.requires.0 a.s.now c.requires.2.1 a.plot a.value a.out.now _ c.next_of-next.ensures q.new.stores q.new.out q.ensures.1 m.words m.entry A),
      ),
    )

pub returns : goal.returns
returns c = let a = c.args in
    let h = c.write_ahead in
    let q = c.write_at in
    let m = c.in_ok-words.field-0 in (
      (λ (_ : true ≡ true).
          let d = desk c.requires.2.0 a.board in
          lw.few c.requires.2.2.0 d a.stores.now a.lines.now c.requires.2.2.1 a.i c.requires.0 a.s.now c.requires.2.1 a.plot a.value a.out.now _ c.next_of-next.ensures q.new.stores q.new.out q.ensures.1 m.words m.entry
          (lw.made_done (lw.Promised c.requires.2.2.0 d a.stores.now a.lines.now c.requires.2.2.1 a.i c.requires.0 a.s.now c.requires.2.1 a.plot a.value a.out.now _ c.next_of-next.ensures q.new.stores q.new.out q.ensures.1) q.result m c.in_ok-words.was q.ensures.0)),
      λ ss g own T.
          let d = desk ss a.board in
          let A = lw.made_done (lw.Promised g d a.stores.now a.lines.now T a.i c.requires.0 a.s.now own a.plot a.value a.out.now _ c.next_of-next.ensures q.new.stores q.new.out q.ensures.1) q.result m c.in_ok-words.was q.ensures.0 in
          let D = c.deliver.ensures _ (lw.cut g d a.stores.now a.lines.now T a.i c.requires.0 a.s.now own a.plot a.value a.out.now _ c.next_of-next.ensures q.new.stores q.new.out q.ensures.1 m.words m.entry A) in
          lw.line_done g d a.stores.now a.lines.now T a.i c.requires.0 a.s.now own a.plot a.value a.out.now _ c.next_of-next.ensures q.new.stores q.new.out q.ensures.1 m.words m.entry A
          (lw.ahead_goes g d a.stores.now a.lines.now T a.i c.requires.0 a.s.now own a.plot a.value a.out.now _ c.next_of-next.ensures h.result (h.ensures a.out.now c.requires.1) _ c.in_ok-write_ahead.was
          (lw.code g d a.stores.now a.lines.now T a.i c.requires.0 a.s.now own a.plot a.value a.out.now _ c.next_of-next.ensures q.new.stores q.new.out q.ensures.1 m.words m.entry A))
          (desk ss c.deliver.result) _ (D.0 ss) D.1,
    )
