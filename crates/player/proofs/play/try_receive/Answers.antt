use mathlib.Core.Path.{◌∙◌, ◌≡◌, ap, refl}
use native.Mathlib.Omega.{arith}
use Rattle.std.proofs.lemmas.Result.{err_from_is_err_and}
use Rattle.ring.specs.Run.{next_of}
use Rattle.player.specs.Desks.{Desk, count_at, desk, first_at, without_oldest}
use Rattle.player.proofs.LineReceive as lr
use Rattle.player.proofs.PlayReceive as pr
use Rattle.player.proofs.Scenes.{next_low}
use Rattle.player.proofs.play.try_receive.Goals as goal

pub offset_bounds-board-next : goal.offset_bounds-board-next
offset_bounds-board-next c = omega (arith, next_low c.args.office c.requires.0, c.next_of-next.ensures)

pub bounds-board-next : goal.bounds-board-next
bounds-board-next c = omega (arith, next_low c.args.office c.requires.0, c.next_of-next.ensures)

pub receive_ahead-requires : goal.receive_ahead-requires
receive_ahead-requires c = let a = c.args in
    let S = c.requires.3.1.1 in
    let d = desk c.requires.3.0 a.board in
    let Q = S.line a.office c.requires.0 in
    let some : count_at d a.office ≡ 0 → ⊥ = λ z. omega (arith, c.requires.2, z) in
    let O = pr.oldest a.lines.now a.office (first_at d a.office) (count_at d a.office) _ S.long_lines c.requires.0 some Q in
    let e : c.next_of-next.result ≡ next_of 3 a.office = c.next_of-next.ensures in
    let N = S.line (next_of 3 a.office) (next_low a.office c.requires.0) in
    (c.requires.0, S.long_stores, omega (arith, Q.start, S.long_lines), O.short, rw e N.few)

pub receive_at-requires : goal.receive_at-requires
receive_at-requires c = let a = c.args in
    let S = c.requires.3.1.1 in
    let d = desk c.requires.3.0 a.board in
    let Q = S.line a.office c.requires.0 in
    let some : count_at d a.office ≡ 0 → ⊥ = λ z. omega (arith, c.requires.2, z) in
    let O = pr.oldest a.lines.now a.office (first_at d a.office) (count_at d a.office) _ S.long_lines c.requires.0 some Q in
    (c.requires.0, S.long_stores, omega (arith, Q.start, S.long_lines), O.short)

pub returns-in_err-receive_ahead : goal.returns-in_err-receive_ahead
returns-in_err-receive_ahead c = let p = err_from_is_err_and c.from_residual.result c.from_residual.ensures.1 in
    rw (p.1, p.2) (λ ss g T.
    let a = c.args in
    let q = c.receive_ahead in
    let d = desk ss a.board in
    let some : count_at d a.office ≡ 0 → ⊥ = λ z. omega (arith, c.requires.2, z) in
    let O = pr.oldest a.lines.now a.office (first_at d a.office) (count_at d a.office) _ T.long_lines c.requires.0 some (T.line a.office c.requires.0) in
    lr.ahead_stays g d a.stores.now a.lines.now T a.office c.requires.0 a.out.now _ O.rest O.are _ c.next_of-next.ensures q.result (q.ensures a.out.now c.requires.1) _ c.in_err-receive_ahead.was)

pub returns-in_err-words : goal.returns-in_err-words
returns-in_err-words c = let p = err_from_is_err_and c.from_residual-in_err-words.result c.from_residual-in_err-words.ensures.1 in
    rw (p.1, p.2) (λ ss g T.
    let a = c.args in
    let q = c.receive_at in
    let d = desk ss a.board in
    let some : count_at d a.office ≡ 0 → ⊥ = λ z. omega (arith, c.requires.2, z) in
    let O = pr.oldest a.lines.now a.office (first_at d a.office) (count_at d a.office) _ T.long_lines c.requires.0 some (T.line a.office c.requires.0) in
    lr.line_refused g d a.stores.now a.lines.now T a.office c.requires.0 a.out.now _ O.rest O.are _ c.next_of-next.ensures q.result q.new.stores q.new.out q.ensures.0 q.ensures.1 _ c.in_err-words.was)

pub deliver-after-requires : goal.deliver-after-requires
deliver-after-requires c = let a = c.args in
    let g = c.requires.3.1.0 in
    let S = c.requires.3.1.1 in
    let d = desk c.requires.3.0 a.board in
    let Q = S.line a.office c.requires.0 in
    let some : count_at d a.office ≡ 0 → ⊥ = λ z. omega (arith, c.requires.2, z) in
    let O = pr.oldest a.lines.now a.office (first_at d a.office) (count_at d a.office) _ S.long_lines c.requires.0 some Q in
    let e : c.next_of-next.result ≡ next_of 3 a.office = c.next_of-next.ensures in
    let N = S.line (next_of 3 a.office) (next_low a.office c.requires.0) in
    let h = c.receive_ahead in
    let q = c.receive_at in (
      omega (arith, next_low a.office c.requires.0),
      rw e N.start,
      S.long_lines,
      q.auto.out ∙ c.requires.1,
      omega (arith, lr.small g d a.stores.now a.lines.now S a.office c.requires.0 a.out.now _ O.rest O.are _ c.next_of-next.ensures q.result q.new.stores q.new.out q.ensures.0 q.ensures.1 _ c.in_ok-words.was, c.requires.1),
      (
        _,
        lr.cut g d a.stores.now a.lines.now S a.office c.requires.0 a.out.now _ O.rest O.are _ c.next_of-next.ensures q.result q.new.stores q.new.out q.ensures.0 q.ensures.1 _ c.in_ok-words.was,
        lr.ahead_goes g d a.stores.now a.lines.now S a.office c.requires.0 a.out.now _ O.rest O.are _ c.next_of-next.ensures h.result (h.ensures a.out.now c.requires.1) _ c.in_ok-receive_ahead.was (lr.code g d a.stores.now a.lines.now S a.office c.requires.0 a.out.now _ O.rest O.are _ c.next_of-next.ensures q.result q.new.stores q.new.out q.ensures.0 q.ensures.1 _ c.in_ok-words.was),
      ),
    )

pub without_oldest-requires : goal.without_oldest-requires
without_oldest-requires c = let a = c.args in
    let g = c.requires.3.1.0 in
    let S = c.requires.3.1.1 in
    let d = desk c.requires.3.0 a.board in
    let Q = S.line a.office c.requires.0 in
    let some : count_at d a.office ≡ 0 → ⊥ = λ z. omega (arith, c.requires.2, z) in
    let O = pr.oldest a.lines.now a.office (first_at d a.office) (count_at d a.office) _ S.long_lines c.requires.0 some Q in
    let q = c.receive_at in
    let t = lr.still d (desk c.requires.3.0 c.deliver-after.result) a.office _ _ c.requires.0 c.next_of-next.ensures ((c.deliver-after.ensures _ (lr.cut g d a.stores.now a.lines.now S a.office c.requires.0 a.out.now _ O.rest O.are _ c.next_of-next.ensures q.result q.new.stores q.new.out q.ensures.0 q.ensures.1 _ c.in_ok-words.was)).0 c.requires.3.0) in
    (c.requires.0, omega (arith, t.0, Q.start), omega (arith, t.1, c.requires.2))

pub returns : goal.returns
returns c = λ ss g T.
    let a = c.args in
    let d = desk ss a.board in
    let some : count_at d a.office ≡ 0 → ⊥ = λ z. omega (arith, c.requires.2, z) in
    let O = pr.oldest a.lines.now a.office (first_at d a.office) (count_at d a.office) _ T.long_lines c.requires.0 some (T.line a.office c.requires.0) in
    let h = c.receive_ahead in
    let q = c.receive_at in
    let D = c.deliver-after.ensures _ (lr.cut g d a.stores.now a.lines.now T a.office c.requires.0 a.out.now _ O.rest O.are _ c.next_of-next.ensures q.result q.new.stores q.new.out q.ensures.0 q.ensures.1 _ c.in_ok-words.was) in
    lr.line_done g d a.stores.now a.lines.now T a.office c.requires.0 a.out.now _ O.rest O.are _ c.next_of-next.ensures q.result q.new.stores q.new.out q.ensures.0 q.ensures.1 _ c.in_ok-words.was
    (lr.ahead_goes g d a.stores.now a.lines.now T a.office c.requires.0 a.out.now _ O.rest O.are _ c.next_of-next.ensures h.result (h.ensures a.out.now c.requires.1) _ c.in_ok-receive_ahead.was
    (lr.code g d a.stores.now a.lines.now T a.office c.requires.0 a.out.now _ O.rest O.are _ c.next_of-next.ensures q.result q.new.stores q.new.out q.ensures.0 q.ensures.1 _ c.in_ok-words.was))
    (desk ss c.without_oldest.result) _ _ (c.without_oldest.ensures ss ∙ ap (λ (x : Desk). without_oldest x a.office) (D.0 ss)) D.1 refl
