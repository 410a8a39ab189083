use Prim.Native.Nat.{ℕ, ◌*◌, ◌+◌, ◌-◌}
use mathlib.Core.List.{List}
use mathlib.Core.Path.{◌∙◌, ◌≡◌, sym}
use native.Mathlib.Omega.{arith}
use Rattle.std.proofs.lemmas.Result.{err_from_is_err_and}
use lib.ListN.{drop, get_or, take}
use Rattle.causal.specs.Lists.{part}
use Rattle.office.specs.Calls.{receive}
use Rattle.player.proofs.Delivery as dl
use Rattle.player.proofs.Foretold as fo
use Rattle.player.proofs.Refusals.{accepted_code}
use Rattle.player.proofs.ahead.receive_ahead.Goals as goal

-- the forecast was of lent parts
told : (stores : List ℕ) (o : ℕ) (lines : List ℕ) (a len : ℕ) (row : List ℕ) → (receive (take (1747 * o + 1747 - 1747 * o) (drop (1747 * o) stores)) (take (a + len - a) (drop a lines)) row).code ≡ (receive (part stores (1747 * o) 1747) (part lines a len) row).code
told stores o lines a len row = λ i. (receive (dl.lent_part stores (1747 * o) 1747 i) (dl.lent_part lines a len i) row).code

pub returns-then-waiting-lt32 : goal.returns-then-waiting-lt32
returns-then-waiting-lt32 c = λ row long.
    let a = c.args.slot + 1 in
    let len = get_or c.args.lines.now c.args.slot 0 in
    fo.receive_room c.args.lines.now a len (omega (arith, c.requires.2)) _ row c.args.waiting c.if-waiting-lt32.true

pub returns-then-hops_at-eq0 : goal.returns-then-hops_at-eq0
returns-then-hops_at-eq0 c = λ row long.
    let a = c.args.slot + 1 in
    let len = get_or c.args.lines.now c.args.slot 0 in
    fo.receive_last c.args.lines.now a len (omega (arith, c.requires.2)) _ row c.args.waiting c.requires.4 (sym c.hops_at.ensures ∙ c.if-hops_at-eq0.true)

pub returns-in_err-receive_forecast : goal.returns-in_err-receive_forecast
returns-in_err-receive_forecast c = λ row long.
    let a = c.args.slot + 1 in
    let len = get_or c.args.lines.now c.args.slot 0 in
    let q = c.receive_forecast in
    let p = err_from_is_err_and c.from_residual.result c.from_residual.ensures.1 in
    rw (p.1, p.2) (fo.receive_told c.args.lines.now a len (omega (arith, c.requires.2)) _ row c.args.waiting q.result _ (q.ensures row long ∙ told c.args.stores.now c.args.office c.args.lines.now a len row) c.in_err-receive_forecast.was)

pub returns : goal.returns
returns c = λ row long.
    let a = c.args.slot + 1 in
    let len = get_or c.args.lines.now c.args.slot 0 in
    let q = c.receive_forecast in
    fo.receive_full c.args.lines.now a len (omega (arith, c.requires.2)) _ row c.args.waiting c.if-waiting-lt32.false (λ e. c.if-hops_at-eq0.false (c.hops_at.ensures ∙ e))
    (accepted_code q.result _ _ (q.ensures row long ∙ told c.args.stores.now c.args.office c.args.lines.now a len row) c.in_ok-receive_forecast.was)
