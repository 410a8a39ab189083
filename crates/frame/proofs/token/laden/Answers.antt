use Rattle.std.proofs.Common.{false, true, refl, sym, ap, ok_or}
use Rattle.frame.specs.declared.refusal.Refusal.TheVariants.{Format}
use Rattle.frame.proofs.TokenReads as R
use Rattle.frame.proofs.token.laden.Goals as goal

pub returns-then-not-owns_from : goal.returns-then-not-owns_from
returns-then-not-owns_from c = let z = c.args in
    ap (λ o. ok_or o Format) (R.laden_none z.count z.n z.p z.clock z.read z.ws.now (sym c.if-not-owns_from.ensures.0))

pub returns-then-not-owns_ok : goal.returns-then-not-owns_ok
returns-then-not-owns_ok c = let z = c.args in
    ap (λ o. ok_or o Format)
    (R.laden_some z.count z.n z.p z.clock z.read z.ws.now (sym c.if-not-owns_from.ensures.0) c.blank_entry-own.result c.blank_entry-own.ensures c.owns_from.new.own
    (c.if-not-owns_from.ensures.1 refl) false c.if-not-owns_ok.ensures)

pub returns : goal.returns
returns c = let z = c.args in
    ap (λ o. ok_or o Format)
    (R.laden_some z.count z.n z.p z.clock z.read z.ws.now (sym c.if-not-owns_from.ensures.0) c.blank_entry-own.result c.blank_entry-own.ensures c.owns_from.new.own
    (c.if-not-owns_from.ensures.1 refl) true c.if-not-owns_ok.ensures)
