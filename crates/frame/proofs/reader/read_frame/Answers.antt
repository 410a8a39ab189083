use Rattle.std.proofs.Common.{sym, ap, ◌∙◌, ok_or}
use Rattle.frame.specs.Refusals.{code_of, number_of}
use Rattle.frame.specs.declared.refusal.Refusal.TheVariants.{Format}
use Rattle.frame.proofs.Reading.{no_ring, answered}
use Rattle.frame.proofs.reader.read_frame.Goals as goal

pub returns-then-not-ring_ok : goal.returns-then-not-ring_ok
unfolding code_of number_of
returns-then-not-ring_ok c = no_ring c.args.offices c.args.plots c.args.ws.now (sym c.if-not-ring_ok.ensures)

pub returns : goal.returns
returns c =
    answered c.args.offices c.args.plots c.args.ws.now (sym c.if-not-ring_ok.ensures) _
    (c.ok_or.ensures.value ∙ ap (λ o. ok_or o Format) c.frame_from.ensures)
