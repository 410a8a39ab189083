use Rattle.std.proofs.Common.{length, refl, sym, ap, ◌∙◌, add-zero, arith}
use lib.Seq.{sets}
use Rattle.frame.specs.Frames.{frame_ok, frame_words}
use Rattle.frame.specs.Tokens.{rows_of}
use Rattle.frame.specs.declared.entry.Frame.{Frame}
use Rattle.frame.proofs.TokenTurns as T
use Rattle.frame.proofs.token.put_owns.Goals as goal

pub loop-e-init : goal.loop-e-init
unfolding rows_of
loop-e-init c = (sym (add-zero c.args.at), refl)

pub put_frame-to-requires : goal.put_frame-to-requires
put_frame-to-requires c = let z = c.args in let l = c.loop-e in
    let e = c.own_frame.ensures in (
      ap (λ (f : Frame). frame_ok f.offices 64 f) e ∙ c.requires.0 l.e-index (omega arith),
      omega (arith, l.invariant.0, T.rows_room z.n z.own.now l.e-index (omega arith), c.requires.1, ap (λ (f : Frame). length (frame_words f)) e),
    )

pub loop-e-preserved : goal.loop-e-preserved
loop-e-preserved c = let z = c.args in let l = c.loop-e in
    let e = c.own_frame.ensures in (
      omega (arith, c.put_frame-to.ensures.0, ap (λ (f : Frame). length (frame_words f)) e, l.invariant.0, T.rows_length z.n z.own.now l.e-index (omega arith)),
      c.put_frame-to.ensures.1 ∙ ap (λ (f : Frame). sets l.out l.to (frame_words f)) e
          ∙ T.rows_turn z.n z.own.now l.e-index (omega arith) z.out.now l.out z.at l.to l.invariant.0 l.invariant.1,
    )
