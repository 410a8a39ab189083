use native.Mathlib.Omega.{arith}
use mathlib.Core.Path.{◌≡◌, sym, ap, ◌∙◌, subst}
use mathlib.Core.Bool.{true}
use lib.ListN.{length}
use lib.Seq.{sets}
use Rattle.causal.proofs.Lists.{sets_front}
use Rattle.frame.specs.declared.entry.Frame.{Frame}
use Rattle.frame.specs.Calls.{laid}
use Rattle.frame.specs.Frames.{frame_ok, frame_words}
use Rattle.frame.specs.Sessions.{nobody}
use Rattle.frame.proofs.Entries.{frame_facts}
use Rattle.writing.specs.Writes.{started, all_frames}
use Rattle.writing.proofs.Sends.{left_length, left_end, put_more}
use Rattle.writing.proofs.send.put_all.Goals as goal

pub put_turn-at-requires : goal.put_turn-at-requires
put_turn-at-requires c = let z = c.args in
    let l = c.loop-own_write in
    let k = left_length z.held z.n z.e.now z.own.now l.own_write-index nobody c.loop-own_write-test.true in
    (c.requires.0 l.own_write-index c.loop-own_write-test.true, omega (arith, l.invariant.0, c.requires.2))

pub loop-own_write-preserved : goal.loop-own_write-preserved
loop-own_write-preserved c = let z = c.args in
    let l = c.loop-own_write in
    let put = c.put_turn-at.ensures in
    let k = left_length z.held z.n z.e.now z.own.now l.own_write-index nobody c.loop-own_write-test.true in (
      omega (arith, l.invariant.0, put.0),
      put_more z.held z.n z.e.now z.own.now l.own_write-index nobody c.loop-own_write-test.true l.out _ l.at _ put.0 put.1 ∙ l.invariant.1,
    )

pub started-last-requires : goal.started-last-requires
started-last-requires c = (frame_facts c.args.n 64 (started c.args.n c.args.e.now) c.requires.1).low

pub put_frame-requires : goal.put_frame-requires
put_frame-requires c = let z = c.args in
    let l = c.loop-own_write in
    let g = c.started-last.ensures in
    let k = left_end z.held z.n z.e.now z.own.now l.own_write-index (omega arith) ∙ sym (ap frame_words g) in
    (subst (λ (x : Frame). frame_ok x.offices 64 x ≡ true) (sym g) c.requires.1, omega (arith, ap length k, l.invariant.0, c.requires.2))

pub returns : goal.returns
unfolding laid
returns c = let z = c.args in
    let l = c.loop-own_write in
    let put = c.put_frame.ensures in
    let k = left_end z.held z.n z.e.now z.own.now l.own_write-index (omega arith) ∙ sym (ap frame_words c.started-last.ensures) in (
      omega (arith, put.0, ap length k, l.invariant.0),
      put.1 ∙ ap (sets l.out l.at) (sym k) ∙ l.invariant.1 ∙ sets_front z.out.now (all_frames z.held z.n z.own.now z.e.now) c.requires.2,
    )
