use native.Mathlib.Omega.{arith}
use mathlib.Core.Path.{◌≡◌, ap, ◌∙◌}
use lib.ListN.{length}
use Rattle.frame.specs.declared.entry.Frame.{Frame}
use Rattle.frame.specs.Frames.{frame_words}
use Rattle.frame.specs.Sessions.{nobody}
use Rattle.writing.specs.Writes.{started}
use Rattle.writing.proofs.Sends.{left_length, left_end, all_le}
use Rattle.writing.proofs.send.all_words.Goals as goal

pub overflow_add-words : goal.overflow_add-words
overflow_add-words c = let z = c.args in
    omega (arith, left_length z.held z.n z.e.now z.own.now c.loop-own_write.own_write-index nobody c.loop-own_write-test.true, all_le z.held z.n z.own.now z.e.now c.requires.2)

pub loop-own_write-preserved : goal.loop-own_write-preserved
loop-own_write-preserved c = let z = c.args in
    omega (arith, left_length z.held z.n z.e.now z.own.now c.loop-own_write.own_write-index nobody c.loop-own_write-test.true)

pub overflow_add-result : goal.overflow_add-result
overflow_add-result c = let z = c.args in
    let l : c.words_of.result ≡ length (frame_words (started z.n z.e.now)) = c.words_of.ensures ∙ ap (λ (f : Frame). length (frame_words f)) c.started.ensures in
    omega (arith, ap length (left_end z.held z.n z.e.now z.own.now c.loop-own_write.own_write-index (omega arith)), all_le z.held z.n z.own.now z.e.now c.requires.2)

pub returns : goal.returns
returns c = let z = c.args in
    let l : c.words_of.result ≡ length (frame_words (started z.n z.e.now)) = c.words_of.ensures ∙ ap (λ (f : Frame). length (frame_words f)) c.started.ensures in
    omega (arith, ap length (left_end z.held z.n z.e.now z.own.now c.loop-own_write.own_write-index (omega arith)))
