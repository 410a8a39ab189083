use Rattle.std.proofs.Common.{ℕ, ◌+◌, length, ap, arith}
use Rattle.frame.specs.Frames.{frame_words}
use Rattle.frame.proofs.Turns.{put_lent, lent_room}
use Rattle.frame.proofs.writer.put_frame.Goals as goal

pub put-words-requires : goal.put-words-requires
put-words-requires c = (c.requires.0, lent_room c.args.out.now c.args.at (length (frame_words c.args.f.now)) c.requires.1)

pub overflow_add-result : goal.overflow_add-result
overflow_add-result c = omega (arith, c.put-words.ensures.0, c.requires.1)

pub returns : goal.returns
returns c = (ap (λ (x : ℕ). c.args.at + x) c.put-words.ensures.0, put_lent (frame_words c.args.f.now) c.args.out.now _ c.args.at c.requires.1 c.put-words.ensures.1)
