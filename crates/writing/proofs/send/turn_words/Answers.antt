use mathlib.Core.Path.{◌≡◌, ap, ◌∙◌}
use Rattle.frame.specs.declared.entry.Frame.{Frame}
use native.Mathlib.Omega.{arith}
use lib.ListN.{length}
use Rattle.frame.specs.Frames.{frame_words}
use Rattle.writing.proofs.Sends.{skipped, sent}
use Rattle.writing.proofs.send.turn_words.Goals as goal

pub returns-then-contains : goal.returns-then-contains
returns-then-contains c = ap length (skipped c.args.held c.args.n c.args.e.now _ _ c.id_of.ensures c.contains.ensures c.if-contains.true)

pub words_of-requires : goal.words_of-requires
words_of-requires c = let q : c.started.result.offices ≡ c.args.n = ap (λ (f : Frame). f.offices) c.started.ensures in
    omega (arith, c.requires.1)

pub returns : goal.returns
returns c = c.words_of.ensures ∙ ap length (ap frame_words c.started.ensures ∙ sent c.args.held c.args.n c.args.e.now _ _ c.id_of.ensures c.contains.ensures c.if-contains.false)
