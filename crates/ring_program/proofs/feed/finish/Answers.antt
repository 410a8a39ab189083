use mathlib.Core.Path.{◌∙◌, ap, sym}
use Rattle.ring_program.specs.declared.feed.Stage.{Stage}
use Rattle.ring_program.specs.Fed.{desk_of}
use Rattle.ring_program.proofs.Feeding as fd
use Rattle.ring_program.proofs.feed.finish.Goals as goal

pub returns-then-is_empty : goal.returns-then-is_empty
returns-then-is_empty c = (c.requires.4, λ g l S e. fd.nothing_finishes g l _ c.args.stage.now _ _ S e (sym c.is_empty.ensures ∙ c.if-is_empty.true))

pub returns : goal.returns
returns c = let q = c.feed_some in
    let w = c.write_out in (
      ap (λ (x : Stage). x.wrote) w.ensures,
      λ g l S e.
          fd.last_finishes g l _ _ q.new.stage w.new.stage _ _ _ c.args.stage.now.pending q.result e (sym c.is_empty.ensures ∙ c.if-is_empty.false) c.requires.2 q.ensures.0 q.ensures.1 (q.ensures.4 g l S e) (ap desk_of w.ensures) (ap (λ (x : Stage). x.pending) w.ensures),
    )
