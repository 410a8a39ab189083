use Prim.Native.Nat.{◌+◌}
use mathlib.Core.Path.{◌∙◌, ◌≡◌, ap}
use lib.ListN.{get_or}
use Rattle.player.specs.Desks.{desk, pushed, with_frames}
use Rattle.player.proofs.play.deliver.Goals as goal

pub returns : goal.returns
returns c = λ n C.
    let m : c.count_frames-frames.result ≡ n = c.count_frames-frames.ensures n C in (
      (λ ss. c.with_frames.ensures ss ∙ ap (with_frames (desk ss c.args.board) c.args.next) m),
      c.push_frames.ensures ∙ ap (pushed c.args.lines.now c.args.next (get_or c.args.board.first c.args.next 0 + get_or c.args.board.count c.args.next 0) c.args.out.now) m,
    )
