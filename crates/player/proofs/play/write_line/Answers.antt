use Rattle.player.proofs.play.write_line.Goals as goal

pub returns-in-Err : goal.returns-in-Err
returns-in-Err c = (
  (λ h. cc),
  λ ss g own T. let a = c.args in rw c.from.ensures (rw c.in-Err.is at (c.try_write.ensures.1 ss g own T)),
)
