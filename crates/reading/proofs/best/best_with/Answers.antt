use mathlib.Core.Path.{◌∙◌, ap}
use Rattle.store.specs.Offices.{Found, best_own}
use Rattle.reading.proofs.best.best_with.Goals as goal

pub returns : goal.returns
returns c = c.best_own.ensures ∙ ap (λ (f : Found). best_own c.args.plot f c.args.own.now) c.entry_in.ensures
