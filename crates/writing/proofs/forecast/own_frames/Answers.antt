use Rattle.std.proofs.Common.{◌≡◌, count_by, not}
use mathlib.Core.Path.{sym, ◌∙◌}
use borrow.Author.Rules.{rules}
use Rattle.causal.specs.Sets.{is_in}
use Rattle.frame.specs.Entries.{id_of}
use Rattle.writing.proofs.Forecasts.{outside_is}
use Rattle.writing.proofs.forecast.own_frames.Goals as goal

pub returns : goal.returns
returns c = let k : c.count.result ≡ count_by (λ e. not (is_in c.args.held (id_of e))) c.args.own.now = search rules in
    k ∙ sym (outside_is c.args.held c.args.own.now)
