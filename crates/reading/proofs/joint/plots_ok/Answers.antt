use mathlib.Core.Path.{◌∙◌}
use lib.Dec.{ltb}
use lib.ListN.{length}
use borrow.Author.Tests.{le-leb, lt-leb}
use Rattle.std.proofs.Common.{rules, tests}
use Rattle.std.proofs.lemmas.Iterator.{YieldsList-from_slice}
use Rattle.std.proofs.lemmas.Iterator.Search.{all_from_yields_List}
use Rattle.causal.specs.Tests.{both}
use Rattle.reading.proofs.JointReads.{plots_all}
use Rattle.reading.proofs.joint.plots_ok.Goals as goal

pub returns-then-plots-le16 : goal.returns-then-plots-le16
unfolding both
returns-then-plots-le16 c = let qs = c.args.plots.now in
    let few = le-leb (length qs) 16 c.if-plots-le16.true in
    rw few
    (all_from_yields_List (λ q. ltb q c.args.p) _ _ c.all.result c.all.ensures.ran (YieldsList-from_slice qs cc) (λ x b q k. search (rules, tests))
    ∙ plots_all c.args.p qs)

pub returns-else-plots-le16 : goal.returns-else-plots-le16
unfolding both
returns-else-plots-le16 c = rw (lt-leb (length c.args.plots.now) 16 c.if-plots-le16.false)
