-- The greatest number at each place among visible entries, as code joins them. Assumes nothing.
use Rattle.std.specs.Prelude.{ℕ, zero, suc, ◌+◌, ◌*◌, cond, List, ◌==◌}
use Rattle.causal.specs.Lists.{zeros}
use Rattle.causal.specs.Sets.{bit, is_in}
use Rattle.causal.specs.Clocks.{join}
use Rattle.store.specs.Offices.{entry_at}

-- of the visible ids below k
unfoldable pub tops_to : List ℕ → List ℕ → ℕ → List ℕ
tops_to ws visible zero = zeros
tops_to ws visible (suc k) = cond (is_in visible k) (join (tops_to ws visible k) (entry_at ws k).clock) (tops_to ws visible k)

-- of those that word i of a set has below bit b, w, and of a clock before
unfoldable pub tops_in : List ℕ → ℕ → ℕ → ℕ → List ℕ → List ℕ
tops_in ws i w zero before = before
tops_in ws i w (suc b) before = cond (bit w b == 1) (join (tops_in ws i w b before) (entry_at ws (32 * i + b)).clock) (tops_in ws i w b before)
