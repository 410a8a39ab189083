use mathlib.Core.Path.{◌≡◌}
use lib.ListN.{drop}
use Rattle.store.specs.Offices.{office_of}
use Rattle.office.specs.Calls.{own_code}
use Rattle.office.proofs.entries.all_come_in.Given as goal

abbrev pub invariant-loop-e : goal.invariant-loop-e
invariant-loop-e l = own_code (office_of l.store) (drop l.e-index l.own) ≡ own_code (office_of l.store) l.own
