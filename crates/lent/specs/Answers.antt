-- What the answer of a lent reading of one plot says: is an entry handed back, and which, a fixed blank where none is. Assumes nothing.
use Rattle.std.specs.Prelude.{Bool, is_some, None, Option, Result}
use Rattle.std.specs.Option.{unwrap_or}
use Rattle.std.specs.Result.{result_unwrap_or}
use Rattle.frame.specs.declared.entry.Entry.{Entry}
use Rattle.frame.specs.declared.refusal.Refusal.{Refusal}
use Rattle.frame.specs.Entries.{blank_entry}

abbrev pub found_by : Result (Option Entry) Refusal → Bool
found_by r = is_some (result_unwrap_or r None)

abbrev pub entry_by : Result (Option Entry) Refusal → Entry
entry_by r = unwrap_or (result_unwrap_or r None) blank_entry
