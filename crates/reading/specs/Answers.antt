-- What the answers of a reading of one plot say: is an entry handed back, and which, a fixed blank where none is; and the session as it is left, on a
-- refusal as it came. Assumes nothing.
use Rattle.std.specs.Prelude.{Bool, is_some, None, Option, Result, Ok, Err}
use Rattle.std.specs.Option.{unwrap_or}
use Rattle.frame.specs.declared.entry.Entry.{Entry}
use Rattle.frame.specs.declared.refusal.Refusal.{Refusal}
use Rattle.frame.specs.declared.session.Session.{Session}
use Rattle.frame.specs.Entries.{blank_entry}
use Rattle.office.specs.Decide.{with_seen}
use Rattle.reading.specs.declared.read.PlotRead.{PlotRead}
use Rattle.reading.specs.declared.read.PlotSeen.{PlotSeen}

unfoldable pub handed_by : {A : Type 0} → (A → Option Entry) → Result A Refusal → Option Entry
handed_by f (Ok x) = f x
handed_by f (Err r) = None

-- ---- where the session is handed back

abbrev pub found_by : Result PlotRead Refusal → Bool
found_by r = is_some (handed_by (λ (x : PlotRead). x.entry) r)

abbrev pub entry_by : Result PlotRead Refusal → Entry
entry_by r = unwrap_or (handed_by (λ (x : PlotRead). x.entry) r) blank_entry

unfoldable pub session_by : Session → Result PlotRead Refusal → Session
session_by s (Ok x) = x.session
session_by s (Err r) = s

-- ---- where what the session has seen is

abbrev pub seen_found : Result PlotSeen Refusal → Bool
seen_found r = is_some (handed_by (λ (x : PlotSeen). x.entry) r)

abbrev pub seen_entry : Result PlotSeen Refusal → Entry
seen_entry r = unwrap_or (handed_by (λ (x : PlotSeen). x.entry) r) blank_entry

unfoldable pub seen_session : Session → Result PlotSeen Refusal → Session
seen_session s (Ok x) = with_seen s x.seen
seen_session s (Err r) = s
