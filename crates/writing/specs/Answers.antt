-- What the answers of a write say: how many words were written, or the refusal; the entry that was made, a fixed blank where none was; and the session
-- as it is left, on a refusal as it came. Assumes nothing.
use Rattle.std.specs.Prelude.{ℕ, Result, Ok, Err}
use Rattle.frame.specs.declared.entry.Entry.{Entry}
use Rattle.frame.specs.declared.refusal.Refusal.{Refusal}
use Rattle.frame.specs.declared.session.Session.{Session}
use Rattle.frame.specs.Entries.{blank_entry}
use Rattle.writing.specs.declared.write.Made.{Made}
use Rattle.writing.specs.declared.write.Wrote.{Wrote}

-- ---- where the entry is handed back

unfoldable pub words_by : Result Made Refusal → Result ℕ Refusal
words_by (Ok x) = Ok x.words
words_by (Err r) = Err r

unfoldable pub entry_by : Result Made Refusal → Entry
entry_by (Ok x) = x.entry
entry_by (Err r) = blank_entry

-- ---- where the session is

unfoldable pub wrote_by : Result Wrote Refusal → Result ℕ Refusal
wrote_by (Ok x) = Ok x.words
wrote_by (Err r) = Err r

unfoldable pub session_by : Session → Result Wrote Refusal → Session
session_by s (Ok x) = x.session
session_by s (Err r) = s
