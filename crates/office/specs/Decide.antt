-- What the calls share as code goes through it: refusals 2 and 3, what a session notes of what is current. Assumes nothing.
use Rattle.std.specs.Prelude.{ℕ, List, get_or, None, Some}
use Rattle.causal.specs.Codes.{check}
use Rattle.causal.specs.Sets.{inserted}
use Rattle.causal.specs.Clocks.{join}
use Rattle.frame.specs.declared.entry.Entry.{Entry}
use Rattle.frame.specs.declared.session.Session.{Session}
use Rattle.frame.specs.Entries.{id_of}
use Rattle.frame.specs.Sessions.{Content, session_ok}
use Rattle.store.specs.Offices.{sound_store, Found}
use Rattle.office.specs.declared.note.Seen.{Seen}

-- ---- a session that carries nothing, whatever stands in its row of entries

abbrev pub alone : ℕ → List ℕ → List ℕ → List Entry → Session
alone n clock read own = record { offices = n; clock = clock; read = read; count = 0; own = own }

-- ---- refusals

unfoldable pub start_code : List ℕ → Content → ℕ
start_code ws s = check (sound_store ws) 2 (check (session_ok (get_or ws 0 0) (get_or ws 2 0) s) 3 0)

-- ---- the session

unfoldable pub noted_seen : Found → Seen → Seen
noted_seen None x = x
noted_seen (Some e) x = record { clock = join x.clock e.clock; read = inserted x.read (id_of e) }

unfoldable pub with_seen : Session → Seen → Session
with_seen s x = record { offices = s.offices; clock = x.clock; read = x.read; count = s.count; own = s.own }

abbrev pub seen_of : Session → Seen
seen_of s = record { clock = s.clock; read = s.read }
