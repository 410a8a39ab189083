-- What the calls of an office answer, and the sessions they leave, as the code has them: a session is a struct whose content is `content_of`
-- (proofs/Answers.antt: the content of each session left is the one that Calls says). Assumes nothing.
use Rattle.std.specs.Prelude.{ℕ, zero, suc, ◌+◌, Bool, true, false, List, [], ◌∷◌, set, Err, None, Ok, Result, Some}
use Rattle.causal.specs.Sets.{inserted}
use Rattle.causal.specs.Clocks.{join}
use Rattle.frame.specs.declared.refusal.Refusal.{Refusal}
use Rattle.frame.specs.declared.entry.Entry.{Entry}
use Rattle.frame.specs.declared.refusal.Refusal.{Refusal}
use Rattle.frame.specs.declared.session.Session.{Session}
use Rattle.frame.specs.Entries.{id_of, blank_entry}
use Rattle.frame.specs.Sessions.{Content, content_of, fresh_content}
use Rattle.store.specs.Offices.{Office, office_of, reveal, current, Found}
use Rattle.office.specs.declared.settings.Settings.{Settings}
use Rattle.office.specs.Calls.{new_entry, read_plot, read_joint, write}

-- is an entry handed back, and which: a fixed blank where none is
unfoldable pub any_found : List Found → Bool
any_found [] = false
any_found (None ∷ fs) = false
any_found (Some e ∷ fs) = true

unfoldable pub entry_found : List Found → Entry
entry_found [] = blank_entry
entry_found (None ∷ fs) = blank_entry
entry_found (Some e ∷ fs) = e

-- the session t where there is no refusal, else s as it came
unfoldable pub session_if : ℕ → Session → Session → Session
session_if zero s t = t
session_if (suc c) s t = s

-- "add the presented entry's name to the read names and join its clock into the errand's"
unfoldable pub noted_in : Found → Session → Session
noted_in None s = s
noted_in (Some e) s =
    record { offices = s.offices; clock = join s.clock e.clock; read = inserted s.read (id_of e); count = s.count; own = s.own }

unfoldable pub noted_all_in : Office → List ℕ → Session → Session
noted_all_in O [] s = s
noted_all_in O (q ∷ qs) s = noted_all_in O qs (noted_in (current O q) s)

-- "It joins the errand's own entries and clock"
unfoldable pub extended_by : Session → Entry → Session
extended_by s e =
    record { offices = s.offices; clock = join s.clock e.clock; read = s.read; count = s.count + 1; own = set s.own s.count e }

-- the entry that a write made; on a refusal a fixed blank
unfoldable pub made_by : ℕ → Entry → Entry
made_by zero e = e
made_by (suc c) e = blank_entry

-- the session that a write leaves, by what it answers and the entry that it made
unfoldable pub with_made : Session → Result ℕ Refusal → Entry → Session
with_made s (Ok n) e = extended_by s e
with_made s (Err r) e = s

-- what stands where a store is refused
abbrev pub no_settings : Settings
no_settings = record { offices = 0; own = 0; plots = 0 }

-- ---- the sessions that the calls leave

unfoldable pub read_plot_session : List ℕ → Session → ℕ → Session
read_plot_session ws s plot =
    session_if (read_plot ws (content_of s) plot).code s (noted_in (current (reveal (office_of ws) s.read) plot) s)

unfoldable pub read_joint_session : List ℕ → Session → List ℕ → List ℕ → Session
read_joint_session ws s plots row =
    session_if (read_joint ws (content_of s) plots row).code s (noted_all_in (reveal (office_of ws) s.read) plots s)

unfoldable pub write_session : List ℕ → Session → ℕ → ℕ → List ℕ → Session
write_session ws s plot value row =
    session_if (write ws (content_of s) plot value row).code s (extended_by s (new_entry (office_of ws) (content_of s) plot value))

-- a fresh session of so many offices; on a refusal a fixed blank
unfoldable pub fresh_by : ℕ → ℕ → Content
fresh_by zero n = fresh_content n
fresh_by (suc c) n = fresh_content 0
