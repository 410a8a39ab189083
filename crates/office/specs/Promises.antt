-- What the calls of an office promise: for each, the equations for what it answers (the refusal number, 0 for none, or the reply, and what was
-- found), for the session that it hands back (s') and for each lent row as it is left (ws', row'). The `ensures` of the call cites it by name,
-- and so do those of the lent calls, the exports and the player; a step of a run is one that keeps it (ring/specs/Claim.antt), but for need and
-- settings, which change nothing. A row lent as `&[u32]` is only read: by its type it is left as it came. Assumes nothing.
use Rattle.std.specs.Prelude.{ℕ, Bool, List, ◌≡◌, Result}
use Rattle.frame.specs.declared.refusal.Refusal.{Refusal}
use Rattle.frame.specs.Refusals.{Reply, reply_of}
use Rattle.frame.specs.Sessions.{content_of, session_of}
use Rattle.frame.specs.declared.entry.Entry.{Entry}
use Rattle.frame.specs.declared.refusal.Refusal.{Refusal}
use Rattle.frame.specs.declared.session.Session.{Session}
use Rattle.store.specs.Offices.{office_of}
use Rattle.office.specs.Answers.{any_found, entry_found, fresh_by, made_by, read_joint_session, read_plot_session, with_made, write_session}
use Rattle.office.specs.Calls.{fresh_code, new_entry, open_office, read_joint, read_plot, receive, store_need, store_settings, write}

abbrev pub NeedPromise : ℕ → ℕ → ℕ → Reply → Type 0
NeedPromise n o p reply = reply ≡ record { code = (store_need n o p).0; words = (store_need n o p).1 }

abbrev pub OpenPromise : ℕ → ℕ → ℕ → List ℕ → ℕ → List ℕ → Type 0
OpenPromise n o p ws code ws' = (code ≡ (open_office n o p ws).0) × (ws' ≡ (open_office n o p ws).1)

abbrev pub SettingsPromise : List ℕ → ℕ → ℕ → ℕ → ℕ → Type 0
SettingsPromise ws code n o p =
    (code ≡ (store_settings ws).code) × (n ≡ (store_settings ws).offices) × (o ≡ (store_settings ws).own) × (p ≡ (store_settings ws).plots)

abbrev pub FreshPromise : ℕ → ℕ → Session → Type 0
FreshPromise n code s = (code ≡ fresh_code n) × (s ≡ session_of (fresh_by (fresh_code n) n))

abbrev pub ReadPromise : List ℕ → Session → ℕ → ℕ → Bool → Entry → Session → List ℕ → Type 0
ReadPromise ws s plot code found entry s' ws' =
    (code ≡ (read_plot ws (content_of s) plot).code)
    × (found ≡ any_found (read_plot ws (content_of s) plot).found)
    × (entry ≡ entry_found (read_plot ws (content_of s) plot).found)
    × (s' ≡ read_plot_session ws s plot)
    × (ws' ≡ (read_plot ws (content_of s) plot).store)

abbrev pub JointPromise : List ℕ → Session → List ℕ → List ℕ → ℕ → Session → List ℕ → List ℕ → Type 0
JointPromise ws s plots row code s' ws' row' =
    (code ≡ (read_joint ws (content_of s) plots row).code)
    × (s' ≡ read_joint_session ws s plots row)
    × (ws' ≡ (read_joint ws (content_of s) plots row).store)
    × (row' ≡ (read_joint ws (content_of s) plots row).row)

abbrev pub WritePromise : List ℕ → Session → ℕ → ℕ → List ℕ → Reply → Session → List ℕ → List ℕ → Type 0
WritePromise ws s plot value row reply s' ws' row' =
    (reply ≡ record { code = (write ws (content_of s) plot value row).code; words = (write ws (content_of s) plot value row).count })
    × (s' ≡ write_session ws s plot value row)
    × (ws' ≡ (write ws (content_of s) plot value row).store)
    × (row' ≡ (write ws (content_of s) plot value row).row)

-- the same, where the entry that was made is handed back in place of the session
abbrev pub MakePromise : List ℕ → Session → ℕ → ℕ → List ℕ → Result ℕ Refusal → Entry → List ℕ → List ℕ → Type 0
MakePromise ws s plot value row written entry ws' row' =
    WritePromise ws s plot value row (reply_of written) (with_made s written entry) ws' row'
    × (entry ≡ made_by (write ws (content_of s) plot value row).code (new_entry (office_of ws) (content_of s) plot value))

abbrev pub ReceivePromise : List ℕ → List ℕ → List ℕ → Reply → List ℕ → List ℕ → Type 0
ReceivePromise ws frame row reply ws' row' =
    (reply ≡ record { code = (receive ws frame row).code; words = (receive ws frame row).count })
    × (ws' ≡ (receive ws frame row).store)
    × (row' ≡ (receive ws frame row).row)
