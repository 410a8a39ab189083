-- What the calls of this crate promise: for each, the equations for what it answers (the refusal number, 0 for none, or the reply, and what was
-- read) and for the lent row as it is left (row'). The `ensures` of the call cites it by name, and so do those of the exports. Assumes nothing.
use Rattle.std.specs.Prelude.{◌≡◌, ℕ, List, length}
use Rattle.frame.specs.Calls.{read_frame, read_frame_code, write_frame, write_frame_row}
use Rattle.frame.specs.Refusals.{Reply}
use Rattle.frame.specs.Sessions.{content_of, session_of}
use Rattle.frame.specs.TokenCalls.{read_token, read_token_code, write_token, write_token_row}
use Rattle.frame.specs.declared.entry.Frame.{Frame}
use Rattle.frame.specs.declared.session.Session.{Session}

abbrev pub ReadFramePromise : List ℕ → ℕ → ℕ → ℕ → Frame → Type 0
ReadFramePromise words n p code f = (code ≡ read_frame_code n p words) × (f ≡ read_frame n p words)

abbrev pub WriteFramePromise : Frame → List ℕ → Reply → List ℕ → Type 0
WriteFramePromise f row reply row' = (reply ≡ write_frame f (length row)) × (row' ≡ write_frame_row f row)

abbrev pub ReadTokenPromise : List ℕ → ℕ → ℕ → ℕ → Session → Type 0
ReadTokenPromise words n p code s = (code ≡ read_token_code n p words) × (s ≡ session_of (read_token n p words))

abbrev pub WriteTokenPromise : Session → List ℕ → Reply → List ℕ → Type 0
WriteTokenPromise s row reply row' = (reply ≡ write_token (content_of s) (length row)) × (row' ≡ write_token_row (content_of s) row)
