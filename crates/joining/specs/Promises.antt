-- What a join of two sessions promises: the equations for the refusal number (0 for none) and for the session that is handed back, every slot of it.
-- What stands in the slots beyond the count of the two given changes nothing, and in those of the joined one there are blanks. The two come by
-- value: they stay as they are. Assumes nothing.
use Rattle.std.specs.Prelude.{ℕ, ◌≡◌}
use Rattle.frame.specs.Sessions.{content_of, session_of}
use Rattle.frame.specs.declared.session.Session.{Session}
use Rattle.joining.specs.Joins.{join_code, join_sessions}

abbrev pub JoinPromise : ℕ → ℕ → Session → Session → ℕ → Session → Type 0
JoinPromise n p a b code s =
    (code ≡ join_code n p (content_of a) (content_of b)) × (s ≡ session_of (join_sessions n p (content_of a) (content_of b)))
