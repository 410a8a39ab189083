-- The join of two sessions. Paper 02, (iv), "One errand, two people". Assumes nothing.
use Rattle.std.specs.Prelude.{ℕ, zero, suc, Bool, true, List, [], ◌++◌, ◌∷◌, eqb, leb, length}
use Rattle.causal.specs.Clocks.{join}
use Rattle.causal.specs.Codes.{check}
use Rattle.causal.specs.Sets.{is_in, unite}
use Rattle.causal.specs.Tests.{both, implies}
use Rattle.frame.specs.Entries.{id_of, same_content}
use Rattle.frame.specs.Frames.{ring_ok}
use Rattle.frame.specs.Sessions.{Content, fresh_content, ids_of, leave_out, session_ok}
use Rattle.frame.specs.declared.entry.Entry.{Entry}

-- the entries of fs, in order, whose names no entry of es has: "not among them" is by name, and after refusal 11 so by entry
abbrev pub not_among : List Entry → List Entry → List Entry
not_among es fs = leave_out (λ (f : Entry). is_in (ids_of es) (id_of f)) fs

-- "the union of read names, the joined clock, the first errand's own entries, then those of the second not among them"
unfoldable pub joined : Content → Content → Content
joined a b =
    record {
      offices = a.offices;
      clock = join a.clock b.clock;
      read = unite a.read b.read;
      own = a.own ++ not_among a.own b.own;
    }

-- each entry of a list passes a test
unfoldable pub each : (Entry → Bool) → List Entry → Bool
each t [] = true
each t (e ∷ es) = both (t e) (each t es)

-- if they have one name, they have one content
unfoldable pub alike : Entry → Entry → Bool
alike e f = implies (eqb (id_of e) (id_of f)) (same_content e f)

-- no entry of es has the name of one of fs and other content
unfoldable pub all_alike : List Entry → List Entry → Bool
all_alike es fs = each (λ e. each (alike e) fs) es

-- "1 for settings, then 3 if either errand is unsound for them, then 11 if one name has two contents, then 7 if over 16 would be carried". Contents
-- are those of own entries: a read name has none, and within one errand that is sound no name stands twice
unfoldable pub join_code : ℕ → ℕ → Content → Content → ℕ
join_code n p a b =
    check (ring_ok n p) 1
    (check (both (session_ok n p a) (session_ok n p b)) 3
    (check (all_alike b.own a.own) 11 (check (leb (length (joined a b).own) 16) 7 0)))

-- the session that is handed back; on a refusal a fixed blank
unfoldable pub joined_if : ℕ → Content → Content → Content
joined_if zero a b = joined a b
joined_if (suc c) a b = fresh_content 0

-- what the call hands back
unfoldable pub join_sessions : ℕ → ℕ → Content → Content → Content
join_sessions n p a b = joined_if (join_code n p a b) a b
