-- LAWS OF THE JOIN, paper 02, (iv); proved in proofs/Laws.antt. They are of the contents of any two sessions that a program can have: of such a
-- content, if it is sound, its rows are sane (`Sane`; a session with a count over 16 is not sound). What later calls make of a join:
-- ring/specs/Carrying.antt. Assumes nothing.
use Rattle.std.specs.Prelude.{ℕ, true, ◌⊎◌, ◌≡◌}
use mathlib.Core.List.{Memᴰ}
use Rattle.causal.specs.Clocks.{Covers}
use Rattle.causal.specs.Sets.{has}
use Rattle.frame.specs.Frames.{ring_ok}
use Rattle.frame.specs.Sessions.{Content, SaneContent, session_ok}
use Rattle.frame.specs.declared.entry.Entry.{Entry}
use Rattle.joining.specs.Joins.{join_code, joined}
use Rattle.joining.specs.Orders.{GoneOn, Reordered}

abbrev pub Sane : ℕ → ℕ → Content → Type 0
Sane n p a = session_ok n p a ≡ true → SaneContent a

-- of a join that is not refused
pub record JoinedLaws (a b : Content) : Type 0 where
  -- the joined session is one that a program can have, and sound for whatever settings both are: so for those of the join
  pub sane : SaneContent (joined a b)
  pub sound : (m q : ℕ) → ring_ok m q ≡ true → session_ok m q a ≡ true → session_ok m q b ≡ true → session_ok m q (joined a b) ≡ true
  -- it goes on from the first: it knows and carries what the first does, in its order
  pub first : GoneOn a (joined a b)
  -- it knows and carries what the second does, and nothing that neither does. "Read names and own entries may overlap": nothing is asked of a name
  -- that the one has read and the other wrote
  pub clock_second : Covers (joined a b).clock b.clock
  pub reads_second : (k : ℕ) → has b.read k ≡ 1 → has (joined a b).read k ≡ 1
  pub reads : (k : ℕ) → has (joined a b).read k ≡ 1 → (has a.read k ≡ 1) ⊎ (has b.read k ≡ 1)
  pub carries_second : (e : Entry) → Memᴰ e b.own → Memᴰ e (joined a b).own
  pub carries : (e : Entry) → Memᴰ e (joined a b).own → Memᴰ e a.own ⊎ Memᴰ e b.own
  -- "Swapping the two may change the carrying order only"
  pub swapped : Reordered (joined a b) (joined b a)
  -- with a copy that has gone on, either way round: what the longer one says
  pub gone_on : GoneOn a b → (joined a b ≡ b) × (joined b a ≡ b)

pub record LawsOfJoin : Type 0 where
  pub accepted : (n p : ℕ) (a b : Content) → Sane n p a → Sane n p b → join_code n p a b ≡ 0 → JoinedLaws a b
  -- swapped, it gets the same answer
  pub swapped_code : (n p : ℕ) (a b : Content) → Sane n p a → Sane n p b → join_code n p b a ≡ join_code n p a b
  -- a session and a copy that has gone on, both sound, are never refused; nor is a session with itself, and it stays what it is
  pub gone_on_code : (n p : ℕ) (a b : Content) → Sane n p a → Sane n p b → GoneOn a b → ring_ok n p ≡ true → session_ok n p a ≡ true
      → session_ok n p b ≡ true → join_code n p a b ≡ 0
  pub itself : (n p : ℕ) (a : Content) → Sane n p a → ring_ok n p ≡ true → session_ok n p a ≡ true → (join_code n p a a ≡ 0) × (joined a a ≡ a)
