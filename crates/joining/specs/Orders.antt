-- One list in two orders; sessions that carry the same in two orders; a session that has gone on from another. Assumes nothing.
use Rattle.std.specs.Prelude.{List, [], ◌++◌, ◌∷◌, ◌≡◌}
use Rattle.causal.specs.Clocks.{Covers}
use Rattle.causal.specs.Sets.{Within}
use Rattle.frame.specs.Sessions.{Content}
use Rattle.frame.specs.declared.entry.Entry.{Entry}

-- m is l in some order: it has the first of l somewhere, and without it it is the rest of l in some order
pub data Permuted {A : Type 0} : List A → List A → Type 0 where
  permuted_nil : Permuted [] []
  permuted_cons : {x : A} {l m : List A} (bef aft : List A) → m ≡ bef ++ x ∷ aft → Permuted l (bef ++ aft) → Permuted (x ∷ l) m

-- "may change the carrying order only"
pub record Reordered (s t : Content) : Type 0 where
  pub offices : s.offices ≡ t.offices
  pub clock : s.clock ≡ t.clock
  pub read : s.read ≡ t.read
  pub own : Permuted s.own t.own

-- b is a, or a copy of it that has gone on: it knows what a knows, and has written on behind what a wrote
pub record GoneOn (a b : Content) : Type 0 where
  pub offices : a.offices ≡ b.offices
  pub clock : Covers b.clock a.clock
  pub read : Within a.read b.read
  pub more : List Entry
  pub own : b.own ≡ a.own ++ more
