-- A session that carries nothing is one whose count is 0. Assumes nothing.
use Prim.Native.Nat.{ℕ}
use mathlib.Core.Path.{◌≡◌, sym, subst}
use mathlib.Core.List.{List}
use Rattle.frame.specs.declared.entry.Entry.{Entry}
use Rattle.frame.specs.declared.session.Session.{Session}
use Rattle.office.specs.Decide.{alone}

pub is_alone : (s : Session) → s.count ≡ 0 → alone s.offices s.clock s.read s.own ≡ s
is_alone s e = λ i. record { offices = s.offices; clock = s.clock; read = s.read; count = sym e i; own = s.own }

pub by_alone : (P : Session → Type 0) (s : Session) → s.count ≡ 0 → ((own : List Entry) → P (alone s.offices s.clock s.read own)) → P s
by_alone P s e h = subst P (is_alone s e) (h s.own)
