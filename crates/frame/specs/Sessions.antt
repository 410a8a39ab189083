-- Sessions (01: errands): content, and when one is sound. Paper 01, "Entries and rank", "Sound stores and errands". Assumes nothing.
use Rattle.std.specs.Prelude.{◌≡◌, ℕ, ◌-◌, Bool, true, cond, not, List, [], ◌∷◌, ◌++◌, length, replicate, ◌==◌, nat_le, slice_index_or}
use mathlib.Core.List.{Memᴰ, foldl}
use Rattle.causal.specs.Tests.{both}
use Rattle.causal.specs.Lists.{tab, zeros}
use Rattle.causal.specs.Sets.{IdSet, is_in, unite, inserted, subset_of}
use Rattle.frame.specs.declared.entry.Entry.{Entry}
use Rattle.frame.specs.declared.session.Session.{Session}
use Rattle.frame.specs.Entries.{id_of, clock_ok, ids_ok, entry_ok, blank_entry}

-- "An errand has a clock, a set of read names, and its own entries in writing order"; of a joined one in carrying order (02, (iv)): the first's, then
-- the second's
pub record Content : Type 0 where
  pub offices : ℕ
  pub clock : List ℕ
  pub read : List ℕ
  pub own : List Entry

-- what `get_or` gives past the end of a row of entries
abbrev pub nobody : Entry
nobody = record { office = 0; serial = 0; plot = 0; value = 0; clock = []; deps = [] }

-- what a session says: the first `count` of its entries are its own, and the others mean nothing
unfoldable pub content_of : Session → Content
content_of s =
    record { offices = s.offices; clock = s.clock; read = s.read; own = tab s.count (λ i. slice_index_or s.own i nobody) }

-- a row of sixteen: the entries, and blanks behind them
unfoldable pub filled : List Entry → List Entry
filled es = es ++ replicate (16 - length es) blank_entry

-- the session that says a content of at most 16 own writes, with blanks behind them: `content_of (session_of c) ≡ c`
unfoldable pub session_of : Content → Session
session_of c = record { offices = c.offices; clock = c.clock; read = c.read; count = length c.own; own = filled c.own }

-- the ids of entries, as a set
unfoldable pub ids_of : List Entry → List ℕ
ids_of es = foldl (λ (s : List ℕ) (e : Entry). inserted s (id_of e)) zeros es

-- the entries, in order, but for those that a test takes out
unfoldable pub leave_out : (Entry → Bool) → List Entry → List Entry
leave_out t [] = []
leave_out t (e ∷ es) = cond (t e) (leave_out t es) (e ∷ leave_out t es)

-- "own entries have distinct names and keep the entry rules, and each depends only on read names and earlier own entries": seen is the set of
-- the earlier ones
unfoldable pub own_ok : ℕ → ℕ → List ℕ → List ℕ → List Entry → Bool
own_ok n p read seen [] = true
own_ok n p read seen (e ∷ es) =
    both (entry_ok n p e)
    (both (not (is_in seen (id_of e)))
    (both (subset_of e.deps (unite read seen)) (own_ok n p read (inserted seen (id_of e)) es)))

-- the same of one own write, the last: seen is the set of the earlier ones
unfoldable pub own_turn : ℕ → ℕ → List ℕ → List ℕ → Entry → Bool
own_turn n p read seen e = both (entry_ok n p e) (both (not (is_in seen (id_of e))) (subset_of e.deps (unite read seen)))

-- all that a sound session keeps but for its own writes: the ring size, how many it carries, clock and read
unfoldable pub head_ok : ℕ → ℕ → ℕ → List ℕ → List ℕ → Bool
head_ok n offices count clock read = both (offices == n) (both (nat_le count 16) (both (clock_ok n clock) (ids_ok n read)))

-- "An errand is sound for a store if the ring size agrees, it carries at most 16, names, clocks and plots are in range for that ring and
-- those plots, .."
unfoldable pub session_ok : ℕ → ℕ → Content → Bool
session_ok n p s =
    both (s.offices == n)
    (both (nat_le (length s.own) 16)
    (both (clock_ok n s.clock) (both (ids_ok n s.read) (own_ok n p s.read zeros s.own))))

-- "A fresh errand has a clock of zeros, nothing read and nothing of its own"
abbrev pub fresh_content : ℕ → Content
fresh_content n = record { offices = n; clock = zeros; read = zeros; own = [] }

-- what holds of any entry, and of any session with at most 16 own writes, that a program has: rows of eight words, below 2 ^ 32
pub record SaneEntry (e : Entry) : Type 0 where
  pub clock8 : length e.clock ≡ 8
  pub deps_set : IdSet e.deps

pub record SaneContent (s : Content) : Type 0 where
  pub clock8 : length s.clock ≡ 8
  pub read : IdSet s.read
  pub own : (e : Entry) → Memᴰ e s.own → SaneEntry e
