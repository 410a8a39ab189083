-- A CLAIM BESIDE `Holds`, paper 02, (iii): "Foremen correct their own entries in another office. They rely on this: an entry outranks every entry
-- in its writer's past, on every plot, and each number of its clock is at least the corresponding one there. It is to hold over the runs of the
-- third demand." With `past_visible` and `past_current` of `Holds`: that past is visible with the entry, and nothing below it is current. Assumes
-- nothing.
use Rattle.std.specs.Prelude.{ℕ, ◌<◌, ◌≤◌, true, ◌⊎◌, ◌≡◌, length, Some}
use mathlib.Core.List.{List, Memᴰ, [], ◌∷◌}
use Rattle.causal.specs.Clocks.{Covers}
use Rattle.causal.specs.Sets.{has}
use Rattle.frame.specs.Entries.{id_of, outranks}
use Rattle.frame.specs.declared.entry.Entry.{Entry}
use Rattle.store.specs.Offices.{Found, current, need, office_of, reveal}
use Rattle.store.specs.Reveal.{Reached}
use Rattle.office.specs.Calls.{read_joint, read_plot, write}
use Rattle.ring.specs.Holds.{Shows}
use Rattle.ring.specs.Run.{Call, Made, State, Tracked, at, last_of, together, words_run}

-- e outranks d, and each of the eight numbers of its clock is at least d's
pub record Later (e d : Entry) : Type 0 where
  pub outranked : outranks e d ≡ true
  pub covered : Covers e.clock d.clock

-- both were made, and d is in the past of m's writer. None is passed over: each id of a past is that of one entry made (`entry_past` and
-- `one_of_id` of `Holds`)
pub record Knew (log : List Made) (m d : Made) : Type 0 where
  pub made : Memᴰ m log
  pub earlier : Memᴰ d log
  pub known : Memᴰ (id_of d.entry) m.past

-- from d on, entries made, each in the past of the next one's writer; the last is m
pub data Before (log : List Made) (d : Made) : Made → Type 0 where
  direct : {m : Made} → Knew log m d → Before log d m
  through : {k m : Made} → Before log d k → Knew log m k → Before log d m

-- f, found on m's plot, is m or an entry made that outranks m; so it outranks all that m's writer knew, and is none of it, not what m corrects
pub record Prevails (log : List Made) (m : Made) (f : Found) : Type 0 where
  pub winner : Made
  pub made : Memᴰ winner log
  pub found : f ≡ Some winner.entry
  pub over : (winner ≡ m) ⊎ (outranks winner.entry m.entry ≡ true)
  pub beyond : (d : Made) → Knew log m d → outranks winner.entry d.entry ≡ true
  pub not_corrected : (d : Made) → Knew log m d → id_of winner.entry ≡ id_of d.entry → ⊥

-- a reading by s at the store ws meets m: m is visible once the session's read names are brought out, or it is in the session's past
abbrev pub Meets : List ℕ → Tracked → Made → Type 0
Meets ws s m = (has (reveal (office_of ws) s.session.read).visible (id_of m.entry) ≡ 1) ⊎ Memᴰ (id_of m.entry) s.past

pub record LaterIn (n : ℕ) (g : State (List ℕ) (List ℕ) (List ℕ)) : Type 0 where
  -- of the entries made, on whatever plots
  pub over_past : (m d : Made) → Knew g.log m d → Later m.entry d.entry
  -- .. and of what stands in the stores: the words that an office holds under m's id, and those that it or another office holds under d's
  pub over_past_held : (o q : ℕ) → o < n → q < n → (m d : Made) → Knew g.log m d
      → has (office_of (g.stores o)).held (id_of m.entry) ≡ 1 → has (office_of (g.stores q)).held (id_of d.entry) ≡ 1
      → Later ((office_of (g.stores o)).entry (id_of m.entry)) ((office_of (g.stores q)).entry (id_of d.entry))
  -- so rank never goes round: no entry made comes back to itself by entries each in the next one's past
  pub never_round : (m : Made) → Before g.log m m → ⊥
  -- what a foreman relies on: wherever his correction m is visible, the current entry of its plot is m or outranks it, and never what he corrected
  pub prevails : (o : ℕ) → o < n → (m : Made) → Memᴰ m g.log → Shows (g.stores o) m.entry
      → Prevails g.log m (current (office_of (g.stores o)) m.entry.plot)
  -- .. and so is what a reading that meets it hands back, a single or a joint one: to himself, to who has it in his past, to whoever reads there
  pub prevails_read : (o i : ℕ) (s : Tracked) → o < n → at g.sessions i ≡ s ∷ [] → (m : Made) → Memᴰ m g.log → Meets (g.stores o) s m
      → (read_plot (g.stores o) s.session m.entry.plot).code ≡ 0
      → (f : Found) → Memᴰ f (read_plot (g.stores o) s.session m.entry.plot).found → Prevails g.log m f
  pub prevails_read_jointly : (o i : ℕ) (s : Tracked) → o < n → at g.sessions i ≡ s ∷ [] → (m : Made) → Memᴰ m g.log
      → Meets (g.stores o) s m → (plots row : List ℕ) → (read_joint (g.stores o) s.session plots row).code ≡ 0
      → (f : Found) → Memᴰ (m.entry.plot, f) (together plots (read_joint (g.stores o) s.session plots row).found)
      → Prevails g.log m f
  -- An entry is later than more than its writer's past. It is later than all that an office reaches from it through dependencies: a read name that
  -- was not handed back need not be in the past
  pub over_reached : (o k d : ℕ) → o < n → has (office_of (g.stores o)).held k ≡ 1
      → Reached (λ j. ((office_of (g.stores o)).entry j).deps) ((office_of (g.stores o)).entry k).deps d
      → (has (office_of (g.stores o)).held d ≡ 1) × Later ((office_of (g.stores o)).entry k) ((office_of (g.stores o)).entry d)
  -- .. so that no entry that is held lies in its own dependency past
  pub never_round_held : (o k : ℕ) → o < n → has (office_of (g.stores o)).held k ≡ 1
      → Reached (λ j. ((office_of (g.stores o)).entry j).deps) ((office_of (g.stores o)).entry k).deps k → ⊥
  -- And it is later than all that its office shows as it is written, known to the writer or not: what the office's clock is joined for
  pub over_visible : (o i : ℕ) (s : Tracked) → o < n → at g.sessions i ≡ s ∷ [] → (plot value : ℕ) (row : List ℕ)
      → (write (g.stores o) s.session plot value row).code ≡ 0 → (d : Made) → Memᴰ d g.log → Shows (g.stores o) d.entry
      → Later (last_of (write (g.stores o) s.session plot value row).session.own) d.entry

-- after every list of calls; every chain of answers that keep the promises leads to `words_run` (specs/Claim.antt), so this is of the calls as made
abbrev pub LaterCounts : Type 0
LaterCounts =
    (n p : ℕ) → 2 ≤ n → n ≤ 8 → 1 ≤ p → p ≤ 64 → (rows : ℕ → List ℕ) → ((o : ℕ) → o < n → need n ≤ length (rows o)) →
    (cs : List Call) → LaterIn n (words_run n p rows cs)
