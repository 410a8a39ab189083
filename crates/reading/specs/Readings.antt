-- The readings as code goes through them: refusal numbers from the store's words, own writes one after the other, several plots.
-- proofs/Readings.antt, proofs/JointReads.antt: they say what Calls says. Assumes nothing.
use Rattle.std.specs.Prelude.{true, ℕ, zero, suc, ◌*◌, ◌<◌, ◌≤◌, ◌≡◌, List, [], ◌++◌, leb, ltb, length, get_or, None, Option, Some}
use Rattle.std.proofs.lemmas.List.Edits.{sets}
use Rattle.causal.specs.Tests.{both}
use Rattle.causal.specs.Codes.{check, or_else}
use Rattle.causal.specs.Lists.{part}
use Rattle.causal.specs.Sets.{subset_of}
use Rattle.frame.specs.declared.entry.Entry.{Entry}
use Rattle.frame.specs.Sessions.{Content}
use Rattle.store.specs.Offices.{Found, best_own, current, office_of, reveal, store_words}
use Rattle.store.specs.Current.{current_at, found_at, InSlots}
use Rattle.office.specs.Calls.{plots_ok, three_words}
use Rattle.office.specs.Decide.{start_code, noted_seen}
use Rattle.office.specs.Steps.{own_at}
use Rattle.office.specs.declared.note.Seen.{Seen}

-- ---- refusals

unfoldable pub read_refusal : List ℕ → Content → ℕ → ℕ
read_refusal ws s plot = or_else (start_code ws s) (check (ltb plot (get_or ws 2 0)) 4 (check (subset_of s.read (part ws 3 8)) 12 0))

unfoldable pub joint_refusal : List ℕ → Content → List ℕ → ℕ → ℕ
joint_refusal ws s plots room =
    or_else (start_code ws s)
    (check (both (leb (length plots) 16) (plots_ok (get_or ws 2 0) plots)) 4
    (check (leb (3 * length plots) room) 8 (check (subset_of s.read (part ws 3 8)) 12 0)))

-- ---- what is shown

-- a visible set is that of the store with the read ids brought out: what is current on a plot then, and the store that is left
pub record Shows (ws read visible : List ℕ) : Type 0 where
  pub shown : visible ≡ (reveal (office_of ws) read).visible
  pub held : subset_of visible (part ws 3 8) ≡ true
  pub left : sets ws 11 visible ≡ store_words ws (reveal (office_of ws) read)
  pub place : (plot : ℕ) → InSlots (length ws) (current_at ws visible plot)
  pub found : (plot : ℕ) → current (reveal (office_of ws) read) plot ≡ found_at ws (current_at ws visible plot)

-- ---- the answer of a joint reading

-- office and serial are small, so that the name payload fits a word; so of what was found, and of own writes
abbrev pub Named : Entry → Type 0
Named e = (e.office < 8) × (e.serial ≤ 32)

abbrev pub NamedIn : Found → Type 0
NamedIn None = Unit {0}
NamedIn (Some e) = Named e

abbrev pub OwnNamed : List Entry → Type 0
OwnNamed own = (i : ℕ) → i < length own → Named (own_at own i)

-- the slots of some places lie in a store of m words
abbrev pub AllInSlots : ℕ → List (Option ℕ) → Type 0
AllInSlots m places = (j : ℕ) → j < length places → InSlots m (get_or places j None)

-- what is current on each of the first n plots
abbrev pub PlacesTo : List ℕ → List ℕ → List ℕ → ℕ → List (Option ℕ) → Type 0
PlacesTo ws visible plots n places = (j : ℕ) → j < n → get_or places j None ≡ current_at ws visible (get_or plots j 0)

unfoldable pub found_among : List ℕ → List (Option ℕ) → ℕ → Found
found_among ws places j = found_at ws (get_or places j None)

-- what is handed back on each: the best of that and the own writes
unfoldable pub handed_among : List ℕ → List Entry → List ℕ → List (Option ℕ) → ℕ → Found
handed_among ws own plots places j = best_own (get_or plots j 0) (found_among ws places j) own

unfoldable pub words_to : (ℕ → Found) → ℕ → List ℕ
words_to g zero = []
words_to g (suc n) = words_to g n ++ three_words (g n)

-- what is handed back on plots can be put into the row: there is room, names fit a word, and slots lie in the store; and the row with it
abbrev pub Answerable : List ℕ → List Entry → List ℕ → List (Option ℕ) → List ℕ → Type 0
Answerable ws own plots places row =
    OwnNamed own × (length plots ≤ 16) × (length places ≡ length plots) × (3 * length plots ≤ length row) × AllInSlots (length ws) places

abbrev pub answers_in : List ℕ → List Entry → List ℕ → List (Option ℕ) → List ℕ → List ℕ
answers_in ws own plots places row = sets row 0 (words_to (handed_among ws own plots places) (length plots))

unfoldable pub seen_to : (ℕ → Found) → ℕ → Seen → Seen
seen_to g zero x = x
seen_to g (suc n) x = noted_seen (g n) (seen_to g n x)
