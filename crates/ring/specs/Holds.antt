-- THE CLAIM about a run (paper 01, "Runs"; the third demand). Assumes nothing.
use Rattle.std.specs.Prelude.{ℕ, ◌<◌, ◌≤◌, false, true, ◌⊎◌, ◌≡◌, length, Some}
use mathlib.Core.List.{List, Memᴰ, ◌++◌, ◌∷◌, map}
use Rattle.causal.specs.Sets.{has}
use Rattle.frame.specs.Entries.{id_of, outranks}
use Rattle.frame.specs.Frames.{frame_words}
use Rattle.frame.specs.Sessions.{Content}
use Rattle.frame.specs.Tokens.{token_words}
use Rattle.frame.specs.declared.entry.Entry.{Entry}
use Rattle.frame.specs.declared.entry.Frame.{Frame}
use Rattle.store.specs.Offices.{Found, Office, current, need, office_of, sound_store, store_words}
use Rattle.office.specs.Calls.{open_office}
use Rattle.ring.specs.Run.{Call, Event, Made, State, Tracked, TrackedToken, contents_run, words_run}

-- k is the id of an entry made
abbrev pub Logged : List Made → ℕ → Type 0
Logged log k = (m : Made) × Memᴰ m log × (id_of m.entry ≡ k)

-- the store ws holds the entry e; shows it
pub record HoldsEntry (ws : List ℕ) (e : Entry) : Type 0 where
  pub held : has (office_of ws).held (id_of e) ≡ 1
  pub content : (office_of ws).entry (id_of e) ≡ e

abbrev pub Shows : List ℕ → Entry → Type 0
Shows ws e = has (office_of ws).visible (id_of e) ≡ 1

abbrev pub token_on : TrackedToken Content → TrackedToken (List ℕ)
token_on r = record { token = token_words r.token; past = r.past }

-- the run on words g, opened over rows, is the run on contents c: "Held, shown, results, frames and pasts follow from the calls alone by the
-- rules above; what the stores hold and show, and what the calls return and write, equals that"
pub record Same (n : ℕ) (rows : ℕ → List ℕ) (g : State (List ℕ) (List ℕ) (List ℕ)) (c : State Office Frame Content) : Type 0 where
  -- what each store holds and shows, and each of its words: slots of ids that are not held and words past the need are as they were given
  pub stores : (o : ℕ) → o < n → office_of (g.stores o) ≡ c.stores o
  pub words : (o : ℕ) → o < n → g.stores o ≡ store_words (rows o) (c.stores o)
  pub lines : (o : ℕ) → g.lines o ≡ map frame_words (c.lines o)
  pub sessions : g.sessions ≡ c.sessions
  pub tokens : g.tokens ≡ map token_on c.tokens
  pub log : g.log ≡ c.log
  pub events : g.events ≡ c.events

-- no two of the log have the same id: at whatever place one stands, none before it has its id
abbrev pub Distinct : List Made → Type 0
Distinct log = (bef : List Made) (m : Made) (aft : List Made) → log ≡ bef ++ m ∷ aft
    → Memᴰ (id_of m.entry) (map (λ (d : Made). id_of d.entry) bef) → ⊥

pub record Holds (n : ℕ) (rows : ℕ → List ℕ) (g : State (List ℕ) (List ℕ) (List ℕ)) (c : State Office Frame Content) : Type 0 where
  -- each store is sound
  pub sound : (o : ℕ) → o < n → sound_store (g.stores o) ≡ true
  -- "An entry has a name": no id is made twice, so an id of a past means one entry, and its writer's past
  pub distinct : Distinct g.log
  pub one_of_id : (m d : Made) → Memᴰ m g.log → Memᴰ d g.log → id_of m.entry ≡ id_of d.entry → m ≡ d
  -- what is held anywhere is an entry made, whole
  pub held_made : (o k : ℕ) → o < n → has (office_of (g.stores o)).held k ≡ 1 →
      (m : Made) × Memᴰ m g.log × (id_of m.entry ≡ k) × ((office_of (g.stores o)).entry k ≡ m.entry)
  -- what is visible anywhere was made
  pub visible_made : (o k : ℕ) → o < n → has (office_of (g.stores o)).visible k ≡ 1 → Logged g.log k
  -- every id in a past, of an entry made, of a session, of a token or of a reading, is the id of an entry made
  pub entry_past : (m : Made) → Memᴰ m g.log → (k : ℕ) → Memᴰ k m.past → Logged g.log k
  pub session_past : (r : Tracked) → Memᴰ r g.sessions → (k : ℕ) → Memᴰ k r.past → Logged g.log k
  pub token_past : (r : TrackedToken (List ℕ)) → Memᴰ r g.tokens → (k : ℕ) → Memᴰ k r.past → Logged g.log k
  pub event_past : (v : Event) → Memᴰ v g.events → (k : ℕ) → Memᴰ k v.past → Logged g.log k
  -- what is visible anywhere is held everywhere, and so is its writer's past
  pub visible_held : (o q : ℕ) → o < n → q < n → (m : Made) → Memᴰ m g.log → Shows (g.stores o) m.entry
      → HoldsEntry (g.stores q) m.entry
  pub past_held : (o q : ℕ) → o < n → q < n → (m : Made) → Memᴰ m g.log → Shows (g.stores o) m.entry →
      (d : Made) → Memᴰ d g.log → Memᴰ (id_of d.entry) m.past → HoldsEntry (g.stores q) d.entry
  -- .. and that past is visible with it
  pub past_visible : (o : ℕ) → o < n → (m : Made) → Memᴰ m g.log → Shows (g.stores o) m.entry → (d : Made) → Memᴰ d g.log
      → Memᴰ (id_of d.entry) m.past → Shows (g.stores o) d.entry
  -- for each entry of that past, the entry current on its plot at the office that shows is it or outranks it
  pub past_current : (o : ℕ) → o < n → (m : Made) → Memᴰ m g.log → Shows (g.stores o) m.entry →
      (d : Made) → Memᴰ d g.log → Memᴰ (id_of d.entry) m.past →
      (e : Entry) × (current (office_of (g.stores o)) d.entry.plot ≡ Some e) × ((e ≡ d.entry) ⊎ (outranks e d.entry ≡ true))
  -- no reading hands back an entry outranked by one on that plot in the session's past, what it hands back included; nor none where the past
  -- has one on that plot
  pub reads : (v : Event) → Memᴰ v g.events → (q : ℕ) (f : Found) → Memᴰ (q, f) v.reads →
      (d : Made) → Memᴰ d g.log → Memᴰ (id_of d.entry) v.past → d.entry.plot ≡ q →
      (e : Entry) × (f ≡ Some e) × (outranks d.entry e ≡ false)
  -- what a reading hands back is on that plot, and is the entry made under its id, whole
  pub handed : (v : Event) → Memᴰ v g.events → (q : ℕ) (e : Entry) → Memᴰ (q, Some e) v.reads →
      (e.plot ≡ q) × ((m : Made) × Memᴰ m g.log × (m.entry ≡ e))
  -- "At a reading the errand's past counts what that reading hands back", with its writer's past
  pub counted : (v : Event) → Memᴰ v g.events → (q : ℕ) (m : Made) → Memᴰ m g.log → Memᴰ (q, Some m.entry) v.reads →
      Memᴰ (id_of m.entry) v.past × ((k : ℕ) → Memᴰ k m.past → Memᴰ k v.past)
  -- no call is refused with 10, 11 or 12
  pub not10 : (v : Event) → Memᴰ v g.events → v.code ≡ 10 → ⊥
  pub not11 : (v : Event) → Memᴰ v g.events → v.code ≡ 11 → ⊥
  pub not12 : (v : Event) → Memᴰ v g.events → v.code ≡ 12 → ⊥
  -- and all is as the rules have it
  pub same : Same n rows g c

-- every office of a ring in range is opened over any row long enough: the opening is accepted
abbrev pub Opens : Type 0
Opens =
    (n p : ℕ) → 2 ≤ n → n ≤ 8 → 1 ≤ p → p ≤ 64 → (rows : ℕ → List ℕ) → ((o : ℕ) → o < n → need n ≤ length (rows o)) →
    (o : ℕ) → o < n → (open_office n o p (rows o)).0 ≡ 0

-- for every ring size and number of plots in range, all rows long enough to be opened (`Opens`: they are), and every list of calls
abbrev pub Demand3 : Type 0
Demand3 =
    (n p : ℕ) → 2 ≤ n → n ≤ 8 → 1 ≤ p → p ≤ 64 → (rows : ℕ → List ℕ) → ((o : ℕ) → o < n → need n ≤ length (rows o)) →
    (cs : List Call) → Holds n rows (words_run n p rows cs) (contents_run n p cs)
