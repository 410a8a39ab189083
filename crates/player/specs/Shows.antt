-- When the player's desk and buffers show a scene. Assumes nothing.
use Rattle.std.specs.Prelude.{ℕ, suc, ◌%◌, ◌*◌, ◌+◌, ◌<◌, ◌≤◌, List, [], ◌∷◌, ◌≡◌, get_or, length}
use Rattle.causal.specs.Lists.{part}
use Rattle.frame.specs.Sessions.{content_of}
use Rattle.frame.specs.declared.session.Session.{Session}
use Rattle.ring.specs.Run.{Tracked, at}
use Rattle.player.specs.Desks.{Desk, count_at, first_at, place_at, session_at, slot_at}
use Rattle.player.specs.Play.{Scene}

abbrev pub row_at : List (List ℕ) → ℕ → List ℕ
row_at rows j = get_or rows j []

-- the rows wait at the office o: row j in slot first + j, round the 32 slots
pub record Queue (lines : List ℕ) (o first count : ℕ) (rows : List (List ℕ)) : Type 0 where
  pub start : first < 32
  pub counted : length rows ≡ count
  pub few : count ≤ 32
  pub short : (j : ℕ) → j < count → length (row_at rows j) ≤ 103
  pub slot : (j : ℕ) → j < count → part lines (slot_at o ((first + j) % 32)) (suc (length (row_at rows j))) ≡ length (row_at rows j) ∷ row_at rows j

-- the one session of the list has the content of s, whose row of entries is as long as the struct's
pub record Session-is (rs : List Tracked) (s : Session) : Type 0 where
  pub tracked : Tracked
  pub found : rs ≡ tracked ∷ []
  pub content : tracked.session ≡ content_of s
  pub size : length s.own ≡ 16

pub record Shows (g : Scene) (d : Desk) (stores lines : List ℕ) : Type 0 where
  -- as long as the struct and the buffers are
  pub four : length d.sessions ≡ 4
  pub four_places : length d.place ≡ 4
  pub three : length d.first ≡ 3
  pub three_counts : length d.count ≡ 3
  pub long_stores : length stores ≡ 5241
  pub long_lines : length lines ≡ 9984
  -- the stores, of a ring of three with 64 plots
  pub store : (o : ℕ) → o < 3 → part stores (1747 * o) 1747 ≡ g.ring.stores o
  pub offices : (o : ℕ) → o < 3 → get_or (g.ring.stores o) 0 0 ≡ 3
  pub plots : (o : ℕ) → o < 3 → get_or (g.ring.stores o) 2 0 ≡ 64
  pub line : (o : ℕ) → o < 3 → Queue lines o (first_at d o) (count_at d o) (g.ring.lines o)
  pub session : (i : ℕ) → i < 4 → Session-is (at g.ring.sessions i) (session_at d i)
  pub place : g.place ≡ d.place
  pub placed : (i : ℕ) → i < 4 → place_at d i < 3

-- some scene is shown
abbrev pub Shown : Desk → List ℕ → List ℕ → Type 0
Shown d stores lines = (g : Scene) × Shows g d stores lines

-- the stores of the offices in the buffer of all
abbrev pub stores_in : List ℕ → ℕ → List ℕ
stores_in stores o = part stores (1747 * o) 1747
