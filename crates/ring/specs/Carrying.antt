-- CLAIMS BESIDE `Holds`, paper 02, (iv). Of calls on any store that a program can have (`Words32`) and any sessions that are sound for something:
-- `CarryingOrder`, "Swapping the two may change the carrying order only", and no reply depends on that order, but for which of 10 and 11 refuses a
-- write, nor does what a store then holds and shows;
-- `GoesOn`, a session that reads and writes goes on. Of the sessions of a run: `EitherWay`, joined either way round; `KeepsOn`, each goes on from
-- what it was, so joined with a copy of that it stays what it is (`gone_on` of joining/specs/Laws.antt). Assumes nothing.
use Rattle.std.specs.Prelude.{ℕ, ◌<◌, ◌≤◌, true, ◌⊎◌, ◌≡◌, length}
use mathlib.Core.List.{List, Memᴰ, [], ◌++◌, ◌∷◌}
use Rattle.frame.specs.Frames.{ring_ok}
use Rattle.frame.specs.Sessions.{Content, SaneContent, session_ok}
use Rattle.joining.specs.Joins.{join_code, joined}
use Rattle.joining.specs.Laws.{Sane}
use Rattle.joining.specs.Orders.{GoneOn, Permuted, Reordered}
use Rattle.store.specs.Offices.{Words32, need}
use Rattle.office.specs.Calls.{Result, read_joint, read_plot, write}
use Rattle.ring.specs.Run.{Call, Tracked, at, last_of, words_run}

-- ---- the carrying order

-- two sessions that carry the same in two orders, both sound for some settings
pub record TwoOrders (s t : Content) : Type 0 where
  pub n : ℕ
  pub p : ℕ
  pub ring : ring_ok n p ≡ true
  pub first : session_ok n p s ≡ true
  pub second : session_ok n p t ≡ true
  pub sane_first : SaneContent s
  pub sane_second : SaneContent t
  pub order : Reordered s t

-- the same answer: the reply, each word of the store and of the lent row; and the sessions that it leaves are again two such
pub record SameReply (R T : Result (List ℕ) (List ℕ)) : Type 0 where
  pub code : R.code ≡ T.code
  pub count : R.count ≡ T.count
  pub found : R.found ≡ T.found
  pub store : R.store ≡ T.store
  pub row : R.row ≡ T.row
  pub again : TwoOrders R.session T.session

-- the same of a write that is accepted: the new entry, the number of words and each word of the store. It sends the same frames in some order
-- (`sent_of`: what is carried in its order, and the new entry last)
pub record SameWrite (R T : Result (List ℕ) (List ℕ)) : Type 0 where
  pub code : T.code ≡ 0
  pub count : R.count ≡ T.count
  pub store : R.store ≡ T.store
  pub made : last_of R.session.own ≡ last_of T.session.own
  pub sent : Permuted R.sent T.sent
  pub again : TwoOrders R.session T.session

abbrev pub TenOrEleven : ℕ → Type 0
TenOrEleven c = (c ≡ 10) ⊎ (c ≡ 11)

pub record CarryingOrder : Type 0 where
  -- sound for the same settings, whatever they are
  pub sound : (s t : Content) → TwoOrders s t → (m q : ℕ) → session_ok m q s ≡ session_ok m q t
  pub reads : (s t : Content) → TwoOrders s t → (ws : List ℕ) → Words32 ws → (plot : ℕ) → SameReply (read_plot ws s plot) (read_plot ws t plot)
  pub reads_jointly : (s t : Content) → TwoOrders s t → (ws : List ℕ) → Words32 ws → (plots row : List ℕ)
      → SameReply (read_joint ws s plots row) (read_joint ws t plots row)
  pub writes : (s t : Content) → TwoOrders s t → (ws : List ℕ) → Words32 ws → (plot value : ℕ) (row : List ℕ) → (write ws s plot value row).code ≡ 0
      → SameWrite (write ws s plot value row) (write ws t plot value row)
  -- 10 and 11 come "for each own entry in order", so which of them comes may change; neither comes in a run (`not10`, `not11` of `Holds`)
  pub write_codes : (s t : Content) → TwoOrders s t → (ws : List ℕ) (plot value : ℕ) (row : List ℕ)
      → ((write ws s plot value row).code ≡ (write ws t plot value row).code)
      ⊎ (TenOrEleven (write ws s plot value row).code × TenOrEleven (write ws t plot value row).code)
  -- joined with another
  pub joins : (s t c : Content) → TwoOrders s t → (m q : ℕ) → Sane m q c
      → (join_code m q s c ≡ join_code m q t c) × (join_code m q s c ≡ 0 → TwoOrders (joined s c) (joined t c))
  pub joins_second : (s t c : Content) → TwoOrders s t → (m q : ℕ) → Sane m q c
      → (join_code m q c s ≡ join_code m q c t) × (join_code m q c s ≡ 0 → TwoOrders (joined c s) (joined c t))

-- of any two sessions of a run, also of one and itself, and any settings: the same refusal number either way round; where it is 0 the two joins are
-- `TwoOrders`, so `CarryingOrder` is of them
abbrev pub EitherWay : Type 0
EitherWay =
    (n p : ℕ) → 2 ≤ n → n ≤ 8 → 1 ≤ p → p ≤ 64 → (rows : ℕ → List ℕ) → ((o : ℕ) → o < n → need n ≤ length (rows o)) →
    (cs : List Call) (r u : Tracked) → Memᴰ r (words_run n p rows cs).sessions → Memᴰ u (words_run n p rows cs).sessions → (m q : ℕ) →
    (join_code m q u.session r.session ≡ join_code m q r.session u.session)
    × (join_code m q r.session u.session ≡ 0 → TwoOrders (joined r.session u.session) (joined u.session r.session))

-- ---- going on

-- whatever the call answers
pub record GoesOn : Type 0 where
  pub reads : (ws : List ℕ) (s : Content) (plot : ℕ) → GoneOn s (read_plot ws s plot).session
  pub reads_jointly : (ws : List ℕ) (s : Content) (plots row : List ℕ) → GoneOn s (read_joint ws s plots row).session
  pub writes : (ws : List ℕ) (s : Content) (plot value : ℕ) (row : List ℕ) → GoneOn s (write ws s plot value row).session

-- session i of a run, and the same after more calls: it knows what it knew, and its past has what it had. So a joined session's readings respect
-- both pasts ever after (`reads` of `Holds`)
abbrev pub KeepsOn : Type 0
KeepsOn =
    (n p : ℕ) (rows : ℕ → List ℕ) (cs ds : List Call) (i : ℕ) (r : Tracked) → at (words_run n p rows cs).sessions i ≡ r ∷ [] →
    (u : Tracked) × (at (words_run n p rows (cs ++ ds)).sessions i ≡ u ∷ [])
    × GoneOn r.session u.session × ((k : ℕ) → Memᴰ k r.past → Memᴰ k u.past)
