-- The bound of a join and the order of its refusals, by computing: 16 carried and 17; each refusal with a later one's condition at once, then the
-- later one alone; what makes two contents; a name that one has read and the other wrote. Assumes nothing.
use Prim.Native.Nat.{ℕ, ◌+◌}
use mathlib.Core.List.{List, [], ◌∷◌, map}
use mathlib.Core.Path.{◌≡◌, refl}
use Rattle.causal.specs.Clocks.{join}
use Rattle.causal.specs.Codes.{check}
use Rattle.causal.specs.Lists.{eq_words, tab, zeros}
use Rattle.causal.specs.Sets.{bit, has, inserted, is_in, subset_of, unite, word_in}
use Rattle.causal.specs.Tests.{all_below, both, either, implies}
use Rattle.frame.specs.Entries.{bounds_ok, clock_ok, clock_place_ok, entry_ok, id_of, ids_ok, ids_place_ok, same_content}
use Rattle.frame.specs.Frames.{ring_ok}
use Rattle.frame.specs.Sessions.{Content, ids_of, leave_out, own_ok, session_ok}
use Rattle.frame.proofs.Bounds.{carrying, loaded, numbered}
use Rattle.joining.specs.Joins.{alike, all_alike, each, join_code, joined}

-- a session that carries the n entries from the serial s + 1 on
abbrev from : ℕ → ℕ → Content
from s n = carrying (tab n (λ i. numbered (s + (i + 1)) zeros))

-- the entry of the serial 1 with another plot, value, clock or dependency
abbrev changed : ℕ → ℕ → List ℕ → List ℕ → Content
changed plot value clock deps =
    record { offices = 3; clock = zeros; read = deps; own = record { office = 1; serial = 1; plot = plot; value = value; clock = clock; deps = deps } ∷ [] }

abbrev one : List ℕ
one = 0 ∷ 1 ∷ 0 ∷ 0 ∷ 0 ∷ 0 ∷ 0 ∷ 0 ∷ []

-- a session that has read the entry of the serial 1, and written that of the serial 2, which depends on it
abbrev reader : Content
reader = record { offices = 3; clock = zeros; read = inserted zeros 32; own = numbered 2 (inserted zeros 32) ∷ [] }

pub record JoinBounds : Type 0 where
  -- "7 if over 16 would be carried": what both carry counts once
  pub carries_16 : join_code 3 64 (loaded 8) (from 8 8) ∷ join_code 3 64 (loaded 16) (loaded 16) ∷ join_code 3 64 (loaded 16) (from 8 8) ∷ [] ≡ 0 ∷ 0 ∷ 0 ∷ []
  pub carries_17 : join_code 3 64 (loaded 8) (from 8 9) ∷ join_code 3 64 (loaded 16) (from 9 8) ∷ join_code 3 64 (loaded 16) (from 16 16) ∷ [] ≡ 7 ∷ 7 ∷ 7 ∷ []
  -- 1 and 3; 3; either one unsound
  pub order_1_3 : join_code 9 64 (loaded 17) (loaded 1) ∷ join_code 3 0 (loaded 17) (loaded 1) ∷ join_code 3 64 (loaded 17) (loaded 1) ∷ join_code 3 64 (loaded 1) (loaded 17) ∷ [] ≡ 1 ∷ 1 ∷ 3 ∷ 3 ∷ []
  -- 3 and 11; 11
  pub order_3_11 : join_code 3 5 (loaded 1) (changed 4 1 one zeros) ∷ join_code 3 64 (loaded 1) (changed 4 1 one zeros) ∷ [] ≡ 3 ∷ 11 ∷ []
  -- 11 and 7; 7
  pub order_11_7 : join_code 3 64 (loaded 16) (carrying (numbered 17 zeros ∷ (changed 5 2 one zeros).own)) ∷ join_code 3 64 (loaded 16) (carrying (numbered 17 zeros ∷ (loaded 1).own)) ∷ [] ≡ 11 ∷ 7 ∷ []
  -- "if one name has two contents": plot, value, clock, dependencies; and none of them
  pub contents : map (join_code 3 64 (loaded 1)) (changed 4 1 one zeros ∷ changed 5 2 one zeros ∷ changed 5 1 (1 ∷ 1 ∷ 0 ∷ 0 ∷ 0 ∷ 0 ∷ 0 ∷ 0 ∷ []) zeros ∷ changed 5 1 one (inserted zeros 40) ∷ changed 5 1 one zeros ∷ [])
      ≡ 11 ∷ 11 ∷ 11 ∷ 11 ∷ 0 ∷ []
  -- "Read names and own entries may overlap", either way round
  pub overlap : join_code 3 64 (loaded 1) reader ∷ join_code 3 64 reader (loaded 1) ∷ [] ≡ 0 ∷ 0 ∷ []
  pub overlap_own : map (λ (s : Content). map id_of s.own) (joined (loaded 1) reader ∷ joined reader (loaded 1) ∷ []) ≡ (32 ∷ 33 ∷ []) ∷ (33 ∷ 32 ∷ []) ∷ []
  pub overlap_read : (joined (loaded 1) reader).read ≡ reader.read
  -- with itself
  pub itself : joined (loaded 16) (loaded 16) ≡ loaded 16

pub join_bounds : JoinBounds
unfolding both either implies all_below check bit has is_in inserted word_in subset_of unite join tab eq_words clock_place_ok clock_ok ids_place_ok ids_ok bounds_ok entry_ok same_content ring_ok ids_of leave_out own_ok session_ok each alike all_alike joined join_code
join_bounds =
    record {
      carries_16 = refl;
      carries_17 = refl;
      order_1_3 = refl;
      order_3_11 = refl;
      order_11_7 = refl;
      contents = refl;
      overlap = refl;
      overlap_own = refl;
      overlap_read = refl;
      itself = refl;
    }
