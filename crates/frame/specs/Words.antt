-- Words: "the top four bits of each word are its kind, the lower 28 its payload". The words of a clock and of a set of ids, and the check
-- word. Frames and tokens are made of these. Assumes nothing.
use Rattle.std.specs.Prelude.{ℕ, zero, suc, ◌+◌, ◌-◌, ◌*◌, ◌/◌, ◌%◌, Bool, true, false, cond, List, [], ◌∷◌, ◌++◌, ◌==◌, nat_le, nat_lt, slice_index}
use mathlib.Core.List.{foldl}
use Rattle.causal.specs.Tests.{both, either}
use Rattle.causal.specs.Lists.{tab, zeros}
use Rattle.causal.specs.Sets.{bit, is_in, inserted}

-- the kind of a word
abbrev pub kind_of : ℕ → ℕ
kind_of w = w / 268435456

-- the payload of a word
abbrev pub payload : ℕ → ℕ
payload w = w % 268435456

-- the payload of word i, 0 past the end
abbrev pub pay_at : List ℕ → ℕ → ℕ
pay_at ws i = payload (slice_index ws i)

-- the kinds that frames and tokens have: 1, 3 to 6, 8, 15
unfoldable pub is_kind : ℕ → Bool
is_kind k = either (k == 1) (either (both (nat_le 3 k) (nat_le k 6)) (either (k == 8) (k == 15)))

-- w is a word of the kind k
unfoldable pub kind_is : ℕ → ℕ → Bool
kind_is k w = both (is_kind k) (kind_of w == k)

-- ---- clocks: "one kind 5 word per office, its clock"

abbrev pub clock_word : List ℕ → ℕ → ℕ
clock_word c j = 1342177280 + slice_index c j

unfoldable pub clock_words : ℕ → List ℕ → List ℕ
clock_words n c = tab n (clock_word c)

-- the clock whose words stand in ws from i on
abbrev pub clock_place : List ℕ → ℕ → ℕ → ℕ → ℕ
clock_place ws i n j = cond (nat_lt j n) (pay_at ws (i + j)) 0

unfoldable pub clock_from : List ℕ → ℕ → ℕ → List ℕ
clock_from ws i n = tab 8 (clock_place ws i n)

-- ---- sets of ids: "kind 6 words, one per dependency, payload 256 × office + serial, strictly ascending"

-- the word of id k, of office k / 32 and serial k % 32 + 1
abbrev pub id_word : ℕ → ℕ
id_word k = 1610612736 + (k / 32 * 256 + (k % 32 + 1))

unfoldable pub id_word_if : Bool → ℕ → List ℕ
id_word_if true k = id_word k ∷ []
id_word_if false k = []

-- the words of the members below k
unfoldable pub id_words_to : List ℕ → ℕ → List ℕ
id_words_to s zero = []
id_words_to s (suc k) = id_words_to s k ++ id_word_if (is_in s k) k

unfoldable pub id_words : List ℕ → List ℕ
id_words s = id_words_to s 256

-- the words of the members that word j of a set has below bit b: how a writer walks them
unfoldable pub id_words_in : ℕ → ℕ → ℕ → List ℕ
id_words_in j w zero = []
id_words_in j w (suc b) = id_words_in j w b ++ id_word_if (bit w b == 1) (32 * j + b)

-- the id that a word names
abbrev pub id_in : ℕ → ℕ
id_in w = 32 * (payload w / 256) + (payload w % 256 - 1)

-- the set of what words name
unfoldable pub ids_from : List ℕ → List ℕ
ids_from ws = foldl (λ (s : List ℕ) (w : ℕ). inserted s (id_in w)) zeros ws

-- ---- the check: "kind 15 check, the sum of all payloads before it, modulo 2^28"

unfoldable pub total : List ℕ → ℕ
total [] = 0
total (w ∷ ws) = payload w + total ws

abbrev pub sum_word : List ℕ → ℕ
sum_word ws = 4026531840 + total ws % 268435456

-- words with their check word behind them
unfoldable pub summed : List ℕ → List ℕ
summed ws = ws ++ (sum_word ws ∷ [])
