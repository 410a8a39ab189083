-- Lists of words: a part, a table, eight places, sums. Assumes nothing.
use Rattle.std.specs.Prelude.{ℕ, zero, suc, ◌+◌, Bool, true, false, List, [], ◌∷◌, ◌++◌, eqb, get_or, take, drop, replicate}
use Rattle.causal.specs.Tests.{both}

-- the n words from a on
unfoldable pub part : List ℕ → ℕ → ℕ → List ℕ
part ws a n = take n (drop a ws)

-- f 0, f 1, .., f (n - 1)
unfoldable pub tab : {A : Type 0} → ℕ → (ℕ → A) → List A
tab zero f = []
tab (suc n) f = tab n f ++ (f n ∷ [])

-- f 0 + f 1 + .. + f (n - 1)
unfoldable pub sum_below : ℕ → (ℕ → ℕ) → ℕ
sum_below zero f = 0
sum_below (suc n) f = sum_below n f + f n

-- eight zeros: the empty set, and the clock of nobody
abbrev pub zeros : List ℕ
zeros = replicate 8 0

-- f at each of eight places
abbrev pub zip8 : (ℕ → ℕ → ℕ) → List ℕ → List ℕ → List ℕ
zip8 f a b =
    f (get_or a 0 0) (get_or b 0 0)
    ∷ f (get_or a 1 0) (get_or b 1 0)
    ∷ f (get_or a 2 0) (get_or b 2 0)
    ∷ f (get_or a 3 0) (get_or b 3 0)
    ∷ f (get_or a 4 0) (get_or b 4 0)
    ∷ f (get_or a 5 0) (get_or b 5 0)
    ∷ f (get_or a 6 0) (get_or b 6 0)
    ∷ f (get_or a 7 0) (get_or b 7 0)
    ∷ []

-- the same words
unfoldable pub eq_words : List ℕ → List ℕ → Bool
eq_words [] [] = true
eq_words [] (b ∷ ys) = false
eq_words (a ∷ xs) [] = false
eq_words (a ∷ xs) (b ∷ ys) = both (eqb a b) (eq_words xs ys)
