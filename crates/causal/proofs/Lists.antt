-- Laws of lists of words: parts, runs of stores (`sets ws i vs` is ws with vs stored from i on), tables, eight places, sums.
-- Assumes nothing.
use Prim.Native.Nat.{ℕ, zero, suc, ◌+◌, ◌-◌, ◌<◌, ◌≤◌}
use mathlib.Core.Path.{◌≡◌, refl, sym, ap, ◌∙◌}
use mathlib.Core.Bool.{true}
use mathlib.Core.Logic.{⊎_elim}
use mathlib.Core.List.{List, [], ◌∷◌, ◌++◌, append_assoc}
use native.Mathlib.Nat.{add-zero, zero-add, add-suc, suc-add}
use native.Mathlib.Numerals.{add-one}
use native.Mathlib.Omega.{arith}
use lib.Dec.{eqb}
use borrow.Author.Tests.{eq-eqb, eqb-true}
use lib.ListN.{length, get_or, take, drop, set, length-append, length-take, length-drop, length-set, get_or-append}
use lib.Seq.{sets, take-suc, take-add, drop-drop, drop-cons, drop-set-add, drop-set-lt, take-set-le, get_or-take, get_or-drop, sets-eq, take_at, drop_at, get_or_at, length-take-le, take-nil, take-take, get_or-set_same, get_or-set_other, take-append_seam}
use Rattle.causal.specs.Tests.{both}
use Rattle.causal.specs.Lists.{part, tab, sum_below, zip8, eq_words}
use Rattle.causal.proofs.Tests.{split, both_true}

-- ---- parts

pub part_add : (ws : List ℕ) (a m n : ℕ) → part ws a (m + n) ≡ part ws a m ++ part ws (a + m) n
unfolding part
part_add ws a m n = take-add m n (drop a ws) ∙ ap (λ (l : List ℕ). take m (drop a ws) ++ take n l) (drop-drop m a ws)

pub part_cons : (ws : List ℕ) (a n : ℕ) → a < length ws → part ws a (suc n) ≡ get_or ws a 0 ∷ part ws (suc a) n
unfolding part
part_cons ws a n h = rw (drop-cons ws a 0 h)

pub part_length : (ws : List ℕ) (a n : ℕ) → a + n ≤ length ws → length (part ws a n) ≡ n
unfolding part
part_length ws a n h = simp (length-take, length-drop) (omega arith)

pub part_at : (ws : List ℕ) (a n i : ℕ) → i < n → get_or (part ws a n) i 0 ≡ get_or ws (a + i) 0
unfolding part
part_at ws a n i h = get_or-take n (drop a ws) i 0 h ∙ get_or-drop a ws i 0

drop_take : (b c : ℕ) (l : List ℕ) → drop b (take (b + c) l) ≡ take c (drop b l)
drop_take zero c l = rw (zero-add c)
drop_take (suc b) c [] = rw (suc-add b c) (sym (take-nil c))
drop_take (suc b) c (x ∷ l) = rw (suc-add b c) (drop_take b c l)

pub part_part : (ws : List ℕ) (a n b m : ℕ) → b + m ≤ n → part (part ws a n) b m ≡ part ws (a + b) m
unfolding part
part_part ws a n b m h = go (drop a ws) ∙ ap (take m) (drop-drop b a ws)
  where
    go : (l : List ℕ) → take m (drop b (take n l)) ≡ take m (drop b l)
    go l =
        let e : n ≡ b + (n - b) = omega arith in
        rw e (ap (take m) (drop_take b (n - b) l) ∙ take-take m (n - b) (drop b l) (omega arith))

-- a store
pub part_set_after : (ws : List ℕ) (a n i x : ℕ) → i < a → part (set ws i x) a n ≡ part ws a n
unfolding part
part_set_after ws a n i x h = ap (take n) (drop-set-lt a ws i x h)

pub part_set_before : (ws : List ℕ) (a n i x : ℕ) → a + n ≤ i → part (set ws i x) a n ≡ part ws a n
unfolding part
part_set_before ws a n i x h =
    let e : i ≡ a + (i - a) = omega arith in
    rw e (ap (take n) (drop-set-add a ws (i - a) x) ∙ take-set-le n (drop a ws) (i - a) x (omega arith))

-- a run of stores
pub part_sets_after : (ws : List ℕ) (a n i : ℕ) (vs : List ℕ) → i + length vs ≤ a → part (sets ws i vs) a n ≡ part ws a n
part_sets_after ws a n i [] h = refl
part_sets_after ws a n i (v ∷ vs) h = part_sets_after (set ws i v) a n (suc i) vs (omega arith) ∙ part_set_after ws a n i v (omega arith)

pub part_sets_before : (ws : List ℕ) (a n i : ℕ) (vs : List ℕ) → a + n ≤ i → part (sets ws i vs) a n ≡ part ws a n
part_sets_before ws a n i [] h = refl
part_sets_before ws a n i (v ∷ vs) h = part_sets_before (set ws i v) a n (suc i) vs (omega arith) ∙ part_set_before ws a n i v (omega arith)

pub part_sets_whole : (ws : List ℕ) (i : ℕ) (vs : List ℕ) → i + length vs ≤ length ws → part (sets ws i vs) i (length vs) ≡ vs
unfolding part
part_sets_whole ws i vs h =
    rw (sets-eq vs ws i h)
    (ap (λ (l : List ℕ). take (length vs) (drop i l)) (append_assoc (take i ws) vs (drop (i + length vs) ws))
    ∙ ap (take (length vs)) (drop_at (take i ws) (vs ++ drop (i + length vs) ws) i (length-take-le i ws (omega arith)))
    ∙ take_at vs (drop (i + length vs) ws) (length vs) refl)

-- ---- runs of stores

pub sets_append : {A : Type 0} (l : List A) (i : ℕ) (xs ys : List A) → sets l i (xs ++ ys) ≡ sets (sets l i xs) (i + length xs) ys
sets_append l i [] ys = rw (add-zero i)
sets_append l i (x ∷ xs) ys = rw (add-suc i (length xs), ← suc-add i (length xs)) (sets_append (set l i x) (suc i) xs ys)

-- a turn of the loop that stores xs from at on
pub sets_more : (l : List ℕ) (at : ℕ) (xs : List ℕ) (j : ℕ) → j < length xs
    → set (sets l at (take j xs)) (at + j) (get_or xs j 0) ≡ sets l at (take (j + 1) xs)
sets_more l at xs j h =
    rw (add-one j, take-suc xs j 0 h)
    (rw (sets_append l at (take j xs) (get_or xs j 0 ∷ []))
    (ap (λ (n : ℕ). set (sets l at (take j xs)) (at + n) (get_or xs j 0)) (sym (length-take-le j xs (omega arith)))))

-- what stands in a list after a run of stores
pub get_d_sets_after : (l : List ℕ) (i : ℕ) (vs : List ℕ) (j : ℕ) → i + length vs ≤ j → get_or (sets l i vs) j 0 ≡ get_or l j 0
get_d_sets_after l i [] j h = refl
get_d_sets_after l i (v ∷ vs) j h =
    get_d_sets_after (set l i v) (suc i) vs j (omega arith) ∙ get_or-set_other l i j v 0 (λ e. omega arith)

pub get_d_sets_before : (l : List ℕ) (i : ℕ) (vs : List ℕ) (j : ℕ) → j < i → get_or (sets l i vs) j 0 ≡ get_or l j 0
get_d_sets_before l i [] j h = refl
get_d_sets_before l i (v ∷ vs) j h =
    get_d_sets_before (set l i v) (suc i) vs j (omega arith) ∙ get_or-set_other l i j v 0 (λ e. omega arith)

pub get_d_sets_in : (l : List ℕ) (i : ℕ) (vs : List ℕ) (j : ℕ) → i + length vs ≤ length l → j < length vs → get_or (sets l i vs) (i + j) 0 ≡ get_or vs j 0
get_d_sets_in l i [] j h k = absurd (omega arith)
get_d_sets_in l i (v ∷ vs) zero h k =
    rw (add-zero i) (get_d_sets_before (set l i v) (suc i) vs i (omega arith) ∙ get_or-set_same l i v 0 (omega arith))
get_d_sets_in l i (v ∷ vs) (suc j) h k =
    rw (add-suc i j, ← suc-add i j) (get_d_sets_in (set l i v) (suc i) vs j (simp length-set (omega arith)) (omega arith))

-- a run of stores at the front
pub sets_front : (o vs : List ℕ) → length vs ≤ length o → sets o 0 vs ≡ vs ++ drop (length vs) o
sets_front o vs h = sets-eq vs o 0 (omega arith) ∙ rw zero-add refl

pub take_front : (o vs : List ℕ) (n : ℕ) → n ≡ length vs → length vs ≤ length o → take n (sets o 0 vs) ≡ vs
take_front o vs n e h = rw (e, sets_front o vs h) (take-append_seam vs (drop (length vs) o))

-- ---- words copied one by one

pub copy_none : (to from : List ℕ) (a b : ℕ) → to ≡ sets to b (part from a 0)
unfolding part
copy_none to from a b = refl

part_none : (ws : List ℕ) (a : ℕ) → part ws a 0 ≡ []
unfolding part
part_none ws a = refl

part_more : (ws : List ℕ) (a n : ℕ) → a + n < length ws → part ws a (n + 1) ≡ part ws a n ++ (get_or ws (a + n) 0 ∷ [])
part_more ws a n h = part_add ws a n 1 ∙ ap (λ (l : List ℕ). part ws a n ++ l) (part_cons ws (a + n) 0 h ∙ ap (λ (l : List ℕ). get_or ws (a + n) 0 ∷ l) (part_none ws (suc (a + n))))

pub copy_more : (to from : List ℕ) (a b n : ℕ) → a + n < length from → set (sets to b (part from a n)) (b + n) (get_or from (a + n) 0) ≡ sets to b (part from a (n + 1))
copy_more to from a b n h =
    sym
    (ap (sets to b) (part_more from a n h)
    ∙ sets_append to b (part from a n) (get_or from (a + n) 0 ∷ [])
    ∙ ap (λ (x : ℕ). set (sets to b (part from a n)) (b + x) (get_or from (a + n) 0)) (part_length from a n (omega arith)))

-- ---- a table

module _ {A : Type 0} where
  pub tab_length : (n : ℕ) (f : ℕ → A) → length (tab n f) ≡ n
  unfolding tab
  tab_length zero f = refl
  tab_length (suc n) f = length-append (tab n f) (f n ∷ []) ∙ rw (tab_length n f) (omega arith)

  -- one more: how a loop that goes up extends it
  pub tab_more : (n : ℕ) (f : ℕ → A) → tab (n + 1) f ≡ tab n f ++ (f n ∷ [])
  unfolding tab
  tab_more n f = rw add-one

  -- a turn of the loop that stores a table from at on
  pub sets_tab : (l : List A) (at : ℕ) (f : ℕ → A) (j : ℕ) → set (sets l at (tab j f)) (at + j) (f j) ≡ sets l at (tab (j + 1) f)
  sets_tab l at f j =
      rw (tab_more j f)
      (ap (λ (n : ℕ). set (sets l at (tab j f)) (at + n) (f j)) (sym (tab_length j f)) ∙ sym (sets_append l at (tab j f) (f j ∷ [])))

  pub tab_at : (n : ℕ) (f : ℕ → A) (i : ℕ) (d : A) → i < n → get_or (tab n f) i d ≡ f i
  unfolding tab
  tab_at zero f i d h = absurd (omega arith)
  tab_at (suc n) f i d h =
      ⊎_elim
      (λ (l : i < n). get_or-append (tab n f) (f n ∷ []) d i (rw (tab_length n f) l) ∙ tab_at n f i d l)
      (λ (q : i ≡ n). rw q (get_or_at (tab n f) (f n) [] d n (tab_length n f)))
      (split i n h)

-- ---- eight places

module _ (f : ℕ → ℕ → ℕ) (a b : List ℕ) where
  pub zip8_at : (i : ℕ) → i < 8 → get_or (zip8 f a b) i 0 ≡ f (get_or a i 0) (get_or b i 0)
  zip8_at zero h = refl
  zip8_at (suc zero) h = refl
  zip8_at (suc (suc zero)) h = refl
  zip8_at (suc (suc (suc zero))) h = refl
  zip8_at (suc (suc (suc (suc zero)))) h = refl
  zip8_at (suc (suc (suc (suc (suc zero))))) h = refl
  zip8_at (suc (suc (suc (suc (suc (suc zero)))))) h = refl
  zip8_at (suc (suc (suc (suc (suc (suc (suc zero))))))) h = refl
  zip8_at (suc (suc (suc (suc (suc (suc (suc (suc i)))))))) h = omega arith

-- ---- the same words

pub eq_words_refl : (ws : List ℕ) → eq_words ws ws ≡ true
unfolding eq_words both
eq_words_refl [] = refl
eq_words_refl (w ∷ ws) = rw (eq-eqb w w refl) (eq_words_refl ws)

pub eq_words_eq : (xs ys : List ℕ) → eq_words xs ys ≡ true → xs ≡ ys
unfolding eq_words
eq_words_eq [] [] e = refl
eq_words_eq [] (b ∷ ys) e = cc
eq_words_eq (a ∷ xs) [] e = cc
eq_words_eq (a ∷ xs) (b ∷ ys) e =
    let h = both_true (eqb a b) (eq_words xs ys) e in
    let p : a ≡ b = eqb-true a b h.0 in
    let q : xs ≡ ys = eq_words_eq xs ys h.1 in
    cc

-- ---- sums

pub sum_le : (f : ℕ → ℕ) → ((i : ℕ) → f i < 2) → (n : ℕ) → sum_below n f ≤ n
unfolding sum_below
sum_le f h zero = omega arith
sum_le f h (suc n) = omega (arith, sum_le f h n, h n)
