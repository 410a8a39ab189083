-- To walk the set bits of a word, lowest first: `t = trailing_zeros(rest)` is the next, and `rest & (rest - 1)` is without it.
-- A fold over all bits that passes over clear ones stays as it is in between. Assumes nothing.
use Prim.Native.Nat.{ℕ, zero, suc, ◌+◌, ◌-◌, ◌*◌, ◌/◌, ◌%◌, ◌^◌, ◌≤◌, ◌<◌, min}
use mathlib.Core.Path.{◌≡◌, refl, sym, ap, ap₂, ◌∙◌}
use mathlib.Core.List.{List}
use mathlib.Core.Logic.{◌⊎◌, inl, inr, ⊎_elim}
use native.Mathlib.Nat.{pow-suc, add-suc, add-zero}
use native.Mathlib.Numerals.{add-one}
use native.Mathlib.Omega.{arith}
use lib.Bits.{bit_and, and_le_r}
use lib.Count.{count_trailing_zeros, under, ones, ones_step}
use lib.Dec.{eqb-suc-suc}
use lib.ListN.{length, take, get_or}
use Rattle.std.specs.List.{sum_by}
use Rattle.std.proofs.lemmas.List.Sums.{sum_by_more}
use Rattle.std.proofs.Math.Seq.{take-length}
use Rattle.causal.specs.Lists.{sum_below}
use Rattle.causal.specs.Sets.{IdSet, bit, has, size_of}
use Rattle.causal.proofs.Tests.{lt_or_le, split}
use Rattle.causal.proofs.Bits.{bit_lt, bit_and_lem, bit_low, bit_suc, bit_zero_word, flag, same, same_eq, same_ne, tz_below, tz_at}

-- ---- the lowest bit is taken off

same_suc : (i j : ℕ) → same (suc i) (suc j) ≡ same i j
unfolding same
same_suc i j = ap flag (eqb-suc-suc i j)

cleared : (k r i : ℕ) → 0 < r → r < 2 ^ k → min (bit r i) (bit (r - 1) i) ≡ bit r i - same i (count_trailing_zeros k r)
unfolding count_trailing_zeros
cleared zero r i p h = absurd (omega arith)
cleared (suc k) r i p h = go (λ l j. cleared k (r / 2) j l (omega (arith, half))) (r % 2) refl i
  where
    half : r < 2 ^ k * 2
    half = rw pow-suc at h

    go : (0 < r / 2 → (j : ℕ) → min (bit (r / 2) j) (bit (r / 2 - 1) j) ≡ bit (r / 2) j - same j (count_trailing_zeros k (r / 2)))
        → (d : ℕ) → r % 2 ≡ d → (j : ℕ) → min (bit r j) (bit (r - 1) j) ≡ bit r j - same j (under d (count_trailing_zeros k (r / 2)))
    go ih zero e zero = omega (arith, bit_low r)
    go ih zero e (suc j) =
        let q : (r - 1) / 2 ≡ r / 2 - 1 = omega arith in
        rw (bit_suc, bit_suc, q, same_suc) (ih (omega arith) j)
    go ih (suc d) e zero = omega (arith, bit_low r, bit_low (r - 1), same_eq 0 0 refl)
    go ih (suc d) e (suc j) =
        let q : (r - 1) / 2 ≡ r / 2 = omega arith in
        rw (bit_suc, bit_suc, q) (omega (arith, same_ne (suc j) 0 (λ (z : suc j ≡ 0). omega arith)))

pub bit_cleared : (k r i : ℕ) → 0 < r → r < 2 ^ k → bit (bit_and r (r - 1)) i ≡ bit r i - same i (count_trailing_zeros k r)
bit_cleared k r i p h = bit_and_lem r (r - 1) i ∙ cleared k r i p h

-- ---- a walk over the set bits of a word

-- all set bits of w below b are passed, and rest has the others
pub record Passed (w b rest : ℕ) : Type 0 where
  pub small : b ≤ 32
  pub fits : rest < 2 ^ 32
  pub low : (i : ℕ) → i < b → bit rest i ≡ 0
  pub high : (i : ℕ) → b ≤ i → bit rest i ≡ bit w i

-- the next set bit is t
pub record Next (w b rest t : ℕ) : Type 0 where
  pub from : b ≤ t
  pub below : t < 32
  pub member : bit w t ≡ 1
  pub gap : (i : ℕ) → b ≤ i → i < t → bit w i ≡ 0
  pub falls : bit_and rest (rest - 1) < rest
  pub then : Passed w (t + 1) (bit_and rest (rest - 1))

pub passed_none : (w : ℕ) → w < 2 ^ 32 → Passed w 0 w
passed_none w f = record { small = omega arith; fits = f; low = λ i (l : i < 0). absurd (omega arith); high = λ i l. refl }

pub next : (w b rest : ℕ) → Passed w b rest → (rest ≡ 0 → ⊥) → Next w b rest (count_trailing_zeros 32 rest)
next w b rest p n =
    record {
      from = from;
      below = at.0;
      member = sym (p.high t from) ∙ at.1;
      gap = λ i l h. sym (p.high i l) ∙ tz_below 32 rest i h;
      falls = omega (arith, and_le_r rest (rest - 1));
      then =
          record {
            small = omega (arith, at.0);
            fits = omega (arith, and_le_r rest (rest - 1), p.fits);
            low = λ i h. bit_cleared 32 rest i pos p.fits ∙ gone i (split i t (rw add-one at h));
            high =
                λ i h. omega (arith, bit_cleared 32 rest i pos p.fits, p.high i (omega (arith, from)), same_ne i t (λ (e : i ≡ t). omega arith));
          };
    }
  where
    t : ℕ
    t = count_trailing_zeros 32 rest

    pos : 0 < rest
    pos = omega arith

    at : (t < 32) × (bit rest t ≡ 1)
    at = tz_at 32 rest pos p.fits

    from : b ≤ t
    from = ⊎_elim (λ (l : t < b). absurd (omega (arith, p.low t l, at.1))) (λ h. h) (lt_or_le t b)

    gone : (i : ℕ) → (i < t) ⊎ (i ≡ t) → bit rest i - same i t ≡ 0
    gone i (inl l) = omega (arith, tz_below 32 rest i l)
    gone i (inr e) = omega (arith, same_eq i t e, bit_lt rest i)

pub passed_all : (w b rest : ℕ) → Passed w b rest → rest ≡ 0 → (i : ℕ) → b ≤ i → bit w i ≡ 0
passed_all w b rest p z i l = sym (p.high i l) ∙ ap (λ (r : ℕ). bit r i) z ∙ bit_zero_word i

-- ---- a fold over all 32 bits that passes over clear ones

pub skip : {A : Type 0} (F : ℕ → A) (m n : ℕ) → m ≤ n → ((k : ℕ) → m ≤ k → k < n → F (suc k) ≡ F k) → F n ≡ F m
skip F m zero h f = let e : m ≡ 0 = omega arith in ap F (sym e)
skip F m (suc n) h f = go (lt_or_le m (suc n)) (λ l. skip F m n l (λ k a b. f k a (omega arith)))
  where
    go : (m < suc n) ⊎ (suc n ≤ m) → (m ≤ n → F n ≡ F m) → F (suc n) ≡ F m
    go (inl l) ih = f n (omega arith) (omega arith) ∙ ih (omega arith)
    go (inr l) ih = let e : suc n ≡ m = omega arith in ap F e

module _ {A : Type 0} (F : ℕ → A) (w : ℕ) (same_at : (i : ℕ) → i < 32 → bit w i ≡ 0 → F (suc i) ≡ F i) where
  -- to the next set bit
  pub fold_next : (b rest t : ℕ) → Next w b rest t → F t ≡ F b
  fold_next b rest t x = skip F b t x.from (λ k l h. same_at k (omega (arith, x.below)) (x.gap k l h))

  -- to the end of the word
  pub fold_end : (b rest : ℕ) → Passed w b rest → rest ≡ 0 → F 32 ≡ F b
  fold_end b rest p z = skip F b 32 p.small (λ k l h. same_at k h (passed_all w b rest p z k l))

-- ---- the members of word j of a set

pub has_word : (s : List ℕ) (j i : ℕ) → i < 32 → has s (32 * j + i) ≡ bit (get_or s j 0) i
unfolding has
has_word s j i h =
    let d : (32 * j + i) / 32 ≡ j = omega arith in
    let m : (32 * j + i) % 32 ≡ i = omega arith in
    rw (d, m) refl

-- ---- how many

sum_front : (f : ℕ → ℕ) (n : ℕ) → sum_below (suc n) f ≡ f 0 + sum_below n (λ i. f (suc i))
unfolding sum_below
sum_front f zero = omega arith
sum_front f (suc n) = omega (arith, sum_front f n)

pub sum_ext : (f g : ℕ → ℕ) (n : ℕ) → ((i : ℕ) → i < n → f i ≡ g i) → sum_below n f ≡ sum_below n g
unfolding sum_below
sum_ext f g zero h = refl
sum_ext f g (suc n) h = omega (arith, sum_ext f g n (λ i l. h i (omega arith)), h n (omega arith))

pub sum_add : (f : ℕ → ℕ) (m n : ℕ) → sum_below (m + n) f ≡ sum_below m f + sum_below n (λ i. f (m + i))
unfolding sum_below
sum_add f m zero = ap (λ (n : ℕ). sum_below n f) (add-zero m) ∙ sym (add-zero (sum_below m f))
sum_add f m (suc n) = rw add-suc (omega (arith, sum_add f m n))

ones_zero : ones 0 ≡ 0
unfolding ones
ones_zero = refl

pub ones_bits : (k w : ℕ) → w < 2 ^ k → ones w ≡ sum_below k (bit w)
unfolding sum_below
ones_bits zero w h = let z : w ≡ 0 = omega arith in rw z ones_zero
ones_bits (suc k) w h =
    let half : w < 2 ^ k * 2 = rw pow-suc at h in
    ones_step w
    ∙ ap₂ (λ (x y : ℕ). x + y) (sym (bit_low w)) (ones_bits k (w / 2) (omega arith) ∙ sum_ext (bit (w / 2)) (λ i. bit w (suc i)) k (λ i l. sym (bit_suc w i)))
    ∙ sym (sum_front (bit w) k)

-- one more word of a set
size_more : (s : List ℕ) (j : ℕ) → get_or s j 0 < 2 ^ 32 → sum_below (32 * suc j) (has s) ≡ sum_below (32 * j) (has s) + ones (get_or s j 0)
size_more s j f =
    let e : 32 * suc j ≡ 32 * j + 32 = omega arith in
    rw e
    (sum_add (has s) (32 * j) 32
    ∙ ap (λ (x : ℕ). sum_below (32 * j) (has s) + x) (sum_ext (λ i. has s (32 * j + i)) (bit (get_or s j 0)) 32 (λ i h. has_word s j i h) ∙ sym (ones_bits 32 (get_or s j 0) f)))

-- a word at a time: what `set.iter().map(count_ones).sum()` adds up
words_more : (s : List ℕ) (j : ℕ) → j ≤ length s → IdSet s → sum_by ones (take j s) ≡ sum_below (32 * j) (has s)
unfolding sum_below
words_more s zero h w = refl
words_more s (suc j) h w =
    let m : sum_by ones (take (j + 1) s) ≡ sum_by ones (take j s) + ones (get_or s j 0) = sum_by_more ones s j 0 (omega arith) in
    let m' = rw add-one at m in
    m' ∙ ap (λ (x : ℕ). x + ones (get_or s j 0)) (words_more s j (omega arith) w) ∙ sym (size_more s j (w.fits j))

pub size_words : (s : List ℕ) → IdSet s → sum_by ones s ≡ size_of s
unfolding size_of
size_words s w =
    let n : 32 * length s ≡ 256 = omega (arith, w.eight) in
    ap (λ (l : List ℕ). sum_by ones l) (sym (take-length s)) ∙ words_more s (length s) (omega arith) w ∙ ap (λ (n : ℕ). sum_below n (has s)) n
