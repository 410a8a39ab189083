-- Laws of sets of ids, by membership. Assumes nothing.
use mathlib.Core.Path.{◌≡◌, refl, sym, ap, ◌∙◌}
use mathlib.Core.Bool.{Bool, true, false, cond}
use mathlib.Core.List.{List, [], ◌∷◌}
use Prim.Native.Nat.{ℕ, zero, suc, ◌+◌, ◌-◌, ◌*◌, ◌/◌, ◌%◌, ◌^◌, ◌≤◌, ◌<◌, max}
use mathlib.Core.Logic.{◌⊎◌, inl, inr, ⊎_elim}
use native.Mathlib.Nat.{zero-mul}
use native.Mathlib.Numerals.{add-one}
use native.Mathlib.Omega.{arith}
use mir.Syntax.{w32}
use Rattle.std.specs.Int.{bit_not}
use Rattle.std.specs.Int.{from_bool}
use lib.Bits.{bit_and, bit_or, bit_xor, or_lt, or_zero_r, xor_lt}
use lib.Count.{count_trailing_zeros}
use lib.Dec.{eqb, lit<}
use lib.ListN.{length, get_or, set, drop, length-set, get_or-replicate, get_or-eq_default, drop_of_length-le}
use lib.Seq.{drop-cons, ext_get_or, get_or-set_same, get_or-set_other, set_out}
use lib.Pow.{pow-lt}
use borrow.Author.Tests.{eq-eqb, ne_eqb, eqb-true, eqb-false}
use Rattle.causal.specs.Tests.{both, all_below}
use Rattle.causal.specs.Lists.{zip8, zeros, sum_below, eq_words}
use Rattle.causal.specs.Sets.{bit, has, is_in, IdSet, unite, minus, inserted, is_empty, word_in, subset_of, size_of, Within, lowest_in, lowest_of}
use Rattle.std.specs.Prelude.{None, Some}
use Rattle.causal.proofs.Tests.{lt_or_le, eq_or_ne, same_test, both_intro, both_true, all_at, all_both, all_intro, split}
use Rattle.causal.proofs.Lists.{zip8_at, sum_le, eq_words_refl, eq_words_eq}
use Rattle.causal.proofs.Bits.{bit_lt, bit_or_lem, bit_minus, and_not, bit_pow, bit_zero_word, bits_ext, same, same_eq, same_ne, tz_below, tz_at, or_is_zero, none_left, one_shl}

pub has_lt : (s : List ℕ) (k : ℕ) → has s k < 2
unfolding has
has_lt s k = bit_lt _ _

pub has_none : (k : ℕ) → has [] k ≡ 0
unfolding has
has_none k = bit_zero_word (k % 32)

-- past the eight words there is no member
pub has_in : (s : List ℕ) (k : ℕ) → length s ≤ 8 → has s k ≡ 1 → k < 256
unfolding has
has_in s k l h = ⊎_elim (λ p. p) (λ g. omega (arith, past g)) (lt_or_le k 256)
  where
    past : 256 ≤ k → bit (get_or s (k / 32) 0) (k % 32) ≡ 0
    past g = rw (get_or-eq_default s 0 {n = k / 32} (omega arith)) (bit_zero_word (k % 32))

-- the same of tests
pub past : (s : List ℕ) (k : ℕ) → 32 * length s ≤ k → is_in s k ≡ false
unfolding is_in has
past s k h = rw (get_or-eq_default s 0 {n = k / 32} (omega arith), bit_zero_word (k % 32)) refl

pub inserted_past : (s : List ℕ) (k : ℕ) → 32 * length s ≤ k → inserted s k ≡ s
unfolding inserted
inserted_past s k h = set_out s (k / 32) _ (omega arith)

pub is_in_lem : (s : List ℕ) (k : ℕ) → has s k ≡ 1 → is_in s k ≡ true
unfolding is_in
is_in_lem s k h = eq-eqb _ 1 h

pub in_is : (s : List ℕ) (k : ℕ) → is_in s k ≡ true → has s k ≡ 1
unfolding is_in
in_is s k h = eqb-true _ 1 h

pub out_is : (s : List ℕ) (k : ℕ) → is_in s k ≡ false → has s k ≡ 0
unfolding is_in
out_is s k h = omega (arith, eqb-false (has s k) 1 h, has_lt s k)

pub is_out : (s : List ℕ) (k : ℕ) → has s k ≡ 0 → is_in s k ≡ false
unfolding is_in
is_out s k h = ne_eqb _ 1 (λ (e : has s k ≡ 1). omega arith)

pub has_unite : (a b : List ℕ) (k : ℕ) → k < 256 → has (unite a b) k ≡ max (has a k) (has b k)
unfolding has unite
has_unite a b k h = rw (zip8_at bit_or a b (k / 32) (omega arith)) (bit_or_lem _ _ _)

pub has_minus : (a b : List ℕ) (k : ℕ) → k < 256 → has (minus a b) k ≡ has a k - has b k
unfolding has minus
has_minus a b k h = rw (zip8_at (λ x y. bit_xor (bit_or x y) y) a b (k / 32) (omega arith)) (bit_minus _ _ _)

-- word i of what is left, as the code has it
pub minus_at : (a b : List ℕ) → IdSet a → IdSet b → (i : ℕ) → i < 8 → bit_and (get_or a i 0) (bit_not w32 (get_or b i 0)) ≡ get_or (minus a b) i 0
unfolding minus
minus_at a b x y i h = and_not _ _ (x.fits i) (y.fits i) ∙ sym (zip8_at (λ x y. bit_xor (bit_or x y) y) a b i h)

-- inserting k: k is a member, and any other name is one where it was
pub has_inserted : (s : List ℕ) (k j : ℕ) → k < 32 * length s → has (inserted s k) j ≡ max (has s j) (same j k)
unfolding has inserted
has_inserted s k j h = ⊎_elim here there (eq_or_ne (j / 32) (k / 32))
  where
    here : j / 32 ≡ k / 32 → has (inserted s k) j ≡ max (has s j) (same j k)
    here e =
        rw (e, get_or-set_same s (k / 32) _ 0 (omega arith), bit_or_lem, bit_pow)
        (ap (λ (n : ℕ). max (bit (get_or s (k / 32) 0) (j % 32)) n) (low e))
      where
        low : j / 32 ≡ k / 32 → same (j % 32) (k % 32) ≡ same j k
        low q =
            ⊎_elim (λ p. same_eq _ _ (ap (λ (n : ℕ). n % 32) p) ∙ sym (same_eq j k p))
            (λ n. same_ne _ _ (λ m. n (omega arith)) ∙ sym (same_ne j k n)) (eq_or_ne j k)

    there : (j / 32 ≡ k / 32 → ⊥) → has (inserted s k) j ≡ max (has s j) (same j k)
    there n =
        rw (get_or-set_other s (k / 32) (j / 32) _ 0 n)
        (omega (arith, same_ne j k (λ p. n (ap (λ (x : ℕ). x / 32) p))))

-- ---- sets stay sets

pub ids_zip8 : (f : ℕ → ℕ → ℕ) → ((x y : ℕ) → x < 2 ^ 32 → y < 2 ^ 32 → f x y < 2 ^ 32) → (a b : List ℕ) → IdSet a → IdSet b → IdSet (zip8 f a b)
ids_zip8 f l a b x y =
    record {
      eight = refl;
      fits =
          λ i. ⊎_elim (λ h. rw (zip8_at f a b i h) (l _ _ (x.fits i) (y.fits i)))
          (λ h. rw (get_or-eq_default (zip8 f a b) 0 {n = i} h) (lit< tt)) (lt_or_le i 8);
    }

pub ids_unite : (a b : List ℕ) → IdSet a → IdSet b → IdSet (unite a b)
unfolding unite
ids_unite a b = ids_zip8 bit_or (λ x y. or_lt 32 x y) a b

pub ids_minus : (a b : List ℕ) → IdSet a → IdSet b → IdSet (minus a b)
unfolding minus
ids_minus a b = ids_zip8 (λ x y. bit_xor (bit_or x y) y) (λ x y p q. xor_lt 32 _ _ (or_lt 32 x y p q) q) a b

pub ids_inserted : (s : List ℕ) (k : ℕ) → IdSet s → IdSet (inserted s k)
unfolding inserted
ids_inserted s k w = record { eight = length-set s (k / 32) v ∙ w.eight; fits = fit }
  where
    v : ℕ
    v = bit_or (get_or s (k / 32) 0) (2 ^ (k % 32))

    small : v < 2 ^ 32
    small = or_lt 32 _ _ (w.fits (k / 32)) (pow-lt {i = k % 32} {j = 32} (omega arith))

    here : (i : ℕ) → i ≡ k / 32 → get_or (set s (k / 32) v) i 0 < 2 ^ 32
    here i e = ⊎_elim
        (λ h. rw (e, get_or-set_same s (k / 32) v 0 (omega arith)) small)
        (λ h. rw (set_out s (k / 32) v (omega arith)) (w.fits i)) (lt_or_le i (length s))

    fit : (i : ℕ) → get_or (set s (k / 32) v) i 0 < 2 ^ 32
    fit i = ⊎_elim (here i) (λ n. rw (get_or-set_other s (k / 32) i v 0 n) (w.fits i)) (eq_or_ne i (k / 32))

-- ---- a member more, place by place

-- eight words, each with what a test of its place gives it
pub insert_eight : (s : List ℕ) (k w : ℕ) → length s ≡ 8 → k < 256 → w ≡ 2 ^ (k % 32) → (a b c d e f g h : ℕ)
    → a ≡ cond (eqb (k / 32) 0) w 0 → b ≡ cond (eqb (k / 32) 1) w 0 → c ≡ cond (eqb (k / 32) 2) w 0 → d ≡ cond (eqb (k / 32) 3) w 0
    → e ≡ cond (eqb (k / 32) 4) w 0 → f ≡ cond (eqb (k / 32) 5) w 0 → g ≡ cond (eqb (k / 32) 6) w 0 → h ≡ cond (eqb (k / 32) 7) w 0
    → unite s (a ∷ b ∷ c ∷ d ∷ e ∷ f ∷ g ∷ h ∷ []) ≡ inserted s k
unfolding unite inserted
insert_eight s k w l m q a b c d e f g h ea eb ec ed ee ef eg eh = ext_get_or 0 (zip8 bit_or s more) (inserted s k) (sym (length-set s (k / 32) _ ∙ l)) word
  where
    more : List ℕ
    more = a ∷ b ∷ c ∷ d ∷ e ∷ f ∷ g ∷ h ∷ []

    at : (j : ℕ) → j < 8 → get_or more j 0 ≡ cond (eqb (k / 32) j) w 0
    at zero r = ea
    at (suc zero) r = eb
    at (suc (suc zero)) r = ec
    at (suc (suc (suc zero))) r = ed
    at (suc (suc (suc (suc zero)))) r = ee
    at (suc (suc (suc (suc (suc zero))))) r = ef
    at (suc (suc (suc (suc (suc (suc zero)))))) r = eg
    at (suc (suc (suc (suc (suc (suc (suc zero))))))) r = eh
    at (suc (suc (suc (suc (suc (suc (suc (suc j)))))))) r = omega arith

    word : (j : ℕ) → j < 8 → get_or (zip8 bit_or s more) j 0 ≡ get_or (inserted s k) j 0
    word j r = zip8_at bit_or s more j r ∙ ap (bit_or (get_or s j 0)) (at j r) ∙ ⊎_elim here there (eq_or_ne (k / 32) j)
      where
        here : k / 32 ≡ j → bit_or (get_or s j 0) (cond (eqb (k / 32) j) w 0) ≡ get_or (inserted s k) j 0
        here n = rw (← n) (rw (eq-eqb (k / 32) (k / 32) refl, q) (sym (get_or-set_same s (k / 32) _ 0 (omega arith))))

        there : (k / 32 ≡ j → ⊥) → bit_or (get_or s j 0) (cond (eqb (k / 32) j) w 0) ≡ get_or (inserted s k) j 0
        there n = rw (ne_eqb (k / 32) j n, get_or-set_other s (k / 32) j _ 0 (λ (x : j ≡ k / 32). n (sym x))) (or_zero_r (get_or s j 0))

-- word i, as the code has it
pub insert_at : (s : List ℕ) (k : ℕ) → IdSet s → k < 256 → (i : ℕ) → i < 8
    → bit_or (get_or s i 0) (from_bool (eqb i (k / 32)) * 2 ^ (k % 32) % 2 ^ 32) ≡ get_or (inserted s k) i 0
unfolding inserted
insert_at s k w l i h = ⊎_elim here there (eq_or_ne i (k / 32))
  where
    here : i ≡ k / 32 → bit_or (get_or s i 0) (from_bool (eqb i (k / 32)) * 2 ^ (k % 32) % 2 ^ 32) ≡ get_or (set s (k / 32) (bit_or (get_or s (k / 32) 0) (2 ^ (k % 32)))) i 0
    here e =
        let b : k / 32 < length s = omega (arith, w.eight) in
        rw e (rw (eq-eqb (k / 32) (k / 32) refl, one_shl (k % 32) (omega arith), get_or-set_same s (k / 32) _ 0 b) refl)

    there : (i ≡ k / 32 → ⊥) → bit_or (get_or s i 0) (from_bool (eqb i (k / 32)) * 2 ^ (k % 32) % 2 ^ 32) ≡ get_or (set s (k / 32) (bit_or (get_or s (k / 32) 0) (2 ^ (k % 32)))) i 0
    there n = rw (ne_eqb i (k / 32) n, zero-mul, get_or-set_other s (k / 32) i _ 0 n) (or_zero_r (get_or s i 0))

-- ---- the empty set

pub zero_at : (i : ℕ) → get_or zeros i 0 ≡ 0
zero_at i = ⊎_elim (λ (h : i < 8). get_or-replicate {A = ℕ} 8 i 0 0 h) (λ (h : 8 ≤ i). get_or-eq_default zeros 0 {n = i} h) (lt_or_le i 8)

pub has_zeros : (k : ℕ) → has zeros k ≡ 0
unfolding has
has_zeros k = ap (λ (w : ℕ). bit w (k % 32)) (zero_at (k / 32)) ∙ bit_zero_word (k % 32)

pub ids_zeros : IdSet zeros
ids_zeros = record { eight = refl; fits = λ i. rw (zero_at i) (lit< tt) }

-- ---- the lowest member

-- k is the lowest member
pub record IsLowest (s : List ℕ) (k : ℕ) : Type 0 where
  pub member : has s k ≡ 1
  pub least : (j : ℕ) → j < k → has s j ≡ 0

has_first : (w : ℕ) (ws : List ℕ) (j : ℕ) → j < 32 → has (w ∷ ws) j ≡ bit w j
unfolding has
has_first w ws j h =
    let e : j / 32 ≡ 0 = omega arith in
    let m : j % 32 ≡ j = omega arith in
    rw (e, m)

has_rest : (w : ℕ) (ws : List ℕ) (j : ℕ) → has (w ∷ ws) (j + 32) ≡ has ws j
unfolding has
has_rest w ws j =
    let e : (j + 32) / 32 ≡ suc (j / 32) = omega arith in
    let m : (j + 32) % 32 ≡ j % 32 = omega arith in
    rw (e, m)

-- what lowest_in answers, over words that fit
pub lowest_at : (s : List ℕ) (base k : ℕ) → ((i : ℕ) → get_or s i 0 < 2 ^ 32) → lowest_in s base ≡ Some k → (m : ℕ) × (k ≡ m + base) × IsLowest s m
unfolding lowest_in
lowest_at [] base k f h = let z : ◌≡◌ {A = ℕ} 0 1 = cc in absurd (omega arith)
lowest_at (w ∷ ws) base k f h = go (lowest_at ws (base + 32) k (λ i. f (suc i))) (eqb w 0) refl
  where
    go : (lowest_in ws (base + 32) ≡ Some k → (m : ℕ) × (k ≡ m + (base + 32)) × IsLowest ws m) → (t : Bool) → eqb w 0 ≡ t → (m : ℕ) × (k ≡ m + base) × IsLowest (w ∷ ws) m
    go ih true e =
        let h' : lowest_in ws (base + 32) ≡ Some k = rw e at h in
        let r = ih h' in
        let z : w ≡ 0 = eqb-true w 0 e in (
          r.0 + 32,
          omega (arith, r.1),
          record {
            member = has_rest w ws r.0 ∙ r.2.member;
            least =
                λ j l. ⊎_elim (λ p. has_first w ws j p ∙ ap (λ (n : ℕ). bit n j) z ∙ bit_zero_word j)
                (λ p.
                let q : j ≡ j - 32 + 32 = omega arith in
                ap (has (w ∷ ws)) q ∙ has_rest w ws (j - 32) ∙ r.2.least (j - 32) (omega arith))
                (lt_or_le j 32);
          },
        )
    go ih false e =
        let h' : Some (base + count_trailing_zeros 32 w) ≡ Some k = rw e at h in
        let q : base + count_trailing_zeros 32 w ≡ k = cc in
        let n : w ≡ 0 → ⊥ = eqb-false w 0 e in
        let t = tz_at 32 w (omega arith) (f 0) in (
          count_trailing_zeros 32 w,
          omega arith,
          record {
            member = has_first w ws (count_trailing_zeros 32 w) t.0 ∙ t.1;
            least = λ j l. has_first w ws j (omega arith) ∙ tz_below 32 w j l;
          },
        )

pub lowest_none : (s : List ℕ) (base : ℕ) → lowest_in s base ≡ None → (j : ℕ) → has s j ≡ 0
unfolding lowest_in
lowest_none [] base h j = has_none j
lowest_none (w ∷ ws) base h j = go (lowest_none ws (base + 32)) (eqb w 0) refl
  where
    go : (lowest_in ws (base + 32) ≡ None → (i : ℕ) → has ws i ≡ 0) → (t : Bool) → eqb w 0 ≡ t → has (w ∷ ws) j ≡ 0
    go ih true e =
        let h' : lowest_in ws (base + 32) ≡ None = rw e at h in
        let z : w ≡ 0 = eqb-true w 0 e in
        ⊎_elim (λ p. has_first w ws j p ∙ ap (λ (n : ℕ). bit n j) z ∙ bit_zero_word j)
        (λ p.
        let q : j ≡ j - 32 + 32 = omega arith in
        ap (has (w ∷ ws)) q ∙ has_rest w ws (j - 32) ∙ ih h' (j - 32))
        (lt_or_le j 32)
    go ih false e =
        let h' : Some (base + count_trailing_zeros 32 w) ≡ None = rw e at h in
        let z : ◌≡◌ {A = ℕ} 0 1 = cc in
        omega arith

pub lowest_of_at : (s : List ℕ) (k : ℕ) → IdSet s → lowest_of s ≡ Some k → IsLowest s k
unfolding lowest_of
lowest_of_at s k w h =
    let r = lowest_at s 0 k w.fits h in
    let e : r.0 ≡ k = omega (arith, r.1) in
    rw e at r.2

pub lowest_of_none : (s : List ℕ) → lowest_of s ≡ None → (j : ℕ) → has s j ≡ 0
unfolding lowest_of
lowest_of_none s h = lowest_none s 0 h

-- one word on, in a scan word by word: a word that is 0 is passed, any other has the answer
pub lowest_skip : (s : List ℕ) (i : ℕ) → i < length s → get_or s i 0 ≡ 0 → lowest_in (drop i s) (32 * i) ≡ lowest_in (drop (i + 1) s) (32 * (i + 1))
unfolding lowest_in
lowest_skip s i h e =
    let b : 32 * (i + 1) ≡ 32 * i + 32 = omega arith in
    rw (drop-cons s i 0 h, eq-eqb (get_or s i 0) 0 e, b, add-one)

pub lowest_hit : (s : List ℕ) (i : ℕ) → i < length s → (get_or s i 0 ≡ 0 → ⊥) → lowest_in (drop i s) (32 * i) ≡ Some (32 * i + count_trailing_zeros 32 (get_or s i 0))
unfolding lowest_in
lowest_hit s i h e = rw (drop-cons s i 0 h, ne_eqb (get_or s i 0) 0 e)

pub lowest_end : (s : List ℕ) (i : ℕ) → length s ≤ i → lowest_in (drop i s) (32 * i) ≡ None
unfolding lowest_in
lowest_end s i h = rw (drop_of_length-le s {i = i} h)

pub ruleset scan = (lowest_skip, lowest_hit, lowest_end)

-- ---- subset

pub subset_sound : (a b : List ℕ) → subset_of a b ≡ true → (k : ℕ) → k < 256 → has a k ≤ has b k
unfolding subset_of has word_in
subset_sound a b h k l =
    let w : word_in a b (k / 32) ≡ true = all_at (word_in a b) 8 h (k / 32) (omega arith) in
    let e : bit_or (get_or a (k / 32) 0) (get_or b (k / 32) 0) ≡ get_or b (k / 32) 0 = eqb-true _ _ w in
    omega (arith, bit_or_lem (get_or a (k / 32) 0) (get_or b (k / 32) 0) (k % 32), ap (λ (x : ℕ). bit x (k % 32)) e)

pub subset_complete : (a b : List ℕ) → IdSet a → IdSet b → ((k : ℕ) → k < 256 → has a k ≤ has b k) → subset_of a b ≡ true
unfolding subset_of has word_in
subset_complete a b x y f = all_intro (word_in a b) 8 word
  where
    word : (i : ℕ) → i < 8 → word_in a b i ≡ true
    word i l =
        eq-eqb _ _
        (bits_ext 32 _ _ (or_lt 32 _ _ (x.fits i) (y.fits i)) (y.fits i)
        (λ j m.
        let d : (j + 32 * i) / 32 ≡ i = omega arith in
        let r : (j + 32 * i) % 32 ≡ j = omega arith in
        let g = f (j + 32 * i) (omega arith) in
        let g' : bit (get_or a i 0) j ≤ bit (get_or b i 0) j = rw (d, r) at g in
        omega (arith, bit_or_lem (get_or a i 0) (get_or b i 0) j)))

-- ---- eight words at once

module _ (s : List ℕ) where
  abbrev OrTo : ℕ → ℕ
  OrTo zero = get_or s 0 0
  OrTo (suc i) = bit_or (OrTo i) (get_or s (suc i) 0)

  or_to : (i : ℕ) → eqb (OrTo i) 0 ≡ all_below (suc i) (λ j. eqb (get_or s j 0) 0)
  unfolding all_below both
  or_to zero = refl
  or_to (suc i) = or_is_zero (OrTo i) (get_or s (suc i) 0) ∙ ap (λ (t : Bool). both t (eqb (get_or s (suc i) 0) 0)) (or_to i)

  pub or_eight : eqb (bit_or (bit_or (bit_or (bit_or (bit_or (bit_or (bit_or (get_or s 0 0) (get_or s 1 0)) (get_or s 2 0)) (get_or s 3 0)) (get_or s 4 0)) (get_or s 5 0)) (get_or s 6 0)) (get_or s 7 0)) 0 ≡ is_empty s
  unfolding is_empty
  or_eight = or_to 7

-- `set == [0; 8]`
pub zero_words : (s : List ℕ) → length s ≡ 8 → eq_words s zeros ≡ is_empty s
unfolding is_empty
zero_words s l = same_test _ _ all none
  where
    all : eq_words s zeros ≡ true → all_below 8 (λ i. eqb (get_or s i 0) 0) ≡ true
    all e = all_intro _ 8 (λ i h. eq-eqb _ 0 (rw (eq_words_eq s zeros e) (zero_at i)))

    none : all_below 8 (λ i. eqb (get_or s i 0) 0) ≡ true → eq_words s zeros ≡ true
    none e =
        let q : s ≡ zeros = ext_get_or 0 s zeros l (λ i h. eqb-true _ 0 (all_at (λ j. eqb (get_or s j 0) 0) 8 e i (omega arith)) ∙ sym (zero_at i)) in
        rw q (eq_words_refl zeros)

-- eight words, each of them 0 where a test of its place holds and only there
pub eight_tests : (p : ℕ → Bool) (a b c d e f g h : ℕ) → eqb a 0 ≡ p 0 → eqb b 0 ≡ p 1 → eqb c 0 ≡ p 2 → eqb d 0 ≡ p 3 → eqb e 0 ≡ p 4 → eqb f 0 ≡ p 5 → eqb g 0 ≡ p 6 → eqb h 0 ≡ p 7
    → is_empty (a ∷ b ∷ c ∷ d ∷ e ∷ f ∷ g ∷ h ∷ []) ≡ all_below 8 p
unfolding is_empty all_below both
eight_tests p a b c d e f g h t0 t1 t2 t3 t4 t5 t6 t7 = λ i. both (both (both (both (both (both (both (t0 i) (t1 i)) (t2 i)) (t3 i)) (t4 i)) (t5 i)) (t6 i)) (t7 i)

-- a union is empty where both sets are
pub empty_unite : (a b : List ℕ) → is_empty (unite a b) ≡ both (is_empty a) (is_empty b)
unfolding is_empty unite
empty_unite a b =
    eight_tests (λ i. both (eqb (get_or a i 0) 0) (eqb (get_or b i 0) 0)) _ _ _ _ _ _ _ _ (zero_at 0) (zero_at 1) (zero_at 2) (zero_at 3) (zero_at 4) (zero_at 5) (zero_at 6) (zero_at 7)
    ∙ all_both 8 (λ i. eqb (get_or a i 0) 0) (λ i. eqb (get_or b i 0) 0)
  where
    zero_at : (i : ℕ) → eqb (bit_or (get_or a i 0) (get_or b i 0)) 0 ≡ both (eqb (get_or a i 0) 0) (eqb (get_or b i 0) 0)
    zero_at i = or_is_zero (get_or a i 0) (get_or b i 0)

pub subset_left : (a b : List ℕ) → is_empty (minus a b) ≡ subset_of a b
unfolding minus subset_of word_in
subset_left a b = eight_tests (word_in a b) _ _ _ _ _ _ _ _ (left 0) (left 1) (left 2) (left 3) (left 4) (left 5) (left 6) (left 7)
  where
    left : (i : ℕ) → eqb (bit_xor (bit_or (get_or a i 0) (get_or b i 0)) (get_or b i 0)) 0 ≡ eqb (bit_or (get_or a i 0) (get_or b i 0)) (get_or b i 0)
    left i = none_left (get_or a i 0) (get_or b i 0)

-- the empty set has no member
pub empty_out : (s : List ℕ) → is_empty s ≡ true → (k : ℕ) → k < 256 → is_in s k ≡ false
unfolding is_empty has
empty_out s h k l = is_out s k (ap (λ (w : ℕ). bit w (k % 32)) (eqb-true _ 0 (all_at (λ i. eqb (get_or s i 0) 0) 8 h (k / 32) (omega arith))) ∙ bit_zero_word (k % 32))

-- ---- sets with the same members are the same words

pub same_words : (a b : List ℕ) → IdSet a → IdSet b → ((k : ℕ) → k < 256 → has a k ≡ has b k) → a ≡ b
unfolding has
same_words a b x y f = ext_get_or 0 a b (x.eight ∙ sym y.eight) word
  where
    word : (i : ℕ) → i < length a → get_or a i 0 ≡ get_or b i 0
    word i l =
        bits_ext 32 _ _ (x.fits i) (y.fits i)
        (λ j m.
        let d : (j + 32 * i) / 32 ≡ i = omega arith in
        let r : (j + 32 * i) % 32 ≡ j = omega arith in
        let g = f (j + 32 * i) (omega (arith, x.eight)) in
        rw (d, r) at g)

-- ---- members, by cases

pub in_or_out : (s : List ℕ) (k : ℕ) → (has s k ≡ 1) ⊎ (has s k ≡ 0)
in_or_out s k = ⊎_elim (λ e. inl e) (λ e. inr (omega (arith, has_lt s k))) (eq_or_ne (has s k) 1)

pub subset_by : (a b : List ℕ) → IdSet a → IdSet b → Within a b → subset_of a b ≡ true
subset_by a b x y w = subset_complete a b x y (λ k l. ⊎_elim (λ e. omega (arith, w k e)) (λ e. omega arith) (in_or_out a k))

pub subset_within : (a b : List ℕ) → IdSet a → subset_of a b ≡ true → Within a b
subset_within a b x h k e = omega (arith, subset_sound a b h k (has_in a k (omega (arith, x.eight)) e), has_lt b k)

pub in_unite : (a b : List ℕ) (k : ℕ) → IdSet (unite a b) → has (unite a b) k ≡ 1 → (has a k ≡ 1) ⊎ (has b k ≡ 1)
in_unite a b k w h =
    let m = has_unite a b k (has_in (unite a b) k (omega (arith, w.eight)) h) in
    ⊎_elim (λ e. inl e) (λ e. inr (omega (arith, m, has_lt a k, has_lt b k))) (eq_or_ne (has a k) 1)

pub unite_left : (a b : List ℕ) → IdSet a → Within a (unite a b)
unite_left a b w k h = omega (arith, has_unite a b k (has_in a k (omega (arith, w.eight)) h), has_lt b k)

pub unite_right : (a b : List ℕ) → IdSet b → Within b (unite a b)
unite_right a b w k h = omega (arith, has_unite a b k (has_in b k (omega (arith, w.eight)) h), has_lt a k)

-- a union lies where both sets lie
pub unite_subset : (a b t : List ℕ) → IdSet a → IdSet b → IdSet t → subset_of (unite a b) t ≡ both (subset_of a t) (subset_of b t)
unite_subset a b t x y z = same_test _ _ to from
  where
    u : IdSet (unite a b)
    u = ids_unite a b x y

    to : subset_of (unite a b) t ≡ true → both (subset_of a t) (subset_of b t) ≡ true
    to h =
        let f = subset_within (unite a b) t u h in
        both_intro _ _ (subset_by a t x z (λ k m. f k (unite_left a b x k m))) (subset_by b t y z (λ k m. f k (unite_right a b y k m)))

    from : both (subset_of a t) (subset_of b t) ≡ true → subset_of (unite a b) t ≡ true
    from h =
        let p = both_true (subset_of a t) (subset_of b t) h in
        subset_by (unite a b) t u z (λ k m. ⊎_elim (λ e. subset_within a t x p.0 k e) (λ e. subset_within b t y p.1 k e) (in_unite a b k u m))

pub in_inserted : (v : List ℕ) (k j : ℕ) → k < 256 → IdSet v → has (inserted v k) j ≡ 1 → (j ≡ k) ⊎ (has v j ≡ 1)
in_inserted v k j l w h =
    let m = has_inserted v k j (omega (arith, w.eight)) in
    ⊎_elim (λ e. inl e) (λ e. inr (omega (arith, m, same_ne j k e))) (eq_or_ne j k)

pub inserted_old : (v : List ℕ) (k : ℕ) → k < 256 → IdSet v → Within v (inserted v k)
inserted_old v k l w j h = ⊎_elim
    (λ e. omega (arith, has_inserted v k j (omega (arith, w.eight)), same_eq j k e))
    (λ e. omega (arith, has_inserted v k j (omega (arith, w.eight)), same_ne j k e)) (eq_or_ne j k)

-- ---- how many

pub sum_less : (f : ℕ → ℕ) → ((i : ℕ) → f i < 2) → (n k : ℕ) → k < n → f k ≡ 0 → sum_below n f < n
unfolding sum_below
sum_less f h zero k l z = absurd (omega arith)
sum_less f h (suc n) k l z =
    ⊎_elim (λ (m : k < n). omega (arith, sum_less f h n k m z, h n)) (λ (m : k ≡ n). omega (arith, sum_le f h n, ap f m)) (split k n l)

-- a set that has not k has not all
pub size_less : (s : List ℕ) (k : ℕ) → k < 256 → is_in s k ≡ false → size_of s < 256
unfolding size_of
size_less s k h e = sum_less (has s) (has_lt s) 256 k h (out_is s k e)

pub size_le : (s : List ℕ) → size_of s ≤ 256
unfolding size_of
size_le s = sum_le (has s) (has_lt s) 256
