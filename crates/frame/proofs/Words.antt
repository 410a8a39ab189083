-- Laws of words: kinds and payloads, the check sum, the words of a clock, the words of a set of ids. Assumes nothing.
use Rattle.std.proofs.Common.{◌≡◌, ℕ, zero, suc, ◌+◌, ◌-◌, ◌*◌, ◌/◌, ◌%◌, ◌<◌, ◌≤◌, max, Bool, true, false, cond, eqb, ltb, leb, ◌⊎◌, List, [], ◌∷◌, ◌++◌, length, get_or, take, sym, refl, ap, ◌∙◌, inl, inr, ⊎_elim, append_assoc, append-nil, zero-le, le_refl, add-zero, add-suc, add_comm, add-one, arith, length-append, take-suc, ltb-true, le-ltb, lt-ltb, eq-eqb, ne_eqb, eqb-true, le-leb, leb-true}
use mathlib.Core.List.{foldl, foldl-append}
use lib.ListN.{get_or-append}
use lib.Seq.{get_or_at}
use borrow.Author.Tests.{lt-leb}
use Rattle.causal.specs.Tests.{both, either}
use Rattle.causal.specs.Lists.{zeros, sum_below}
use Rattle.causal.specs.Sets.{bit, has, is_in, IdSet, inserted, size_of}
use Rattle.causal.proofs.Tests.{both_false, both_true, both_intro, lt_or_le, eq_or_ne, not_so, false_true}
use Rattle.causal.proofs.Lists.{tab_length, tab_at}
use Rattle.causal.proofs.Bits.{same, same_eq, same_ne, bit_zero_word}
use Rattle.causal.proofs.Sets.{has_lt, has_inserted, ids_inserted, is_in_lem, in_is, out_is, is_out, in_inserted, in_or_out, same_words, ids_zeros, has_zeros}
use Rattle.causal.proofs.Walk.{skip, has_word}
use Rattle.frame.specs.Entries.{ids_ok}
use Rattle.frame.specs.Words.{kind_of, payload, is_kind, kind_is, clock_word, clock_words, clock_place, clock_from, id_word, id_word_if, id_words_to, id_words, id_words_in, id_in, ids_from, total, sum_word, summed}
use Rattle.frame.specs.Reading.{id_ok, ascends}
use Rattle.frame.proofs.Entries.{ids_facts}

-- ---- kinds

-- a word of the kind k, which is one of the format's
pub kind_is_lem : (k w : ℕ) → kind_is k w ≡ true → kind_of w ≡ k
unfolding kind_is
kind_is_lem k w e = eqb-true (kind_of w) k (both_true (is_kind k) _ e).1

pub is_kind_lem : (k w : ℕ) → is_kind k ≡ true → kind_of w ≡ k → kind_is k w ≡ true
unfolding kind_is
is_kind_lem k w h e = both_intro _ _ h (eq-eqb (kind_of w) k e)

-- ---- the sum

pub total_append : (a b : List ℕ) → total (a ++ b) ≡ total a + total b
unfolding total
total_append [] b = omega arith
total_append (w ∷ a) b = omega (arith, total_append a b)

-- one more word
pub total_snoc : (ws : List ℕ) (w : ℕ) → total (ws ++ (w ∷ [])) ≡ total ws + payload w
unfolding total
total_snoc ws w = total_append ws (w ∷ []) ∙ omega arith

-- a wrapping addition keeps the sum modulo 2^28: the kind and what wraps are multiples of it
pub wrapped : (s w t : ℕ) → s % 268435456 ≡ t % 268435456 → (s + w) % 4294967296 % 268435456 ≡ (t + payload w) % 268435456
wrapped s w t h = thin (s + w) ∙ apart s w ∙ ap (λ (x : ℕ). (x + payload w) % 268435456) h ∙ sym (again t (payload w))
  where
    thin : (x : ℕ) → x % 4294967296 % 268435456 ≡ x % 268435456
    thin x = omega arith

    apart : (a b : ℕ) → (a + b) % 268435456 ≡ (a % 268435456 + b % 268435456) % 268435456
    apart a b = omega arith

    again : (a b : ℕ) → (a + b) % 268435456 ≡ (a % 268435456 + b) % 268435456
    again a b = omega arith

pub length_summed : (ws : List ℕ) → length (summed ws) ≡ length ws + 1
unfolding summed
length_summed ws = length-append ws (sum_word ws ∷ [])

-- a word more, and sums that are added
pub sum_more : (s w : ℕ) (ws : List ℕ) → s % 268435456 ≡ total ws % 268435456 → (s + w) % 4294967296 % 268435456 ≡ total (ws ++ (w ∷ [])) % 268435456
sum_more s w ws h = wrapped s w (total ws) h ∙ ap (λ (x : ℕ). x % 268435456) (sym (total_snoc ws w))

pub sum_first : (s w : ℕ) (ws : List ℕ) → s % 268435456 ≡ total ws % 268435456 → (s + w) % 4294967296 % 268435456 ≡ total (w ∷ ws) % 268435456
unfolding total
sum_first s w ws h = wrapped s w (total ws) h ∙ ap (λ (x : ℕ). x % 268435456) (add_comm (total ws) (payload w))

pub sum_added : (s u : ℕ) (ws vs : List ℕ) → s % 268435456 ≡ total ws % 268435456 → u % 268435456 ≡ total vs % 268435456
    → (s + u) % 4294967296 % 268435456 ≡ total (ws ++ vs) % 268435456
sum_added s u ws vs h k =
    wrapped s u (total ws) h ∙ ap (λ (x : ℕ). (total ws + x) % 268435456) k ∙ last (total ws) (total vs) ∙ ap (λ (x : ℕ). x % 268435456) (sym (total_append ws vs))
  where
    last : (a b : ℕ) → (a + b % 268435456) % 268435456 ≡ (a + b) % 268435456
    last a b = omega arith

-- ---- the words of a clock

pub length_clock : (n : ℕ) (c : List ℕ) → length (clock_words n c) ≡ n
unfolding clock_words
length_clock n c = tab_length n (clock_word c)

pub clock_at : (n : ℕ) (c : List ℕ) (j : ℕ) → j < n → get_or (clock_words n c) j 0 ≡ clock_word c j
unfolding clock_words
clock_at n c j h = tab_at n (clock_word c) j 0 h

pub clock_from_at : (ws : List ℕ) (i n j : ℕ) → j < 8 → get_or (clock_from ws i n) j 0 ≡ clock_place ws i n j
unfolding clock_from
clock_from_at ws i n j h = tab_at 8 (clock_place ws i n) j 0 h

pub clock_from_eight : (ws : List ℕ) (i n : ℕ) → length (clock_from ws i n) ≡ 8
unfolding clock_from
clock_from_eight ws i n = tab_length 8 (clock_place ws i n)

-- ---- the words of a set of ids

pub ids_more : (s : List ℕ) (k : ℕ) → is_in s k ≡ true → id_words_to s (suc k) ≡ id_words_to s k ++ (id_word k ∷ [])
unfolding id_words_to id_word_if
ids_more s k e = rw e refl

pub ids_same : (s : List ℕ) (k : ℕ) → is_in s k ≡ false → id_words_to s (suc k) ≡ id_words_to s k
unfolding id_words_to id_word_if
ids_same s k e = rw e (append-nil (id_words_to s k))

-- as many words as members
pub ids_length : (s : List ℕ) (k : ℕ) → length (id_words_to s k) ≡ sum_below k (has s)
unfolding id_words_to sum_below id_word_if
ids_length s zero = refl
ids_length s (suc k) = length-append (id_words_to s k) (id_word_if (is_in s k) k) ∙ omega (arith, ids_length s k, one (is_in s k) refl)
  where
    one : (t : Bool) → is_in s k ≡ t → length (id_word_if t k) ≡ has s k
    one true e = sym (in_is s k e)
    one false e = sym (out_is s k e)

pub ids_size : (s : List ℕ) → length (id_words s) ≡ size_of s
unfolding id_words size_of
ids_size s = ids_length s 256

-- a member, asked of its office's word
pub in_word : (s : List ℕ) (j b : ℕ) → b < 32 → is_in s (32 * j + b) ≡ eqb (bit (get_or s j 0) b) 1
unfolding is_in
in_word s j b h = ap (λ (x : ℕ). eqb x 1) (has_word s j b h)

-- the same by the serial, where a test r of the word was made
pub in_serial : {r : Bool} (s : List ℕ) (office serial : ℕ) → 1 ≤ serial → serial ≤ 32 → r ≡ eqb (bit (get_or s office 0) (serial - 1)) 1
    → r ≡ is_in s (32 * office + (serial - 1))
in_serial s office serial l h e = e ∙ sym (in_word s office (serial - 1) (omega arith))

-- the words of word j, and of all words before it
pub ids_in : (s : List ℕ) (j b : ℕ) → b ≤ 32 → id_words_to s (32 * j + b) ≡ id_words_to s (32 * j) ++ id_words_in j (get_or s j 0) b
unfolding id_words_to id_words_in
ids_in s j zero h = rw add-zero (sym (append-nil (id_words_to s (32 * j))))
ids_in s j (suc b) h =
    rw add-suc
    (ap (λ (l : List ℕ). l ++ id_word_if (is_in s (32 * j + b)) (32 * j + b)) (ids_in s j b (omega arith))
    ∙ append_assoc (id_words_to s (32 * j)) (id_words_in j (get_or s j 0) b) (id_word_if (is_in s (32 * j + b)) (32 * j + b))
    ∙ ap (λ (t : Bool). id_words_to s (32 * j) ++ (id_words_in j (get_or s j 0) b ++ id_word_if t (32 * j + b)))
    (in_word s j b (omega arith)))

-- ---- ids against words

-- the name of an id, as a payload: it ascends as ids do
abbrev pub name_at : ℕ → ℕ
name_at k = k / 32 * 256 + (k % 32 + 1)

pub name_up : (j k : ℕ) → name_at j < name_at k → j < k
name_up j k h = omega arith

pub up_name : (j k : ℕ) → j < k → name_at j < name_at k
up_name j k h = omega arith

pub id_payload : (k : ℕ) → k < 256 → payload (id_word k) ≡ name_at k
id_payload k h = small (k / 32) (k % 32) (omega arith) (omega arith)
  where
    small : (q r : ℕ) → q < 8 → r < 32 → (1610612736 + (q * 256 + (r + 1))) % 268435456 ≡ q * 256 + (r + 1)
    small q r hq hr = omega arith

pub id_kind : (k : ℕ) → k < 256 → kind_of (id_word k) ≡ 6
id_kind k h = small (k / 32) (k % 32) (omega arith) (omega arith)
  where
    small : (q r : ℕ) → q < 8 → r < 32 → (1610612736 + (q * 256 + (r + 1))) / 268435456 ≡ 6
    small q r hq hr = omega arith

pub id_back : (k : ℕ) → k < 256 → id_in (id_word k) ≡ k
id_back k h = rw (id_payload k h) (omega arith)

-- what the test of one word of an id says
pub record IdFacts (n last w : ℕ) : Type 0 where
  pub above : last < payload w
  pub word : w ≡ id_word (id_in w)
  pub below : id_in w < 32 * n
  pub name : name_at (id_in w) ≡ payload w
  pub office : payload w / 256 < n
  pub from : 1 ≤ payload w % 256
  pub to : payload w % 256 ≤ 32

pub id_facts : (n last w : ℕ) → id_ok n last w ≡ true → IdFacts n last w
unfolding id_ok
id_facts n last w e =
    let a = both_true (kind_is 6 w) _ e in
    let b = both_true (ltb last (payload w)) _ a.1 in
    let c = both_true (ltb (payload w / 256) n) _ b.1 in
    let d = both_true (leb 1 (payload w % 256)) _ c.1 in
    make (ltb-true last (payload w) b.0) (kind_is_lem 6 w a.0) (ltb-true (payload w / 256) n c.0) (leb-true 1 (payload w % 256) d.0) (leb-true (payload w % 256) 32 d.1)
  where
    make : last < payload w → kind_of w ≡ 6 → payload w / 256 < n → 1 ≤ payload w % 256 → payload w % 256 ≤ 32 → IdFacts n last w
    make up k o f t =
        let q : id_in w / 32 ≡ payload w / 256 = omega arith in
        let r : id_in w % 32 + 1 ≡ payload w % 256 = omega arith in
        let m : name_at (id_in w) ≡ payload w = omega arith in
        record { above = up; word = omega arith; below = omega arith; name = m; office = o; from = f; to = t }

pub facts_id : (n last k : ℕ) → n ≤ 8 → k < 32 * n → last < name_at k → id_ok n last (id_word k) ≡ true
unfolding id_ok is_kind either both
facts_id n last k h l up =
    let p : payload (id_word k) ≡ name_at k = id_payload k (omega arith) in
    both_intro _ _ (is_kind_lem 6 (id_word k) refl (id_kind k (omega arith)))
    (both_intro _ _ (lt-ltb last (payload (id_word k)) (omega arith))
    (both_intro _ _ (lt-ltb (payload (id_word k) / 256) n (rw p (omega arith)))
    (both_intro _ _ (le-leb 1 (payload (id_word k) % 256) (rw p (omega arith))) (le-leb (payload (id_word k) % 256) 32 (rw p (omega arith))))))

-- ---- words that ascend are the words of their set

-- sets with the same members below m
ids_ext : (a b : List ℕ) (m : ℕ) → ((j : ℕ) → j < m → has a j ≡ has b j) → id_words_to a m ≡ id_words_to b m
unfolding id_words_to is_in
ids_ext a b zero f = refl
ids_ext a b (suc m) f = rw (ids_ext a b m (λ j h. f j (omega arith)), f m (omega arith)) refl

-- the words of s with one id more, which is above all of s
ids_snoc : (s : List ℕ) (k : ℕ) → IdSet s → k < 256 → ((j : ℕ) → has s j ≡ 1 → j < k) → id_words (inserted s k) ≡ id_words s ++ (id_word k ∷ [])
unfolding id_words
ids_snoc s k w h top =
    skip (id_words_to (inserted s k)) (suc k) 256 h (λ j l _. ids_same (inserted s k) j (is_out (inserted s k) j (above j l)))
    ∙ ids_more (inserted s k) k (is_in_lem (inserted s k) k here)
    ∙ ap (λ (l : List ℕ). l ++ (id_word k ∷ [])) (ids_ext (inserted s k) s k low ∙ sym (skip (id_words_to s) k 256 (omega arith) (λ j l _. ids_same s j (is_out s j (none j l)))))
  where
    at : (j : ℕ) → has (inserted s k) j ≡ max (has s j) (same j k)
    at j = has_inserted s k j (omega (arith, w.eight))

    none : (j : ℕ) → k ≤ j → has s j ≡ 0
    none j l = ⊎_elim (λ (e : has s j ≡ 1). absurd (omega (arith, top j e))) (λ e. e) (in_or_out s j)

    here : has (inserted s k) k ≡ 1
    here = omega (arith, at k, same_eq k k refl, has_lt s k)

    above : (j : ℕ) → suc k ≤ j → has (inserted s k) j ≡ 0
    above j l = omega (arith, at j, none j (omega arith), same_ne j k (λ (e : j ≡ k). omega arith))

    low : (m : ℕ) → m < k → has (inserted s k) m ≡ has s m
    low m l = omega (arith, at m, same_ne m k (λ (e : m ≡ k). omega arith))

-- what words of ids make of a set
abbrev pub Fold : List ℕ → List ℕ → List ℕ
Fold s ws = foldl (λ (t : List ℕ) (w : ℕ). inserted t (id_in w)) s ws

pub record Ascended (s ws : List ℕ) : Type 0 where
  pub words : id_words (Fold s ws) ≡ id_words s ++ ws
  pub set : IdSet (Fold s ws)

pub ascended : (n last : ℕ) (s ws : List ℕ) → n ≤ 8 → IdSet s → ((j : ℕ) → has s j ≡ 1 → name_at j ≤ last) → ascends n last ws ≡ true → Ascended s ws
unfolding ascends
ascended n last s [] h w low e = record { words = sym (append-nil (id_words s)); set = w }
ascended n last s (v ∷ ws) h w low e =
    let a = both_true (id_ok n last v) _ e in
    let f = id_facts n last v a.0 in
    let k : ℕ = id_in v in
    let k8 : k < 256 = omega (arith, f.below) in
    let top : (j : ℕ) → has s j ≡ 1 → j < k = λ j m. name_up j k (omega (arith, low j m, f.above, f.name)) in
    let r =
    ascended n (payload v) (inserted s k) ws h (ids_inserted s k w)
    (λ j m.
    ⊎_elim (λ (q : j ≡ k). omega (arith, ap name_at q, f.name)) (λ (q : has s j ≡ 1). omega (arith, low j q, f.above)) (in_inserted s k j k8 w m))
    a.1
    in
    record {
      words =
          r.words ∙ ap (λ (l : List ℕ). l ++ ws) (ids_snoc s k w k8 top) ∙ append_assoc (id_words s) (id_word k ∷ []) ws
          ∙ ap (λ (x : ℕ). id_words s ++ (x ∷ ws)) (sym f.word);
      set = r.set;
    }

none_in : (m : ℕ) → id_words_to zeros m ≡ []
unfolding id_words_to
none_in zero = refl
none_in (suc m) = ids_same zeros m (is_out zeros m (has_zeros m)) ∙ none_in m

-- words that ascend are the words of what they name
pub ascends_are : (n : ℕ) (ws : List ℕ) → n ≤ 8 → ascends n 0 ws ≡ true → (id_words (ids_from ws) ≡ ws) × IdSet (ids_from ws)
unfolding ids_from id_words
ascends_are n ws h e =
    let a = ascended n 0 zeros ws h ids_zeros (λ j (m : has zeros j ≡ 1). absurd (omega (arith, has_zeros j))) e in
    (a.words ∙ ap (λ (l : List ℕ). l ++ ws) (none_in 256), a.set)

-- ---- the words of a set ascend

snoc_ascends : (n last : ℕ) (ws : List ℕ) (w : ℕ) → ascends n last ws ≡ true → ((l : ℕ) → (l ≡ last) ⊎ (l < payload w) → id_ok n l w ≡ true)
    → ((i : ℕ) → i < length ws → payload (get_or ws i 0) < payload w) → ascends n last (ws ++ (w ∷ [])) ≡ true
unfolding ascends
snoc_ascends n last [] w e f g = both_intro _ _ (f last (inl refl)) refl
snoc_ascends n last (v ∷ ws) w e f g =
    let a = both_true (id_ok n last v) _ e in
    both_intro _ _ a.0
    (snoc_ascends n (payload v) ws w a.1
    (λ l q. f l (inr (⊎_elim (λ (r : l ≡ payload v). rw r (g 0 (omega arith))) (λ r. r) q)))
    (λ i h. g (suc i) (omega arith)))

-- all words of the members below k name less than id k
low_words : (s : List ℕ) (m k : ℕ) → m ≤ k → k < 256 → (i : ℕ) → i < length (id_words_to s m) → payload (get_or (id_words_to s m) i 0) < name_at k
unfolding id_words_to
low_words s zero k l h i q = absurd (omega arith)
low_words s (suc m) k l h i q = go (λ b. low_words s m k (omega arith) h i b) (is_in s m) refl
  where
    go : (i < length (id_words_to s m) → payload (get_or (id_words_to s m) i 0) < name_at k) → (t : Bool) → is_in s m ≡ t → payload (get_or (id_words_to s (suc m)) i 0) < name_at k
    go ih false e = let r = ids_same s m e in rw r (ih (rw r at q))
    go ih true e = let r = ids_more s m e in rw r (last (rw r at q))
      where
        last : i < length (id_words_to s m ++ (id_word m ∷ [])) → payload (get_or (id_words_to s m ++ (id_word m ∷ [])) i 0) < name_at k
        last g = ⊎_elim
            (λ (b : i < length (id_words_to s m)). rw (get_or-append (id_words_to s m) (id_word m ∷ []) 0 i b) (ih b))
            (λ (b : length (id_words_to s m) ≤ i).
            let z : i ≡ length (id_words_to s m) = omega (arith, length-append (id_words_to s m) (id_word m ∷ [])) in
            rw (z, get_or_at (id_words_to s m) (id_word m) [] 0 (length (id_words_to s m)) refl, id_payload m (omega arith)) (up_name m k (omega arith)))
            (lt_or_le i (length (id_words_to s m)))

in_ring : (n : ℕ) (s : List ℕ) (k : ℕ) → n ≤ 8 → k < 256 → ids_ok n s ≡ true → has s k ≡ 1 → k < 32 * n
unfolding has
in_ring n s k h l ok m =
    ⊎_elim (λ p. p)
    (λ (g : 32 * n ≤ k).
    let z : get_or s (k / 32) 0 ≡ 0 = ids_facts n s ok (k / 32) (omega arith) (omega arith) in
    absurd (omega (arith, m, ap (λ (x : ℕ). bit x (k % 32)) z, bit_zero_word (k % 32))))
    (lt_or_le k (32 * n))

to_ascends : (n : ℕ) (s : List ℕ) (m : ℕ) → n ≤ 8 → m ≤ 256 → ids_ok n s ≡ true → ascends n 0 (id_words_to s m) ≡ true
unfolding id_words_to ascends
to_ascends n s zero h l ok = refl
to_ascends n s (suc m) h l ok = go (to_ascends n s m h (omega arith) ok) (is_in s m) refl
  where
    go : ascends n 0 (id_words_to s m) ≡ true → (t : Bool) → is_in s m ≡ t → ascends n 0 (id_words_to s (suc m)) ≡ true
    go ih false e = rw (ids_same s m e) ih
    go ih true e =
        let k : m < 32 * n = in_ring n s m h (omega arith) ok (in_is s m e) in
        let p : payload (id_word m) ≡ name_at m = id_payload m (omega arith) in
        rw (ids_more s m e)
        (snoc_ascends n 0 (id_words_to s m) (id_word m) ih
        (λ j q. facts_id n j m h k (⊎_elim (λ (r : j ≡ 0). omega arith) (λ (r : j < payload (id_word m)). omega arith) q))
        (λ i q. rw p (low_words s m m (le_refl m) (omega arith) i q)))

pub ids_ascend : (n : ℕ) (s : List ℕ) → n ≤ 8 → ids_ok n s ≡ true → ascends n 0 (id_words s) ≡ true
unfolding id_words
ids_ascend n s h ok = to_ascends n s 256 h (le_refl 256) ok

-- ---- what the words of a set name is the set

-- the members below k
built : (s : List ℕ) (k : ℕ) → k ≤ 256 → IdSet (Fold zeros (id_words_to s k)) × ((j : ℕ) → j < 256 → has (Fold zeros (id_words_to s k)) j ≡ cond (ltb j k) (has s j) 0)
unfolding id_words_to
built s zero h = (ids_zeros, λ j l. rw (le-ltb j 0 zero-le) (has_zeros j))
built s (suc k) h = go (built s k (omega arith)) (is_in s k) refl
  where
    ltb_suc : (j : ℕ) → (j ≡ k → ⊥) → ltb j (suc k) ≡ ltb j k
    ltb_suc j n =
        ⊎_elim (λ (l : j < k). lt-ltb j (suc k) (omega arith) ∙ sym (lt-ltb j k l)) (λ (l : k ≤ j). le-ltb j (suc k) (omega arith) ∙ sym (le-ltb j k l)) (lt_or_le j k)

    go : IdSet (Fold zeros (id_words_to s k)) × ((j : ℕ) → j < 256 → has (Fold zeros (id_words_to s k)) j ≡ cond (ltb j k) (has s j) 0) → (t : Bool) → is_in s k ≡ t
        → IdSet (Fold zeros (id_words_to s (suc k))) × ((j : ℕ) → j < 256 → has (Fold zeros (id_words_to s (suc k))) j ≡ cond (ltb j (suc k)) (has s j) 0)
    go ih false e =
        rw (ids_same s k e) (
          ih.0,
          λ j l. ih.1 j l ∙ ⊎_elim
              (λ (q : j ≡ k). rw (q, le-ltb k k (le_refl k), lt-ltb k (suc k) (omega arith)) (sym (out_is s k e)))
              (λ q. ap (λ (b : Bool). cond b (has s j) 0) (sym (ltb_suc j q)))
              (eq_or_ne j k),
        )
    go ih true e =
        let F : List ℕ = Fold zeros (id_words_to s k) in
        let r : Fold zeros (id_words_to s (suc k)) ≡ inserted F k =
        ap (Fold zeros) (ids_more s k e) ∙ foldl-append (λ (t : List ℕ) (w : ℕ). inserted t (id_in w)) zeros (id_words_to s k) (id_word k ∷ []) ∙ ap (inserted F) (id_back k (omega arith))
        in
        rw r (
          ids_inserted F k ih.0,
          λ j l.
              let m = has_inserted F k j (omega (arith, ih.0.eight)) in
              ⊎_elim
              (λ (q : j ≡ k). rw (q, lt-ltb k (suc k) (omega arith)) (omega (arith, rw q at m, in_is s k e, same_eq k k refl, has_lt F k)))
              (λ q. omega (arith, m, same_ne j k q) ∙ ih.1 j l ∙ ap (λ (b : Bool). cond b (has s j) 0) (sym (ltb_suc j q)))
              (eq_or_ne j k),
        )

pub ids_back : (s : List ℕ) → IdSet s → ids_from (id_words s) ≡ s
unfolding ids_from id_words
ids_back s w =
    let b = built s 256 (le_refl 256) in
    same_words (Fold zeros (id_words_to s 256)) s b.0 w (λ k l. b.1 k l ∙ ap (λ (t : Bool). cond t (has s k) 0) (lt-ltb k 256 l))

-- reading gives a set, whatever the words are
pub fold_ids : (s ws : List ℕ) → IdSet s → IdSet (Fold s ws)
fold_ids s [] h = h
fold_ids s (w ∷ ws) h = fold_ids (inserted s (id_in w)) ws (ids_inserted s (id_in w) h)

pub ids_from_set : (ws : List ℕ) → IdSet (ids_from ws)
unfolding ids_from
ids_from_set ws = fold_ids zeros ws ids_zeros
