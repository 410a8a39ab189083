-- One changed word of a row with its check word: if the outcome has its check word too, the change is not in the payload. So a row whose
-- kinds follow from its payloads is refused once one word is changed. Assumes nothing.
use Rattle.std.proofs.Common.{◌≡◌, ℕ, zero, suc, ◌+◌, ◌<◌, ◌≤◌, Bool, true, false, List, [], ◌∷◌, ◌++◌, map, length, get_or, take, drop, set, sym, refl, ap, ◌∙◌, ⊎_elim, append-nil, arith, length-append, length-set, get_or-set_same, take_at}
use mathlib.Core.List.{map-append}
use lib.ListN.{get_or-append, get_or-map}
use lib.Seq.{get_or_at, set-append_left, set_at}
use Rattle.causal.specs.Lists.{tab}
use Rattle.causal.specs.Sets.{is_in}
use Rattle.causal.proofs.Tests.{lt_or_le, not_so}
use Rattle.frame.specs.Entries.{clock_ok}
use Rattle.frame.specs.Words.{clock_word, clock_words, id_word, id_word_if, id_words, id_words_to, kind_of, pay_at, payload, sum_word, summed, total}
use Rattle.frame.proofs.Entries.{clock_facts}
use Rattle.frame.proofs.Words.{id_kind, length_summed}

-- the kind of a word, kept shut
unfoldable pub kind : ℕ → ℕ
kind w = kind_of w

abbrev pub pay : ℕ → ℕ
pay w = payload w

-- ---- payloads

total_set : (l : List ℕ) (i x : ℕ) → i < length l → total (set l i x) + payload (get_or l i 0) ≡ total l + payload x
unfolding total
total_set [] i x h = absurd (omega arith)
total_set (a ∷ l) zero x h = omega arith
total_set (a ∷ l) (suc i) x h = omega (arith, total_set l i x (omega arith))

-- a changed word of a row with its sum, where the outcome again has its sum, has the same payload
same_payload : (B B' : List ℕ) (i x : ℕ) → length B ≡ length B' → i < length (summed B) → set (summed B) i x ≡ summed B'
    → payload x ≡ payload (get_or (summed B) i 0)
unfolding summed
same_payload B B' i x l h e = ⊎_elim within last (lt_or_le i (length B))
  where
    within : i < length B → payload x ≡ payload (get_or (summed B) i 0)
    within lt =
        let q : set B i x ++ (sum_word B ∷ []) ≡ B' ++ (sum_word B' ∷ []) = sym (set-append_left B (sum_word B ∷ []) i x lt) ∙ e in
        let b : set B i x ≡ B' =
        sym (take_at (set B i x) (sum_word B ∷ []) (length B) (length-set B i x))
        ∙ ap (take (length B)) q
        ∙ take_at B' (sum_word B' ∷ []) (length B) (sym l)
        in
        let s : sum_word B ≡ sum_word B' =
        sym (get_or_at (set B i x) (sum_word B) [] 0 (length B) (length-set B i x))
        ∙ ap (λ (m : List ℕ). get_or m (length B) 0) q
        ∙ get_or_at B' (sum_word B') [] 0 (length B) (sym l)
        in
        let t : total (set B i x) ≡ total B' = ap total b in
        let g : get_or (B ++ (sum_word B ∷ [])) i 0 ≡ get_or B i 0 = get_or-append B (sum_word B ∷ []) 0 i lt in
        omega (arith, total_set B i x lt)

    last : length B ≤ i → payload x ≡ payload (get_or (summed B) i 0)
    last ge =
        let i-is : i ≡ length B = omega (arith, length-append B (sum_word B ∷ [])) in
        let q : B ++ (x ∷ []) ≡ B' ++ (sum_word B' ∷ []) = sym (set_at B (sum_word B) [] x i (sym i-is)) ∙ e in
        let b : B ≡ B' = sym (take_at B (x ∷ []) (length B) refl) ∙ ap (take (length B)) q ∙ take_at B' (sum_word B' ∷ []) (length B) (sym l) in
        let s : x ≡ sum_word B' =
        sym (get_or_at B x [] 0 (length B) refl) ∙ ap (λ (m : List ℕ). get_or m (length B) 0) q ∙ get_or_at B' (sum_word B') [] 0 (length B) (sym l)
        in
        let g : get_or (B ++ (sum_word B ∷ [])) i 0 ≡ sum_word B = get_or_at B (sum_word B) [] 0 i (sym i-is) in
        let u : sum_word B ≡ sum_word B' = ap sum_word b in
        omega arith

same_word : (x y : ℕ) → kind x ≡ kind y → payload x ≡ payload y → x ≡ y
unfolding kind
same_word x y a b = omega arith

kind_at : (a b : List ℕ) (i : ℕ) → map kind a ≡ map kind b → kind (get_or a i 0) ≡ kind (get_or b i 0)
unfolding kind
kind_at a b i e = sym (get_or-map kind a i 0) ∙ ap (λ (l : List ℕ). get_or l i 0) e ∙ get_or-map kind b i 0

set_pay : (l : List ℕ) (i x : ℕ) → payload x ≡ payload (get_or l i 0) → map pay (set l i x) ≡ map pay l
set_pay [] i x e = refl
set_pay (a ∷ l) zero x e = ap (λ (y : ℕ). y ∷ map pay l) e
set_pay (a ∷ l) (suc i) x e = ap (λ (y : List ℕ). pay a ∷ y) (set_pay l i x e)

-- the payload of the first word
pub pay_head : (a b : List ℕ) → map pay a ≡ map pay b → pay_at a 0 ≡ pay_at b 0
pay_head a b e = sym (get_or-map pay a 0 0) ∙ ap (λ (l : List ℕ). get_or l 0 0) e ∙ get_or-map pay b 0 0

pub drop_pay : (m : ℕ) (a : List ℕ) → map pay (drop m a) ≡ drop m (map pay a)
drop_pay zero a = refl
drop_pay (suc m) [] = refl
drop_pay (suc m) (x ∷ a) = drop_pay m a

-- ---- rows whose kinds follow from their payloads

module _ (ok : List ℕ → Bool) (body : List ℕ → List ℕ) (kinds : List ℕ → List ℕ)
    (is-summed : (ws : List ℕ) → ok ws ≡ true → ws ≡ summed (body ws))
    (kinds-are : (ws : List ℕ) → ok ws ≡ true → map kind ws ≡ kinds ws)
    (kinds-by : (a b : List ℕ) → map pay a ≡ map pay b → kinds a ≡ kinds b) where
  pub one_change : (ws : List ℕ) (i x : ℕ) → ok ws ≡ true → i < length ws → (x ≡ get_or ws i 0 → ⊥) → ok (set ws i x) ≡ false
  one_change ws i x a hi ne =
      not_so (ok (set ws i x))
      (λ a'.
      let w : ws ≡ summed (body ws) = is-summed ws a in
      let w' : set ws i x ≡ summed (body (set ws i x)) = is-summed (set ws i x) a' in
      let lb : length (body ws) ≡ length (body (set ws i x)) =
      omega (arith, length_summed (body ws), length_summed (body (set ws i x)), ap length w, ap length w', length-set ws i x)
      in
      let py : payload x ≡ payload (get_or (summed (body ws)) i 0) =
      same_payload (body ws) (body (set ws i x)) i x lb (omega (arith, ap length w)) (ap (λ (l : List ℕ). set l i x) (sym w) ∙ w')
      in
      let py' : payload x ≡ payload (get_or ws i 0) = py ∙ ap (λ (l : List ℕ). payload (get_or l i 0)) (sym w) in
      let ks : map kind (set ws i x) ≡ map kind ws =
      kinds-are (set ws i x) a' ∙ kinds-by (set ws i x) ws (set_pay ws i x py') ∙ sym (kinds-are ws a)
      in
      let kx : kind x ≡ kind (get_or ws i 0) = ap kind (sym (get_or-set_same ws i x 0 hi)) ∙ kind_at (set ws i x) ws i ks in
      ne (same_word x (get_or ws i 0) kx py'))

-- ---- the kinds of clock words and id words

pub kinds_tab : (g : ℕ → ℕ) (k n : ℕ) → ((j : ℕ) → j < n → kind_of (g j) ≡ k) → map kind (tab n g) ≡ tab n (λ j. k)
unfolding tab kind
kinds_tab g k zero h = refl
kinds_tab g k (suc n) h =
    map-append kind (tab n g) (g n ∷ [])
    ∙ ap (λ (l : List ℕ). l ++ (kind_of (g n) ∷ [])) (kinds_tab g k n (λ j l. h j (omega arith)))
    ∙ ap (λ (x : ℕ). tab n (λ j. k) ++ (x ∷ [])) (h n (omega arith))

pub kinds_clock : (n m : ℕ) (c : List ℕ) → n ≤ 8 → clock_ok m c ≡ true → map kind (clock_words n c) ≡ tab n (λ j. 5)
unfolding clock_words
kinds_clock n m c l ok = kinds_tab (clock_word c) 5 n (λ j h. omega (arith, (clock_facts m c ok j (omega arith)).small))

kinds_to : (s : List ℕ) (k : ℕ) → k ≤ 256 → map kind (id_words_to s k) ≡ tab (length (id_words_to s k)) (λ j. 6)
unfolding id_words_to id_word_if tab kind
kinds_to s zero h = refl
kinds_to s (suc k) h = go (is_in s k) (kinds_to s k (omega arith))
  where
    one : List ℕ → List ℕ
    one l = l ++ (id_word k ∷ [])

    more : map kind (id_words_to s k) ≡ tab (length (id_words_to s k)) (λ j. 6)
        → map kind (one (id_words_to s k)) ≡ tab (length (one (id_words_to s k))) (λ j. 6)
    more r =
        let l : length (id_words_to s k ++ (id_word k ∷ [])) ≡ suc (length (id_words_to s k)) =
        omega (arith, length-append (id_words_to s k) (id_word k ∷ []))
        in
        rw l
        (map-append kind (id_words_to s k) (id_word k ∷ [])
        ∙ ap (λ (x : List ℕ). x ++ (kind_of (id_word k) ∷ [])) r
        ∙ ap (λ (x : ℕ). tab (length (id_words_to s k)) (λ j. 6) ++ (x ∷ [])) (id_kind k (omega arith)))

    go : (b : Bool) → map kind (id_words_to s k) ≡ tab (length (id_words_to s k)) (λ j. 6)
        → map kind (id_words_to s k ++ id_word_if b k) ≡ tab (length (id_words_to s k ++ id_word_if b k)) (λ j. 6)
    go true r = more r
    go false r = rw append-nil r

pub kinds_ids : (s : List ℕ) → map kind (id_words s) ≡ tab (length (id_words s)) (λ j. 6)
unfolding id_words
kinds_ids s = kinds_to s 256 (omega arith)
