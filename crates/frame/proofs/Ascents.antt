-- Words of ids that ascend: the tests of neighbours are the tests of all; and the set of the words, one at a time or eight that stand one next
-- to the other. Assumes nothing.
use Rattle.std.proofs.Common.{◌≡◌, ℕ, zero, suc, ◌+◌, ◌-◌, ◌*◌, ◌/◌, ◌%◌, ◌^◌, ◌<◌, ◌≤◌, Bool, true, false, ◌&&◌, eqb, ltb, List, [], ◌∷◌, ◌++◌, drop, length, get_or, take, set, sym, refl, ap, ◌∙◌, subst, le_refl, add-zero, mod-eq_of_lt, add-one, arith, get_or-set_other, take-suc, get_or-set_same, set-set, pow-add, ltb-true, lt-ltb, eq-eqb, eqb-true, le-leb}
use mathlib.Core.List.{foldl-append}
use Rattle.std.specs.List.{list_all, zip}
use Rattle.std.proofs.lemmas.List.Folds.{list_all-append}
use lib.Bits.{bit_or}
use lib.Pow.{pow-lt}
use lib.Seq.{take-length, set-get_or}
use Rattle.causal.specs.Tests.{both, either}
use Rattle.causal.specs.Lists.{zeros}
use Rattle.causal.specs.Sets.{inserted}
use Rattle.causal.proofs.Tests.{both_true, both_intro, both_assoc, both_one, same_test, not_so, false_true}
use Rattle.causal.proofs.Bits.{or_is_zero}
use Rattle.causal.proofs.Equal.{and_both}
use Rattle.causal.proofs.Sets.{zero_at}
use Rattle.frame.specs.Entries.{ids_ok}
use Rattle.frame.specs.Words.{kind_of, payload, is_kind, kind_is, id_in, ids_from}
use Rattle.frame.specs.Reading.{id_ok, ascends, next_ok, bit_in, eight_bits, four_bits}
use Rattle.frame.proofs.Entries.{facts_ids}
use Rattle.frame.proofs.Words.{Fold, IdFacts, id_facts, kind_is_lem, is_kind_lem}

-- ---- the tests

-- each word may stand behind the one before, the first behind b
unfoldable pub steps : ℕ → List ℕ → Bool
steps b [] = true
steps b (w ∷ ws) = both (next_ok b w) (steps w ws)

abbrev last_of : ℕ → List ℕ → ℕ
last_of b [] = b
last_of b (w ∷ ws) = last_of w ws

record NextFacts (b w : ℕ) : Type 0 where
  above : b < w
  serial : (w - 1) / 32 % 8 ≡ 0

next_facts : (b w : ℕ) → next_ok b w ≡ true → NextFacts b w
unfolding next_ok
next_facts b w e =
    let a = both_true (ltb b w) _ e in
    record { above = ltb-true b w a.0; serial = eqb-true ((w - 1) / 32 % 8) 0 a.1 }

to_next : (n b w : ℕ) → kind_of b ≡ 6 → kind_of w ≡ 6 → IdFacts n (payload b) w → next_ok b w ≡ true
unfolding next_ok
to_next n b w kb kw f =
    both_intro _ _ (lt-ltb b w (omega (arith, f.above))) (eq-eqb ((w - 1) / 32 % 8) 0 (omega (arith, f.from, f.to)))

of_kind : (n last w : ℕ) → id_ok n last w ≡ true → kind_of w ≡ 6
unfolding id_ok
of_kind n last w e = kind_is_lem 6 w (both_true (kind_is 6 w) _ e).0

to_steps : (n b : ℕ) (ws : List ℕ) → kind_of b ≡ 6 → ascends n (payload b) ws ≡ true → steps b ws ≡ true
unfolding steps ascends
to_steps n b [] k e = refl
to_steps n b (w ∷ ws) k e =
    let a = both_true (id_ok n (payload b) w) _ e in
    let kw = of_kind n (payload b) w a.0 in
    both_intro _ _ (to_next n b w k kw (id_facts n (payload b) w a.0)) (to_steps n w ws kw a.1)

steps_up : (b : ℕ) (ws : List ℕ) → steps b ws ≡ true → b ≤ last_of b ws
unfolding steps
steps_up b [] e = le_refl b
steps_up b (w ∷ ws) e =
    let a = both_true (next_ok b w) _ e in
    omega (arith, (next_facts b w a.0).above, steps_up w ws a.1)

from_next : (n b w l : ℕ) → kind_of b ≡ 6 → kind_of l ≡ 6 → payload l / 256 < n → w ≤ l → NextFacts b w → (id_ok n (payload b) w ≡ true) × (kind_of w ≡ 6)
unfolding id_ok is_kind either both
from_next n b w l kb kl o u f =
    let kw : kind_of w ≡ 6 = omega (arith, f.above) in
    let p : payload b < payload w = omega (arith, f.above) in
    let q : payload w / 256 < n = omega arith in
    let r : 1 ≤ payload w % 256 = omega (arith, f.above, f.serial) in
    let t : payload w % 256 ≤ 32 = omega (arith, f.above, f.serial) in (
      both_intro _ _ (is_kind_lem 6 w refl kw)
          (both_intro _ _ (lt-ltb (payload b) (payload w) p)
          (both_intro _ _ (lt-ltb (payload w / 256) n q)
          (both_intro _ _ (le-leb 1 (payload w % 256) r) (le-leb (payload w % 256) 32 t)))),
      kw,
    )

from_steps : (n b : ℕ) (ws : List ℕ) → kind_of b ≡ 6 → kind_of (last_of b ws) ≡ 6 → payload (last_of b ws) / 256 < n → steps b ws ≡ true
    → ascends n (payload b) ws ≡ true
unfolding steps ascends
from_steps n b [] kb kl o e = refl
from_steps n b (w ∷ ws) kb kl o e =
    let a = both_true (next_ok b w) _ e in
    let x = from_next n b w (last_of w ws) kb kl o (steps_up w ws a.1) (next_facts b w a.0) in
    both_intro _ _ x.0 (from_steps n w ws x.1 kl o a.1)

last_snoc : (b : ℕ) (ws : List ℕ) (w : ℕ) → last_of b (ws ++ (w ∷ [])) ≡ w
last_snoc b [] w = refl
last_snoc b (v ∷ ws) w = last_snoc v ws w

last_take : (b : ℕ) (ws : List ℕ) (i : ℕ) → i < length ws → last_of b (take (i + 1) ws) ≡ get_or ws i 0
last_take b ws i h = rw (add-one, take-suc ws i 0 h) (last_snoc b (take i ws) (get_or ws i 0))

-- the first word, and one more
-- all but the first, by pairs of neighbours
abbrev pub Next : ℕ × ℕ → Bool
Next p = next_ok p.0 p.1

pairs : (w : ℕ) (ws : List ℕ) → list_all Next (zip (w ∷ ws) ws) ≡ steps w ws
unfolding steps
pairs w [] = refl
pairs w (v ∷ ws) = and_both (next_ok w v) (list_all Next (zip (v ∷ ws) ws)) ∙ ap (both (next_ok w v)) (pairs v ws)

pub steps_pairs : (b : ℕ) (ws : List ℕ) → 0 < length ws → both (next_ok b (get_or ws 0 0)) (list_all Next (zip ws (drop 1 ws))) ≡ steps b ws
unfolding steps
steps_pairs b [] h = absurd (omega arith)
steps_pairs b (w ∷ ws) h = ap (both (next_ok b w)) (pairs w ws)

-- one pair more
pub wrong_more : (s : Bool) (ps : List (ℕ × ℕ)) (p : ℕ × ℕ) (a r b : ℕ) → eqb a 0 ≡ both s (list_all Next ps) → eqb r 0 ≡ next_ok p.0 p.1 → b ≡ bit_or a r
    → eqb b 0 ≡ both s (list_all Next (ps ++ (p ∷ [])))
wrong_more s ps p a r b h e q =
    ap (λ (x : ℕ). eqb x 0) q ∙ or_is_zero a r ∙ ap (both (eqb a 0)) e ∙ ap (λ (x : Bool). both x (Next p)) h
    ∙ both_assoc s (list_all Next ps) (Next p) ∙ ap (both s) (sym (and_both (list_all Next ps) (Next p)) ∙ sym (last ps))
  where
    last : (ps : List (ℕ × ℕ)) → list_all Next (ps ++ (p ∷ [])) ≡ (list_all Next ps && Next p)
    last ps = list_all-append Next ps (p ∷ []) ∙ ap (λ (x : Bool). list_all Next ps && x) (and_both (Next p) true ∙ both_one (Next p))

-- what ascends in a ring ascends in a greater one
pub ascends_wider : (n m last : ℕ) (ws : List ℕ) → n ≤ m → ascends n last ws ≡ true → ascends m last ws ≡ true
unfolding ascends id_ok
ascends_wider n m last [] h e = refl
ascends_wider n m last (w ∷ ws) h e =
    let a = both_true (id_ok n last w) _ e in
    let b = both_true (kind_is 6 w) _ a.0 in
    let c = both_true (ltb last (payload w)) _ b.1 in
    let d = both_true (ltb (payload w / 256) n) _ c.1 in
    let o = ltb-true (payload w / 256) n d.0 in
    both_intro _ _
    (both_intro _ _ b.0 (both_intro _ _ c.0 (both_intro _ _ (lt-ltb (payload w / 256) m (omega arith)) d.1)))
    (ascends_wider n m (payload w) ws h a.1)

-- every word is one of an id
pub ascends_at : (n last : ℕ) (ws : List ℕ) → ascends n last ws ≡ true → (i : ℕ) → i < length ws
    → (l : ℕ) × (kind_of (get_or ws i 0) ≡ 6) × IdFacts n l (get_or ws i 0)
unfolding ascends
ascends_at n last [] e i h = absurd (omega arith)
ascends_at n last (w ∷ ws) e zero h =
    let a = both_true (id_ok n last w) _ e in
    (last, of_kind n last w a.0, id_facts n last w a.0)
ascends_at n last (w ∷ ws) e (suc i) h = let a = both_true (id_ok n last w) _ e in ascends_at n (payload w) ws a.1 i (omega arith)

six : (w : ℕ) → kind_of w ≡ 6 → kind_is 6 w ≡ true
unfolding is_kind either both
six w k = is_kind_lem 6 w refl k

module _ (n : ℕ) (ws : List ℕ) (some : 0 < length ws) where
  abbrev Last : ℕ
  Last = get_or ws (length ws - 1) 0

  not_ascending : (kind_of (get_or ws 0 0) ≡ 6 → kind_of Last ≡ 6 → payload Last / 256 < n → ⊥) → ascends n 0 ws ≡ false
  not_ascending f =
      not_so (ascends n 0 ws)
      (λ e.
      let a = ascends_at n 0 ws e 0 some in
      let b = ascends_at n 0 ws e (length ws - 1) (omega arith) in
      f a.1 b.1 b.2.office)

  pub first_wrong : kind_is 6 (get_or ws 0 0) ≡ false → false ≡ ascends n 0 ws
  first_wrong e = sym (not_ascending (λ k l o. false_true (sym e ∙ six (get_or ws 0 0) k)))

  pub last_wrong : kind_is 6 Last ≡ false → false ≡ ascends n 0 ws
  last_wrong e = sym (not_ascending (λ k l o. false_true (sym e ∙ six Last l)))

  pub office_wrong : n ≤ payload Last / 256 → false ≡ ascends n 0 ws
  office_wrong e = sym (not_ascending (λ k l (o : payload Last / 256 < n). omega arith))

  pub all_right : kind_is 6 Last ≡ true → payload Last / 256 < n → steps 1610612736 ws ≡ ascends n 0 ws
  all_right k o =
      let i : length ws - 1 + 1 ≡ length ws = omega arith in
      let q : last_of 1610612736 ws ≡ Last =
      ap (last_of 1610612736) (sym (take-length ws)) ∙ ap (λ (m : ℕ). last_of 1610612736 (take m ws)) (sym i) ∙ last_take 1610612736 ws (length ws - 1) (omega arith)
      in
      same_test _ _ (from_steps n 1610612736 ws refl (rw q (kind_is_lem 6 Last k)) (rw q o)) (to_steps n 1610612736 ws refl)

pub ascends_none : (n last : ℕ) (ws : List ℕ) → length ws < 1 → true ≡ ascends n last ws
unfolding ascends
ascends_none n last [] h = refl
ascends_none n last (w ∷ ws) h = absurd (omega arith)

-- ---- the set

-- ids of the ring make a set in range
fold_range : (n last : ℕ) (s ws : List ℕ) → ascends n last ws ≡ true → ((j : ℕ) → n ≤ j → get_or s j 0 ≡ 0) → (j : ℕ) → n ≤ j → get_or (Fold s ws) j 0 ≡ 0
unfolding ascends inserted
fold_range n last s [] e f j h = f j h
fold_range n last s (w ∷ ws) e f j h =
    let a = both_true (id_ok n last w) _ e in
    let g = id_facts n last w a.0 in
    let k : ℕ = id_in w / 32 in
    fold_range n (payload w) (inserted s (id_in w)) ws a.1
    (λ i l. get_or-set_other s k i (bit_or (get_or s k 0) (2 ^ (id_in w % 32))) 0 (λ (q : i ≡ k). omega (arith, g.below)) ∙ f i l) j h

pub ids_range : (n : ℕ) (ws : List ℕ) → ascends n 0 ws ≡ true → ids_ok n (ids_from ws) ≡ true
unfolding ids_from
ids_range n ws e = facts_ids n (ids_from ws) (λ j h l. fold_range n 0 zeros ws e (λ i m. zero_at i) j l)

-- `2u32 << b` and the like, as the machine has them
pub pow_shl : (m b : ℕ) → m + b < 32 → (2 ^ m * 2 ^ b) % 2 ^ 32 ≡ 2 ^ (b + m)
pow_shl m b h =
    let e : m + b ≡ b + m = omega arith in
    ap (λ (x : ℕ). x % 2 ^ 32) (sym (pow-add 2 m b)) ∙ mod-eq_of_lt (pow-lt {i = m + b} {j = 32} h) ∙ ap (λ (x : ℕ). 2 ^ x) e

-- a word of the id of office q and serial s
abbrev word_for : ℕ → ℕ → ℕ
word_for q s = 1610612736 + (256 * q + s)

word_for_lem : (w : ℕ) → kind_of w ≡ 6 → w ≡ word_for (payload w / 256) (payload w % 256)
word_for_lem w k = omega arith

record Place (w q s : ℕ) : Type 0 where
  office : w / 256 % 8 ≡ q
  serial : (w - 1) % 32 ≡ s - 1
  id : id_in w ≡ 32 * q + (s - 1)

place : (q s : ℕ) → q < 8 → 1 ≤ s → s ≤ 32 → Place (word_for q s) q s
place q s hq l h =
    let p : payload (word_for q s) ≡ 256 * q + s = omega arith in
    let d : (256 * q + s) / 256 ≡ q = omega arith in
    let m : (256 * q + s) % 256 ≡ s = omega arith in
    record { office = omega arith; serial = omega arith; id = rw (p, d, m) refl }

seventh : (q s : ℕ) → q < 8 → s ≤ 32 → payload (word_for q s + 7) % 256 ≡ s + 7
seventh q s hq h = omega arith

insert_word : (s : List ℕ) (j x c : ℕ) → j < length s → c < 32 → inserted (set s j x) (32 * j + c) ≡ set s j (bit_or x (2 ^ c))
unfolding inserted
insert_word s j x c h l =
    let d : (32 * j + c) / 32 ≡ j = omega arith in
    let m : (32 * j + c) % 32 ≡ c = omega arith in
    rw (d, m, get_or-set_same s j x 0 h) (set-set s j x (bit_or x (2 ^ c)))

fold_one : (ws : List ℕ) (k : ℕ) → k < length ws → ids_from (take (suc k) ws) ≡ inserted (ids_from (take k ws)) (id_in (get_or ws k 0))
unfolding ids_from
fold_one ws k h =
    ap ids_from (take-suc ws k 0 h) ∙ foldl-append (λ (s : List ℕ) (w : ℕ). inserted s (id_in w)) zeros (take k ws) (get_or ws k 0 ∷ [])

-- one id more, in a word j that had x
run_one : (ws ids : List ℕ) (j x c k m : ℕ) → m ≡ suc k → j < length ids → c < 32 → k < length ws → id_in (get_or ws k 0) ≡ 32 * j + c
    → ids_from (take k ws) ≡ set ids j x → ids_from (take m ws) ≡ set ids j (bit_or x (2 ^ c))
run_one ws ids j x c k m n h l b e q =
    ap (λ (i : ℕ). ids_from (take i ws)) n ∙ fold_one ws k b ∙ ap (λ (s : List ℕ). inserted s (id_in (get_or ws k 0))) q ∙ ap (inserted (set ids j x)) e
    ∙ insert_word ids j x c h l

ascends_up : (n last : ℕ) (ws : List ℕ) → ascends n last ws ≡ true → (i : ℕ) → suc i < length ws → get_or ws i 0 < get_or ws (suc i) 0
unfolding ascends
ascends_up n last [] e i h = absurd (omega arith)
ascends_up n last (v ∷ []) e i h = absurd (omega arith)
ascends_up n last (v ∷ w ∷ ws) e zero h =
    let a = both_true (id_ok n last v) _ e in
    let b = both_true (id_ok n (payload v) w) _ a.1 in
    let kv = of_kind n last v a.0 in
    let kw = of_kind n (payload v) w b.0 in
    let f = id_facts n (payload v) w b.0 in
    omega (arith, f.above)
ascends_up n last (v ∷ w ∷ ws) e (suc i) h = ascends_up n (payload v) (w ∷ ws) (both_true (id_ok n last v) _ e).1 i (omega arith)

-- m places on there is a word that is greater by m at least
pub rises : (n last : ℕ) (ws : List ℕ) → ascends n last ws ≡ true → (i m : ℕ) → i + m < length ws → get_or ws i 0 + m ≤ get_or ws (i + m) 0
rises n last ws e i zero h = omega (arith, ap (λ (x : ℕ). get_or ws x 0) (add-zero i))
rises n last ws e i (suc m) h =
    let k : i + suc m ≡ suc (i + m) = omega arith in
    rw k (omega (arith, rises n last ws e i m (omega arith), ascends_up n last ws e (i + m) (omega arith)))

-- the id of a word, by its office and its bit
id_word : (ws : List ℕ) → ascends 8 0 ws ≡ true → (k : ℕ) → k < length ws → id_in (get_or ws k 0) ≡ 32 * (get_or ws k 0 / 256 % 8) + (get_or ws k 0 - 1) % 32
id_word ws up k h =
    let w = get_or ws k 0 in
    let f = ascends_at 8 0 ws up k h in
    let p = subst (λ (x : ℕ). Place x (payload w / 256) (payload w % 256)) (sym (word_for_lem w f.1)) (place (payload w / 256) (payload w % 256) f.2.office f.2.from f.2.to) in
    omega (arith, p.office, p.serial, p.id)

module _ (ws : List ℕ) (up : ascends 8 0 ws ≡ true) (ids : List ℕ) (eight : length ids ≡ 8) (i : ℕ) (here : i < length ws) (is : ids ≡ ids_from (take i ws)) where
  abbrev W : ℕ
  W = get_or ws i 0

  abbrev J : ℕ
  J = W / 256 % 8

  abbrev B : ℕ
  B = (W - 1) % 32

  abbrev Q : ℕ
  Q = payload W / 256

  abbrev S : ℕ
  S = payload W % 256

  first : W ≡ word_for Q S
  first = word_for_lem W (ascends_at 8 0 ws up i here).1

  pub id_there : IdFacts 8 (ascends_at 8 0 ws up i here).0 W
  id_there = (ascends_at 8 0 ws up i here).2

  stands : Place W Q S
  stands = subst (λ (x : ℕ). Place x Q S) (sym first) (place Q S id_there.office id_there.from id_there.to)

  begun : ids_from (take i ws) ≡ set ids J (get_or ids J 0)
  begun = sym is ∙ sym (set-get_or ids J 0)

  pub ids_next : set ids J (bit_or (get_or ids J 0) (bit_in W)) ≡ ids_from (take (i + 1) ws)
  ids_next =
      sym (run_one ws ids J (get_or ids J 0) B i (i + 1) (add-one i) (omega arith) (omega arith) here (id_word ws up i here) begun)

  module _ (long : i + 3 < length ws) (one : get_or ws (i + 3) 0 / 256 ≡ W / 256) where
    of_one : (m : ℕ) → m ≤ 3 → id_in (get_or ws (i + m) 0) ≡ 32 * J + (get_or ws (i + m) 0 - 1) % 32
    of_one m h =
        let k : i + m + (3 - m) ≡ i + 3 = omega arith in
        let a = rises 8 0 ws up i m (omega arith) in
        let b = rises 8 0 ws up (i + m) (3 - m) (omega arith) in
        let c : get_or ws (i + m) 0 + (3 - m) ≤ get_or ws (i + 3) 0 = rw k at b in
        omega (arith, id_word ws up (i + m) (omega arith), a, c, one)

    add_id : (x m n : ℕ) → m ≤ 3 → n ≡ suc (i + m) → ids_from (take (i + m) ws) ≡ set ids J x → ids_from (take n ws) ≡ set ids J (bit_or x (bit_in (get_or ws (i + m) 0)))
    add_id x m n h e q = run_one ws ids J x ((get_or ws (i + m) 0 - 1) % 32) (i + m) n e (omega arith) (omega arith) (omega arith) (of_one m h) q

    pub ids_four : set ids J (four_bits (get_or ids J 0) ws i) ≡ ids_from (take (i + 4) ws)
    unfolding four_bits
    ids_four =
        sym
        (add_id _ 3 (i + 4) (omega arith) (omega arith)
        (add_id _ 2 (i + 3) (omega arith) (omega arith)
        (add_id _ 1 (i + 2) (omega arith) (omega arith) (sym ids_next))))

  module _ (long : i + 7 < length ws) (run : get_or ws (i + 7) 0 ≡ W + 7) where
    beside : (m : ℕ) → m ≤ 7 → get_or ws (i + m) 0 ≡ W + m
    beside m h =
        let k : i + m + (7 - m) ≡ i + 7 = omega arith in
        let a = rises 8 0 ws up i m (omega arith) in
        let b = rises 8 0 ws up (i + m) (7 - m) (omega arith) in
        let c : get_or ws (i + m) 0 + (7 - m) ≤ get_or ws (i + 7) 0 = rw k at b in
        omega arith

    serials : S + 7 ≤ 32
    serials =
        let f = (ascends_at 8 0 ws up (i + 7) long).2 in
        let e : payload (get_or ws (i + 7) 0) % 256 ≡ S + 7 =
        ap (λ (x : ℕ). payload x % 256) (run ∙ ap (λ (x : ℕ). x + 7) first) ∙ seventh Q S id_there.office id_there.to
        in
        omega (arith, f.to)

    pub eight_fit : B ≤ 24
    eight_fit = omega (arith, stands.serial, serials, id_there.from)

    id_at : (m : ℕ) → m ≤ 7 → id_in (get_or ws (i + m) 0) ≡ 32 * J + (B + m)
    id_at m h =
        let w : get_or ws (i + m) 0 ≡ word_for Q (S + m) = beside m h ∙ ap (λ (x : ℕ). x + m) first ∙ omega arith in
        let p = place Q (S + m) id_there.office (omega (arith, id_there.from)) (omega (arith, serials)) in
        ap id_in w ∙ p.id ∙ omega (arith, stands.office, stands.serial, id_there.from)

    go : (x m n : ℕ) → m ≤ 7 → n ≡ suc (i + m) → ids_from (take (i + m) ws) ≡ set ids J x → ids_from (take n ws) ≡ set ids J (bit_or x (2 ^ (B + m)))
    go x m n h e q =
        run_one ws ids J x (B + m) (i + m) n e (omega arith) (omega (arith, stands.serial, serials)) (omega arith) (id_at m h) q

    pub ids_run : set ids J (eight_bits (get_or ids J 0) B) ≡ ids_from (take (i + 8) ws)
    unfolding eight_bits
    ids_run =
        let q0 : ids_from (take (i + 1) ws) ≡ set ids J (bit_or (get_or ids J 0) (2 ^ B)) =
        run_one ws ids J (get_or ids J 0) B i (i + 1) (add-one i) (omega arith) (omega arith) here (omega (arith, stands)) begun
        in
        sym
        (go _ 7 (i + 8) (omega arith) (omega arith)
        (go _ 6 (i + 7) (omega arith) (omega arith)
        (go _ 5 (i + 6) (omega arith) (omega arith)
        (go _ 4 (i + 5) (omega arith) (omega arith)
        (go _ 3 (i + 4) (omega arith) (omega arith)
        (go _ 2 (i + 3) (omega arith) (omega arith)
        (go _ 1 (i + 2) (omega arith) (omega arith) q0)))))))
