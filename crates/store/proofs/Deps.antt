-- Held slots asked all at once: the turns of the checks, where gathered deps lie, and that together they are the rules of each slot.
-- Assumes nothing.
use Rattle.std.proofs.Common.{◌≡◌, ℕ, zero, suc, ◌+◌, ◌-◌, ◌*◌, ◌/◌, ◌%◌, ◌^◌, ◌<◌, ◌≤◌, Bool, true, false, cond, eqb, ltb, List, length, get_or, sym, refl, ap, ◌∙◌, ap₂, ⊎_elim, add-zero, add-suc, add-one, arith, ltb-true, lt-ltb, eq-eqb, eqb-true}
use Rattle.causal.specs.Tests.{both, implies, all_below}
use Rattle.causal.specs.Lists.{part, zeros}
use Rattle.causal.specs.Sets.{bit, has, is_empty, is_in, IdSet, unite, minus, subset_of}
use Rattle.causal.proofs.Tests.{same_test, both_assoc, both_one, both_intro, both_true, all_none, all_more, all_fails, all_at, all_ext, all_intro, implies_elim, implies_intro}
use Rattle.causal.proofs.Lists.{part_at}
use Rattle.causal.proofs.Sets.{empty_unite, has_in, has_lt, has_minus, has_zeros, in_is, in_or_out, is_in_lem, is_out, out_is, ids_unite, ids_zeros, subset_by, subset_within, unite_subset}
use Rattle.causal.proofs.Walk.{Passed, Next, fold_next, fold_end, has_word}
use Rattle.frame.specs.Entries.{clock_ok, entry_ok, ids_ok}
use Rattle.frame.proofs.Entries.{EntryFacts, entry_facts, facts_entry}
use Rattle.frame.proofs.Ids.{ids_of_lem, ids_range}
use Rattle.store.specs.Offices.{need, slot_at, entry_at}
use Rattle.store.specs.Slots.{fits, slot_ok}
use Rattle.store.specs.Deps.{Look, LookAll, clock_at, ids_fine, lone_ok, of_word, of_words, gathered_to, gathered_in}
use Rattle.store.specs.declared.sound.Looked.{Looked}
use Rattle.store.proofs.Keep.{part_ids}

-- ---- tests of the bits of a word

module _ (w : ℕ) (f : ℕ → Bool) where
  abbrev At : ℕ → Bool
  At b = implies (eqb (bit w b) 1) (f b)

  clear : (b : ℕ) → bit w b ≡ 0 → At b ≡ true
  unfolding implies
  clear b z = rw z

  pub bit_set : (b : ℕ) → bit w b ≡ 1 → At b ≡ f b
  unfolding implies
  bit_set b z = rw z

  same_at : (b : ℕ) → b < 32 → bit w b ≡ 0 → all_below (suc b) At ≡ all_below b At
  unfolding all_below
  same_at b l z = ap (both (all_below b At)) (clear b z) ∙ both_one (all_below b At)

  pub bits_more : (b rest t : ℕ) → Next w b rest t → all_below (t + 1) At ≡ both (all_below b At) (f t)
  unfolding all_below
  bits_more b rest t x =
      ap (λ (j : ℕ). all_below j At) (add-one t)
      ∙ ap (λ (y : Bool). both y (At t)) (fold_next (λ j. all_below j At) w same_at b rest t x)
      ∙ ap (both (all_below b At)) (bit_set t x.member)

  pub bits_fail : (b rest t : ℕ) → Next w b rest t → f t ≡ false → false ≡ of_word w f
  unfolding of_word
  bits_fail b rest t x e = sym (all_fails At 32 t x.below (bit_set t x.member ∙ e))

  pub bits_done : (b rest : ℕ) → Passed w b rest → rest ≡ 0 → of_word w f ≡ all_below b At
  unfolding of_word
  bits_done b rest x z = fold_end (λ j. all_below j At) w same_at b rest x z

-- ---- the deps of one word of a set

module _ (ws : List ℕ) (i w : ℕ) (before : List ℕ) where
  deps_same : (b : ℕ) → b < 32 → bit w b ≡ 0 → gathered_in ws i w (suc b) before ≡ gathered_in ws i w b before
  unfolding gathered_in
  deps_same b l z = rw z

  deps_taken : (t : ℕ) → bit w t ≡ 1 → gathered_in ws i w (suc t) before ≡ unite (gathered_in ws i w t before) (entry_at ws (32 * i + t)).deps
  unfolding gathered_in
  deps_taken t o = rw o

  pub deps_more : (b rest t : ℕ) (all deps r : List ℕ) → Next w b rest t → all ≡ gathered_in ws i w b before → deps ≡ (entry_at ws (32 * i + t)).deps → r ≡ unite all deps
      → r ≡ gathered_in ws i w (t + 1) before
  deps_more b rest t all deps r x e q f =
      f ∙ ap₂ unite (e ∙ sym (fold_next (λ j. gathered_in ws i w j before) w deps_same b rest t x)) q
      ∙ sym (deps_taken t x.member) ∙ ap (λ (j : ℕ). gathered_in ws i w j before) (sym (add-one t))

  pub deps_done : (b rest : ℕ) (all : List ℕ) → Passed w b rest → rest ≡ 0 → all ≡ gathered_in ws i w b before → all ≡ gathered_in ws i w 32 before
  deps_done b rest all x z e = e ∙ sym (fold_end (λ j. gathered_in ws i w j before) w deps_same b rest x z)

-- ---- the clocks of one word of a set, and all that a look at it says

module _ (ws : List ℕ) (may : List ℕ → Bool) (p i w : ℕ) (first before : List ℕ) where
  clocks_more : (b rest t : ℕ) (bad clock over worse : List ℕ) → Next w b rest t
      → is_empty bad ≡ both (is_empty first) (all_below b (At w (clock_at ws may i)))
      → clock ≡ (entry_at ws (32 * i + t)).clock → is_empty over ≡ may clock → worse ≡ unite bad over
      → is_empty worse ≡ both (is_empty first) (all_below (t + 1) (At w (clock_at ws may i)))
  clocks_more b rest t bad clock over worse x e k o q =
      ap is_empty q ∙ empty_unite bad over ∙ ap₂ both e (o ∙ ap may k)
      ∙ both_assoc (is_empty first) (all_below b (At w (clock_at ws may i))) (clock_at ws may i t)
      ∙ ap (both (is_empty first)) (sym (bits_more w (clock_at ws may i) b rest t x))

  -- what is known of the bits below b
  pub record Below (b : ℕ) (bad deps : List ℕ) : Type 0 where
    pub lone : all_below b (At w (lone_ok ws p i)) ≡ true
    pub clocks : is_empty bad ≡ both (is_empty first) (all_below b (At w (clock_at ws may i)))
    pub gathered : deps ≡ gathered_in ws i w b before

  pub look_none : Below 0 first before
  unfolding gathered_in
  look_none =
      record { lone = all_none _; clocks = sym (ap (both (is_empty first)) (all_none _) ∙ both_one _); gathered = refl }

  pub look_more : (b rest t : ℕ) (bad deps : List ℕ) → Next w b rest t → Below b bad deps → (r : Bool) → r ≡ lone_ok ws p i t → r ≡ true
      → (clock over worse : List ℕ) → clock ≡ (entry_at ws (32 * i + t)).clock → is_empty over ≡ may clock → worse ≡ unite bad over
      → (d more : List ℕ) → d ≡ (entry_at ws (32 * i + t)).deps → more ≡ unite deps d → Below (t + 1) worse more
  look_more b rest t bad deps x B r e f clock over worse k o q d more y z =
      record {
        lone = bits_more w (lone_ok ws p i) b rest t x ∙ both_intro _ _ B.lone (sym e ∙ f);
        clocks = clocks_more b rest t bad clock over worse x B.clocks k o q;
        gathered = deps_more ws i w before b rest t deps d more x B.gathered y z;
      }

  pub look_fails : (b rest t : ℕ) → Next w b rest t → (r : Bool) → r ≡ lone_ok ws p i t → r ≡ false → of_word w (lone_ok ws p i) ≡ false
  look_fails b rest t x r e f = sym (bits_fail w (lone_ok ws p i) b rest t x (sym e ∙ f))

  pub look_done : (b rest : ℕ) (x : Looked) → Passed w b rest → rest ≡ 0 → Below b x.bad x.deps → Look ws may p i w first before x
  look_done b rest x q z B =
      record {
        lone = bits_done w (lone_ok ws p i) b rest q z ∙ B.lone;
        clocks = B.clocks ∙ ap (both (is_empty first)) (sym (bits_done w (clock_at ws may i) b rest q z));
        gathered = deps_done ws i w before b rest x.deps q z B.gathered;
      }

-- ---- all words

module _ (ws v : List ℕ) where
  deps_word : (i b : ℕ) → b ≤ 32 → gathered_to ws v (32 * i + b) ≡ gathered_in ws i (get_or v i 0) b (gathered_to ws v (32 * i))
  unfolding gathered_to gathered_in is_in
  deps_word i zero l = ap (gathered_to ws v) (add-zero (32 * i))
  deps_word i (suc b) l =
      let ih = deps_word i b (omega arith) in
      ap (gathered_to ws v) (add-suc (32 * i) b)
      ∙ ap₂ (λ (x : ℕ) (y : List ℕ). cond (eqb x 1) (unite y (entry_at ws (32 * i + b)).deps) y) (has_word v i b (omega arith)) ih

  pub deps_next : (i : ℕ) (all r : List ℕ) → all ≡ gathered_to ws v (32 * i) → r ≡ gathered_in ws i (get_or v i 0) 32 all → r ≡ gathered_to ws v (32 * (i + 1))
  deps_next i all r e f =
      let q : 32 * i + 32 ≡ 32 * (i + 1) = omega arith in
      f ∙ ap (gathered_in ws i (get_or v i 0) 32) e ∙ sym (deps_word i 32 (omega arith)) ∙ ap (gathered_to ws v) q

  pub deps_none : zeros ≡ gathered_to ws v (32 * 0)
  unfolding gathered_to
  deps_none = refl

-- what is known of the first i words
module _ (ws : List ℕ) (may : List ℕ → Bool) (n p : ℕ) (ids : List ℕ) where
  pub record Upto (i : ℕ) (r : Looked) : Type 0 where
    pub lone : all_below i (λ j. of_word (get_or ids j 0) (lone_ok ws p j)) ≡ true
    pub clocks : is_empty r.bad ≡ all_below i (λ j. of_word (get_or ids j 0) (clock_at ws may j))
    pub gathered : r.deps ≡ gathered_to ws ids (32 * i)

  pub words_none : Upto 0 (record { bad = zeros; deps = zeros })
  unfolding is_empty all_below both
  words_none = record { lone = refl; clocks = refl; gathered = deps_none ws ids }

  pub words_more : (i : ℕ) (b r : Looked) → Upto i b → Look ws may p i (get_or ids i 0) b.bad b.deps r → Upto (i + 1) r
  unfolding all_below
  words_more i b r B L =
      record {
        lone = all_more (λ j. of_word (get_or ids j 0) (lone_ok ws p j)) i B.lone L.lone;
        clocks =
            L.clocks ∙ ap (λ (x : Bool). both x (of_word (get_or ids i 0) (clock_at ws may i))) B.clocks
            ∙ ap (λ (j : ℕ). all_below j (λ j. of_word (get_or ids j 0) (clock_at ws may j))) (sym (add-one i));
        gathered = deps_next ws ids i b.deps r.deps B.gathered L.gathered;
      }

  pub words_fail : (i : ℕ) → i < n → of_word (get_or ids i 0) (lone_ok ws p i) ≡ false → of_words n ids (lone_ok ws p) ≡ false
  unfolding of_words
  words_fail i l h = all_fails (λ j. of_word (get_or ids j 0) (lone_ok ws p j)) n i l h

  pub words_done : (i : ℕ) (r : Looked) → Upto i r → i ≡ n → LookAll ws may n p ids r
  unfolding of_words
  words_done i r B q =
      record {
        lone = ap (λ (j : ℕ). all_below j (λ j. of_word (get_or ids j 0) (lone_ok ws p j))) (sym q) ∙ B.lone;
        clocks = B.clocks ∙ ap (λ (j : ℕ). all_below j (λ j. of_word (get_or ids j 0) (clock_at ws may j))) q;
        gathered = B.gathered ∙ ap (λ (j : ℕ). gathered_to ws ids (32 * j)) q;
      }

  -- by a test that says the same of every clock
  pub looks_as : (say : List ℕ → Bool) → ((c : List ℕ) → may c ≡ say c) → (r : Looked) → LookAll ws may n p ids r → LookAll ws say n p ids r
  unfolding of_words of_word
  looks_as say same r L =
      record {
        lone = L.lone;
        clocks =
            L.clocks
            ∙ all_ext _ _ n (λ i l. all_ext _ _ 32 (λ b m. ap (implies (eqb (bit (get_or ids i 0) b) 1)) (same (entry_at ws (32 * i + b)).clock)));
        gathered = L.gathered;
      }

module _ (ws : List ℕ) (n p : ℕ) (ids : List ℕ) where
  -- asked of all at once
  module _ (all : List ℕ) where
    pub not_lone : of_words n ids (lone_ok ws p) ≡ false → false ≡ ids_fine ws n p ids all
    unfolding ids_fine both
    not_lone h = rw h

    pub all_asked : (r : Looked) → LookAll ws (clock_ok n) n p ids r → both (is_empty r.bad) (subset_of r.deps all) ≡ ids_fine ws n p ids all
    unfolding ids_fine both
    all_asked r L = rw (L.lone, L.clocks, L.gathered)

  -- one id of a set
  pub words_at : (f : ℕ → ℕ → Bool) → of_words n ids f ≡ true → (k : ℕ) → k < 32 * n → has ids k ≡ 1 → f (k / 32) (k % 32) ≡ true
  unfolding of_words of_word has
  words_at f h k l m =
      let word = all_at (λ i. of_word (get_or ids i 0) (f i)) n h (k / 32) (omega arith) in
      implies_elim _ _ (all_at (λ b. implies (eqb (bit (get_or ids (k / 32) 0) b) 1) (f (k / 32) b)) 32 word (k % 32) (omega arith)) (eq-eqb _ 1 m)

  pub words_by : (f : ℕ → ℕ → Bool) → ((i b : ℕ) → i < n → b < 32 → has ids (32 * i + b) ≡ 1 → f i b ≡ true) → of_words n ids f ≡ true
  unfolding of_words of_word
  words_by f g =
      all_intro (λ i. of_word (get_or ids i 0) (f i)) n
      (λ i l. all_intro (λ b. implies (eqb (bit (get_or ids i 0) b) 1) (f i b)) 32
      (λ b m. implies_intro (eqb (bit (get_or ids i 0) b) 1) _ (λ e. g i b l m (has_word ids i b m ∙ eqb-true _ 1 e))))

-- ---- gathered deps lie in a set where the deps of each do

deps_ids : (ws : List ℕ) → ((i : ℕ) → get_or ws i 0 < 2 ^ 32) → (n : ℕ) → need n ≤ length ws → (k : ℕ) → k < 32 * n → IdSet (entry_at ws k).deps
unfolding entry_at
deps_ids ws fit n long k l = part_ids ws fit (slot_at k + 10) (omega arith)

module _ (ws : List ℕ) (fit : (i : ℕ) → get_or ws i 0 < 2 ^ 32) (n : ℕ) (long : need n ≤ length ws) (ids t : List ℕ) (tw : IdSet t) where
  gathered_ids : (m : ℕ) → m ≤ 32 * n → IdSet (gathered_to ws ids m)
  unfolding gathered_to
  gathered_ids zero l = ids_zeros
  gathered_ids (suc k) l = go (is_in ids k) (gathered_ids k (omega arith))
    where
      go : (s : Bool) → IdSet (gathered_to ws ids k) → IdSet (cond s (unite (gathered_to ws ids k) (entry_at ws k).deps) (gathered_to ws ids k))
      go true h = ids_unite (gathered_to ws ids k) (entry_at ws k).deps h (deps_ids ws fit n long k (omega arith))
      go false h = h

  abbrev Dep : ℕ → Bool
  Dep k = implies (is_in ids k) (subset_of (entry_at ws k).deps t)

  pub gathered_in_lem : (m : ℕ) → m ≤ 32 * n → subset_of (gathered_to ws ids m) t ≡ all_below m Dep
  unfolding gathered_to all_below implies
  gathered_in_lem zero l = subset_by zeros t ids_zeros tw (λ k (h : has zeros k ≡ 1). absurd (omega (arith, has_zeros k)))
  gathered_in_lem (suc k) l = go (is_in ids k) (gathered_in_lem k (omega arith))
    where
      D : List ℕ
      D = gathered_to ws ids k

      d : List ℕ
      d = (entry_at ws k).deps

      go : (s : Bool) → subset_of D t ≡ all_below k Dep → subset_of (cond s (unite D d) D) t ≡ both (all_below k Dep) (implies s (subset_of d t))
      go true h =
          unite_subset D d t (gathered_ids k (omega arith)) (deps_ids ws fit n long k (omega arith)) tw
          ∙ ap (λ (b : Bool). both b (subset_of d t)) h
      go false h = h ∙ sym (both_one (all_below k Dep))

-- ---- the words of one slot and the rules of its entry

lone_to : (ws : List ℕ) (n p i b : ℕ) → i < n → n ≤ 8 → b < 32 → lone_ok ws p i b ≡ true → clock_at ws (clock_ok n) i b ≡ true → ids_ok n (entry_at ws (32 * i + b)).deps ≡ true → EntryFacts n p (entry_at ws (32 * i + b))
unfolding lone_ok entry_at has
lone_to ws n p i b l few m h clock ids =
    let a = both_true (ltb (get_or ws (slot_at (32 * i + b)) 0) p) _ h in
    let c = both_true (ltb (get_or ws (slot_at (32 * i + b) + 1) 0) 268435456) _ a.1 in
    let e = both_true (eqb (get_or ws (slot_at (32 * i + b) + 2 + i) 0) (b + 1)) _ c.1 in
    let d : (32 * i + b) / 32 ≡ i = omega arith in
    let r : (32 * i + b) % 32 ≡ b = omega arith in
    let k : 32 * i + (b + 1 - 1) ≡ 32 * i + b = omega arith in
    record {
      bounds =
          record {
            office_ok = rw d l;
            from = omega arith;
            to = omega arith;
            plot_ok = ltb-true _ _ a.0;
            value_ok = ltb-true _ _ c.0;
          };
      own_clock = rw (d, r) (part_at ws (slot_at (32 * i + b) + 2) 8 i (omega arith) ∙ eqb-true _ _ e.0);
      no_self =
          rw (d, r, k)
          (is_out (part ws (slot_at (32 * i + b) + 10) 8) (32 * i + b)
          (has_word (part ws (slot_at (32 * i + b) + 10) 8) i b m
          ∙ ap (λ (w : ℕ). bit w b) (part_at ws (slot_at (32 * i + b) + 10) 8 i (omega arith)) ∙ eqb-true _ _ e.1));
      clock = clock;
      deps = ids;
    }

to_lone : (ws : List ℕ) (n p i b : ℕ) → i < n → n ≤ 8 → b < 32 → EntryFacts n p (entry_at ws (32 * i + b)) → lone_ok ws p i b ≡ true
unfolding lone_ok entry_at has
to_lone ws n p i b l few m f =
    let d : (32 * i + b) / 32 ≡ i = omega arith in
    let r : (32 * i + b) % 32 ≡ b = omega arith in
    let k : 32 * i + (b + 1 - 1) ≡ 32 * i + b = omega arith in
    let own : get_or (part ws (slot_at (32 * i + b) + 2) 8) i 0 ≡ b + 1 = rw (d, r) at f.own_clock in
    let out : is_in (part ws (slot_at (32 * i + b) + 10) 8) (32 * i + b) ≡ false = rw (d, r, k) at f.no_self in
    both_intro _ _ (lt-ltb _ _ f.bounds.plot_ok)
    (both_intro _ _ (lt-ltb _ _ f.bounds.value_ok)
    (both_intro _ _ (eq-eqb _ _ (sym (part_at ws (slot_at (32 * i + b) + 2) 8 i (omega arith)) ∙ own))
    (eq-eqb _ _
    (ap (λ (w : ℕ). bit w b) (sym (part_at ws (slot_at (32 * i + b) + 10) 8 i (omega arith)))
    ∙ sym (has_word (part ws (slot_at (32 * i + b) + 10) 8) i b m) ∙ out_is (part ws (slot_at (32 * i + b) + 10) 8) (32 * i + b) out))))

-- ---- all checks together

module _ (ws : List ℕ) (fit : (i : ℕ) → get_or ws i 0 < 2 ^ 32) (n p : ℕ) (long : need n ≤ length ws) (few : n ≤ 8)
    (held visible hidden : List ℕ) (hw : IdSet held) (vw : IdSet visible) (inside : subset_of visible held ≡ true) (rest : hidden ≡ minus held visible) where
  is_hidden : (k : ℕ) → has held k ≡ 1 → has visible k ≡ 0 → is_in hidden k ≡ true
  is_hidden k h v = rw rest (is_in_lem (minus held visible) k (omega (arith, has_minus held visible k (has_in held k (omega (arith, hw.eight)) h))))

  hidden_held : (k : ℕ) → k < 256 → is_in hidden k ≡ true → has held k ≡ 1
  hidden_held k l h =
      let h' : is_in (minus held visible) k ≡ true = rw rest at h in
      omega (arith, in_is (minus held visible) k h', has_minus held visible k l, has_lt held k)

  abbrev Shown : Bool
  Shown = ids_fine ws n p visible visible

  abbrev Kept : Bool
  Kept = ids_fine ws n p hidden held

  -- what a set of ids that is fine says of one of them
  record One (all : List ℕ) (k : ℕ) : Type 0 where
    lone : lone_ok ws p (k / 32) (k % 32) ≡ true
    clock : clock_at ws (clock_ok n) (k / 32) (k % 32) ≡ true
    deps : subset_of (entry_at ws k).deps all ≡ true

  one : (ids all : List ℕ) → IdSet all → ids_fine ws n p ids all ≡ true → (k : ℕ) → k < 32 * n → has ids k ≡ 1 → One all k
  unfolding ids_fine
  one ids all aw h k l m =
      let a = both_true (of_words n ids (lone_ok ws p)) _ h in
      let c = both_true (of_words n ids (clock_at ws (clock_ok n))) _ a.1 in
      record {
        lone = words_at ws n p ids (lone_ok ws p) a.0 k l m;
        clock = words_at ws n p ids (clock_at ws (clock_ok n)) c.0 k l m;
        deps =
            implies_elim _ _ (all_at _ (32 * n) (sym (gathered_in_lem ws fit n long ids all aw (32 * n) (omega arith)) ∙ c.1) k l) (is_in_lem ids k m);
      }

  wider : (k : ℕ) → IdSet (entry_at ws k).deps → One visible k → One held k
  wider k dw o =
      record {
        lone = o.lone;
        clock = o.clock;
        deps = subset_by _ _ dw hw (λ d e. subset_within visible held vw inside d (subset_within _ visible dw o.deps d e));
      }

  -- one held slot
  each : ids_ok n held ≡ true → Shown ≡ true → Kept ≡ true → (k : ℕ) → has held k ≡ 1
      → both (ltb k (32 * n)) (fits n p (entry_at ws k) k held visible) ≡ true
  unfolding fits
  each a x y k m =
      let l : k < 32 * n = ids_range n held hw a k m in
      let q : 32 * (k / 32) + k % 32 ≡ k = omega arith in
      let dw : IdSet (entry_at ws k).deps = deps_ids ws fit n long k l in
      let held_one : One held k =
      ⊎_elim (λ (v : has visible k ≡ 1). wider k dw (one visible visible vw x k l v))
      (λ (v : has visible k ≡ 0). one hidden held hw y k l (in_is hidden k (is_hidden k m v))) (in_or_out visible k) in
      let ids : ids_ok n (entry_at ws k).deps ≡ true = ids_of_lem n _ dw (λ d e. ids_range n held hw a d (subset_within _ held dw held_one.deps d e)) in
      let ids' : ids_ok n (entry_at ws (32 * (k / 32) + k % 32)).deps ≡ true = rw q ids in
      let F = lone_to ws n p (k / 32) (k % 32) (omega arith) few (omega arith) held_one.lone held_one.clock ids' in
      let F' : EntryFacts n p (entry_at ws k) = rw q at F in
      both_intro _ _ (lt-ltb k (32 * n) l)
      (both_intro _ _ (facts_entry n p (entry_at ws k) F')
      (both_intro _ _ held_one.deps (implies_intro _ _ (λ v. (one visible visible vw x k l (in_is visible k v)).deps))))

  to : both (ids_ok n held) (both Shown Kept) ≡ true → all_below 256 (slot_ok ws n p held visible) ≡ true
  unfolding slot_ok
  to h =
      let a = both_true (ids_ok n held) _ h in
      let g = both_true Shown Kept a.1 in
      all_intro (slot_ok ws n p held visible) 256 (λ k l. implies_intro (is_in held k) _ (λ e. each a.0 g.0 g.1 k (in_is held k e)))

  -- what the rules of held slots say of one
  record Slot (k : ℕ) : Type 0 where
    range : k < 32 * n
    facts : EntryFacts n p (entry_at ws k)
    deps_held : subset_of (entry_at ws k).deps held ≡ true
    deps_visible : is_in visible k ≡ true → subset_of (entry_at ws k).deps visible ≡ true

  slot : all_below 256 (slot_ok ws n p held visible) ≡ true → (k : ℕ) → has held k ≡ 1 → Slot k
  unfolding slot_ok fits
  slot h k m =
      let a = implies_elim (is_in held k) _ (all_at (slot_ok ws n p held visible) 256 h k (has_in held k (omega (arith, hw.eight)) m)) (is_in_lem held k m) in
      let b = both_true (ltb k (32 * n)) _ a in
      let c = both_true (entry_ok n p (entry_at ws k)) _ b.1 in
      let d = both_true (subset_of (entry_at ws k).deps held) _ c.1 in
      record {
        range = ltb-true k (32 * n) b.0;
        facts = entry_facts n p (entry_at ws k) c.0;
        deps_held = d.0;
        deps_visible = λ v. implies_elim _ _ d.1 v;
      }

  fine : all_below 256 (slot_ok ws n p held visible) ≡ true → (ids all : List ℕ) → IdSet all → ((k : ℕ) → k < 256 → has ids k ≡ 1 → has held k ≡ 1)
      → ((k : ℕ) → k < 256 → has ids k ≡ 1 → subset_of (entry_at ws k).deps all ≡ true) → ids_fine ws n p ids all ≡ true
  unfolding ids_fine
  fine h ids all aw in_held deps =
      both_intro _ _
      (words_by ws n p ids (lone_ok ws p) (λ i b l m e. to_lone ws n p i b l few m (slot h (32 * i + b) (in_held (32 * i + b) (omega arith) e)).facts))
      (both_intro _ _
      (words_by ws n p ids (clock_at ws (clock_ok n)) (λ i b l m e. (slot h (32 * i + b) (in_held (32 * i + b) (omega arith) e)).facts.clock))
      (gathered_in_lem ws fit n long ids all aw (32 * n) (omega arith)
      ∙ all_intro _ (32 * n) (λ k l. implies_intro (is_in ids k) _ (λ v. deps k (omega arith) (in_is ids k v)))))

  from : all_below 256 (slot_ok ws n p held visible) ≡ true → both (ids_ok n held) (both Shown Kept) ≡ true
  from h =
      both_intro _ _ (ids_of_lem n held hw (λ d e. (slot h d e).range))
      (both_intro _ _
      (fine h visible visible vw (λ k l e. subset_within visible held vw inside k e)
      (λ k l e. (slot h k (subset_within visible held vw inside k e)).deps_visible (is_in_lem visible k e)))
      (fine h hidden held hw (λ k l e. hidden_held k l (is_in_lem hidden k e)) (λ k l e. (slot h k (hidden_held k l (is_in_lem hidden k e))).deps_held)))

  -- the checks of held slots, as code asks them
  pub slots_are : (x : Bool) → x ≡ both (ids_ok n held) (both Shown Kept) → x ≡ all_below 256 (slot_ok ws n p held visible)
  slots_are x e = e ∙ same_test _ _ to from
