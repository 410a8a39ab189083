-- What each turn of the loops over own writes does; the session that says a content. Assumes nothing.
use Rattle.std.proofs.Common.{◌≡◌, ℕ, zero, suc, ◌+◌, ◌-◌, ◌/◌, ◌<◌, ◌≤◌, Bool, true, false, not, eqb, leb, List, [], ◌∷◌, ◌++◌, drop, length, get_or, replicate, take, sym, refl, ap, ◌∙◌, add-one, arith, drop-cons, get_or-set_other, ext_get_or, eq-eqb, eqb-true, leb-true}
use mathlib.Core.List.{foldl-append}
use lib.ListN.{get_or-append, drop_of_length-le}
use lib.Seq.{take-suc}
use lib.Bits.{bit_or}
use Rattle.causal.proofs.Sets.{zero_at}
use Rattle.causal.proofs.Tests.{both_one, both_assoc, both_false, both_true, all_at}
use Rattle.causal.specs.Tests.{both, all_below}
use Rattle.causal.specs.Lists.{tab, zeros}
use Rattle.causal.specs.Sets.{is_in, unite, inserted, subset_of, word_in}
use Rattle.causal.proofs.Bits.{or_is_zero}
use Rattle.causal.proofs.Lists.{tab_length, tab_at, tab_more, zip8_at}
use Rattle.frame.specs.declared.entry.Entry.{Entry}
use Rattle.frame.specs.declared.session.Session.{Session}
use Rattle.frame.specs.Entries.{id_of, clock_ok, under_ok, ids_ok, bounds_ok, entry_ok, blank_entry}
use Rattle.frame.specs.Sessions.{Content, nobody, content_of, filled, session_of, ids_of, own_turn, own_ok, head_ok, session_ok}
use Rattle.frame.proofs.Entries.{EntryFacts, entry_facts, facts_ids, ids_facts, far_entry}
use Rattle.frame.proofs.Sessions.{ids_with}

-- ---- own writes, one after the other

pub own_snoc : (n p : ℕ) (read seen : List ℕ) (es : List Entry) (e : Entry)
    → own_ok n p read seen (es ++ (e ∷ [])) ≡ both (own_ok n p read seen es) (own_turn n p read (ids_with seen es) e)
unfolding own_ok own_turn both
own_snoc n p read seen [] e =
    ap (λ (b : Bool). both (entry_ok n p e) (both (not (is_in seen (id_of e))) b)) (both_one (subset_of e.deps (unite read seen)))
own_snoc n p read seen (x ∷ es) e =
    let A : Bool = entry_ok n p x in
    let B : Bool = not (is_in seen (id_of x)) in
    let C : Bool = subset_of x.deps (unite read seen) in
    let R : Bool = own_ok n p read (inserted seen (id_of x)) es in
    let T : Bool = own_turn n p read (ids_with (inserted seen (id_of x)) es) e in
    ap (λ (b : Bool). both A (both B (both C b))) (own_snoc n p read (inserted seen (id_of x)) es e)
    ∙ sym (both_assoc A (both B (both C R)) T ∙ ap (both A) (both_assoc B (both C R) T ∙ ap (both B) (both_assoc C R T)))

-- the ids of one own write more
pub ids_next : (f : ℕ → Entry) (i : ℕ) → ids_of (tab (i + 1) f) ≡ inserted (ids_of (tab i f)) (id_of (f i))
unfolding ids_of
ids_next f i = ap ids_of (tab_more i f) ∙ foldl-append (λ (s : List ℕ) (e : Entry). inserted s (id_of e)) zeros (tab i f) (f i ∷ [])

-- own write i, behind those before it
abbrev pub OwnAt : ℕ → ℕ → List ℕ → (ℕ → Entry) → ℕ → Bool
OwnAt n p read f i = own_turn n p read (ids_of (tab i f)) (f i)

pub owns_below : (n p : ℕ) (read : List ℕ) (f : ℕ → Entry) (m : ℕ) → all_below m (OwnAt n p read f) ≡ own_ok n p read zeros (tab m f)
unfolding all_below tab own_ok ids_of
owns_below n p read f zero = refl
owns_below n p read f (suc m) =
    ap (λ (b : Bool). both b (OwnAt n p read f m)) (owns_below n p read f m) ∙ sym (own_snoc n p read zeros (tab m f) (f m))

-- how a loop that asks one own write after the other goes on, and how it ends: i are asked, and seen is the set of their ids
asked_first : (n p : ℕ) (read seen : List ℕ) (e : Entry) (es : List Entry)
    → own_ok n p read seen (e ∷ es) ≡ both (own_turn n p read seen e) (own_ok n p read (inserted seen (id_of e)) es)
unfolding own_ok own_turn
asked_first n p read seen e es =
    let B : Bool = not (is_in seen (id_of e)) in
    let C : Bool = subset_of e.deps (unite read seen) in
    let R : Bool = own_ok n p read (inserted seen (id_of e)) es in
    sym (both_assoc (entry_ok n p e) (both B C) R ∙ ap (both (entry_ok n p e)) (both_assoc B C R))

asked_at : (n p : ℕ) (read seen : List ℕ) (own : List Entry) (i : ℕ) → i < length own
    → own_ok n p read seen (drop i own) ≡ both (own_turn n p read seen (get_or own i nobody)) (own_ok n p read (inserted seen (id_of (get_or own i nobody))) (drop (i + 1) own))
asked_at n p read seen own i h =
    ap (own_ok n p read seen) (drop-cons own i nobody h)
    ∙ asked_first n p read seen (get_or own i nobody) (drop (suc i) own)
    ∙ ap (λ (k : ℕ). both (own_turn n p read seen (get_or own i nobody)) (own_ok n p read (inserted seen (id_of (get_or own i nobody))) (drop k own))) (sym (add-one i))

pub asked_on : (n p : ℕ) (read seen : List ℕ) (own : List Entry) (i : ℕ) → i < length own → own_turn n p read seen (get_or own i nobody) ≡ true
    → own_ok n p read seen (drop i own) ≡ own_ok n p read (inserted seen (id_of (get_or own i nobody))) (drop (i + 1) own)
unfolding both
asked_on n p read seen own i h t = asked_at n p read seen own i h ∙ rw t refl

pub asked_out : (n p : ℕ) (read seen : List ℕ) (own : List Entry) (i : ℕ) → i < length own → own_turn n p read seen (get_or own i nobody) ≡ false
    → own_ok n p read seen (drop i own) ≡ false
unfolding both
asked_out n p read seen own i h t = asked_at n p read seen own i h ∙ rw t refl

pub asked_all : (n p : ℕ) (read seen : List ℕ) (own : List Entry) (i : ℕ) → length own ≤ i → own_ok n p read seen (drop i own) ≡ true
unfolding own_ok
asked_all n p read seen own i h = rw (drop_of_length-le own {i = i} h) refl

-- the first of a row
pub taken : {A : Type 0} (d : A) (k : ℕ) (xs : List A) → k ≤ length xs → take k xs ≡ tab k (λ i. get_or xs i d)
unfolding tab
taken d zero xs h = refl
taken {A = A} d (suc k) xs h = take-suc xs k d (omega arith) ∙ ap (λ (l : List A). l ++ (get_or xs k d ∷ [])) (taken d k xs (omega arith))

-- ---- a session as its content

abbrev pub owns_of : List Entry → ℕ → Entry
owns_of own i = get_or own i nobody

-- a session's count is the number of its own writes
pub count_is : (s : Session) → length (content_of s).own ≡ s.count
unfolding content_of
count_is s = tab_length s.count (owns_of s.own)

pub session_is : (n p : ℕ) (s : Session)
    → both (eqb s.offices n) (both (leb s.count 16) (both (clock_ok n s.clock) (both (ids_ok n s.read) (own_ok n p s.read zeros (tab s.count (owns_of s.own))))))
    ≡ session_ok n p (content_of s)
unfolding session_ok content_of
session_is n p s =
    ap (λ (m : ℕ). both (eqb s.offices n) (both (leb m 16) (both (clock_ok n s.clock) (both (ids_ok n s.read) (own_ok n p s.read zeros (tab s.count (owns_of s.own)))))))
    (sym (tab_length s.count (owns_of s.own)))

-- the same in two steps
pub session_parts : (n p : ℕ) (s : Session)
    → both (head_ok n s.offices s.count s.clock s.read) (own_ok n p s.read zeros (tab s.count (owns_of s.own))) ≡ session_ok n p (content_of s)
unfolding head_ok
session_parts n p s =
    let A : Bool = eqb s.offices n in
    let B : Bool = leb s.count 16 in
    let C : Bool = clock_ok n s.clock in
    let D : Bool = ids_ok n s.read in
    let R : Bool = own_ok n p s.read zeros (tab s.count (owns_of s.own)) in
    both_assoc A (both B (both C D)) R ∙ ap (both A) (both_assoc B (both C D) R ∙ ap (both B) (both_assoc C D R)) ∙ session_is n p s

pub session_split : (n p : ℕ) (s : Session) → session_ok n p (content_of s) ≡ both (head_ok n s.offices s.count s.clock s.read) (own_ok n p s.read zeros (content_of s).own)
unfolding content_of
session_split n p s = sym (session_parts n p s)

pub head_refused : (n p : ℕ) (s : Session) → head_ok n s.offices s.count s.clock s.read ≡ false → session_ok n p (content_of s) ≡ false
unfolding both
head_refused n p s h = sym (session_parts n p s) ∙ ap (λ (b : Bool). both b (own_ok n p s.read zeros (tab s.count (owns_of s.own)))) h

pub head_then : (n p : ℕ) (s : Session) (r : Bool) → head_ok n s.offices s.count s.clock s.read ≡ true → r ≡ own_ok n p s.read zeros (tab s.count (owns_of s.own)) → r ≡ session_ok n p (content_of s)
unfolding both
head_then n p s r h e = e ∙ sym (ap (λ (b : Bool). both b (own_ok n p s.read zeros (tab s.count (owns_of s.own)))) h) ∙ session_parts n p s

pub head_few : (n offices count : ℕ) (clock read : List ℕ) → head_ok n offices count clock read ≡ true → count ≤ 16
unfolding head_ok
head_few n offices count clock read h = leb-true count 16 (both_true (leb count 16) _ (both_true (eqb offices n) _ h).1).0

pub head_ids : (n offices count : ℕ) (clock read : List ℕ) → head_ok n offices count clock read ≡ true → ids_ok n read ≡ true
unfolding head_ok
head_ids n offices count clock read h = (both_true (clock_ok n clock) _ (both_true (leb count 16) _ (both_true (eqb offices n) _ h).1).1).1

pub none_ok : (n p : ℕ) (read : List ℕ) (f : ℕ → Entry) (m : ℕ) → m ≡ 0 → true ≡ own_ok n p read zeros (tab m f)
unfolding own_ok tab
none_ok n p read f m e = rw e refl

-- a session that carries nothing is sound where all but its own writes is
pub bare_ok : (n p : ℕ) (s : Session) → head_ok n s.offices s.count s.clock s.read ≡ true → s.count ≡ 0 → session_ok n p (content_of s) ≡ true
bare_ok n p s h e = sym (head_then n p s true h (none_ok n p s.read (owns_of s.own) s.count e))

-- the entries in the row of sixteen that has them
pub owns_back : (es : List Entry) → tab (length es) (owns_of (filled es)) ≡ es
unfolding filled
owns_back es =
    ext_get_or nobody (tab (length es) (owns_of (filled es))) es (tab_length (length es) (owns_of (filled es)))
    (λ i l.
    let m : i < length es = rw (tab_length (length es) (owns_of (filled es))) at l in
    tab_at (length es) (owns_of (filled es)) i nobody m ∙ get_or-append es (replicate (16 - length es) blank_entry) nobody i m)

-- the content of the session that says it
pub content_back : (c : Content) → length c.own ≤ 16 → content_of (session_of c) ≡ c
unfolding content_of session_of
content_back c h = λ i. record { offices = c.offices; clock = c.clock; read = c.read; own = owns_back c.own i }

-- ---- the tests of one own write, in the order in which the code asks them

-- what depends only on ids of the ring's offices has only such
pub in_ring : (n : ℕ) (read seen deps : List ℕ) → ids_ok n read ≡ true → ids_ok n seen ≡ true → subset_of deps (unite read seen) ≡ true → ids_ok n deps ≡ true
unfolding subset_of word_in unite
in_ring n read seen deps x y h = facts_ids n deps none
  where
    none : (j : ℕ) → j < 8 → n ≤ j → get_or deps j 0 ≡ 0
    none j l g =
        let t = eqb-true _ _ (all_at (word_in deps (unite read seen)) 8 h j l) in
        let u : get_or (unite read seen) j 0 ≡ 0 = zip8_at bit_or read seen j l ∙ (λ i. bit_or (ids_facts n read x j l g i) (ids_facts n seen y j l g i)) in
        let v : bit_or (get_or deps j 0) (get_or (unite read seen) j 0) ≡ 0 = t ∙ u in
        eqb-true _ 0 (both_true (eqb (get_or deps j 0) 0) _ (sym (or_is_zero (get_or deps j 0) (get_or (unite read seen) j 0)) ∙ eq-eqb _ 0 v)).0

-- ids in range, and one more of an entry that keeps its bounds
pub ids_kept : (n p : ℕ) (read seen : List ℕ) (e : Entry) → ids_ok n seen ≡ true → own_turn n p read seen e ≡ true → ids_ok n (inserted seen (id_of e)) ≡ true
unfolding own_turn inserted
ids_kept n p read seen e x h = facts_ids n (inserted seen (id_of e)) none
  where
    kept : EntryFacts n p e
    kept = entry_facts n p e (both_true (entry_ok n p e) _ h).0

    none : (j : ℕ) → j < 8 → n ≤ j → get_or (inserted seen (id_of e)) j 0 ≡ 0
    none j l g = get_or-set_other seen (id_of e / 32) j _ 0 (λ w. omega (arith, w, kept.bounds.office_ok, kept.bounds.to)) ∙ ids_facts n seen x j l g

pub none_seen : (n : ℕ) → ids_ok n zeros ≡ true
none_seen n = facts_ids n zeros (λ j l g. zero_at j)

-- six tests in the order of the rules are five in that of the code, where the last says the one left out
tests_in_row : (a b c d i s t : Bool) → (t ≡ true → i ≡ true) → both (both a (both b (both c (both d i)))) (both s t) ≡ both a (both b (both c (both s (both d t))))
unfolding both
tests_in_row false b c d i s t f = refl
tests_in_row true false c d i s t f = refl
tests_in_row true true false d i s t f = refl
tests_in_row true true true false i false t f = refl
tests_in_row true true true false i true t f = refl
tests_in_row true true true true false false t f = refl
tests_in_row true true true true true false t f = refl
tests_in_row true true true true i true false f = both_false i
tests_in_row true true true true i true true f = ap (λ (b : Bool). both b true) (f refl)

pub own_tests : (n p : ℕ) (most read seen : List ℕ) (e : Entry) → ids_ok n read ≡ true → ids_ok n seen ≡ true → ((c : List ℕ) → under_ok most c ≡ clock_ok n c) → own_turn n p read seen e ≡
    both (bounds_ok n p e.office e.serial e.plot e.value)
    (both (eqb (get_or e.clock e.office 0) e.serial)
    (both (not (is_in e.deps (id_of e)))
    (both (not (is_in seen (id_of e))) (both (under_ok most e.clock) (subset_of e.deps (unite read seen))))))
unfolding own_turn entry_ok
own_tests n p most read seen e x y u =
    tests_in_row _ _ _ _ _ _ _ (in_ring n read seen e.deps x y)
    ∙ ap (λ (q : Bool). both (bounds_ok n p e.office e.serial e.plot e.value) (both (eqb (get_or e.clock e.office 0) e.serial) (both (not (is_in e.deps (id_of e))) (both (not (is_in seen (id_of e))) (both q (subset_of e.deps (unite read seen))))))) (sym (u e.clock))

pub far_own : (n p : ℕ) (read seen : List ℕ) (e : Entry) → length e.clock ≡ 8 → 7 < e.office → own_turn n p read seen e ≡ false
unfolding own_turn both
far_own n p read seen e l far = rw (far_entry n p e l far) refl
