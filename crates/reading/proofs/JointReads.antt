-- To read several plots at once: what code decides and does is what Calls says. Assumes nothing.
use Rattle.std.proofs.Common.{Err, None, Ok, Option, Result, Some}
use Rattle.std.specs.List.{list_all}
use Rattle.std.specs.Result.{IsErrAnd, result_unwrap_or}
use Prim.Native.Nat.{ℕ, zero, suc, ◌+◌, ◌*◌, ◌<◌, ◌≤◌}
use mathlib.Core.Path.{◌≡◌, refl, sym, ap, ap₂, ◌∙◌, subst}
use mathlib.Core.Bool.{Bool, true, false, cond}
use mathlib.Core.List.{List, [], ◌∷◌, ◌++◌, append_assoc, append-nil, map}
use mathlib.Core.Logic.{⊎_elim}
use native.Mathlib.Omega.{arith}
use native.Mathlib.Numerals.{add-one}
use lib.Dec.{leb, ltb, eqb}
use lib.ListN.{length, get_or, set, take, length-append}
use lib.Seq.{sets, get_or-set_same, get_or-set_other, get_or-take}
use borrow.Author.Tests.{leb-true}
use Rattle.causal.specs.Tests.{both}
use Rattle.causal.specs.Codes.{check, or_else}
use Rattle.causal.specs.Lists.{part}
use Rattle.causal.specs.Sets.{subset_of}
use Rattle.causal.proofs.Codes.{check_none, or_both}
use Rattle.causal.proofs.Equal.{and_both}
use Rattle.causal.proofs.Lists.{sets_append, sets_front}
use Rattle.causal.proofs.Tests.{both_true, split}
use Rattle.frame.specs.declared.entry.Entry.{Entry}
use Rattle.frame.specs.declared.refusal.Refusal.{Refusal}
use Rattle.frame.specs.declared.session.Session.{Session}
use Rattle.frame.specs.Calls.{laid}
use Rattle.frame.specs.Entries.{outranks}
use Rattle.frame.specs.Refusals.{code_of, number_of}
use Rattle.frame.specs.Sessions.{Content, content_of, session_ok}
use Rattle.frame.proofs.Entries.{entry_facts}
use Rattle.store.specs.Offices.{Office, entry_at, office_of, store_words, sound_store, reveal, current, Found, better, best_own, consider}
use Rattle.store.specs.Current.{InSlots, current_at, found_at}
use Rattle.store.proofs.Rules.{rules_of}
use Rattle.office.specs.Calls.{answer_words, given, handed, handed_all, joint_code, joint_on, plots_ok, read_all, read_joint, three_words, worded}
use Rattle.office.specs.Answers.{session_if, noted_in, noted_all_in, read_joint_session}
use Rattle.office.specs.Decide.{start_code, noted_seen, seen_of, with_seen}
use Rattle.office.specs.Promises.{JointPromise}
use Rattle.office.specs.Steps.{own_at}
use Rattle.office.specs.declared.note.Seen.{Seen}
use Rattle.frame.proofs.Refusals.{number_some}
use Rattle.office.proofs.Notes.{few_own, noted_with, start_facts, with_own}
use Rattle.office.proofs.Shape.{own_kept}
use Rattle.reading.specs.Readings.{joint_refusal, found_among, handed_among, Named, NamedIn, OwnNamed, PlacesTo, Shows, words_to, seen_to}
use Rattle.reading.proofs.Readings.{Res, read_result, result_code}

-- ---- plots in range

pub plots_all : (p : ℕ) (qs : List ℕ) → list_all (λ q. ltb q p) qs ≡ plots_ok p qs
unfolding plots_ok
plots_all p [] = refl
plots_all p (q ∷ qs) = and_both (ltb q p) (list_all (λ x. ltb x p) qs) ∙ ap (both (ltb q p)) (plots_all p qs)

-- ---- what is current on each plot

pub places_more : (ws v plots : List ℕ) (places : List (Option ℕ)) (i : ℕ) (k : Option ℕ) → i < length places → PlacesTo ws v plots i places
    → k ≡ current_at ws v (get_or plots i 0) → PlacesTo ws v plots (i + 1) (set places i k)
places_more ws v plots places i k l h e j m =
    ⊎_elim (λ (a : j < i). get_or-set_other places i j k None (λ (q : j ≡ i). omega arith) ∙ h j a)
    (λ (a : j ≡ i). subst (λ (x : ℕ). get_or (set places i k) x None ≡ current_at ws v (get_or plots x 0)) (sym a) (get_or-set_same places i k None l ∙ e)) (split j i (omega arith))

-- of a longer row the first places, one for each plot
pub places_front : (ws v plots : List ℕ) (places : List (Option ℕ)) → PlacesTo ws v plots (length plots) places → PlacesTo ws v plots (length plots) (take (length plots) places)
places_front ws v plots places h j l = get_or-take (length plots) places j None l ∙ h j l

-- ---- all plots, with what stands on each

abbrev pub Stands : (ℕ → Found) → (ℕ → Found) → List ℕ → Type 0
Stands c g qs = (j : ℕ) → j < length qs → g j ≡ c (get_or qs j 0)

tail : (c g : ℕ → Found) (q : ℕ) (qs : List ℕ) → Stands c g (q ∷ qs) → Stands c (λ j. g (suc j)) qs
tail c g q qs h j l = h (suc j) (omega arith)

words_cons : (g : ℕ → Found) (n : ℕ) → words_to g (suc n) ≡ three_words (g 0) ++ words_to (λ j. g (suc j)) n
unfolding words_to
words_cons g zero = sym (append-nil (three_words (g 0)))
words_cons g (suc n) = ap (λ (l : List ℕ). l ++ three_words (g (suc n))) (words_cons g n) ∙ append_assoc (three_words (g 0)) (words_to (λ j. g (suc j)) n) (three_words (g (suc n)))

words_all : (c : ℕ → Found) (qs : List ℕ) (g : ℕ → Found) → Stands c g qs → words_to g (length qs) ≡ answer_words (map c qs)
unfolding words_to answer_words
words_all c [] g h = refl
words_all c (q ∷ qs) g h =
    words_cons g (length qs) ∙ ap₂ (λ (f : Found) (l : List ℕ). three_words f ++ l) (h 0 (omega arith)) (words_all c qs (λ j. g (suc j)) (tail c g q qs h))

seen_cons : (g : ℕ → Found) (n : ℕ) (x : Seen) → seen_to g (suc n) x ≡ seen_to (λ j. g (suc j)) n (noted_seen (g 0) x)
unfolding seen_to
seen_cons g zero x = refl
seen_cons g (suc n) x = ap (noted_seen (g (suc n))) (seen_cons g n x)

seen_all : (O : Office) (s : Session) (qs : List ℕ) (g : ℕ → Found) (x : Seen) → Stands (current O) g qs → with_seen s (seen_to g (length qs) x) ≡ noted_all_in O qs (with_seen s x)
unfolding seen_to noted_all_in
seen_all O s [] g x h = refl
seen_all O s (q ∷ qs) g x h =
    ap (with_seen s) (seen_cons g (length qs) x) ∙ seen_all O s qs (λ j. g (suc j)) (noted_seen (g 0) x) (tail (current O) g q qs h)
    ∙ ap (noted_all_in O qs) (noted_with (g 0) s x ∙ ap (λ (f : Found). noted_in f (with_seen s x)) (h 0 (omega arith)))

-- ---- no own writes

pub none_own : (plot : ℕ) (f : Found) (own : List Entry) → length own ≡ 0 → f ≡ best_own plot f own
unfolding best_own
none_own plot f [] h = refl
none_own plot f (e ∷ own) h = absurd (omega (arith, h))

-- ---- names

-- its name payload fits a word, if those of what was found in the store and of the own writes do
pub found_named : (ws : List ℕ) (m : ℕ) (place : Option ℕ) → InSlots m place → NamedIn (found_at ws place)
unfolding found_at entry_at
found_named ws m None h = tt
found_named ws m (Some k) h = (omega arith, omega arith)

pub best_named : (plot : ℕ) (f : Found) (own : List Entry) → NamedIn f → OwnNamed own → NamedIn (best_own plot f own)
unfolding best_own consider better
best_named plot f [] h own_named = h
best_named plot f (e ∷ own) h own_named = best_named plot (consider (eqb e.plot plot) e f) own (go (eqb e.plot plot) f h) (λ i l. own_named (suc i) (omega arith))
  where
    first : Named e
    first = own_named 0 (omega arith)

    over : (r : Bool) (b : Entry) → Named b → NamedIn (cond r (Some e) (Some b))
    over true b n = first
    over false b n = n

    go : (t : Bool) (g : Found) → NamedIn g → NamedIn (consider t e g)
    go true None n = first
    go true (Some b) n = over (outranks e b) b n
    go false g n = n

-- the own writes of a sound session over a sound store
own_named : (ws : List ℕ) (s : Content) → sound_store ws ≡ true → session_ok (get_or ws 0 0) (get_or ws 2 0) s ≡ true → OwnNamed s.own
own_named ws s sound ok i l =
    let n = get_or ws 0 0 in
    let p = get_or ws 2 0 in
    let G = (entry_facts n p (own_at s.own i) (own_kept n p s ok i l)).bounds in
    let n8 = (rules_of ws sound).laid.few in
    (omega (arith, G.office_ok), G.to)

-- ---- turns of the loops

pub three_sets : (l : List ℕ) (at : ℕ) (xs : List ℕ) → length xs ≡ 3
    → set (set (set l at (get_or xs 0 0)) (at + 1) (get_or xs 1 0)) (at + 2) (get_or xs 2 0) ≡ sets l at xs
three_sets l at [] h = absurd (omega (arith, h))
three_sets l at (a ∷ []) h = absurd (omega (arith, h))
three_sets l at (a ∷ b ∷ []) h = absurd (omega (arith, h))
three_sets l at (a ∷ b ∷ c ∷ []) h =
    let two : at + 2 ≡ suc (suc at) = omega arith in
    ap₂ (λ (i j : ℕ). set (set (set l at a) i b) j c) (add-one at) two
three_sets l at (a ∷ b ∷ c ∷ d ∷ xs) h = absurd (omega (arith, h))

pub three_length : (f : Found) → length (three_words f) ≡ 3
unfolding three_words
three_length None = refl
three_length (Some e) = refl

pub words_length : (g : ℕ → Found) (n : ℕ) → length (words_to g n) ≡ 3 * n
unfolding words_to
words_length g zero = refl
words_length g (suc n) = omega (arith, length-append (words_to g n) (three_words (g n)), words_length g n, three_length (g n))

pub words_more : (g : ℕ → Found) (l m r : List ℕ) (i : ℕ) → m ≡ sets l 0 (words_to g i) → r ≡ sets m (3 * i) (three_words (g i)) → r ≡ sets l 0 (words_to g (i + 1))
unfolding words_to
words_more g l m r i e q =
    let n : 3 * i ≡ 0 + length (words_to g i) = omega (arith, words_length g i) in
    q ∙ ap₂ (λ (x : List ℕ) (j : ℕ). sets x j (three_words (g i))) e n ∙ sym (sets_append l 0 (words_to g i) (three_words (g i))) ∙ ap (λ (j : ℕ). sets l 0 (words_to g j)) (sym (add-one i))

pub seen_more : (g : ℕ → Found) (x y r : Seen) (i : ℕ) → y ≡ seen_to g i x → r ≡ noted_seen (g i) y → r ≡ seen_to g (i + 1) x
unfolding seen_to
seen_more g x y r i e q = q ∙ ap (noted_seen (g i)) e ∙ ap (λ (j : ℕ). seen_to g j x) (sym (add-one i))

-- ---- the whole call

-- the row that an accepted reading leaves
abbrev pub answered : List ℕ → Content → List ℕ → List ℕ → List ℕ
answered ws s plots row = laid (answer_words (handed_all (office_of ws) s plots)) row

module _ (ws : List ℕ) (s : Content) (plots : List ℕ) where
  pub joint_is : (row : List ℕ) → read_joint ws s plots row ≡ read_result ws s plots row (answered ws s plots row) (joint_refusal ws s plots (length row))
  unfolding read_joint joint_on joint_code joint_refusal start_code check or_else office_of reveal
  joint_is row =
      go (sound_store ws) (session_ok (get_or ws 0 0) (get_or ws 2 0) s) (both (leb (length plots) 16) (plots_ok (get_or ws 2 0) plots)) (leb (3 * length plots) (length row)) (subset_of s.read (part ws 3 8))
    where
      go : (a b c d e : Bool) → worded a ws s row (given (check b 3 (check c 4 (check d 8 (check e 12 0)))) (office_of ws) s row (read_all (office_of ws) s plots (answered ws s plots row)))
          ≡ read_result ws s plots row (answered ws s plots row) (or_else (check a 2 (check b 3 0)) (check c 4 (check d 8 (check e 12 0))))
      go false b c d e = refl
      go true false c d e = refl
      go true true false d e = refl
      go true true true false e = refl
      go true true true true false = refl
      go true true true true true = refl

  pub joint_small : (room : ℕ) → joint_refusal ws s plots room ≤ 12
  unfolding joint_refusal start_code check or_else
  joint_small room =
      go (sound_store ws) (session_ok (get_or ws 0 0) (get_or ws 2 0) s) (both (leb (length plots) 16) (plots_ok (get_or ws 2 0) plots)) (leb (3 * length plots) room) (subset_of s.read (part ws 3 8))
    where
      go : (a b c d e : Bool) → or_else (check a 2 (check b 3 0)) (check c 4 (check d 8 (check e 12 0))) ≤ 12
      go false b c d e = omega arith
      go true false c d e = omega arith
      go true true false d e = omega arith
      go true true true false e = omega arith
      go true true true true false = omega arith
      go true true true true true = omega arith

  -- what an accepted one hands back
  pub joint_hands : (row : List ℕ) → (read_joint ws s plots row).code ≡ 0 → (read_joint ws s plots row).found ≡ handed_all (office_of ws) s plots
  joint_hands row h = go (joint_refusal ws s plots (length row)) (joint_is row)
    where
      go : (c : ℕ) → read_joint ws s plots row ≡ read_result ws s plots row (answered ws s plots row) c → (read_joint ws s plots row).found ≡ handed_all (office_of ws) s plots
      go zero e = ap (λ (x : Res). x.found) e
      go (suc c) e = absurd (omega (arith, h, ap (λ (x : Res). x.code) e))

  -- "Refusal 13 then never occurs": whatever the words of the store and the row, the session and the plots
  pub never_13 : (row : List ℕ) → (read_joint ws s plots row).code ≡ 13 → ⊥
  never_13 row h =
      let c = joint_refusal ws s plots (length row) in
      let e : (read_joint ws s plots row).code ≡ c = ap (λ (x : Res). x.code) (joint_is row) ∙ result_code ws s plots row (answered ws s plots row) c in
      omega (arith, h, e, joint_small (length row))

-- what is known where nothing is refused
pub record Starts (ws : List ℕ) (s : Session) (plots : List ℕ) (room : ℕ) : Type 0 where
  pub sound : sound_store ws ≡ true
  pub few : s.count ≤ 16
  pub named : OwnNamed (content_of s).own
  pub short : length plots ≤ 16
  pub room_for : 3 * length plots ≤ room
  pub held : subset_of s.read (part ws 3 8) ≡ true

pub starts : (ws : List ℕ) (s : Session) (plots : List ℕ) (room : ℕ) → joint_refusal ws (content_of s) plots room ≡ 0 → Starts ws s plots room
unfolding joint_refusal content_of
starts ws s plots room h =
    let a = or_both (start_code ws (content_of s)) _ h in
    let b = start_facts ws (content_of s) a.0 in
    let c = check_none (both (leb (length plots) 16) (plots_ok (get_or ws 2 0) plots)) 4 _ (omega arith) a.1 in
    let d = check_none (leb (3 * length plots) room) 8 _ (omega arith) c.1 in
    record {
      sound = b.0;
      few = few_own (get_or ws 0 0) (get_or ws 2 0) s b.1;
      named = own_named ws (content_of s) b.0 b.1;
      short = leb-true (length plots) 16 (both_true (leb (length plots) 16) (plots_ok (get_or ws 2 0) plots) c.0).0;
      room_for = leb-true (3 * length plots) room d.0;
      held = (check_none (subset_of s.read (part ws 3 8)) 12 0 (omega arith) d.1).0;
    }

-- what a joint reading that is not refused has found out: the visible set to be, and what is current on each plot then
pub record Sighted (ws read plots visible : List ℕ) (places : List (Option ℕ)) : Type 0 where
  pub shown : visible ≡ (reveal (office_of ws) read).visible
  pub found : (j : ℕ) → j < length plots → found_among ws places j ≡ current (reveal (office_of ws) read) (get_or plots j 0)
  pub reach : (j : ℕ) → j < length plots → InSlots (length ws) (get_or places j None)

pub sighted : (ws read plots visible : List ℕ) (places : List (Option ℕ)) → Shows ws read visible → PlacesTo ws visible plots (length plots) places → Sighted ws read plots visible places
unfolding found_among
sighted ws read plots visible places S p =
    record {
      shown = S.shown;
      found = λ j l. ap (found_at ws) (p j l) ∙ sym (S.found (get_or plots j 0));
      reach = λ j l. subst (InSlots (length ws)) (sym (p j l)) (S.place (get_or plots j 0));
    }

module _ (ws : List ℕ) (s : Session) (plots : List ℕ) where
  abbrev O : Office
  O = reveal (office_of ws) s.read

  pub stands_own : {visible : List ℕ} (places : List (Option ℕ)) → Sighted ws s.read plots visible places → Stands (handed O (content_of s)) (handed_among ws (content_of s).own plots places) plots
  unfolding handed handed_among content_of
  stands_own places L j l = ap (λ (f : Found). best_own (get_or plots j 0) f (content_of s).own) (L.found j l)

  module _ (row : List ℕ) where
    abbrev R : Res
    R = read_joint ws (content_of s) plots row

    -- what the call promises of its answer, of the store and the row it leaves
    abbrev pub JointSays : Result Seen Refusal → List ℕ → List ℕ → Type 0
    JointSays r left out = JointPromise ws s plots row (code_of r) (with_seen s (result_unwrap_or r (seen_of s))) left out

    by_result : (c : ℕ) → c ≡ joint_refusal ws (content_of s) plots (length row) → read_result ws (content_of s) plots row (answered ws (content_of s) plots row) c ≡ R
    by_result c e = ap (read_result ws (content_of s) plots row (answered ws (content_of s) plots row)) e ∙ sym (joint_is ws (content_of s) plots row)

    -- x: what it is refused by
    pub joint_refused : (r : Result Seen Refusal) (x : Refusal) → IsErrAnd r (λ y. y ≡ x) → number_of x ≡ joint_refusal ws (content_of s) plots (length row) → JointSays r ws row
    unfolding code_of read_joint_session session_if
    joint_refused (Ok y) x h q = absurd h
    joint_refused (Err y) x h q = go (number_of y) (number_some y) (ap number_of h ∙ q)
      where
        go : (c : ℕ) → (c ≡ 0 → ⊥) → c ≡ joint_refusal ws (content_of s) plots (length row)
            → (c ≡ R.code) × (with_seen s (seen_of s) ≡ session_if R.code s (noted_all_in O plots s)) × (ws ≡ R.store) × (row ≡ R.row)
        go zero h q = absurd (h refl)
        go (suc c) h q =
            let r = by_result (suc c) q in (
              ap (λ (x : Res). x.code) r,
              with_own s ∙ ap (λ (x : Res). session_if x.code s (noted_all_in O plots s)) r,
              ap (λ (x : Res). x.store) r,
              ap (λ (x : Res). x.row) r,
            )

    -- g: what is handed back on each plot
    pub joint_accepted : {visible : List ℕ} (places : List (Option ℕ)) (g : ℕ → Found) (seen : Seen) (left out : List ℕ) → 0 ≡ joint_refusal ws (content_of s) plots (length row)
        → Sighted ws s.read plots visible places → Stands (handed O (content_of s)) g plots → seen ≡ seen_to (found_among ws places) (length plots) (seen_of s)
        → left ≡ store_words ws O → out ≡ sets row 0 (words_to g (length plots)) → JointSays (Ok seen) left out
    unfolding code_of read_joint_session session_if content_of laid
    joint_accepted places g seen left out z L h a b d =
        let r = by_result 0 z in
        let words = words_to g (length plots) in
        let n : length words ≤ length row = omega (arith, words_length g (length plots), (starts ws s plots (length row) (sym z)).room_for) in
        let m : out ≡ laid words row = d ∙ sets_front row words n in
        let t : with_seen s seen ≡ noted_all_in O plots s = ap (with_seen s) a ∙ seen_all O s plots (found_among ws places) (seen_of s) L.found ∙ ap (noted_all_in O plots) (with_own s) in (
          ap (λ (x : Res). x.code) r,
          t ∙ ap (λ (x : Res). session_if x.code s (noted_all_in O plots s)) r,
          b ∙ ap (λ (x : Res). x.store) r,
          m ∙ ap (λ (l : List ℕ). laid l row) (words_all (handed O (content_of s)) plots g h) ∙ ap (λ (x : Res). x.row) r,
        )
