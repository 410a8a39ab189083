-- Laws of frames: the words of a frame, part by part; the reader's checks accept just the writings; what was written is read back.
-- Assumes nothing.
use Rattle.std.proofs.Common.{◌≡◌, ℕ, suc, ◌+◌, ◌-◌, ◌*◌, ◌/◌, ◌%◌, ◌<◌, ◌≤◌, Bool, true, cond, eqb, ltb, leb, List, [], ◌∷◌, ◌++◌, length, get_or, take, drop, sym, refl, ap, ◌∙◌, append_assoc, le_refl, arith, length-append, take_all, take-suc, drop-drop, take_at, ext_get_or, drop_at, ltb-true, lt-ltb, eq-eqb, eqb-true, le-leb, leb-true}
use lib.Seq.{get_or_at}
use Rattle.causal.specs.Tests.{both, either}
use Rattle.causal.specs.Lists.{part, eq_words}
use Rattle.causal.proofs.Tests.{both_true, both_intro, all_at, all_intro, same_test}
use Rattle.causal.proofs.Lists.{part_add, part_cons, part_at, part_length, eq_words_refl, eq_words_eq}
use Rattle.causal.proofs.Sets.{size_less}
use Rattle.frame.specs.declared.entry.Entry.{Entry}
use Rattle.frame.specs.declared.entry.Frame.{Frame}
use Rattle.frame.specs.Entries.{id_of, entry_ok}
use Rattle.frame.specs.Words.{kind_of, payload, pay_at, is_kind, kind_is, clock_word, clock_words, clock_from, id_words, ids_from, total, sum_word, summed}
use Rattle.frame.specs.Frames.{head_word, body_words, frame_words, frame_ok, offices_in, count_in, frame_of, accepts}
use Rattle.frame.specs.Reading.{shape_ok, clock_kinds, kinds_ok, ascends, sum_ok, checked}
use Rattle.frame.proofs.Entries.{clock_facts, EntryFacts, entry_facts, FrameFacts, frame_facts, facts_frame}
use Rattle.frame.proofs.Words.{kind_is_lem, is_kind_lem, length_summed, length_clock, clock_at, clock_from_at, ids_size, ascends_are, ids_ascend}

-- ---- how many words

pub length_body : (f : Frame) → length (body_words f) ≡ f.offices + length (id_words f.entry.deps) + 3
unfolding body_words
length_body f =
    omega (
      arith,
      length-append (clock_words f.offices f.entry.clock) (id_words f.entry.deps),
      length_clock f.offices f.entry.clock,
    )

pub length_frame : (f : Frame) → length (frame_words f) ≡ f.offices + length (id_words f.entry.deps) + 4
unfolding frame_words
length_frame f = omega (arith, length_summed (body_words f), length_body f)

-- an entry does not depend on itself, so it has at most 255 dependencies
pub count_fits : (n p : ℕ) (e : Entry) → n ≤ 8 → entry_ok n p e ≡ true → length (id_words e.deps) < 256
count_fits n p e h ok =
    let f = entry_facts n p e ok in
    let l : id_of e < 256 = omega (arith, f.bounds) in
    omega (arith, ids_size e.deps, size_less e.deps (id_of e) l f.no_self)

-- ---- the head's fields

pub record HeadFits (o s h n k : ℕ) : Type 0 where
  pub office : o < 16
  pub serial : s < 256
  pub hops : h < 16
  pub offices : n < 16
  pub count : k < 256

pub head_fits : (n p : ℕ) (f : Frame) → frame_ok n p f ≡ true → HeadFits f.entry.office f.entry.serial f.hops f.offices (length (id_words f.entry.deps))
head_fits n p f ok =
    let a = frame_facts n p f ok in
    let b = entry_facts n p f.entry a.entry in
    record {
      office = omega (arith, b.bounds);
      serial = omega (arith, b.bounds);
      hops = omega arith;
      offices = omega arith;
      count = count_fits n p f.entry a.high a.entry;
    }

module _ (o s h n k : ℕ) (f : HeadFits o s h n k) where
  abbrev Fields : ℕ
  Fields = o * 16777216 + (s * 65536 + (h * 4096 + (n * 256 + k)))

  pub head_pay : payload (head_word o s h n k) ≡ Fields
  head_pay = omega arith

  pub head_kind : kind_of (head_word o s h n k) ≡ 1
  head_kind = omega arith

  pub head_office : Fields / 16777216 ≡ o
  head_office = omega arith

  pub head_serial : Fields / 65536 % 256 ≡ s
  head_serial = omega arith

  pub head_hops : Fields / 4096 % 16 ≡ h
  head_hops = omega arith

  pub head_offices : Fields / 256 % 16 ≡ n
  head_offices = omega arith

  pub head_count : Fields % 256 ≡ k
  head_count = omega arith

-- a head is the head of its fields
pub head_again : (w : ℕ) → kind_of w ≡ 1
    → w ≡ head_word (payload w / 16777216) (payload w / 65536 % 256) (payload w / 4096 % 16) (payload w / 256 % 16) (payload w % 256)
head_again w e =
    let x : ℕ = payload w in
    let a : x ≡ x / 256 * 256 + x % 256 = omega arith in
    let b : x / 256 ≡ x / 4096 * 16 + x / 256 % 16 = omega arith in
    let c : x / 4096 ≡ x / 65536 * 16 + x / 4096 % 16 = omega arith in
    let d : x / 65536 ≡ x / 16777216 * 256 + x / 65536 % 256 = omega arith in
    let v : w ≡ 268435456 + x = omega arith in
    sums (x / 16777216) (x / 65536 % 256) (x / 4096 % 16) (x / 256 % 16) (x % 256) (x / 65536) (x / 4096) (x / 256) x w a b c d v
  where
    sums : (o s h n k y z q x w : ℕ) → x ≡ q * 256 + k → q ≡ z * 16 + n → z ≡ y * 16 + h → y ≡ o * 256 + s → w ≡ 268435456 + x → w ≡ head_word o s h n k
    sums o s h n k y z q x w a b c d v = omega arith

-- ---- the words of a frame, by place

module _ (f : Frame) where
  abbrev C : List ℕ
  C = clock_words f.offices f.entry.clock

  abbrev D : List ℕ
  D = id_words f.entry.deps

  abbrev S : ℕ
  S = sum_word (body_words f)

  abbrev N : ℕ
  N = f.offices

  -- the clock, the dependencies and the check, behind the first three words
  pub rest_is : drop 3 (frame_words f) ≡ C ++ (D ++ (S ∷ []))
  unfolding frame_words summed body_words
  rest_is = append_assoc C D (S ∷ [])

  pub clock_part : part (frame_words f) 3 N ≡ C
  unfolding part
  clock_part = ap (take N) rest_is ∙ take_at C (D ++ (S ∷ [])) N (length_clock N f.entry.clock)

  pub deps_part : part (frame_words f) (3 + N) (length D) ≡ D
  unfolding part
  deps_part =
      ap (take (length D)) (sym (drop-drop N 3 (frame_words f)) ∙ ap (drop N) rest_is ∙ drop_at C (D ++ (S ∷ [])) N (length_clock N f.entry.clock))
      ∙ take_at D (S ∷ []) (length D) refl

  pub clock_word_lem : (j : ℕ) → j < N → get_or (frame_words f) (3 + j) 0 ≡ clock_word f.entry.clock j
  clock_word_lem j h = sym (part_at (frame_words f) 3 N j h) ∙ ap (λ (l : List ℕ). get_or l j 0) clock_part ∙ clock_at N f.entry.clock j h

  pub last_word : get_or (frame_words f) (length (frame_words f) - 1) 0 ≡ S
  unfolding frame_words summed
  last_word =
      let e : length (body_words f) ≡ length (body_words f ++ (S ∷ [])) - 1 = omega (arith, length-append (body_words f) (S ∷ [])) in
      get_or_at (body_words f) S [] 0 (length (body_words f ++ (S ∷ [])) - 1) e

  pub but_last : take (length (frame_words f) - 1) (frame_words f) ≡ body_words f
  unfolding frame_words summed
  but_last =
      let e : length (body_words f) ≡ length (body_words f ++ (S ∷ [])) - 1 = omega (arith, length-append (body_words f) (S ∷ [])) in
      take_at (body_words f) (S ∷ []) (length (body_words f ++ (S ∷ [])) - 1) e

-- ---- a row that passes the checks is the writing of its fields

-- clock words are the words of the clock that they give
pub clock_again : (ws : List ℕ) (i n : ℕ) → n ≤ 8 → i + n ≤ length ws → clock_kinds ws i n ≡ true → part ws i n ≡ clock_words n (clock_from ws i n)
unfolding clock_kinds
clock_again ws i n h l e =
    ext_get_or 0 (part ws i n) (clock_words n (clock_from ws i n)) (part_length ws i n l ∙ sym (length_clock n (clock_from ws i n)))
    (λ j q.
    let jn : j < n = omega (arith, part_length ws i n l) in
    let k : kind_of (get_or ws (i + j) 0) ≡ 5 = kind_is_lem 5 (get_or ws (i + j) 0) (all_at (λ (m : ℕ). kind_is 5 (get_or ws (i + m) 0)) n e j jn) in
    let c : get_or (clock_from ws i n) j 0 ≡ pay_at ws (i + j) =
    clock_from_at ws i n j (omega arith) ∙ ap (λ (b : Bool). cond b (pay_at ws (i + j)) 0) (lt-ltb j n jn)
    in
    part_at ws i n j jn ∙ omega (arith, c) ∙ sym (clock_at n (clock_from ws i n) j jn))

-- three words, two parts and a last one
front_again : (ws : List ℕ) (n k : ℕ) → length ws ≡ n + k + 4
    → take (length ws - 1) ws ≡ get_or ws 0 0 ∷ get_or ws 1 0 ∷ get_or ws 2 0 ∷ (part ws 3 n ++ part ws (3 + n) k)
unfolding part
front_again ws n k e =
    let m : length ws - 1 ≡ suc (suc (suc (n + k))) = omega arith in
    ap (λ (i : ℕ). take i ws) m
    ∙ part_cons ws 0 (suc (suc (n + k))) (omega arith)
    ∙ ap (λ (l : List ℕ). get_or ws 0 0 ∷ l) (part_cons ws 1 (suc (n + k)) (omega arith))
    ∙ ap (λ (l : List ℕ). get_or ws 0 0 ∷ get_or ws 1 0 ∷ l) (part_cons ws 2 (n + k) (omega arith))
    ∙ ap (λ (l : List ℕ). get_or ws 0 0 ∷ get_or ws 1 0 ∷ get_or ws 2 0 ∷ l) (part_add ws 3 n k)

split_last : (ws : List ℕ) → 0 < length ws → ws ≡ take (length ws - 1) ws ++ (get_or ws (length ws - 1) 0 ∷ [])
split_last ws h =
    let m : length ws ≡ suc (length ws - 1) = omega arith in
    sym (take_all (length ws) ws (le_refl (length ws))) ∙ ap (λ (i : ℕ). take i ws) m ∙ take-suc ws (length ws - 1) 0 (omega arith)

-- what the checks say
pub record Checked (n p : ℕ) (ws : List ℕ) : Type 0 where
  pub some : 0 < length ws
  pub head : kind_of (get_or ws 0 0) ≡ 1
  pub ring : offices_in ws ≡ n
  pub exact : length ws ≡ n + count_in ws + 4
  pub plot : kind_of (get_or ws 1 0) ≡ 3
  pub value : kind_of (get_or ws 2 0) ≡ 4
  pub clock : clock_kinds ws 3 n ≡ true
  pub ids : ascends n 0 (part ws (3 + n) (count_in ws)) ≡ true
  pub hops : (frame_of ws).hops ≤ n - 2
  pub entry : entry_ok n p (frame_of ws).entry ≡ true
  pub check : kind_of (get_or ws (length ws - 1) 0) ≡ 15
  pub sum : pay_at ws (length ws - 1) ≡ total (take (length ws - 1) ws) % 268435456

pub checked_facts : (n p : ℕ) (ws : List ℕ) → checked n p ws ≡ true → Checked n p ws
unfolding checked shape_ok kinds_ok sum_ok
checked_facts n p ws e =
    let a = both_true (shape_ok n ws) _ e in
    let a0 = both_true (ltb 0 (length ws)) _ a.0 in
    let a1 = both_true (kind_is 1 (get_or ws 0 0)) _ a0.1 in
    let a2 = both_true (eqb (offices_in ws) n) _ a1.1 in
    let d = both_true (kinds_ok n ws) _ a.1 in
    let b = both_true (kind_is 3 (get_or ws 1 0)) _ d.0 in
    let c = both_true (kind_is 4 (get_or ws 2 0)) _ b.1 in
    let g = both_true (ascends n 0 (part ws (3 + n) (count_in ws))) _ d.1 in
    let h = both_true (leb (frame_of ws).hops (n - 2)) _ g.1 in
    let k = both_true (entry_ok n p (frame_of ws).entry) _ h.1 in
    let s = both_true (kind_is 15 (get_or ws (length ws - 1) 0)) _ k.1 in
    record {
      some = ltb-true 0 (length ws) a0.0;
      head = kind_is_lem 1 (get_or ws 0 0) a1.0;
      ring = eqb-true (offices_in ws) n a2.0;
      exact = eqb-true (length ws) (n + count_in ws + 4) a2.1;
      plot = kind_is_lem 3 (get_or ws 1 0) b.0;
      value = kind_is_lem 4 (get_or ws 2 0) c.0;
      clock = c.1;
      ids = g.0;
      hops = leb-true (frame_of ws).hops (n - 2) h.0;
      entry = k.0;
      check = kind_is_lem 15 (get_or ws (length ws - 1) 0) s.0;
      sum = eqb-true (pay_at ws (length ws - 1)) (total (take (length ws - 1) ws) % 268435456) s.1;
    }

facts_checked : (n p : ℕ) (ws : List ℕ) → Checked n p ws → checked n p ws ≡ true
unfolding checked shape_ok kinds_ok sum_ok is_kind either both
facts_checked n p ws c =
    let size = both_intro _ _ (eq-eqb (offices_in ws) n c.ring) (eq-eqb (length ws) (n + count_in ws + 4) c.exact) in
    let shape = both_intro _ _ (lt-ltb 0 (length ws) c.some) (both_intro _ _ (is_kind_lem 1 (get_or ws 0 0) refl c.head) size) in
    let sum =
    both_intro _ _ (is_kind_lem 15 (get_or ws (length ws - 1) 0) refl c.check) (eq-eqb (pay_at ws (length ws - 1)) (total (take (length ws - 1) ws) % 268435456) c.sum)
    in
    let entry = both_intro _ _ (le-leb (frame_of ws).hops (n - 2) c.hops) (both_intro _ _ c.entry sum) in
    let kinds = both_intro _ _ (is_kind_lem 3 (get_or ws 1 0) refl c.plot) (both_intro _ _ (is_kind_lem 4 (get_or ws 2 0) refl c.value) c.clock) in
    both_intro _ _ shape (both_intro _ _ kinds (both_intro _ _ c.ids entry))

-- ---- the writing of its fields passes the checks

sum_kind : (t : ℕ) → kind_of (4026531840 + t % 268435456) ≡ 15
sum_kind t = omega arith

sum_pay : (t : ℕ) → payload (4026531840 + t % 268435456) ≡ t % 268435456
sum_pay t = omega arith

module _ (n p : ℕ) (ws : List ℕ) (high : n ≤ 8) (v : frame_ok n p (frame_of ws) ≡ true) (w : ws ≡ frame_words (frame_of ws)) where
  abbrev F : Frame
  F = frame_of ws

  facts : FrameFacts n p F
  facts = frame_facts n p F v

  rules : EntryFacts n p F.entry
  rules = entry_facts n p F.entry facts.entry

  len : length ws ≡ F.offices + length (id_words F.entry.deps) + 4
  len = ap length w ∙ length_frame F

  first : get_or ws 0 0 ≡ head_word F.entry.office F.entry.serial F.hops F.offices (length (id_words F.entry.deps))
  unfolding frame_words summed body_words
  first = ap (λ (l : List ℕ). get_or l 0 0) w

  second : get_or ws 1 0 ≡ 805306368 + F.entry.plot
  unfolding frame_words summed body_words
  second = ap (λ (l : List ℕ). get_or l 1 0) w

  third : get_or ws 2 0 ≡ 1073741824 + F.entry.value
  unfolding frame_words summed body_words
  third = ap (λ (l : List ℕ). get_or l 2 0) w

  count : count_in ws ≡ length (id_words F.entry.deps)
  count =
      let fits = head_fits n p F v in
      ap (λ (x : ℕ). payload x % 256) first
      ∙ ap (λ (x : ℕ). x % 256) (head_pay F.entry.office F.entry.serial F.hops F.offices (length (id_words F.entry.deps)) fits)
      ∙ head_count F.entry.office F.entry.serial F.hops F.offices (length (id_words F.entry.deps)) fits

  clocks : clock_kinds ws 3 n ≡ true
  unfolding clock_kinds is_kind either both
  clocks =
      all_intro (λ (j : ℕ). kind_is 5 (get_or ws (3 + j) 0)) n
      (λ j h.
      let e : get_or ws (3 + j) 0 ≡ clock_word F.entry.clock j =
      ap (λ (l : List ℕ). get_or l (3 + j) 0) w ∙ clock_word_lem F j (rw facts.ring h)
      in
      let c = (clock_facts n F.entry.clock rules.clock j (omega arith)).small in
      is_kind_lem 5 (get_or ws (3 + j) 0) refl (omega arith))

  deps : part ws (3 + n) (count_in ws) ≡ id_words F.entry.deps
  deps =
      ap (λ (m : ℕ). part ws (3 + m) (count_in ws)) (sym facts.ring)
      ∙ ap (part ws (3 + F.offices)) count
      ∙ ap (λ (l : List ℕ). part l (3 + F.offices) (length (id_words F.entry.deps))) w
      ∙ deps_part F

  front : take (length ws - 1) ws ≡ body_words F
  front = ap (λ (l : List ℕ). take (length l - 1) l) w ∙ but_last F

  last : get_or ws (length ws - 1) 0 ≡ sum_word (body_words F)
  last = ap (λ (l : List ℕ). get_or l (length l - 1) 0) w ∙ last_word F

  written : Checked n p ws
  unfolding frame_of
  written =
      let fits = head_fits n p F v in
      let e1 = second in
      let e2 = third in
      record {
        some = omega (arith, len);
        head = ap kind_of first ∙ head_kind F.entry.office F.entry.serial F.hops F.offices (length (id_words F.entry.deps)) fits;
        ring = facts.ring;
        exact = omega (arith, len, facts.ring, count);
        plot = omega arith;
        value = omega arith;
        clock = clocks;
        ids = ap (ascends n 0) deps ∙ ids_ascend n F.entry.deps high rules.deps;
        hops = facts.hops_ok;
        entry = facts.entry;
        check = ap kind_of last ∙ sum_kind (total (body_words F));
        sum = ap payload last ∙ sum_pay (total (body_words F)) ∙ ap (λ (l : List ℕ). total l % 268435456) (sym front);
      }

-- ---- the reader's checks

module _ (n p : ℕ) (ws : List ℕ) (low : 2 ≤ n) (high : n ≤ 8) where
  body_again : Checked n p ws → take (length ws - 1) ws ≡ body_words (frame_of ws)
  unfolding body_words frame_of
  body_again c =
      let o = c.ring in
      let k : ℕ = count_in ws in
      let P : List ℕ = part ws (3 + n) k in
      let lp : length P ≡ k = part_length ws (3 + n) k (omega (arith, c.exact)) in
      let ids : id_words (ids_from P) ≡ P = (ascends_are n P high c.ids).0 in
      let moved : ids_from P ≡ ids_from (part ws (3 + offices_in ws) k) = ap (λ (m : ℕ). ids_from (part ws (3 + m) k)) (sym o) in
      let deps : P ≡ id_words (ids_from (part ws (3 + offices_in ws) k)) = sym ids ∙ ap id_words moved in
      let count : k ≡ length (id_words (ids_from (part ws (3 + offices_in ws) k))) = sym lp ∙ ap length deps in
      let clock : part ws 3 n ≡ clock_words (offices_in ws) (clock_from ws 3 (offices_in ws)) =
      clock_again ws 3 n high (omega (arith, c.exact)) c.clock ∙ ap (λ (m : ℕ). clock_words m (clock_from ws 3 m)) (sym o)
      in
      let w0 : get_or ws 0 0 ≡ head_word (pay_at ws 0 / 16777216) (pay_at ws 0 / 65536 % 256) (pay_at ws 0 / 4096 % 16) (offices_in ws) (length (id_words (ids_from (part ws (3 + offices_in ws) k)))) =
      head_again (get_or ws 0 0) c.head ∙ ap (head_word (pay_at ws 0 / 16777216) (pay_at ws 0 / 65536 % 256) (pay_at ws 0 / 4096 % 16) (offices_in ws)) count
      in
      let w1 : get_or ws 1 0 ≡ 805306368 + pay_at ws 1 = omega (arith, c.plot) in
      let w2 : get_or ws 2 0 ≡ 1073741824 + pay_at ws 2 = omega (arith, c.value) in
      front_again ws n k c.exact ∙ cc (w0, w1, w2, clock, deps)

  again : Checked n p ws → ws ≡ frame_words (frame_of ws)
  unfolding frame_words summed
  again c =
      let b = body_again c in
      let w : get_or ws (length ws - 1) 0 ≡ sum_word (take (length ws - 1) ws) = omega (arith, c.check, c.sum) in
      split_last ws c.some ∙ ap (λ (x : ℕ). take (length ws - 1) ws ++ (x ∷ [])) w ∙ ap (λ (l : List ℕ). l ++ (sum_word l ∷ [])) b

  content : Checked n p ws → frame_ok n p (frame_of ws) ≡ true
  unfolding frame_of
  content c = facts_frame n p (frame_of ws) (record { ring = c.ring; low = low; high = high; hops_ok = c.hops; entry = c.entry })

  -- the reader's checks accept a row just where it is the writing of what a frame may say
  pub checks_accept : checked n p ws ≡ accepts n p ws
  unfolding accepts
  checks_accept =
      same_test _ _
      (λ e.
      let c = checked_facts n p ws e in
      both_intro _ _ (content c) (ap (eq_words ws) (sym (again c)) ∙ eq_words_refl ws))
      (λ e.
      let h = both_true (frame_ok n p (frame_of ws)) _ e in
      facts_checked n p ws (written n p ws high h.0 (eq_words_eq ws (frame_words (frame_of ws)) h.1)))
