-- The checks of the reader of a token accept a row just where it is the writing of a sound session. Assumes nothing.
use Rattle.std.proofs.Common.{◌≡◌, ℕ, zero, suc, ◌+◌, ◌-◌, ◌*◌, ◌/◌, ◌%◌, ◌<◌, ◌≤◌, true, eqb, ltb, leb, List, [], ◌∷◌, ◌++◌, length, get_or, take, drop, sym, refl, ap, ◌∙◌, append_assoc, arith, length-append, take-append-drop, drop-cons, drop-drop, take_at, drop_at, ltb-true, lt-ltb, eq-eqb, eqb-true, le-leb, leb-true}
use mathlib.Core.List.{Memᴰ}
use lib.Seq.{get_or_at}
use Rattle.causal.specs.Tests.{both, either}
use Rattle.causal.specs.Lists.{part, eq_words}
use Rattle.causal.proofs.Tests.{both_true, both_intro, all_intro, same_test}
use Rattle.causal.proofs.Lists.{part_length, eq_words_refl, eq_words_eq}
use Rattle.frame.specs.declared.entry.Entry.{Entry}
use Rattle.frame.specs.declared.entry.Frame.{Frame}
use Rattle.frame.specs.Words.{kind_of, payload, pay_at, is_kind, kind_is, clock_words, clock_from, id_words, ids_from, total, sum_word, summed}
use Rattle.frame.specs.Frames.{ring_ok, framed, frame_words, frame_ok, frame_of, accepts}
use Rattle.frame.specs.Reading.{clock_kinds, ascends, sum_ok}
use Rattle.frame.specs.Sessions.{Content, SaneContent, SaneEntry, session_ok}
use Rattle.frame.specs.Tokens.{rows_of, own_rows, token_head, token_words, frame_length, own_from, token_offices, token_owns, token_reads, content_from, accepts_token}
use Rattle.frame.specs.TokenReading.{token_shape, own_frame_ok, own_frames_ok, fields_ok, token_checked}
use Rattle.frame.proofs.Changed.{session_wider}
use Rattle.frame.proofs.Entries.{RingFacts, ring_facts, facts_ring, clock_facts, frame_facts}
use Rattle.frame.proofs.Words.{kind_is_lem, is_kind_lem, ids_ascend, ascends_are}
use Rattle.frame.proofs.Frames.{clock_again}
use Rattle.frame.proofs.Sessions.{SessionFacts, session_facts, own_ok_lem}
use Rattle.frame.proofs.Sane.{token_sane}
use Rattle.frame.proofs.Back.{frame_back, frame_accepted, accepted_ok, accepted_written}
use Rattle.frame.proofs.Tokens as K
use Rattle.frame.proofs.TokenTurns.{length_token, own_count}

-- ---- the check word, last in a row

sum_again : (B : List ℕ) (x : ℕ) → sum_ok (B ++ (x ∷ [])) ≡ true → x ≡ sum_word B
unfolding sum_ok
sum_again B x e =
    let R : List ℕ = B ++ (x ∷ []) in
    let l : length B ≡ length R - 1 = omega (arith, length-append B (x ∷ [])) in
    let a = both_true (kind_is 15 (get_or R (length R - 1) 0)) _ e in
    let w : get_or R (length R - 1) 0 ≡ x = get_or_at B x [] 0 (length R - 1) l in
    let t : take (length R - 1) R ≡ B = take_at B (x ∷ []) (length R - 1) l in
    let k : kind_of x ≡ 15 = ap kind_of (sym w) ∙ kind_is_lem 15 (get_or R (length R - 1) 0) a.0 in
    let s : payload x ≡ total B % 268435456 =
    ap payload (sym w) ∙ eqb-true (pay_at R (length R - 1)) (total (take (length R - 1) R) % 268435456) a.1 ∙ ap (λ (m : List ℕ). total m % 268435456) t
    in
    omega (arith, k, s)

again_sum : (B : List ℕ) → sum_ok (summed B) ≡ true
unfolding sum_ok summed is_kind either both
again_sum B =
    let x : ℕ = sum_word B in
    let R : List ℕ = B ++ (x ∷ []) in
    let l : length B ≡ length R - 1 = omega (arith, length-append B (x ∷ [])) in
    let w : get_or R (length R - 1) 0 ≡ x = get_or_at B x [] 0 (length R - 1) l in
    let t : take (length R - 1) R ≡ B = take_at B (x ∷ []) (length R - 1) l in
    both_intro _ _ (is_kind_lem 15 (get_or R (length R - 1) 0) refl (ap kind_of w ∙ kind (total B)))
    (eq-eqb (pay_at R (length R - 1)) (total (take (length R - 1) R) % 268435456) (ap payload w ∙ pay (total B) ∙ ap (λ (m : List ℕ). total m % 268435456) (sym t)))
  where
    kind : (t : ℕ) → kind_of (4026531840 + t % 268435456) ≡ 15
    kind t = omega arith

    pay : (t : ℕ) → payload (4026531840 + t % 268435456) ≡ t % 268435456
    pay t = omega arith

-- ---- the head

pub record Shape (n : ℕ) (ws : List ℕ) : Type 0 where
  pub some : 0 < length ws
  pub kind : kind_of (get_or ws 0 0) ≡ 8
  pub ring : token_offices ws ≡ n
  pub zeros : pay_at ws 0 / 512 % 128 ≡ 0
  pub few : token_owns ws ≤ 16
  pub room : n + token_reads ws + 2 ≤ length ws

pub shape_facts : (n : ℕ) (ws : List ℕ) → token_shape n ws ≡ true → Shape n ws
unfolding token_shape
shape_facts n ws e =
    let a = both_true (ltb 0 (length ws)) _ e in
    let b = both_true (kind_is 8 (get_or ws 0 0)) _ a.1 in
    let c = both_true (eqb (token_offices ws) n) _ b.1 in
    let d = both_true (eqb (pay_at ws 0 / 512 % 128) 0) _ c.1 in
    let f = both_true (leb (token_owns ws) 16) _ d.1 in
    record {
      some = ltb-true 0 (length ws) a.0;
      kind = kind_is_lem 8 (get_or ws 0 0) b.0;
      ring = eqb-true (token_offices ws) n c.0;
      zeros = eqb-true (pay_at ws 0 / 512 % 128) 0 d.0;
      few = leb-true (token_owns ws) 16 f.0;
      room = leb-true (n + token_reads ws + 2) (length ws) f.1;
    }

pub facts_shape : (n : ℕ) (ws : List ℕ) → Shape n ws → token_shape n ws ≡ true
unfolding token_shape is_kind either both
facts_shape n ws s =
    both_intro _ _ (lt-ltb 0 (length ws) s.some)
    (both_intro _ _ (is_kind_lem 8 (get_or ws 0 0) refl s.kind)
    (both_intro _ _ (eq-eqb (token_offices ws) n s.ring)
    (both_intro _ _ (eq-eqb (pay_at ws 0 / 512 % 128) 0 s.zeros)
    (both_intro _ _ (le-leb (token_owns ws) 16 s.few) (le-leb (n + token_reads ws + 2) (length ws) s.room)))))

-- a head is the head of its fields
head_again : (w : ℕ) → kind_of w ≡ 8 → payload w / 512 % 128 ≡ 0 → w ≡ token_head (payload w / 16777216) (payload w / 65536 % 256) (payload w % 512)
head_again w e z =
    let x : ℕ = payload w in
    let a : x ≡ x / 512 * 512 + x % 512 = omega arith in
    let b : x / 512 ≡ x / 65536 * 128 + x / 512 % 128 = omega arith in
    let c : x / 65536 ≡ x / 16777216 * 256 + x / 65536 % 256 = omega arith in
    let v : w ≡ 2147483648 + x = omega arith in
    sums (x / 16777216) (x / 65536 % 256) (x % 512) (x / 65536) (x / 512) x w a (b ∙ ap (λ (y : ℕ). x / 65536 * 128 + y) z) c v
  where
    sums : (o k r y q x w : ℕ) → x ≡ q * 512 + r → q ≡ y * 128 + 0 → y ≡ o * 256 + k → w ≡ 2147483648 + x → w ≡ token_head o k r
    sums o k r y q x w a b c v = omega arith

-- ---- the own frames

-- frames that pass the checks are the writings of their entries
rows_again : (k n p : ℕ) (ws : List ℕ) → own_frames_ok k n p ws ≡ true → (x : ℕ) × (ws ≡ own_rows n (own_from k n ws) ++ (x ∷ []))
unfolding own_frames_ok own_from rows_of own_frame_ok
rows_again zero n p [] e = absurd (nil e)
  where
    nil : eqb 0 1 ≡ true → ⊥
    nil q = let z : ◌≡◌ {A = ℕ} 0 1 = eqb-true 0 1 q in omega arith
rows_again zero n p (x ∷ []) e = (x, refl)
rows_again zero n p (x ∷ (y ∷ ws)) e = absurd (more (length ws) e)
  where
    more : (m : ℕ) → eqb (suc (suc m)) 1 ≡ true → ⊥
    more m q = let z : suc (suc m) ≡ 1 = eqb-true (suc (suc m)) 1 q in omega arith
rows_again (suc k) n p ws e =
    let L : ℕ = frame_length n ws in
    let a = both_true (own_frame_ok n p ws) _ e in
    let b = both_true (leb L (length ws)) _ a.0 in
    let c = both_true (accepts n p (take L ws)) _ b.1 in
    let r = rows_again k n p (drop L ws) a.1 in
    let f : Frame = frame_of (take L ws) in
    let q = (frame_facts n p f (accepted_ok n p (take L ws) c.0)).ring in
    let h : f.hops ≡ 0 = eqb-true f.hops 0 c.1 in
    let is : f ≡ framed n 0 f.entry = λ i. record { offices = q i; hops = h i; entry = f.entry } in
    let w : take L ws ≡ frame_words (framed n 0 f.entry) = accepted_written n p (take L ws) c.0 ∙ ap frame_words is in
    let R : List ℕ = own_rows n (own_from k n (drop L ws)) in (
      r.0,
      sym (take-append-drop L ws) ∙ ap (λ (l : List ℕ). l ++ drop L ws) w ∙ ap (λ (l : List ℕ). frame_words (framed n 0 f.entry) ++ l) r.1
          ∙ sym (append_assoc (frame_words (framed n 0 f.entry)) R (r.0 ∷ [])),
    )

-- and written frames pass them
rows_pass : (n p : ℕ) (es : List Entry) (x : ℕ)
    → ((e : Entry) → Memᴰ e es → (frame_ok n 64 (framed n 0 e) ≡ true) × (frame_ok n p (framed n 0 e) ≡ true) × SaneEntry e)
    → own_frames_ok (length es) n p (own_rows n es ++ (x ∷ [])) ≡ true
unfolding own_frames_ok rows_of own_frame_ok
rows_pass n p [] x h = refl
rows_pass n p (e ∷ es) x h =
    let g = h e (Memᴰ.head refl) in
    let F : Frame = framed n 0 e in
    let fw : List ℕ = frame_words F in
    let R : List ℕ = own_rows n es in
    let Y : List ℕ = x ∷ [] in
    let Z : List ℕ = fw ++ (R ++ Y) in
    let L : ℕ = frame_length n Z in
    let len : L ≡ length fw = K.first_length n e (R ++ Y) g.0 in
    let t : take L Z ≡ fw = take_at fw (R ++ Y) L (sym len) in
    let d : drop L Z ≡ R ++ Y = drop_at fw (R ++ Y) L (sym len) in
    let fits : leb L (length Z) ≡ true = le-leb L (length Z) (omega (arith, len, length-append fw (R ++ Y))) in
    let acc : accepts n p (take L Z) ≡ true = ap (accepts n p) t ∙ frame_accepted n p 64 n F (omega arith) g.0 g.2 ∙ g.1 in
    let hops : eqb (frame_of (take L Z)).hops 0 ≡ true =
    ap (λ (l : List ℕ). eqb (frame_of l).hops 0) t ∙ ap (λ (f : Frame). eqb f.hops 0) (frame_back n 64 F (omega arith) g.0 g.2)
    in
    let here : own_frames_ok (suc (length es)) n p Z ≡ true =
    both_intro _ _ (both_intro _ _ fits (both_intro _ _ acc hops)) (ap (own_frames_ok (length es) n p) d ∙ rows_pass n p es x (λ f m. h f (Memᴰ.tail m)))
    in
    ap (own_frames_ok (suc (length es)) n p) (append_assoc fw R Y) ∙ here

-- ---- a row that passes the checks is the writing of its fields

pub record Checked (n p : ℕ) (ws : List ℕ) : Type 0 where
  pub shape : Shape n ws
  pub clock : clock_kinds ws 1 n ≡ true
  pub reads : ascends n 0 (part ws (1 + n) (token_reads ws)) ≡ true
  pub owns : own_frames_ok (token_owns ws) n p (drop (1 + n + token_reads ws) ws) ≡ true
  pub sound : session_ok n p (content_from ws) ≡ true
  pub sum : sum_ok ws ≡ true

pub checked_facts : (n p : ℕ) (ws : List ℕ) → token_checked n p ws ≡ true → Checked n p ws
unfolding token_checked fields_ok
checked_facts n p ws e =
    let a = both_true (fields_ok n p ws) _ e in
    let b = both_true (session_ok n p (content_from ws)) _ a.1 in
    let c = both_true (token_shape n ws) _ a.0 in
    let d = both_true (clock_kinds ws 1 n) _ c.1 in
    let f = both_true (ascends n 0 (part ws (1 + n) (token_reads ws))) _ d.1 in
    record { shape = shape_facts n ws c.0; clock = d.0; reads = f.0; owns = f.1; sound = b.0; sum = b.1 }

pub facts_checked : (n p : ℕ) (ws : List ℕ) → Checked n p ws → token_checked n p ws ≡ true
unfolding token_checked fields_ok
facts_checked n p ws c =
    both_intro _ _ (both_intro _ _ (facts_shape n ws c.shape) (both_intro _ _ c.clock (both_intro _ _ c.reads c.owns)))
    (both_intro _ _ c.sound c.sum)

module _ (n p : ℕ) (ws : List ℕ) (high : n ≤ 8) (C : Checked n p ws) where
  abbrev Reads : ℕ → List ℕ
  Reads o = ids_from (part ws (1 + o) (token_reads ws))

  abbrev Own : ℕ → List Entry
  Own o = own_from (token_owns ws) o (drop (1 + o + token_reads ws) ws)

  abbrev Body : ℕ → List ℕ
  Body o = token_head o (length (Own o)) (length (id_words (Reads o))) ∷ (clock_words o (clock_from ws 1 o) ++ (id_words (Reads o) ++ own_rows o (Own o)))

  split_row : ws ≡ get_or ws 0 0 ∷ (part ws 1 n ++ (part ws (1 + n) (token_reads ws) ++ drop (1 + n + token_reads ws) ws))
  unfolding part
  split_row =
      let r : ℕ = token_reads ws in
      drop-cons ws 0 0 C.shape.some
      ∙ ap (λ (l : List ℕ). get_or ws 0 0 ∷ l) (sym (take-append-drop n (drop 1 ws)) ∙ ap (λ (l : List ℕ). take n (drop 1 ws) ++ l)
      (drop-drop n 1 ws ∙ sym (take-append-drop r (drop (1 + n) ws)) ∙ ap (λ (l : List ℕ). take r (drop (1 + n) ws) ++ l) (drop-drop r (1 + n) ws)))

  again : ws ≡ summed (Body n)
  unfolding summed
  again =
      let S = C.shape in
      let r : ℕ = token_reads ws in
      let P : List ℕ = part ws (1 + n) r in
      let lp : length P ≡ r = part_length ws (1 + n) r (omega (arith, S.room)) in
      let ids : id_words (Reads n) ≡ P = (ascends_are n P high C.reads).0 in
      let clock : part ws 1 n ≡ clock_words n (clock_from ws 1 n) = clock_again ws 1 n high (omega (arith, S.room)) C.clock in
      let q = rows_again (token_owns ws) n p (drop (1 + n + r) ws) C.owns in
      let x : ℕ = q.0 in
      let U : List ℕ = clock_words n (clock_from ws 1 n) in
      let D : List ℕ = id_words (Reads n) in
      let R : List ℕ = own_rows n (Own n) in
      let head : get_or ws 0 0 ≡ token_head n (length (Own n)) (length D) =
      head_again (get_or ws 0 0) S.kind S.zeros
      ∙ ap (λ (o : ℕ). token_head o (token_owns ws) r) S.ring
      ∙ ap (λ (k : ℕ). token_head n k r) (sym (own_count (token_owns ws) n (drop (1 + n + r) ws)))
      ∙ ap (token_head n (length (Own n))) (sym (ap length ids ∙ lp))
      in
      let row : ws ≡ Body n ++ (x ∷ []) =
      split_row
      ∙ ap (λ (w : ℕ). w ∷ (part ws 1 n ++ (P ++ drop (1 + n + r) ws))) head
      ∙ ap (λ (l : List ℕ). token_head n (length (Own n)) (length D) ∷ (l ++ (P ++ drop (1 + n + r) ws))) clock
      ∙ ap (λ (l : List ℕ). token_head n (length (Own n)) (length D) ∷ (U ++ (l ++ drop (1 + n + r) ws))) (sym ids)
      ∙ ap (λ (l : List ℕ). token_head n (length (Own n)) (length D) ∷ (U ++ (D ++ l))) q.1
      ∙ ap (λ (l : List ℕ). token_head n (length (Own n)) (length D) ∷ (U ++ l)) (sym (append_assoc D R (x ∷ [])))
      ∙ ap (λ (l : List ℕ). token_head n (length (Own n)) (length D) ∷ l) (sym (append_assoc U (D ++ R) (x ∷ [])))
      in
      let s : x ≡ sum_word (Body n) = sum_again (Body n) x (ap sum_ok (sym row) ∙ C.sum) in
      row ∙ ap (λ (w : ℕ). Body n ++ (w ∷ [])) s

  checked_written : ws ≡ token_words (content_from ws)
  unfolding token_words content_from
  checked_written = again ∙ ap (λ (o : ℕ). summed (Body o)) (sym C.shape.ring)

-- ---- the writing of a sound session passes the checks

module _ (s : Content) (ring : ring_ok s.offices 64 ≡ true) (ok : session_ok s.offices 64 s ≡ true) (sane : SaneContent s) (p : ℕ) (okp : session_ok s.offices p s ≡ true) where
  abbrev N : ℕ
  N = s.offices

  abbrev Row : List ℕ
  Row = K.row s ring ok sane

  G : RingFacts N 64
  G = ring_facts N 64 ring

  F : SessionFacts N 64 s
  F = session_facts N 64 s ok

  head_fits : (n k r : ℕ) → n ≤ 8 → k ≤ 16 → r ≤ 256 → (kind_of (token_head n k r) ≡ 8) × (payload (token_head n k r) / 512 % 128 ≡ 0)
  head_fits n k r a b c = (omega arith, omega arith)

  written_shape : Shape N Row
  written_shape =
      let h = head_fits N (length s.own) (length (id_words s.read)) G.high F.few (K.reads_le s.read) in
      let len = sym (ap length (K.row_is s ring ok sane)) ∙ length_token s in
      record {
        some = omega arith;
        kind = h.0;
        ring = K.is_n s ring ok sane;
        zeros = h.1;
        few = omega (arith, K.is_k s ring ok sane, F.few);
        room = omega (arith, len, K.is_r s ring ok sane);
      }

  written_clock : clock_kinds Row 1 N ≡ true
  unfolding clock_kinds is_kind either both
  written_clock =
      all_intro (λ (j : ℕ). kind_is 5 (get_or Row (1 + j) 0)) N
      (λ j h.
      let e = K.clock_at_row s ring ok sane j h in
      let c = (clock_facts N s.clock F.clock j (omega (arith, G.high))).small in
      is_kind_lem 5 (get_or Row (1 + j) 0) refl (ap kind_of e ∙ omega arith))

  written_reads : ascends N 0 (part Row (1 + N) (token_reads Row)) ≡ true
  unfolding part
  written_reads =
      let D : List ℕ = id_words s.read in
      ap (λ (k : ℕ). ascends N 0 (take k (drop (1 + N) Row))) (K.is_r s ring ok sane)
      ∙ ap (λ (l : List ℕ). ascends N 0 (take (length D) l)) (K.after_clock s ring ok sane)
      ∙ ap (ascends N 0) (take_at D (K.Ow s ring ok sane ++ (K.c s ring ok sane ∷ [])) (length D) refl)
      ∙ ids_ascend N s.read G.high F.ids

  written_owns : own_frames_ok (token_owns Row) N p (drop (1 + N + token_reads Row) Row) ≡ true
  written_owns =
      let Fp = session_facts N p s okp in
      ap (λ (k : ℕ). own_frames_ok k N p (drop (1 + N + token_reads Row) Row)) (K.is_k s ring ok sane)
      ∙ ap (λ (k : ℕ). own_frames_ok (length s.own) N p (drop (1 + N + k) Row)) (K.is_r s ring ok sane)
      ∙ ap (own_frames_ok (length s.own) N p) (K.after_reads s ring ok sane)
      ∙ rows_pass N p s.own (K.c s ring ok sane)
      (λ e m. (K.own_frames s ring ok sane e m, K.own_frame N p e G.low G.high (own_ok_lem N p s Fp e m), sane.own e m))

  written_checked : token_checked N p (token_words s) ≡ true
  unfolding token_words
  written_checked =
      let r = K.row_is s ring ok sane in
      let sum : sum_ok Row ≡ true = ap sum_ok (sym r) ∙ again_sum (token_head N (length s.own) (length (id_words s.read)) ∷ (clock_words N s.clock ++ (id_words s.read ++ own_rows N s.own))) in
      let sound : session_ok N p (content_from Row) ≡ true = ap (λ (l : List ℕ). session_ok N p (content_from l)) (sym r) ∙ ap (session_ok N p) (K.token_back s ring ok sane) ∙ okp in
      ap (token_checked N p) r
      ∙ facts_checked N p Row (record { shape = written_shape; clock = written_clock; reads = written_reads; owns = written_owns; sound = sound; sum = sum })

-- ---- the reader's checks

-- they accept a row just where it is the writing of a sound session
pub token_checks_accept : (n p : ℕ) (ws : List ℕ) → ring_ok n p ≡ true → token_checked n p ws ≡ accepts_token n p ws
unfolding accepts_token
token_checks_accept n p ws ring = same_test (token_checked n p ws) _ there back
  where
    G : RingFacts n p
    G = ring_facts n p ring

    there : token_checked n p ws ≡ true → both (session_ok n p (content_from ws)) (eq_words ws (token_words (content_from ws))) ≡ true
    there e =
        let C = checked_facts n p ws e in
        both_intro _ _ C.sound (ap (eq_words ws) (sym (checked_written n p ws G.high C)) ∙ eq_words_refl ws)

    back : both (session_ok n p (content_from ws)) (eq_words ws (token_words (content_from ws))) ≡ true → token_checked n p ws ≡ true
    back e =
        let h = both_true (session_ok n p (content_from ws)) _ e in
        let S : Content = content_from ws in
        let w : ws ≡ token_words S = eq_words_eq ws (token_words S) h.1 in
        let o : S.offices ≡ n = (session_facts n p S h.0).offices in
        let okp : session_ok S.offices p S ≡ true = ap (λ (m : ℕ). session_ok m p S) o ∙ h.0 in
        let ok : session_ok S.offices 64 S ≡ true = session_wider S.offices p 64 S G.to okp in
        let r : ring_ok S.offices 64 ≡ true = ap (λ (m : ℕ). ring_ok m 64) o ∙ facts_ring n 64 (record { low = G.low; high = G.high; from = omega arith; to = omega arith }) in
        ap (token_checked n p) w ∙ ap (λ (m : ℕ). token_checked m p (token_words S)) (sym o) ∙ written_checked S r ok (token_sane ws) p okp
