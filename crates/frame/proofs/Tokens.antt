-- "What was written reads back": the session that was written to a token. Assumes nothing.
use Rattle.std.proofs.Common.{◌≡◌, ℕ, suc, ◌+◌, ◌/◌, ◌%◌, ◌<◌, ◌≤◌, true, List, [], ◌∷◌, ◌++◌, map, length, get_or, take, drop, sym, refl, ap, ◌∙◌, append_assoc, arith, drop-drop, take_at, drop_at}
use mathlib.Core.List.{Memᴰ}
use lib.ListN.{get_or-append}
use Rattle.causal.specs.Lists.{eq_words, part}
use Rattle.causal.specs.Sets.{has, size_of}
use Rattle.causal.specs.Tests.{both}
use Rattle.causal.proofs.Lists.{eq_words_refl, sum_le}
use Rattle.causal.proofs.Sets.{has_lt}
use Rattle.frame.specs.Entries.{entry_ok}
use Rattle.frame.specs.Frames.{body_words, count_in, frame_of, frame_ok, frame_words, framed, ring_ok}
use Rattle.frame.specs.Sessions.{Content, SaneContent, SaneEntry, session_ok}
use Rattle.frame.specs.Tokens.{accepts_token, content_from, frame_length, own_from, rows_of, token_head, token_offices, token_owns, token_reads, token_words}
use Rattle.frame.specs.Words.{clock_from, clock_word, clock_words, id_words, ids_from, payload, sum_word, summed}
use Rattle.frame.specs.declared.entry.Entry.{Entry}
use Rattle.frame.specs.declared.entry.Frame.{Frame}
use Rattle.frame.proofs.Back.{clock_back, count_back, frame_back}
use Rattle.frame.proofs.Entries.{RingFacts, facts_frame, ring_facts}
use Rattle.frame.proofs.Frames.{length_frame}
use Rattle.frame.proofs.Sessions.{SessionFacts, own_ok_lem, session_facts}
use Rattle.frame.proofs.Words.{clock_at, ids_back, ids_size, length_clock}
use Rattle.causal.proofs.Tests.{both_one}

-- ---- the own entries, each as a frame

pub own_frame : (n p : ℕ) (e : Entry) → 2 ≤ n → n ≤ 8 → entry_ok n p e ≡ true → frame_ok n p (framed n 0 e) ≡ true
own_frame n p e low high ok = facts_frame n p (framed n 0 e) (record { ring = refl; low = low; high = high; hops_ok = omega arith; entry = ok })

first_word : (f : Frame) (Y : List ℕ) → count_in (frame_words f ++ Y) ≡ count_in (frame_words f)
unfolding frame_words summed body_words
first_word f Y = refl

-- the first frame of a row
pub first_length : (n : ℕ) (e : Entry) (Y : List ℕ) → frame_ok n 64 (framed n 0 e) ≡ true
    → frame_length n (frame_words (framed n 0 e) ++ Y) ≡ length (frame_words (framed n 0 e))
first_length n e Y ok =
    ap (λ (x : ℕ). n + x + 4) (first_word (framed n 0 e) Y ∙ count_back n 64 (framed n 0 e) (omega arith) ok) ∙ sym (length_frame (framed n 0 e))

own_back : (n : ℕ) (es : List Entry) (Y : List ℕ) → ((e : Entry) → Memᴰ e es → (frame_ok n 64 (framed n 0 e) ≡ true) × SaneEntry e)
    → own_from (length es) n (rows_of (map (framed n 0) es) ++ Y) ≡ es
unfolding own_from rows_of
own_back n [] Y h = refl
own_back n (e ∷ es) Y h =
    let a = h e (Memᴰ.head refl) in
    let fw : List ℕ = frame_words (framed n 0 e) in
    let R : List ℕ = rows_of (map (framed n 0) es) in
    let as1 : (fw ++ R) ++ Y ≡ fw ++ (R ++ Y) = append_assoc fw R Y in
    let len : frame_length n (fw ++ (R ++ Y)) ≡ length fw = first_length n e (R ++ Y) a.0 in
    let t1 : take (frame_length n (fw ++ (R ++ Y))) (fw ++ (R ++ Y)) ≡ fw = take_at fw (R ++ Y) (frame_length n (fw ++ (R ++ Y))) (sym len) in
    let d1 : drop (frame_length n (fw ++ (R ++ Y))) (fw ++ (R ++ Y)) ≡ R ++ Y = drop_at fw (R ++ Y) (frame_length n (fw ++ (R ++ Y))) (sym len) in
    let b : frame_of fw ≡ framed n 0 e = frame_back n 64 (framed n 0 e) (omega arith) a.0 a.1 in
    ap (λ (l : List ℕ). (frame_of (take (frame_length n l) l)).entry ∷ own_from (length es) n (drop (frame_length n l) l)) as1
    ∙ ap (λ (l : List ℕ). (frame_of l).entry ∷ own_from (length es) n (drop (frame_length n (fw ++ (R ++ Y))) (fw ++ (R ++ Y)))) t1
    ∙ ap (λ (f : Frame). f.entry ∷ own_from (length es) n (drop (frame_length n (fw ++ (R ++ Y))) (fw ++ (R ++ Y)))) b
    ∙ ap (λ (l : List ℕ). e ∷ own_from (length es) n l) d1
    ∙ ap (λ (l : List Entry). e ∷ l) (own_back n es Y (λ f m. h f (Memᴰ.tail m)))

-- ---- the head

head_n : (n k r : ℕ) → n ≤ 8 → k ≤ 16 → r ≤ 256 → payload (token_head n k r) / 16777216 ≡ n
head_n n k r a b d = omega arith

head_k : (n k r : ℕ) → n ≤ 8 → k ≤ 16 → r ≤ 256 → payload (token_head n k r) / 65536 % 256 ≡ k
head_k n k r a b d = omega arith

head_r : (n k r : ℕ) → n ≤ 8 → k ≤ 16 → r ≤ 256 → payload (token_head n k r) % 512 ≡ r
head_r n k r a b d = omega arith

pub reads_le : (s : List ℕ) → length (id_words s) ≤ 256
unfolding size_of
reads_le s = omega (arith, ids_size s, sum_le (has s) (has_lt s) 256)

module _ (s : Content) (ring : ring_ok s.offices 64 ≡ true) (ok : session_ok s.offices 64 s ≡ true) (sane : SaneContent s) where
  F : SessionFacts s.offices 64 s
  F = session_facts s.offices 64 s ok

  G : RingFacts s.offices 64
  G = ring_facts s.offices 64 ring

  abbrev pub H : ℕ
  H = token_head s.offices (length s.own) (length (id_words s.read))

  abbrev pub U : List ℕ
  U = clock_words s.offices s.clock

  abbrev pub D : List ℕ
  D = id_words s.read

  abbrev pub Ow : List ℕ
  Ow = rows_of (map (framed s.offices 0) s.own)

  abbrev pub c : ℕ
  c = sum_word (H ∷ (U ++ (D ++ Ow)))

  abbrev pub row : List ℕ
  row = H ∷ (U ++ (D ++ (Ow ++ (c ∷ []))))

  pub row_is : token_words s ≡ row
  unfolding token_words summed
  row_is = ap (λ (l : List ℕ). H ∷ l) (append_assoc U (D ++ Ow) (c ∷ []) ∙ ap (λ (l : List ℕ). U ++ l) (append_assoc D Ow (c ∷ [])))

  pub is_n : token_offices row ≡ s.offices
  is_n = head_n s.offices (length s.own) (length (id_words s.read)) G.high F.few (reads_le s.read)

  pub is_k : token_owns row ≡ length s.own
  is_k = head_k s.offices (length s.own) (length (id_words s.read)) G.high F.few (reads_le s.read)

  pub is_r : token_reads row ≡ length (id_words s.read)
  is_r = head_r s.offices (length s.own) (length (id_words s.read)) G.high F.few (reads_le s.read)

  pub clock_at_row : (j : ℕ) → j < s.offices → get_or row (1 + j) 0 ≡ clock_word s.clock j
  clock_at_row j h =
      let q : 1 + j ≡ suc j = omega arith in
      ap (λ (i : ℕ). get_or row i 0) q
      ∙ get_or-append U (D ++ (Ow ++ (c ∷ []))) 0 j (omega (arith, length_clock s.offices s.clock))
      ∙ clock_at s.offices s.clock j h

  pub after_clock : drop (1 + s.offices) row ≡ D ++ (Ow ++ (c ∷ []))
  after_clock =
      let q : 1 + s.offices ≡ suc s.offices = omega arith in
      ap (λ (i : ℕ). drop i row) q ∙ drop_at U (D ++ (Ow ++ (c ∷ []))) s.offices (length_clock s.offices s.clock)

  read_back : ids_from (part row (1 + s.offices) (length (id_words s.read))) ≡ s.read
  unfolding part
  read_back =
      ap (λ (l : List ℕ). ids_from (take (length (id_words s.read)) l)) after_clock
      ∙ ap ids_from (take_at D (Ow ++ (c ∷ [])) (length (id_words s.read)) refl)
      ∙ ids_back s.read sane.read

  pub after_reads : drop (1 + s.offices + length (id_words s.read)) row ≡ Ow ++ (c ∷ [])
  after_reads =
      sym (drop-drop (length (id_words s.read)) (1 + s.offices) row)
      ∙ ap (drop (length (id_words s.read))) after_clock
      ∙ drop_at D (Ow ++ (c ∷ [])) (length (id_words s.read)) refl

  pub own_frames : (e : Entry) → Memᴰ e s.own → frame_ok s.offices 64 (framed s.offices 0 e) ≡ true
  own_frames e m = own_frame s.offices 64 e G.low G.high (own_ok_lem s.offices 64 s F e m)

  owns_back : own_from (length s.own) s.offices (drop (1 + s.offices + length (id_words s.read)) row) ≡ s.own
  owns_back =
      ap (own_from (length s.own) s.offices) after_reads
      ∙ own_back s.offices s.own (c ∷ []) (λ e m. (own_frames e m, sane.own e m))

  -- what was written is read back
  pub token_back : content_from (token_words s) ≡ s
  unfolding content_from
  token_back =
      let clock : clock_from row 1 (token_offices row) ≡ s.clock =
      ap (clock_from row 1) is_n ∙ clock_back row 1 s.offices s.clock G.high F.clock sane.clock8 clock_at_row
      in
      let read : ids_from (part row (1 + token_offices row) (token_reads row)) ≡ s.read =
      ap (λ (x : ℕ). ids_from (part row (1 + x) (token_reads row))) is_n ∙ ap (λ (x : ℕ). ids_from (part row (1 + s.offices) x)) is_r ∙ read_back
      in
      let own : own_from (token_owns row) (token_offices row) (drop (1 + token_offices row + token_reads row) row) ≡ s.own =
      ap (λ (x : ℕ). own_from (token_owns row) x (drop (1 + x + token_reads row) row)) is_n
      ∙ ap (λ (x : ℕ). own_from x s.offices (drop (1 + s.offices + token_reads row) row)) is_k
      ∙ ap (λ (x : ℕ). own_from (length s.own) s.offices (drop (1 + s.offices + x) row)) is_r
      ∙ owns_back
      in
      ap content_from row_is ∙ (λ i. record { offices = is_n i; clock = clock i; read = read i; own = own i })

  -- and accepted where its session is sound: "reads back under its ring size and any plots that cover it"
  pub token_accepted : (m p : ℕ) → accepts_token m p (token_words s) ≡ session_ok m p s
  unfolding accepts_token both
  token_accepted m p =
      ap (λ (x : Content). both (session_ok m p x) (eq_words (token_words s) (token_words x))) token_back
      ∙ ap (both (session_ok m p s)) (eq_words_refl (token_words s))
      ∙ both_one (session_ok m p s)
