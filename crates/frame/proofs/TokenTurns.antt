-- What the writer's steps make of a token, and what each turn of the reader's loop over own frames does. Assumes nothing.
use Rattle.std.proofs.Common.{◌≡◌, ℕ, zero, suc, ◌+◌, ◌-◌, ◌*◌, ◌<◌, ◌≤◌, Bool, true, false, eqb, leb, List, [], ◌∷◌, ◌++◌, length, get_or, take, drop, set, replicate, sym, refl, ap, ◌∙◌, append_assoc, append-nil, le_refl, add-one, arith, length-append, length-drop, take_all, drop-drop, le-leb, leb-true, cond, length-set, None, Option, Some, sum_by, take-append-drop}
use Rattle.std.proofs.lemmas.List.{take_more, take_more_set}
use Rattle.std.proofs.lemmas.Option.{cond_some}
use Rattle.std.proofs.lemmas.List.Sums.{sum_by-cons}
use mathlib.Core.List.{Memᴰ}
use native.Mathlib.Nat.{sub-zero}
use lib.Seq.{sets, set-append_seam}
use borrow.Author.Tests.{lt-leb}
use Rattle.causal.specs.Tests.{both}
use Rattle.causal.specs.Codes.{check}
use Rattle.causal.specs.Lists.{tab}
use Rattle.causal.proofs.Tests.{both_true}
use Rattle.causal.proofs.Lists.{sets_append, sets_front, take_front}
use Rattle.causal.proofs.Sets.{size_le}
use Rattle.frame.specs.declared.entry.Entry.{Entry}
use Rattle.frame.specs.declared.entry.Frame.{Frame}
use Rattle.frame.specs.declared.session.Session.{Session}
use Rattle.frame.specs.Refusals.{replied}
use Rattle.frame.specs.Entries.{blank_entry}
use Rattle.frame.specs.Words.{clock_words, id_words, sum_word, summed}
use Rattle.frame.specs.Frames.{ring_ok, framed, frame_words, frame_ok, frame_of}
use Rattle.frame.specs.Calls.{frame_in, laid, laid_if}
use Rattle.frame.specs.Sessions.{Content, content_of, filled, nobody, session_ok}
use Rattle.frame.specs.Tokens.{rows_of, own_rows, token_head, token_words, frame_length, own_from}
use Rattle.frame.specs.TokenReading.{own_in, own_frame_ok, own_frames_ok}
use Rattle.frame.specs.TokenCalls.{write_token_code, write_token, write_token_row}
use Rattle.frame.proofs.Entries.{ring_facts, clock_facts}
use Rattle.frame.proofs.Sessions.{own_ok_lem, session_facts}
use Rattle.frame.proofs.Tokens.{own_frame}
use Rattle.frame.proofs.OwnTurns.{count_is}
use Rattle.frame.proofs.Reading.{frame_none, frame_some, none_is}
use Rattle.frame.proofs.Words.{ids_size, length_summed, length_clock}
use Rattle.frame.proofs.Frames.{length_frame}

-- ---- own writes as frames, one behind the other

abbrev pub size_in : ℕ → Entry → ℕ
size_in n e = length (frame_words (framed n 0 e))

frame_few : (n : ℕ) (e : Entry) → n ≤ 8 → size_in n e ≤ 268
frame_few n e h = omega (arith, length_frame (framed n 0 e), ids_size e.deps, size_le e.deps)

pub rows_size : (n : ℕ) (es : List Entry) → length (own_rows n es) ≡ sum_by (size_in n) es
unfolding rows_of
rows_size n [] = refl
rows_size n (e ∷ es) = length-append (frame_words (framed n 0 e)) (own_rows n es) ∙ ap (λ (k : ℕ). size_in n e + k) (rows_size n es) ∙ sym (sum_by-cons (size_in n) e es)

pub rows_few : (n : ℕ) (es : List Entry) → n ≤ 8 → length (own_rows n es) ≤ 268 * length es
unfolding rows_of
rows_few n [] h = omega arith
rows_few n (e ∷ es) h = omega (arith, length-append (frame_words (framed n 0 e)) (own_rows n es), rows_few n es h, frame_few n e h)

rows_append : (n : ℕ) (es fs : List Entry) → own_rows n (es ++ fs) ≡ own_rows n es ++ own_rows n fs
unfolding rows_of
rows_append n [] fs = refl
rows_append n (e ∷ es) fs =
    ap (λ (l : List ℕ). frame_words (framed n 0 e) ++ l) (rows_append n es fs) ∙ sym (append_assoc (frame_words (framed n 0 e)) (own_rows n es) (own_rows n fs))

-- a session that carries none
pub rows_none : (s : Session) → s.count ≡ 0 → own_rows s.offices (content_of s).own ≡ []
unfolding content_of tab rows_of
rows_none s e = rw e refl

-- a loop that writes them, before own write i
module _ (n : ℕ) (own : List Entry) (i : ℕ) (h : i < length own) where
  abbrev NextRow : List ℕ
  NextRow = frame_words (framed n 0 (get_or own i nobody))

  rows_more : own_rows n (take (i + 1) own) ≡ own_rows n (take i own) ++ NextRow
  unfolding rows_of
  rows_more =
      ap (own_rows n) (take_more own i nobody h) ∙ rows_append n (take i own) (get_or own i nobody ∷ [])
      ∙ ap (λ (l : List ℕ). own_rows n (take i own) ++ l) (append-nil NextRow)

  pub rows_length : length (own_rows n (take (i + 1) own)) ≡ length (own_rows n (take i own)) + length NextRow
  rows_length = ap length rows_more ∙ length-append (own_rows n (take i own)) NextRow

  -- there is room for its frame
  pub rows_room : length (own_rows n (take i own)) + length NextRow ≤ length (own_rows n own)
  rows_room =
      let e = ap (λ (l : List Entry). length (own_rows n l)) (sym (take-append-drop (i + 1) own))
      ∙ ap length (rows_append n (take (i + 1) own) (drop (i + 1) own))
      ∙ length-append (own_rows n (take (i + 1) own)) (own_rows n (drop (i + 1) own))
      in
      omega (arith, e, rows_length)

  pub rows_turn : (o o' : List ℕ) (at to : ℕ) → to ≡ at + length (own_rows n (take i own)) → o' ≡ sets o at (own_rows n (take i own))
      → sets o' to NextRow ≡ sets o at (own_rows n (take (i + 1) own))
  rows_turn o o' at to p q =
      ap (λ (l : List ℕ). sets l to NextRow) q
      ∙ ap (λ (k : ℕ). sets (sets o at (own_rows n (take i own))) k NextRow) p
      ∙ sym (sets_append o at (own_rows n (take i own)) NextRow)
      ∙ ap (sets o at) (sym rows_more)

-- ---- the writer's steps make the writing

-- the words of head, clock and read ids are the front of the row
pub start_taken : (n h at : ℕ) (o a U D : List ℕ) → length U ≡ n → at ≡ 1 + n + length D → a ≡ sets (sets (set o 0 h) 1 U) (1 + n) D → at ≤ length o
    → take at a ≡ h ∷ (U ++ D)
start_taken n h at o a U D u e q l =
    let k : 1 + n ≡ 0 + length (h ∷ U) = omega arith in
    let s : a ≡ sets o 0 (h ∷ (U ++ D)) = q ∙ ap (λ (i : ℕ). sets (sets o 0 (h ∷ U)) i D) k ∙ sym (sets_append o 0 (h ∷ U) D) in
    let m : at ≡ length (h ∷ (U ++ D)) = omega (arith, length-append U D) in
    ap (take at) s ∙ take_front o (h ∷ (U ++ D)) at m (omega arith)

module _ (s : Content) where
  abbrev H : ℕ
  H = token_head s.offices (length s.own) (length (id_words s.read))

  abbrev U : List ℕ
  U = clock_words s.offices s.clock

  abbrev D : List ℕ
  D = id_words s.read

  abbrev R : List ℕ
  R = own_rows s.offices s.own

  abbrev B : List ℕ
  B = H ∷ (U ++ (D ++ R))

  length_body : length B ≡ 1 + s.offices + length D + length R
  length_body = omega (arith, length-append U (D ++ R), length-append D R, length_clock s.offices s.clock)

  pub length_token : length (token_words s) ≡ s.offices + length D + length R + 2
  unfolding token_words
  length_token = omega (arith, length_summed B, length_body)

  pub token_filled : (out a0 a1 a2 a3 a4 : List ℕ) (head at end : ℕ) → head ≡ H → a0 ≡ set out 0 head → a1 ≡ sets a0 1 U
      → at ≡ 1 + s.offices + length D → a2 ≡ sets a1 (1 + s.offices) D → end ≡ at + length R → a3 ≡ sets a2 at R
      → a4 ≡ set a3 end (sum_word (take end a3)) → length (token_words s) ≤ length out → a4 ≡ laid (token_words s) out
  unfolding laid token_words summed
  token_filled out a0 a1 a2 a3 a4 head at end eh e0 e1 ea e2 ee e3 e4 room = whole ∙ sets_front out (token_words s) room
    where
      K : List ℕ
      K = H ∷ []

      body : a3 ≡ sets out 0 B
      body =
          let f0 : a0 ≡ sets out 0 K = e0 ∙ ap (λ (x : ℕ). set out 0 x) eh in
          let f1 : a1 ≡ sets out 0 (K ++ U) = e1 ∙ ap (λ (l : List ℕ). sets l 1 U) f0 ∙ sym (sets_append out 0 K U) in
          let k1 : 1 + s.offices ≡ 0 + length (K ++ U) = omega (arith, length-append K U, length_clock s.offices s.clock) in
          let f2 : a2 ≡ sets out 0 ((K ++ U) ++ D) =
          e2 ∙ ap (λ (l : List ℕ). sets l (1 + s.offices) D) f1 ∙ ap (λ (i : ℕ). sets (sets out 0 (K ++ U)) i D) k1 ∙ sym (sets_append out 0 (K ++ U) D)
          in
          let k2 : at ≡ 0 + length ((K ++ U) ++ D) = omega (arith, length-append (K ++ U) D, length-append K U, length_clock s.offices s.clock) in
          let a : ((K ++ U) ++ D) ++ R ≡ B = append_assoc (K ++ U) D R ∙ append_assoc K U (D ++ R) in
          e3 ∙ ap (λ (l : List ℕ). sets l at R) f2 ∙ ap (λ (i : ℕ). sets (sets out 0 ((K ++ U) ++ D)) i R) k2 ∙ sym (sets_append out 0 ((K ++ U) ++ D) R)
          ∙ ap (sets out 0) a

      whole : a4 ≡ sets out 0 (token_words s)
      whole =
          let le : end ≡ length B = omega (arith, length_body) in
          let t : take end (sets out 0 B) ≡ B = take_front out B end le (omega (arith, length_summed B)) in
          let k : end ≡ 0 + length B = omega arith in
          e4
          ∙ ap (λ (l : List ℕ). set l end (sum_word (take end l))) body
          ∙ ap (λ (l : List ℕ). set (sets out 0 B) end (sum_word l)) t
          ∙ ap (λ (i : ℕ). set (sets out 0 B) i (sum_word B)) k
          ∙ sym (sets_append out 0 B (sum_word B ∷ []))

-- ---- what the writer answers

module _ (s : Content) (out : List ℕ) where
  pub write_refused : (c : ℕ) → write_token_code s (length out) ≡ suc c
      → (record { code = suc c; words = 0 } ≡ write_token s (length out)) × (out ≡ write_token_row s out)
  unfolding write_token write_token_row replied laid_if
  write_refused c e = (rw e refl, rw e refl)

  pub write_accepted : (n : ℕ) (row : List ℕ) → write_token_code s (length out) ≡ 0 → n ≡ length (token_words s) → row ≡ laid (token_words s) out
      → (record { code = 0; words = n } ≡ write_token s (length out)) × (row ≡ write_token_row s out)
  unfolding write_token write_token_row replied laid_if
  write_accepted n row e q r = (rw (e, q) refl, rw e r)

  pub write_no_ring : ring_ok s.offices 64 ≡ false → write_token_code s (length out) ≡ 3
  unfolding write_token_code check both
  write_no_ring e = rw e refl

  pub write_unsound : ring_ok s.offices 64 ≡ true → session_ok s.offices 64 s ≡ false → write_token_code s (length out) ≡ 3
  unfolding write_token_code check both
  write_unsound r e = rw (r, e) refl

  pub write_no_room : ring_ok s.offices 64 ≡ true → session_ok s.offices 64 s ≡ true → length out < length (token_words s) → write_token_code s (length out) ≡ 8
  unfolding write_token_code check both
  write_no_room r e h = rw (r, e, lt-leb (length (token_words s)) (length out) h) refl

  pub write_may : ring_ok s.offices 64 ≡ true → session_ok s.offices 64 s ≡ true → length (token_words s) ≤ length out → write_token_code s (length out) ≡ 0
  unfolding write_token_code check both
  write_may r e h = rw (r, e, le-leb (length (token_words s)) (length out) h) refl

-- ---- what a session that may be written says

at_mem : (es : List Entry) (i : ℕ) → i < length es → Memᴰ (get_or es i nobody) es
at_mem [] i h = absurd (omega arith)
at_mem (e ∷ es) zero h = Memᴰ.head refl
at_mem (e ∷ es) (suc i) h = Memᴰ.tail (at_mem es i (omega arith))

pub record Writable (s : Session) : Type 0 where
  pub high : s.offices ≤ 8
  pub few : s.count ≤ 16
  pub count : length (content_of s).own ≡ s.count
  pub reads : length (id_words s.read) ≤ 256
  pub clock : (j : ℕ) → j < 8 → get_or s.clock j 0 ≤ 32
  pub frames : (i : ℕ) → i < length (content_of s).own → frame_ok s.offices 64 (framed s.offices 0 (get_or (content_of s).own i nobody)) ≡ true
  pub size : length (token_words (content_of s)) ≡ s.offices + length (id_words s.read) + length (own_rows s.offices (content_of s).own) + 2

pub size_of : (s : Session) → length (token_words (content_of s)) ≡ s.offices + length (id_words s.read) + length (own_rows s.offices (content_of s).own) + 2
unfolding content_of
size_of s = length_token (content_of s)

pub writable : (s : Session) → ring_ok s.offices 64 ≡ true → session_ok s.offices 64 (content_of s) ≡ true → Writable s
unfolding content_of
writable s ring ok =
    let G = ring_facts s.offices 64 ring in
    let C = content_of s in
    let F = session_facts s.offices 64 C ok in
    record {
      high = G.high;
      few = omega (arith, count_is s, F.few);
      count = count_is s;
      reads = omega (arith, ids_size s.read, size_le s.read);
      clock = λ j l. (clock_facts s.offices s.clock F.clock j l).small;
      frames = λ i l. own_frame s.offices 64 (get_or C.own i nobody) G.low G.high (own_ok_lem s.offices 64 C F (get_or C.own i nobody) (at_mem C.own i l));
      size = size_of s;
    }

-- ---- one own frame, read

module _ (n p : ℕ) (ws : List ℕ) where
  abbrev L : ℕ
  L = frame_length n ws

  abbrev NoOwn : Type 0
  NoOwn = ◌≡◌ {A = Option (Entry × ℕ)} None (own_in n p ws)

  pub own_short : length ws < L → NoOwn
  unfolding own_in own_frame_ok both
  own_short h = rw (lt-leb L (length ws) h) refl

  pub own_none : L ≤ length ws → None ≡ frame_in n p (take L ws) → NoOwn
  unfolding own_in own_frame_ok both
  own_none l e = rw (le-leb L (length ws) l, frame_none n p (take L ws) e) refl

  pub own_some : L ≤ length ws → (f : Frame) → Some f ≡ frame_in n p (take L ws) → (b : Bool) → b ≡ eqb f.hops 0 → cond b (Some (f.entry, L)) None ≡ own_in n p ws
  unfolding own_in own_frame_ok both
  own_some l f e b q =
      let s = frame_some n p (take L ws) f e in
      rw (le-leb L (length ws) l, s.0, q, s.1) refl

-- ---- own frames, read

pub own_count : (k n : ℕ) (ws : List ℕ) → length (own_from k n ws) ≡ k
unfolding own_from
own_count zero n ws = refl
own_count (suc k) n ws = ap suc (own_count k n (drop (frame_length n ws) ws))

-- a row of sixteen gets one entry more
pub fill_next : (es : List Entry) (x : Entry) → length es < 16 → set (filled es) (length es) x ≡ filled (es ++ (x ∷ []))
unfolding filled
fill_next es x h =
    let e : 16 - length es ≡ suc (15 - length es) = omega arith in
    let g : 16 - length (es ++ (x ∷ [])) ≡ 15 - length es = omega (arith, length-append es (x ∷ [])) in
    ap (λ (k : ℕ). set (es ++ replicate k blank_entry) (length es) x) e
    ∙ set-append_seam es blank_entry (replicate (15 - length es) blank_entry) x
    ∙ sym (append_assoc es (x ∷ []) (replicate (15 - length es) blank_entry))
    ∙ ap (λ (k : ℕ). (es ++ (x ∷ [])) ++ replicate k blank_entry) (sym g)

-- what a list is behind and before its next element
record Next (i : ℕ) (es : List Entry) (x : Entry) (rest : List Entry) : Type 0 where
  pub before : take (suc i) es ≡ take i es ++ (x ∷ [])
  pub behind : drop (suc i) es ≡ rest
  pub place : length (take i es) ≡ i

next_of : (i : ℕ) (es : List Entry) (x : Entry) (rest : List Entry) → drop i es ≡ x ∷ rest → Next i es x rest
next_of zero es x rest e = record { before = ap (take 1) e; behind = ap (drop 1) e; place = refl }
next_of (suc i) [] x rest e = absurd (nil e)
  where
    nil : ◌≡◌ {A = List Entry} [] (x ∷ rest) → ⊥
    nil q = let z : ◌≡◌ {A = ℕ} 0 1 = cc in omega arith
next_of (suc i) (y ∷ es) x rest e =
    let r = next_of i es x rest e in
    record { before = ap (λ (l : List Entry). y ∷ l) r.before; behind = r.behind; place = ap suc r.place }

-- what holds of the loop over own frames before turn i, where the next frame stands at `at`
pub record Turn (ws : List ℕ) (n p count : ℕ) (items : List Entry) (at i : ℕ) : Type 0 where
  pub few : i ≤ count
  pub within : at ≤ length ws
  pub size : length items ≡ count
  pub checks : own_frames_ok count n p ws ≡ own_frames_ok (count - i) n p (drop at ws)
  pub left : drop i (own_from count n ws) ≡ own_from (count - i) n (drop at ws)
  pub done : take i items ≡ take i (own_from count n ws)

module _ (ws : List ℕ) (n p count : ℕ) where
  pub turn_first : (items : List Entry) → length items ≡ count → Turn ws n p count items 0 0
  turn_first items size =
      let z = sub-zero count in
      record {
        few = omega arith;
        within = omega arith;
        size = size;
        checks = ap (λ (k : ℕ). own_frames_ok k n p ws) (sym z);
        left = ap (λ (k : ℕ). own_from k n ws) (sym z);
        done = refl;
      }

  abbrev pub Lent : ℕ → List ℕ
  Lent at = take (length ws - at) (drop at ws)

  pub lent_rest : (at : ℕ) → Lent at ≡ drop at ws
  lent_rest at = take_all (length ws - at) (drop at ws) (simp length-drop (le_refl _))

  module _ (items : List Entry) (at i : ℕ) (T : Turn ws n p count items at i) (l : i < length items) where
    abbrev Here : List ℕ
    Here = drop at ws

    one : count - i ≡ suc (count - (i + 1))
    one = omega (arith, T.size)

    pub turn_fails : None ≡ own_in n p (Lent at) → false ≡ own_frames_ok count n p ws
    unfolding own_in own_frames_ok both
    turn_fails e =
        let bad : own_frame_ok n p Here ≡ false = none_is (own_frame_ok n p Here) _ (e ∙ ap (own_in n p) (lent_rest at)) in
        let out : own_frames_ok count n p ws ≡ false = T.checks ∙ ap (λ (k : ℕ). own_frames_ok k n p Here) one ∙ rw bad refl in
        sym out

    module _ (x : Entry) (k : ℕ) (q : Some (x, k) ≡ own_in n p (Lent at)) where
      record Own : Type 0 where
        pub ok : own_frame_ok n p Here ≡ true
        pub entry : (frame_of (take (frame_length n Here) Here)).entry ≡ x
        pub words : frame_length n Here ≡ k

      own_is : Own
      unfolding own_in
      own_is =
          let s = cond_some (own_frame_ok n p Here) ((frame_of (take (frame_length n Here) Here)).entry, frame_length n Here) (x, k) (sym (q ∙ ap (own_in n p) (lent_rest at))) in
          record { ok = s.0; entry = ap (λ (y : Entry × ℕ). y.0) s.1; words = ap (λ (y : Entry × ℕ). y.1) s.1 }

      pub turn_fits : at + k ≤ length ws
      unfolding own_frame_ok
      turn_fits =
          let O = own_is in
          let a = both_true (leb (frame_length n Here) (length Here)) _ O.ok in
          omega (arith, leb-true (frame_length n Here) (length Here) a.0, length-drop at ws, T.within, O.words)

      pub turn_next : Turn ws n p count (set items i x) (at + k) (i + 1)
      unfolding own_frames_ok own_from both
      turn_next =
          let O = own_is in
          let m : ℕ = count - (i + 1) in
          let d : drop (frame_length n Here) Here ≡ drop (at + k) ws = drop-drop (frame_length n Here) at ws ∙ ap (λ (j : ℕ). drop (at + j) ws) O.words in
          let es : List Entry = own_from count n ws in
          let here : drop i es ≡ x ∷ own_from m n (drop (at + k) ws) =
          T.left ∙ ap (λ (j : ℕ). own_from j n Here) one ∙ ap (λ (y : Entry). y ∷ own_from m n (drop (frame_length n Here) Here)) O.entry
          ∙ ap (λ (r : List ℕ). x ∷ own_from m n r) d
          in
          let N = next_of i es x (own_from m n (drop (at + k) ws)) here in
          record {
            few = omega (arith, T.size);
            within = turn_fits;
            size = length-set items i x ∙ T.size;
            checks =
                T.checks ∙ ap (λ (j : ℕ). own_frames_ok j n p Here) one ∙ rw O.ok (ap (own_frames_ok m n p) d);
            left = ap (λ (j : ℕ). drop j es) (add-one i) ∙ N.behind;
            done =
                take_more_set items i x l ∙ ap (λ (r : List Entry). r ++ (x ∷ [])) T.done ∙ sym N.before ∙ ap (λ (j : ℕ). take j es) (sym (add-one i));
          }

  -- behind the last one stands the check
  pub turn_last : (items : List Entry) (at i : ℕ) → Turn ws n p count items at i → length items ≤ i
      → (eqb (length ws - at) 1 ≡ own_frames_ok count n p ws) × (items ≡ own_from count n ws)
  unfolding own_frames_ok
  turn_last items at i T l =
      let z : count - i ≡ 0 = omega (arith, T.size) in
      let es : List Entry = own_from count n ws in (
        ap (λ (j : ℕ). eqb j 1) (sym (length-drop at ws)) ∙ sym (T.checks ∙ ap (λ (j : ℕ). own_frames_ok j n p (drop at ws)) z),
        sym (take_all i items l) ∙ T.done ∙ take_all i es (omega (arith, own_count count n ws, T.size)),
      )
