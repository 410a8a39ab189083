-- "Changing exactly one word of an accepted frame or slip makes it refused." Assumes nothing.
use Rattle.std.proofs.Common.{◌≡◌, ℕ, zero, suc, ◌+◌, ◌/◌, ◌%◌, ◌<◌, ◌≤◌, true, false, List, [], ◌∷◌, ◌++◌, map, length, get_or, drop, set, sym, refl, ap, ◌∙◌, append_assoc, arith, drop_at}
use mathlib.Core.List.{Memᴰ, map-append}
use Rattle.causal.specs.Lists.{tab, zeros}
use Rattle.causal.specs.Sets.{inserted}
use Rattle.causal.proofs.Lists.{eq_words_eq}
use Rattle.causal.proofs.Tests.{both_true}
use Rattle.frame.specs.Entries.{id_of}
use Rattle.frame.specs.Frames.{accepts, body_words, count_in, frame_of, frame_ok, frame_words, framed, offices_in, ring_ok}
use Rattle.frame.specs.Sessions.{Content, SaneContent, own_ok, session_ok}
use Rattle.frame.specs.Tokens.{accepts_token, content_from, frame_length, rows_of, token_head, token_owns, token_reads, token_words}
use Rattle.frame.specs.Words.{clock_words, id_words, kind_of, pay_at, sum_word, summed}
use Rattle.frame.specs.declared.entry.Entry.{Entry}
use Rattle.frame.specs.declared.entry.Frame.{Frame}
use Rattle.frame.proofs.Back.{accepted_ok, accepted_written, count_back, offices_back}
use Rattle.frame.proofs.Entries.{RingFacts, entry_facts, entry_wider, facts_ring, frame_facts, ring_facts}
use Rattle.frame.proofs.Frames.{head_fits, head_kind, length_frame}
use Rattle.frame.proofs.Payloads.{drop_pay, kind, kinds_clock, kinds_ids, one_change, pay, pay_head}
use Rattle.frame.proofs.Sane.{token_sane}
use Rattle.frame.proofs.Sessions.{facts_own, facts_session, own_facts, session_facts}
use Rattle.frame.proofs.Tokens.{after_reads, first_length, is_k, is_n, is_r, own_frames, reads_le, row_is}

-- ---- frames

-- the kinds of a frame's words, for n offices and k dependencies
unfoldable pattern : ℕ → ℕ → List ℕ
pattern n k = (1 ∷ 3 ∷ 4 ∷ (tab n (λ j. 5) ++ tab k (λ j. 6))) ++ (15 ∷ [])

frame_kinds_lem : (n p : ℕ) (f : Frame) → p ≤ 64 → frame_ok n p f ≡ true
    → map kind (frame_words f) ≡ pattern f.offices (length (id_words f.entry.deps))
unfolding frame_words summed body_words pattern kind
frame_kinds_lem n p f l ok =
    let F = frame_facts n p f ok in
    let G = entry_facts n p f.entry F.entry in
    let high : f.offices ≤ 8 = omega (arith, F.ring, F.high) in
    let U : List ℕ = clock_words f.offices f.entry.clock in
    let D : List ℕ = id_words f.entry.deps in
    let B : List ℕ = body_words f in
    let k1 = head_kind f.entry.office f.entry.serial f.hops f.offices (length (id_words f.entry.deps)) (head_fits n p f ok) in
    let k3 : kind_of (805306368 + f.entry.plot) ≡ 3 = omega (arith, G.bounds.plot_ok) in
    let k4 : kind_of (1073741824 + f.entry.value) ≡ 4 = omega (arith, G.bounds.value_ok) in
    let ku : map kind U ≡ tab f.offices (λ j. 5) = kinds_clock f.offices n f.entry.clock high G.clock in
    let kd : map kind D ≡ tab (length D) (λ j. 6) = kinds_ids f.entry.deps in
    let ks : kind_of (sum_word B) ≡ 15 = omega arith in
    let kb : map kind B ≡ 1 ∷ 3 ∷ 4 ∷ (tab f.offices (λ j. 5) ++ tab (length D) (λ j. 6)) = cc (map-append kind U D, k1, k3, k4, ku, kd) in
    map-append kind B (sum_word B ∷ [])
    ∙ ap (λ (x : List ℕ). x ++ (kind_of (sum_word B) ∷ [])) kb
    ∙ ap (λ (x : ℕ). (1 ∷ 3 ∷ 4 ∷ (tab f.offices (λ j. 5) ++ tab (length D) (λ j. 6))) ++ (x ∷ [])) ks

abbrev frame_kinds : List ℕ → List ℕ
frame_kinds ws = pattern (offices_in ws) (count_in ws)

module _ (n p : ℕ) (most : p ≤ 64) where
  frame_summed : (ws : List ℕ) → accepts n p ws ≡ true → ws ≡ summed (body_words (frame_of ws))
  unfolding frame_words
  frame_summed ws h = accepted_written n p ws h

  frame_kinds_are : (ws : List ℕ) → accepts n p ws ≡ true → map kind ws ≡ frame_kinds ws
  frame_kinds_are ws h =
      let w = accepted_written n p ws h in
      let ok = accepted_ok n p ws h in
      ap (map kind) w
      ∙ frame_kinds_lem n p (frame_of ws) most ok
      ∙ ap (λ (x : ℕ). pattern x (length (id_words (frame_of ws).entry.deps))) (sym (offices_back n p (frame_of ws) most ok))
      ∙ ap (pattern (offices_in (frame_words (frame_of ws)))) (sym (count_back n p (frame_of ws) most ok))
      ∙ ap frame_kinds (sym w)

  frame_kinds_by : (a b : List ℕ) → map pay a ≡ map pay b → frame_kinds a ≡ frame_kinds b
  frame_kinds_by a b e = ap (λ (x : ℕ). pattern (x / 256 % 16) (x % 256)) (pay_head a b e)

  pub frame_changed : (ws : List ℕ) (i x : ℕ) → accepts n p ws ≡ true → i < length ws → (x ≡ get_or ws i 0 → ⊥) → accepts n p (set ws i x) ≡ false
  frame_changed = one_change (accepts n p) (λ ws. body_words (frame_of ws)) frame_kinds frame_summed frame_kinds_are frame_kinds_by

-- ---- tokens

unfoldable own_kinds : ℕ → ℕ → List ℕ → List ℕ
own_kinds zero n ws = []
own_kinds (suc k) n ws = pattern n (count_in ws) ++ own_kinds k n (drop (frame_length n ws) ws)

unfoldable kinds_by : ℕ → List ℕ → List ℕ
kinds_by x ws =
    8 ∷ (tab (x / 16777216) (λ j. 5)
    ++ (tab (x % 512) (λ j. 6) ++ (own_kinds (x / 65536 % 256) (x / 16777216) (drop (1 + x / 16777216 + x % 512) ws) ++ (15 ∷ []))))

abbrev token_kinds : List ℕ → List ℕ
token_kinds ws = kinds_by (pay_at ws 0) ws

own_kinds_by : (k n : ℕ) (a b : List ℕ) → map pay a ≡ map pay b → own_kinds k n a ≡ own_kinds k n b
unfolding own_kinds
own_kinds_by zero n a b e = refl
own_kinds_by (suc k) n a b e =
    let h = pay_head a b e in
    ap (λ (x : ℕ). pattern n (x % 256) ++ own_kinds k n (drop (n + x % 256 + 4) a)) h
    ∙ ap (λ (l : List ℕ). pattern n (count_in b) ++ l)
    (own_kinds_by k n (drop (frame_length n b) a) (drop (frame_length n b) b)
    (drop_pay (frame_length n b) a ∙ ap (drop (frame_length n b)) e ∙ sym (drop_pay (frame_length n b) b)))

token_kinds_by : (a b : List ℕ) → map pay a ≡ map pay b → token_kinds a ≡ token_kinds b
unfolding kinds_by
token_kinds_by a b e = ap (λ (x : ℕ). kinds_by x a) (pay_head a b e) ∙ rest (pay_at b 0)
  where
    rest : (x : ℕ) → kinds_by x a ≡ kinds_by x b
    rest x =
        let m : ℕ = 1 + x / 16777216 + x % 512 in
        ap (λ (l : List ℕ). 8 ∷ (tab (x / 16777216) (λ j. 5) ++ (tab (x % 512) (λ j. 6) ++ (l ++ (15 ∷ [])))))
        (own_kinds_by (x / 65536 % 256) (x / 16777216) (drop m a) (drop m b) (drop_pay m a ∙ ap (drop m) e ∙ sym (drop_pay m b)))

own_kinds_lem : (n : ℕ) (es : List Entry) (Y : List ℕ) → ((e : Entry) → Memᴰ e es → frame_ok n 64 (framed n 0 e) ≡ true)
    → map kind (rows_of (map (framed n 0) es)) ≡ own_kinds (length es) n (rows_of (map (framed n 0) es) ++ Y)
unfolding own_kinds rows_of
own_kinds_lem n [] Y h = refl
own_kinds_lem n (e ∷ es) Y h =
    go (frame_words (framed n 0 e)) (rows_of (map (framed n 0) es)) (frame_kinds_lem n 64 (framed n 0 e) (omega arith) (h e (Memᴰ.head refl)))
    (first_length n e (rows_of (map (framed n 0) es) ++ Y) (h e (Memᴰ.head refl))) (length_frame (framed n 0 e))
    (own_kinds_lem n es Y (λ f m. h f (Memᴰ.tail m)))
  where
    go : (fw R : List ℕ) → map kind fw ≡ pattern n (length (id_words e.deps)) → frame_length n (fw ++ (R ++ Y)) ≡ length fw
        → length fw ≡ n + length (id_words e.deps) + 4 → map kind R ≡ own_kinds (length es) n (R ++ Y)
        → map kind (fw ++ R) ≡ pattern n (count_in ((fw ++ R) ++ Y)) ++ own_kinds (length es) n (drop (frame_length n ((fw ++ R) ++ Y)) ((fw ++ R) ++ Y))
    go fw R kf len lf ih =
        let k : count_in (fw ++ (R ++ Y)) ≡ length (id_words e.deps) = omega arith in
        let d : drop (frame_length n (fw ++ (R ++ Y))) (fw ++ (R ++ Y)) ≡ R ++ Y =
        drop_at fw (R ++ Y) (frame_length n (fw ++ (R ++ Y))) (sym len)
        in
        map-append kind fw R
        ∙ ap (λ (l : List ℕ). l ++ map kind R) kf
        ∙ ap (λ (l : List ℕ). pattern n (length (id_words e.deps)) ++ l) ih
        ∙ sym
        (ap (λ (l : List ℕ). pattern n (count_in l) ++ own_kinds (length es) n (drop (frame_length n l) l)) (append_assoc fw R Y)
        ∙ ap (λ (x : ℕ). pattern n x ++ own_kinds (length es) n (drop (frame_length n (fw ++ (R ++ Y))) (fw ++ (R ++ Y)))) k
        ∙ ap (λ (l : List ℕ). pattern n (length (id_words e.deps)) ++ own_kinds (length es) n l) d)

token_head_kind : (n k r : ℕ) → n ≤ 8 → k ≤ 16 → r ≤ 256 → kind_of (token_head n k r) ≡ 8
token_head_kind n k r x y z = omega arith

module _ (s : Content) (ring : ring_ok s.offices 64 ≡ true) (ok : session_ok s.offices 64 s ≡ true) (sane : SaneContent s) where
  abbrev H : ℕ
  H = token_head s.offices (length s.own) (length (id_words s.read))

  abbrev U : List ℕ
  U = clock_words s.offices s.clock

  abbrev D : List ℕ
  D = id_words s.read

  abbrev Ow : List ℕ
  Ow = rows_of (map (framed s.offices 0) s.own)

  abbrev c : ℕ
  c = sum_word (H ∷ (U ++ (D ++ Ow)))

  abbrev row : List ℕ
  row = H ∷ (U ++ (D ++ (Ow ++ (c ∷ []))))

  -- the kinds of the row, part by part
  kinds_parts : map kind row ≡ 8 ∷ (tab s.offices (λ j. 5) ++ (tab (length D) (λ j. 6) ++ (own_kinds (length s.own) s.offices (Ow ++ (c ∷ [])) ++ (15 ∷ []))))
  unfolding kind
  kinds_parts =
      let F = session_facts s.offices 64 s ok in
      let G = ring_facts s.offices 64 ring in
      let kh = token_head_kind s.offices (length s.own) (length (id_words s.read)) G.high F.few (reads_le s.read) in
      let ku = kinds_clock s.offices s.offices s.clock G.high F.clock in
      let kd = kinds_ids s.read in
      let ko : map kind Ow ≡ own_kinds (length s.own) s.offices (Ow ++ (c ∷ [])) =
      own_kinds_lem s.offices s.own (c ∷ []) (own_frames s ring ok sane)
      in
      let kc : kind_of c ≡ 15 = omega arith in
      ap (λ (x : ℕ). x ∷ map kind (U ++ (D ++ (Ow ++ (c ∷ []))))) kh
      ∙ ap (λ (l : List ℕ). 8 ∷ l)
      (map-append kind U (D ++ (Ow ++ (c ∷ [])))
      ∙ ap (λ (l : List ℕ). l ++ map kind (D ++ (Ow ++ (c ∷ [])))) ku
      ∙ ap (λ (l : List ℕ). tab s.offices (λ j. 5) ++ l)
      (map-append kind D (Ow ++ (c ∷ []))
      ∙ ap (λ (l : List ℕ). l ++ map kind (Ow ++ (c ∷ []))) kd
      ∙ ap (λ (l : List ℕ). tab (length D) (λ j. 6) ++ l)
      (map-append kind Ow (c ∷ []) ∙ ap (λ (l : List ℕ). l ++ (kind_of c ∷ [])) ko ∙ ap (λ (x : ℕ). own_kinds (length s.own) s.offices (Ow ++ (c ∷ [])) ++ (x ∷ [])) kc)))

  kinds_row : token_kinds row ≡ 8 ∷ (tab s.offices (λ j. 5) ++ (tab (length D) (λ j. 6) ++ (own_kinds (length s.own) s.offices (Ow ++ (c ∷ [])) ++ (15 ∷ []))))
  unfolding kinds_by
  kinds_row =
      ap
      (λ (x : ℕ).
      8 ∷ (tab x (λ j. 5) ++ (tab (token_reads row) (λ j. 6) ++ (own_kinds (token_owns row) x (drop (1 + x + token_reads row) row) ++ (15 ∷ [])))))
      (is_n s ring ok sane)
      ∙ ap
      (λ (x : ℕ).
      8 ∷
      (tab s.offices (λ j. 5) ++
      (tab (token_reads row) (λ j. 6) ++ (own_kinds x s.offices (drop (1 + s.offices + token_reads row) row) ++ (15 ∷ [])))))
      (is_k s ring ok sane)
      ∙ ap
      (λ (x : ℕ).
      8 ∷
      (tab s.offices (λ j. 5) ++ (tab x (λ j. 6) ++ (own_kinds (length s.own) s.offices (drop (1 + s.offices + x) row) ++ (15 ∷ [])))))
      (is_r s ring ok sane)
      ∙ ap
      (λ (l : List ℕ). 8 ∷ (tab s.offices (λ j. 5) ++ (tab (length D) (λ j. 6) ++ (own_kinds (length s.own) s.offices l ++ (15 ∷ [])))))
      (after_reads s ring ok sane)

  token_kinds_lem : map kind (token_words s) ≡ token_kinds (token_words s)
  token_kinds_lem = ap (map kind) (row_is s ring ok sane) ∙ kinds_parts ∙ sym kinds_row ∙ ap token_kinds (sym (row_is s ring ok sane))

-- ---- an accepted row is the writing of what is read

module _ (n p : ℕ) where
  pub token_written : (ws : List ℕ) → accepts_token n p ws ≡ true → ws ≡ token_words (content_from ws)
  unfolding accepts_token
  token_written ws h = eq_words_eq ws (token_words (content_from ws)) (both_true (session_ok n p (content_from ws)) _ h).1

  pub token_sound : (ws : List ℕ) → accepts_token n p ws ≡ true → session_ok n p (content_from ws) ≡ true
  unfolding accepts_token
  token_sound ws h = (both_true (session_ok n p (content_from ws)) _ h).0

-- the words of a token but the last
abbrev token_body : Content → List ℕ
token_body s =
    token_head s.offices (length s.own) (length (id_words s.read))
    ∷ (clock_words s.offices s.clock ++ (id_words s.read ++ rows_of (map (framed s.offices 0) s.own)))

-- what is sound for p plots is sound for more
own_wider : (n p q : ℕ) (read seen : List ℕ) (es : List Entry) → p ≤ q → own_ok n p read seen es ≡ true → own_ok n q read seen es ≡ true
unfolding own_ok
own_wider n p q read seen [] l h = refl
own_wider n p q read seen (e ∷ es) l h =
    let F = own_facts n p read seen e es h in
    facts_own n q read seen e es
    (record {
      ok = entry_wider n p q e l F.ok;
      new = F.new;
      deps = F.deps;
      rest = own_wider n p q read (inserted seen (id_of e)) es l F.rest;
    })

pub session_wider : (n p q : ℕ) (s : Content) → p ≤ q → session_ok n p s ≡ true → session_ok n q s ≡ true
session_wider n p q s l h =
    let F = session_facts n p s h in
    facts_session n q s
    (record { offices = F.offices; few = F.few; clock = F.clock; ids = F.ids; own = own_wider n p q s.read zeros s.own l F.own })

module _ (n p : ℕ) (ring : ring_ok n p ≡ true) where
  R : RingFacts n p
  R = ring_facts n p ring

  token_summed : (ws : List ℕ) → accepts_token n p ws ≡ true → ws ≡ summed (token_body (content_from ws))
  unfolding token_words
  token_summed ws h = token_written n p ws h

  token_kinds_are : (ws : List ℕ) → accepts_token n p ws ≡ true → map kind ws ≡ token_kinds ws
  token_kinds_are ws h =
      let w = token_written n p ws h in
      let sd = token_sound n p ws h in
      let o : (content_from ws).offices ≡ n = (session_facts n p (content_from ws) sd).offices in
      let ok : session_ok (content_from ws).offices 64 (content_from ws) ≡ true =
      ap (λ (x : ℕ). session_ok x 64 (content_from ws)) o ∙ session_wider n p 64 (content_from ws) R.to sd
      in
      let rg : ring_ok (content_from ws).offices 64 ≡ true =
      ap (λ (x : ℕ). ring_ok x 64) o ∙ facts_ring n 64 (record { low = R.low; high = R.high; from = omega arith; to = omega arith })
      in
      ap (map kind) w ∙ token_kinds_lem (content_from ws) rg ok (token_sane ws) ∙ ap token_kinds (sym w)

  pub token_changed : (ws : List ℕ) (i x : ℕ) → accepts_token n p ws ≡ true → i < length ws → (x ≡ get_or ws i 0 → ⊥)
      → accepts_token n p (set ws i x) ≡ false
  token_changed = one_change (accepts_token n p) (λ ws. token_body (content_from ws)) token_kinds token_summed token_kinds_are token_kinds_by
