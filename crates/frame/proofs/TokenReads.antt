-- What the reader of a token answers, by its steps. Assumes nothing.
use Rattle.std.proofs.Common.{◌≡◌, ℕ, ◌+◌, ◌-◌, Bool, true, false, cond, List, length, take, drop, sym, refl, ap, ◌∙◌, arith, None, ok_or, Option, replicate, Result, Some, ◌++◌, take_at, eqb, length-drop}
use Rattle.std.specs.Result.{result_unwrap_or}
use Rattle.std.proofs.lemmas.List.{drop-replicate}
use Rattle.causal.specs.Tests.{both}
use Rattle.causal.specs.Codes.{check}
use Rattle.causal.specs.Lists.{part, zeros}
use Rattle.causal.proofs.Tests.{both_true, both_intro, same_test, not_so, false_true, both_one}
use Rattle.frame.specs.declared.entry.Entry.{Entry}
use Rattle.frame.specs.declared.session.Session.{Session}
use Rattle.frame.specs.Words.{clock_from, ids_from}
use Rattle.frame.specs.Frames.{ring_ok}
use Rattle.frame.specs.Reading.{clock_kinds, ascends, sum_ok}
use Rattle.frame.specs.Sessions.{Content, filled, session_of, own_ok, session_ok, fresh_content}
use Rattle.frame.specs.Tokens.{own_from, token_owns, token_reads, content_from, accepts_token}
use Rattle.frame.specs.TokenReading.{token_shape, own_frames_ok, token_checked, start_ok, carried_ok, content_at}
use Rattle.frame.specs.TokenCalls.{session_in, read_token_code, content_if, read_token}
use Rattle.frame.specs.Entries.{blank_entry, clock_ok}
use Rattle.frame.specs.Refusals.{code_of, number_of}
use Rattle.frame.specs.declared.refusal.Refusal.{Refusal}
use Rattle.frame.specs.declared.refusal.Refusal.TheVariants.{Format}
use Rattle.frame.proofs.Ascents.{ids_range}
use Rattle.frame.proofs.Sessions.{session_facts, facts_session}
use Rattle.frame.proofs.TokenTurns.{own_count, lent_rest}
use Rattle.frame.proofs.TokenChecks.{Shape, shape_facts, facts_shape, Checked, checked_facts, facts_checked, token_checks_accept}

-- ---- the own frames of a row

module _ (k n p : ℕ) (clock read ws : List ℕ) where
  abbrev Laden : Option Session
  Laden = cond (carried_ok k n p read ws) (Some (session_of (record { offices = n; clock = clock; read = read; own = own_from k n ws }))) None

  pub laden_none : own_frames_ok k n p ws ≡ false → None ≡ Laden
  unfolding carried_ok both
  laden_none e = rw e refl

  -- the session whose own writes were read into the first of sixteen blanks
  pub laden_some : own_frames_ok k n p ws ≡ true → (blank : Entry) → blank ≡ blank_entry → (own : List Entry) → own ≡ own_from k n ws ++ drop k (replicate 16 blank)
      → (b : Bool) → b ≡ own_ok n p read zeros (take k own)
      → cond b (Some (record { offices = n; clock = clock; read = read; count = k; own = own })) None ≡ Laden
  unfolding carried_ok session_of filled both
  laden_some f blank z own e b q =
      let es : List Entry = own_from k n ws in
      let m : length es ≡ k = own_count k n ws in
      let t : take k own ≡ es = ap (take k) e ∙ take_at es (drop k (replicate 16 blank)) k m in
      let c : b ≡ both (own_frames_ok k n p ws) (own_ok n p read zeros es) = rw f (q ∙ ap (own_ok n p read zeros) t) in
      let blanks : drop k (replicate 16 blank) ≡ replicate (16 - length es) blank_entry =
      ap (λ (x : Entry). drop k (replicate 16 x)) z ∙ drop-replicate k 16 blank_entry ∙ ap (λ (j : ℕ). replicate (16 - j) blank_entry) (sym m)
      in
      let own_is : own ≡ es ++ replicate (16 - length es) blank_entry = e ∙ ap (λ (r : List Entry). es ++ r) blanks in
      λ i. cond (c i) (Some (record { offices = n; clock = clock; read = read; count = sym m i; own = own_is i })) None

  -- the same where none is carried: of the own frames the check alone is asked
  pub laden_bare : k ≡ 0 → (blank : Entry) → blank ≡ blank_entry → (b : Bool) → b ≡ eqb (length ws) 1
      → cond b (Some (record { offices = n; clock = clock; read = read; count = k; own = replicate 16 blank })) None ≡ Laden
  unfolding carried_ok own_frames_ok own_from own_ok session_of filled both
  laden_bare e blank z b q =
      let c : b ≡ both (eqb (length ws) 1) true = q ∙ sym (both_one (eqb (length ws) 1)) in
      rw e (λ i. cond (c i) (Some (record { offices = n; clock = clock; read = read; count = 0; own = replicate 16 (z i) })) None)

module _ (n p : ℕ) (ws : List ℕ) where
  -- ---- the fields

  abbrev Ids : List ℕ
  Ids = part ws (1 + n) (token_reads ws)

  abbrev Rest : List ℕ
  Rest = drop (1 + n + token_reads ws) ws

  -- the read names stand between the clock and the own frames
  abbrev Between : List ℕ
  Between = take (1 + n + token_reads ws - (1 + n)) (drop (1 + n) ws)

  pub reads_between : Between ≡ Ids
  unfolding part
  reads_between = let e : 1 + n + token_reads ws - (1 + n) ≡ token_reads ws = omega arith in ap (λ (k : ℕ). take k (drop (1 + n) ws)) e

  -- the own frames stand behind them
  abbrev Behind : List ℕ
  Behind = take (length ws - (1 + n + token_reads ws)) Rest

  owns_behind : Behind ≡ Rest
  owns_behind = lent_rest ws n p 0 (1 + n + token_reads ws)

  content_at_lem : Shape n ws → content_at n ws ≡ content_from ws
  unfolding content_at content_from
  content_at_lem s =
      let o = sym s.ring in
      λ i.
      record {
        offices = o i;
        clock = ap (clock_from ws 1) o i;
        read = ap (λ (m : ℕ). ids_from (part ws (1 + m) (token_reads ws))) o i;
        own = ap (λ (m : ℕ). own_from (token_owns ws) m (drop (1 + m + token_reads ws) ws)) o i;
      }

  -- the same by what was read
  content_of : (clock read vs : List ℕ) → clock ≡ clock_from ws 1 n → read ≡ ids_from Ids → vs ≡ Rest
      → ◌≡◌ {A = Content} (record { offices = n; clock = clock; read = read; own = own_from (token_owns ws) n vs }) (content_at n ws)
  unfolding content_at
  content_of clock read vs a b c = λ i. record { offices = n; clock = a i; read = b i; own = own_from (token_owns ws) n (c i) }

  -- ---- the checks, in the order in which they are asked

  record Start : Type 0 where
    pub shape : Shape n ws
    pub kinds : clock_kinds ws 1 n ≡ true
    pub reads : ascends n 0 Ids ≡ true
    pub sum : sum_ok ws ≡ true

  start_facts : start_ok n ws ≡ true → Start
  unfolding start_ok
  start_facts e =
      let a = both_true (token_shape n ws) _ e in
      let b = both_true (clock_kinds ws 1 n) _ a.1 in
      let c = both_true (ascends n 0 Ids) _ b.1 in
      record { shape = shape_facts n ws a.0; kinds = b.0; reads = c.0; sum = c.1 }

  pub start_shape : start_ok n ws ≡ true → Shape n ws
  start_shape e = (start_facts e).shape

  pub start_reads : start_ok n ws ≡ true → ascends n 0 Between ≡ true
  start_reads e = ap (ascends n 0) reads_between ∙ (start_facts e).reads

  to_start : Checked n p ws → start_ok n ws ≡ true
  unfolding start_ok
  to_start c = both_intro _ _ (facts_shape n ws c.shape) (both_intro _ _ c.clock (both_intro _ _ c.reads c.sum))

  abbrev Owns : Bool
  Owns = carried_ok (token_owns ws) n p (ids_from Ids) Rest

  pub checks_left : start_ok n ws ≡ true → token_checked n p ws ≡ both (clock_ok n (clock_from ws 1 n)) Owns
  unfolding carried_ok content_at
  checks_left e = same_test _ _ to from
    where
      S : Start
      S = start_facts e

      to : token_checked n p ws ≡ true → both (clock_ok n (clock_from ws 1 n)) Owns ≡ true
      to t =
          let c = checked_facts n p ws t in
          let f = session_facts n p (content_at n ws) (ap (session_ok n p) (content_at_lem S.shape) ∙ c.sound) in
          both_intro _ _ f.clock (both_intro _ _ c.owns f.own)

      from : both (clock_ok n (clock_from ws 1 n)) Owns ≡ true → token_checked n p ws ≡ true
      from t =
          let a = both_true (clock_ok n (clock_from ws 1 n)) _ t in
          let b = both_true (own_frames_ok (token_owns ws) n p Rest) _ a.1 in
          let few = own_count (token_owns ws) n Rest in
          let f = facts_session n p (content_at n ws) (record { offices = refl; few = omega (arith, few, S.shape.few); clock = a.0; ids = ids_range n Ids S.reads; own = b.1 }) in
          facts_checked n p ws
          (record { shape = S.shape; clock = S.kinds; reads = S.reads; owns = b.0; sound = ap (session_ok n p) (sym (content_at_lem S.shape)) ∙ f; sum = S.sum })

  -- ---- refusals

  abbrev NoToken : Type 0
  NoToken = ◌≡◌ {A = Option Session} None (session_in n p ws)

  refused : ring_ok n p ≡ true → token_checked n p ws ≡ false → NoToken
  unfolding session_in
  refused r e = rw (← token_checks_accept n p ws r, e) refl

  pub start_refused : ring_ok n p ≡ true → start_ok n ws ≡ false → NoToken
  start_refused r e = refused r (not_so (token_checked n p ws) (λ t. false_true (sym e ∙ to_start (checked_facts n p ws t))))

  pub clock_refused : ring_ok n p ≡ true → start_ok n ws ≡ true → clock_ok n (clock_from ws 1 n) ≡ false → NoToken
  unfolding both
  clock_refused r s e = refused r (checks_left s ∙ rw e refl)

  -- ---- the same, by the refusal number of the call

  pub settings_refused : ring_ok n p ≡ false → read_token_code n p ws ≡ 1
  unfolding read_token_code check
  settings_refused e = rw e refl

  not_checked : ring_ok n p ≡ true → token_checked n p ws ≡ false → read_token_code n p ws ≡ 9
  unfolding read_token_code check
  not_checked r e = rw (r, ← token_checks_accept n p ws r, e) refl

  pub start_nine : ring_ok n p ≡ true → start_ok n ws ≡ false → read_token_code n p ws ≡ 9
  start_nine r e = not_checked r (not_so (token_checked n p ws) (λ t. false_true (sym e ∙ to_start (checked_facts n p ws t))))

  pub clock_nine : ring_ok n p ≡ true → start_ok n ws ≡ true → clock_ok n (clock_from ws 1 n) ≡ false → read_token_code n p ws ≡ 9
  unfolding both
  clock_nine r s e = not_checked r (checks_left s ∙ rw e refl)

  -- ---- and otherwise: what is said of the rest is what is answered

  pub laden_answer : ring_ok n p ≡ true → start_ok n ws ≡ true → clock_ok n (clock_from ws 1 n) ≡ true → (clock read vs : List ℕ)
      → clock ≡ clock_from ws 1 n → read ≡ ids_from Between → vs ≡ Behind → Laden (token_owns ws) n p clock read vs ≡ session_in n p ws
  unfolding session_in both
  laden_answer r t k clock read vs x y z =
      let read_is : read ≡ ids_from Ids = y ∙ ap ids_from reads_between in
      let rest_is : vs ≡ Rest = z ∙ owns_behind in
      let asked : carried_ok (token_owns ws) n p read vs ≡ accepts_token n p ws =
      (λ i. carried_ok (token_owns ws) n p (read_is i) (rest_is i)) ∙ sym (checks_left t ∙ rw k refl) ∙ token_checks_accept n p ws r
      in
      let said = content_of clock read vs x read_is rest_is ∙ content_at_lem (start_shape t) in
      λ i. cond (asked i) (Some (session_of (said i))) None

  -- .. where none is carried, too
  pub bare_answer : ring_ok n p ≡ true → start_ok n ws ≡ true → clock_ok n (clock_from ws 1 n) ≡ true → (clock read : List ℕ)
      → clock ≡ clock_from ws 1 n → read ≡ ids_from Between → token_owns ws ≡ 0 → (blank : Entry) → blank ≡ blank_entry
      → (b : Bool) → b ≡ eqb (length ws - (1 + n + token_reads ws)) 1
      → cond b (Some (record { offices = n; clock = clock; read = read; count = token_owns ws; own = replicate 16 blank })) None ≡ session_in n p ws
  bare_answer r t k clock read x y e blank z b q =
      laden_bare (token_owns ws) n p clock read Rest e blank z b (q ∙ ap (λ (j : ℕ). eqb j 1) (sym (length-drop (1 + n + token_reads ws) ws)))
      ∙ laden_answer r t k clock read Rest x y (sym owns_behind)

  -- ---- the answer of the call

  pub no_ring : ring_ok n p ≡ false → (1 ≡ read_token_code n p ws) × (session_of (fresh_content 0) ≡ session_of (read_token n p ws))
  unfolding read_token_code read_token content_if check
  no_ring e = (rw e refl, rw e refl)

  pub answered : ring_ok n p ≡ true → (r : Result Session Refusal) → r ≡ ok_or (session_in n p ws) Format
      → (code_of r ≡ read_token_code n p ws) × (result_unwrap_or r (session_of (fresh_content 0)) ≡ session_of (read_token n p ws))
  unfolding session_in read_token_code read_token content_if check code_of number_of
  answered e r q = go (accepts_token n p ws) refl
    where
      go : (b : Bool) → accepts_token n p ws ≡ b → (code_of r ≡ read_token_code n p ws) × (result_unwrap_or r (session_of (fresh_content 0)) ≡ session_of (read_token n p ws))
      go true a = (rw (q, e, a) refl, rw (q, e, a) refl)
      go false a = (rw (q, e, a) refl, rw (q, e, a) refl)
