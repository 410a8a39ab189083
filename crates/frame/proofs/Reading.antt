-- What the reader of a frame answers, by its steps. Assumes nothing.
use Rattle.std.proofs.Common.{◌≡◌, ℕ, suc, ◌+◌, ◌-◌, ◌<◌, ◌≤◌, Bool, true, false, cond, eqb, ltb, leb, List, length, get_or, take, drop, sym, refl, ap, ◌∙◌, ⊎_elim, arith, le-ltb, lt-ltb, eqb-true, None, ok_or, Option, Result, Some}
use Rattle.std.specs.Result.{result_unwrap_or}
use Rattle.std.proofs.lemmas.Option.{cond_some}
use Rattle.causal.specs.Tests.{both, all_below}
use Rattle.causal.specs.Codes.{check}
use Rattle.causal.specs.Lists.{part}
use Rattle.causal.proofs.Tests.{all_at, all_both, all_intro, both_assoc, both_swap, both_true, false_true, lt_or_le, same_test}
use Rattle.frame.specs.declared.entry.Frame.{Frame}
use Rattle.frame.specs.Entries.{clock_place_ok, clock_ok, ids_ok, entry_ok}
use Rattle.frame.specs.Words.{pay_at, kind_is, ids_from, clock_from}
use Rattle.frame.specs.Frames.{ring_ok, offices_in, count_in, frame_ok, frame_of, accepts, blank_frame}
use Rattle.frame.specs.Reading.{shape_ok, clock_kinds, clocks_in, kinds_ok, ascends, sum_ok, checked, frame_at}
use Rattle.frame.specs.Calls.{frame_in, read_frame_code, frame_if, read_frame}
use Rattle.frame.specs.Refusals.{code_of, number_of}
use Rattle.frame.specs.declared.refusal.Refusal.{Refusal}
use Rattle.frame.specs.declared.refusal.Refusal.TheVariants.{Format}
use Rattle.frame.proofs.Entries.{entry_facts, ring_facts, frame_facts}
use Rattle.frame.proofs.Ascents.{ids_range}
use Rattle.frame.proofs.Frames.{checks_accept}
use Rattle.frame.proofs.Words.{clock_from_at}

-- what an answer says of the test that it stands on
pub none_is : {A : Type 0} (b : Bool) (x : A) → None ≡ cond b (Some x) None → b ≡ false
none_is true x e = cc
none_is false x e = refl

-- what the shape says
pub record Shape (n : ℕ) (ws : List ℕ) : Type 0 where
  pub ring : offices_in ws ≡ n
  pub exact : length ws ≡ n + count_in ws + 4

pub shape_facts : (n : ℕ) (ws : List ℕ) → shape_ok n ws ≡ true → Shape n ws
unfolding shape_ok
shape_facts n ws e =
    let a = both_true (ltb 0 (length ws)) _ e in
    let b = both_true (kind_is 1 (get_or ws 0 0)) _ a.1 in
    let c = both_true (eqb (offices_in ws) n) _ b.1 in
    record { ring = eqb-true (offices_in ws) n c.0; exact = eqb-true (length ws) (n + count_in ws + 4) c.1 }

pub clock_in_range : (n : ℕ) (ws : List ℕ) (f : Frame) → Shape n ws → clock_ok n (clock_from ws 3 n) ≡ true → f ≡ frame_of ws → clock_ok n f.entry.clock ≡ true
unfolding frame_of
clock_in_range n ws f s c e =
    ap (λ (g : Frame). clock_ok n g.entry.clock) e ∙ ap (λ (m : ℕ). clock_ok n (clock_from ws 3 m)) s.ring ∙ c

-- the clock words are of their kind and in range just where the kinds are right and the clock is
clock_low : (ws : List ℕ) (i n : ℕ) → n ≤ 8 → all_below n (λ j. leb (pay_at ws (i + j)) 32) ≡ clock_ok n (clock_from ws i n)
unfolding clock_ok clock_place_ok
clock_low ws i n h = same_test _ _ there back
  where
    at : (j : ℕ) → j < n → get_or (clock_from ws i n) j 0 ≡ pay_at ws (i + j)
    at j l = clock_from_at ws i n j (omega arith) ∙ rw (lt-ltb j n l) refl

    there : all_below n (λ j. leb (pay_at ws (i + j)) 32) ≡ true → all_below 8 (clock_place_ok n (clock_from ws i n)) ≡ true
    there e =
        all_intro (clock_place_ok n (clock_from ws i n)) 8
        (λ j l.
        ⊎_elim (λ (m : j < n). rw (lt-ltb j n m, at j m) (all_at (λ j. leb (pay_at ws (i + j)) 32) n e j m))
        (λ (m : n ≤ j). rw (le-ltb j n m, clock_from_at ws i n j l, le-ltb j n m) refl)
        (lt_or_le j n))

    back : all_below 8 (clock_place_ok n (clock_from ws i n)) ≡ true → all_below n (λ j. leb (pay_at ws (i + j)) 32) ≡ true
    back e =
        all_intro (λ j. leb (pay_at ws (i + j)) 32) n
        (λ j l.
        let q : cond (ltb j n) (leb (get_or (clock_from ws i n) j 0) 32) (eqb (get_or (clock_from ws i n) j 0) 0) ≡ true = all_at (clock_place_ok n (clock_from ws i n)) 8 e j (omega arith) in
        rw (lt-ltb j n l, at j l) at q)

pub kinds_parts : (n : ℕ) (ws : List ℕ) → n ≤ 8 → both (kind_is 3 (get_or ws 1 0)) (both (kind_is 4 (get_or ws 2 0)) (clocks_in ws 3 n)) ≡ both (kinds_ok n ws) (clock_ok n (clock_from ws 3 n))
unfolding kinds_ok clock_kinds clocks_in
kinds_parts n ws h =
    ap (λ (b : Bool). both (kind_is 3 (get_or ws 1 0)) (both (kind_is 4 (get_or ws 2 0)) b))
    (all_both n (λ j. kind_is 5 (get_or ws (3 + j) 0)) (λ j. leb (pay_at ws (3 + j)) 32) ∙ ap (both (clock_kinds ws 3 n)) (clock_low ws 3 n h))
    ∙ ap (both (kind_is 3 (get_or ws 1 0))) (sym (both_assoc (kind_is 4 (get_or ws 2 0)) (clock_kinds ws 3 n) (clock_ok n (clock_from ws 3 n))))
    ∙ sym (both_assoc (kind_is 3 (get_or ws 1 0)) (both (kind_is 4 (get_or ws 2 0)) (clock_kinds ws 3 n)) (clock_ok n (clock_from ws 3 n)))

module _ (n p : ℕ) (ws : List ℕ) where
  -- ---- refusals

  abbrev Rest : Bool
  Rest = both (leb (frame_of ws).hops (n - 2)) (both (entry_ok n p (frame_of ws).entry) (sum_ok ws))

  abbrev NoFrame : Type 0
  NoFrame = ◌≡◌ {A = Option Frame} None (frame_in n p ws)

  refused : ring_ok n p ≡ true → checked n p ws ≡ false → NoFrame
  unfolding frame_in
  refused r e =
      let f = ring_facts n p r in
      rw (← checks_accept n p ws f.low f.high, e) refl

  pub shape_refused : ring_ok n p ≡ true → shape_ok n ws ≡ false → NoFrame
  unfolding checked both
  shape_refused r e = refused r (rw e refl)

  no_rest : Shape n ws → clock_ok n (clock_from ws 3 n) ≡ false → Rest ≡ false
  unfolding frame_of both
  no_rest s e = go (leb (frame_of ws).hops (n - 2)) (entry_ok n p (frame_of ws).entry) refl
    where
      go : (h b : Bool) → entry_ok n p (frame_of ws).entry ≡ b → both h (both b (sum_ok ws)) ≡ false
      go false b q = refl
      go true false q = refl
      go true true q =
          let c : clock_ok n (clock_from ws 3 (offices_in ws)) ≡ true = (entry_facts n p (frame_of ws).entry q).clock in
          absurd (false_true (sym e ∙ ap (λ (m : ℕ). clock_ok n (clock_from ws 3 m)) (sym s.ring) ∙ c))

  -- a word of a wrong kind, or a number of the clock that is too great
  pub clock_refused : ring_ok n p ≡ true → shape_ok n ws ≡ true → both (kinds_ok n ws) (clock_ok n (clock_from ws 3 n)) ≡ false → NoFrame
  unfolding checked both
  clock_refused r s e = go (kinds_ok n ws) (ascends n 0 (part ws (3 + n) (count_in ws))) refl refl e
    where
      go : (k a : Bool) → kinds_ok n ws ≡ k → ascends n 0 (part ws (3 + n) (count_in ws)) ≡ a → both k (clock_ok n (clock_from ws 3 n)) ≡ false → NoFrame
      go false a x y z = refused r (rw (s, x) refl)
      go true false x y z = refused r (rw (s, x, y) refl)
      go true true x y z = refused r (rw (s, x, y) (no_rest (shape_facts n ws s) z))

  -- the dependencies stand between the clock and the check
  abbrev Ids : List ℕ
  Ids = take (length ws - 1 - (3 + n)) (drop (3 + n) ws)

  ids_are : Shape n ws → Ids ≡ part ws (3 + n) (count_in ws)
  unfolding part
  ids_are s = let e : length ws - 1 - (3 + n) ≡ count_in ws = omega (arith, s.exact) in ap (λ (k : ℕ). take k (drop (3 + n) ws)) e

  pub ids_refused : ring_ok n p ≡ true → shape_ok n ws ≡ true → both (kinds_ok n ws) (clock_ok n (clock_from ws 3 n)) ≡ true → ascends n 0 Ids ≡ false → NoFrame
  unfolding checked both
  ids_refused r s k e =
      let a : ascends n 0 (part ws (3 + n) (count_in ws)) ≡ false = ap (ascends n 0) (sym (ids_are (shape_facts n ws s))) ∙ e in
      refused r (rw (s, (both_true (kinds_ok n ws) _ k).0, a) refl)

  -- ---- the same, by the refusal number of the call

  pub frame_at_lem : Shape n ws → (deps : List ℕ) → deps ≡ ids_from (part ws (3 + n) (count_in ws)) → frame_at n ws deps ≡ frame_of ws
  unfolding frame_at frame_of
  frame_at_lem s deps d =
      let o = sym s.ring in
      let e : deps ≡ ids_from (part ws (3 + offices_in ws) (count_in ws)) = d ∙ ap (λ (m : ℕ). ids_from (part ws (3 + m) (count_in ws))) o in
      λ i.
      record {
        offices = o i;
        hops = (frame_of ws).hops;
        entry =
            record {
              office = (frame_of ws).entry.office;
              serial = (frame_of ws).entry.serial;
              plot = (frame_of ws).entry.plot;
              value = (frame_of ws).entry.value;
              clock = ap (clock_from ws 3) o i;
              deps = e i;
            };
      }

  pub told : ring_ok n p ≡ true → (f : Frame) → f ≡ read_frame n p ws
      → (f.offices ≡ 0 → 9 ≡ read_frame_code n p ws) × ((f.offices ≡ 0 → ⊥) → 0 ≡ read_frame_code n p ws)
  unfolding read_frame_code read_frame frame_if check accepts
  told r f q = go (accepts n p ws) refl
    where
      go : (b : Bool) → accepts n p ws ≡ b → (f.offices ≡ 0 → 9 ≡ read_frame_code n p ws) × ((f.offices ≡ 0 → ⊥) → 0 ≡ read_frame_code n p ws)
      go true e =
          let c : read_frame_code n p ws ≡ 0 = rw (r, e) refl in
          let i : f ≡ frame_of ws = q ∙ ap (λ (k : ℕ). frame_if k ws) c in
          let o = frame_facts n p (frame_of ws) (both_true (frame_ok n p (frame_of ws)) _ e).0 in
          let m : f.offices ≡ n = ap (λ (x : Frame). x.offices) i ∙ o.ring in
          (λ (z : f.offices ≡ 0). absurd (omega (arith, m, o.low)), λ z. sym c)
      go false e =
          let c : read_frame_code n p ws ≡ 9 = rw (r, e) refl in
          let i : f ≡ blank_frame = q ∙ ap (λ (k : ℕ). frame_if k ws) c in
          (λ z. sym c, λ z. absurd (z (ap (λ (x : Frame). x.offices) i)))

  pub settings_refused : ring_ok n p ≡ false → read_frame_code n p ws ≡ 1
  unfolding read_frame_code check
  settings_refused e = rw e refl

  not_checked : ring_ok n p ≡ true → checked n p ws ≡ false → read_frame_code n p ws ≡ 9
  unfolding read_frame_code check
  not_checked r e =
      let f = ring_facts n p r in
      rw (r, ← checks_accept n p ws f.low f.high, e) refl

  pub shape_nine : ring_ok n p ≡ true → shape_ok n ws ≡ false → read_frame_code n p ws ≡ 9
  unfolding checked both
  shape_nine r e = not_checked r (rw e refl)

  kinds_nine : ring_ok n p ≡ true → shape_ok n ws ≡ true → kinds_ok n ws ≡ false → read_frame_code n p ws ≡ 9
  unfolding checked both
  kinds_nine r s e = not_checked r (rw (s, e) refl)

  pub ids_nine : ring_ok n p ≡ true → shape_ok n ws ≡ true → kinds_ok n ws ≡ true → ascends n 0 (part ws (3 + n) (count_in ws)) ≡ false → read_frame_code n p ws ≡ 9
  unfolding checked both
  ids_nine r s k e = not_checked r (rw (s, k, e) refl)

  pub content_refused : ring_ok n p ≡ true → shape_ok n ws ≡ true → kinds_ok n ws ≡ true → ascends n 0 (part ws (3 + n) (count_in ws)) ≡ true → Rest ≡ false
      → read_frame_code n p ws ≡ 9
  unfolding checked both
  content_refused r s k a e = not_checked r (rw (s, k, a) e)

  pub clock_nine : ring_ok n p ≡ true → shape_ok n ws ≡ true → both (kinds_ok n ws) (clock_ok n (clock_from ws 3 n)) ≡ false → read_frame_code n p ws ≡ 9
  unfolding both
  clock_nine r s e = go (kinds_ok n ws) (ascends n 0 (part ws (3 + n) (count_in ws))) refl refl e
    where
      go : (k a : Bool) → kinds_ok n ws ≡ k → ascends n 0 (part ws (3 + n) (count_in ws)) ≡ a → both k (clock_ok n (clock_from ws 3 n)) ≡ false → read_frame_code n p ws ≡ 9
      go false a x y z = kinds_nine r s x
      go true false x y z = ids_nine r s x y
      go true true x y z = content_refused r s x y (no_rest (shape_facts n ws s) z)

  -- ---- and otherwise

  -- what was seen where the fields are read
  pub record Seen : Type 0 where
    pub ring : ring_ok n p ≡ true
    pub shape : shape_ok n ws ≡ true
    pub kinds : both (kinds_ok n ws) (clock_ok n (clock_from ws 3 n)) ≡ true
    pub ids : ascends n 0 Ids ≡ true

  -- the frame of the fields
  pub record FrameRead (f : Frame) : Type 0 where
    pub is : f ≡ frame_of ws
    pub clock : clock_ok n f.entry.clock ≡ true
    pub deps : ids_ok n f.entry.deps ≡ true

  pub frame_read : Seen → (deps : List ℕ) → deps ≡ ids_from Ids → (f : Frame) → f ≡ frame_at n ws deps → FrameRead f
  unfolding frame_at frame_of
  frame_read s deps d f q =
      let S = shape_facts n ws s.shape in
      let o = sym S.ring in
      let between = ids_are S in
      let e : deps ≡ ids_from (part ws (3 + offices_in ws) (count_in ws)) = d ∙ ap ids_from between ∙ ap (λ (m : ℕ). ids_from (part ws (3 + m) (count_in ws))) o in
      let a : frame_at n ws deps ≡ frame_of ws =
      λ i.
      record {
        offices = o i;
        hops = (frame_of ws).hops;
        entry =
            record {
              office = (frame_of ws).entry.office;
              serial = (frame_of ws).entry.serial;
              plot = (frame_of ws).entry.plot;
              value = (frame_of ws).entry.value;
              clock = ap (clock_from ws 3) o i;
              deps = e i;
            };
      }
      in
      record {
        is = q ∙ a;
        clock = ap (λ (g : Frame). clock_ok n g.entry.clock) q ∙ (both_true (kinds_ok n ws) _ s.kinds).1;
        deps = ap (λ (g : Frame). ids_ok n g.entry.deps) q ∙ ap (ids_ok n) d ∙ ids_range n Ids s.ids;
      }

  -- what is said of it is what is answered
  pub content_asked : Seen → (f : Frame) → FrameRead f → (b : Bool) → b ≡ both (leb f.hops (n - 2)) (both (sum_ok ws) (entry_ok n p f.entry))
      → cond b (Some f) None ≡ frame_in n p ws
  unfolding frame_in checked both
  content_asked s f r b e =
      let g = ring_facts n p s.ring in
      let up : ascends n 0 (part ws (3 + n) (count_in ws)) ≡ true = ap (ascends n 0) (sym (ids_are (shape_facts n ws s.shape))) ∙ s.ids in
      let rest : b ≡ Rest =
      e ∙ ap (λ (h : Frame). both (leb h.hops (n - 2)) (both (sum_ok ws) (entry_ok n p h.entry))) r.is
      ∙ ap (both (leb (frame_of ws).hops (n - 2))) (both_swap (sum_ok ws) (entry_ok n p (frame_of ws).entry))
      in
      let c : b ≡ checked n p ws = rw (s.shape, (both_true (kinds_ok n ws) _ s.kinds).0, up) rest in
      let d : b ≡ accepts n p ws = c ∙ checks_accept n p ws g.low g.high in
      λ i. cond (d i) (Some (r.is i)) None

  -- ---- what an answer says

  pub frame_none : NoFrame → accepts n p ws ≡ false
  unfolding frame_in
  frame_none e = none_is (accepts n p ws) (frame_of ws) e

  pub frame_some : (f : Frame) → Some f ≡ frame_in n p ws → (accepts n p ws ≡ true) × (f ≡ frame_of ws)
  unfolding frame_in
  frame_some f e = let s = cond_some (accepts n p ws) (frame_of ws) f (sym e) in (s.0, sym s.1)

  -- ---- the answer of the call

  pub no_ring : ring_ok n p ≡ false → (1 ≡ read_frame_code n p ws) × (blank_frame ≡ read_frame n p ws)
  unfolding read_frame_code read_frame frame_if check
  no_ring e = (rw e refl, rw e refl)

  pub answered : ring_ok n p ≡ true → (r : Result Frame Refusal) → r ≡ ok_or (frame_in n p ws) Format
      → (code_of r ≡ read_frame_code n p ws) × (result_unwrap_or r blank_frame ≡ read_frame n p ws)
  unfolding frame_in read_frame_code read_frame frame_if check code_of number_of
  answered e r q = go (accepts n p ws) refl
    where
      go : (b : Bool) → accepts n p ws ≡ b → (code_of r ≡ read_frame_code n p ws) × (result_unwrap_or r blank_frame ≡ read_frame n p ws)
      go true a = (rw (q, e, a) refl, rw (q, e, a) refl)
      go false a = (rw (q, e, a) refl, rw (q, e, a) refl)
