-- What is said ahead of a call. Assumes nothing.
use Rattle.std.proofs.Common.{Err, IfOk, Ok, Result}
use Prim.Native.Nat.{ℕ, suc, zero, ◌-◌, ◌<◌, ◌≤◌}
use mathlib.Core.Bool.{Bool, cond, false, true}
use mathlib.Core.List.{List, [], ◌∷◌}
use mathlib.Core.Logic.{◌⊎◌, ⊎_elim, inl, inr}
use mathlib.Core.Path.{◌∙◌, ◌≡◌, ap, refl, subst, sym}
use native.Mathlib.Omega.{arith}
use lib.Dec.{eqb}
use lib.ListN.{get_or, length}
use borrow.Author.Tests.{ne_eqb}
use Rattle.causal.specs.Codes.{check}
use Rattle.causal.specs.Lists.{eq_words, part}
use Rattle.causal.proofs.Lists.{part_cons}
use Rattle.causal.proofs.Tests.{both_true, false_true, lt_or_le}
use Rattle.frame.specs.Frames.{accepts, body_words, frame_of, frame_ok, frame_words}
use Rattle.frame.specs.Refusals.{Reply, code_of, number_of}
use Rattle.frame.specs.Sessions.{content_of}
use Rattle.frame.specs.Tokens.{rows_of}
use Rattle.frame.specs.Words.{summed}
use Rattle.frame.specs.declared.refusal.Refusal.{Refusal}
use Rattle.frame.specs.declared.session.Session.{Session}
use Rattle.store.specs.Offices.{office_of, sound_store}
use Rattle.office.specs.Calls.{new_entry, onward, receive, receive_sends, write, write_sends}
use Rattle.writing.specs.Writes.{early_code}
use Rattle.writing.proofs.Writes.{row_left, write_done, write_early, write_late}
use Rattle.player.specs.declared.ahead.Stay.TheVariants.{Full, Refused}
use Rattle.player.specs.Desks.{hops_at}
use Rattle.player.specs.Steps.{Foretells}
use Rattle.player.proofs.Accepted.{few_own, frame_accepted, sends_few}
use Rattle.player.proofs.Enough.{write_never}
use Rattle.player.proofs.Refusals.{number_not_0}

module _ (ws : List ℕ) (n : get_or ws 0 0 ≡ 3) (s : Session) (plot value : ℕ) (row : List ℕ) (long : length row ≡ 1751) where
  abbrev code : ℕ
  code = (write ws (content_of s) plot value row).code

  abbrev sent : ℕ
  sent = length (write_sends (office_of ws) (content_of s) plot value)

  abbrev early : ℕ
  early = check (sound_store ws) 2 (early_code (office_of ws) (content_of s) plot value)

  pub write_room : (waiting : ℕ) → waiting ≤ 16 → Foretells code sent waiting (Ok tt)
  write_room waiting h z = omega (arith, few_own ws (content_of s) plot value row z, sends_few (office_of ws) (content_of s) plot value)

  -- a row of 1751 words is long enough
  none : early ≡ 0 → code ≡ 0
  none z =
      ⊎_elim
      (λ (l : length row < length (rows_of (write_sends (office_of ws) (content_of s) plot value))).
      absurd (write_never ws n (content_of s) plot value row long (sym (ap (λ (r : Reply). r.code) (write_late ws s plot value row z l).0))))
      (λ (l : length (rows_of (write_sends (office_of ws) (content_of s) plot value)) ≤ length row).
      sym (ap (λ (r : Reply). r.code)
      (write_done ws s plot value row z _ _ _ _ (part ws 3 8) (content_of s).own (new_entry (office_of ws) (content_of s) plot value) refl refl refl
      (omega (arith, ap length (row_left ws s plot value (part ws 3 8) (content_of s).own (new_entry (office_of ws) (content_of s) plot value) refl refl refl))) refl refl refl refl).0))
      (lt_or_le (length row) (length (rows_of (write_sends (office_of ws) (content_of s) plot value))))

  -- what the forecast said of an equal store
  module _ (W : List ℕ) (e : W ≡ ws) (r : Result ℕ Refusal)
      (A : code_of r ≡ check (sound_store W) 2 (early_code (office_of W) (content_of s) plot value)) (B : IfOk r (λ n. n ≡ length (write_sends (office_of W) (content_of s) plot value))) where
    said : code_of r ≡ early
    said = A ∙ ap (λ (w : List ℕ). check (sound_store w) 2 (early_code (office_of w) (content_of s) plot value)) e

    counted : IfOk r (λ n. n ≡ sent)
    counted = subst (λ (w : List ℕ). IfOk r (λ n. n ≡ length (write_sends (office_of w) (content_of s) plot value))) e B

    pub write_told : (waiting : ℕ) (x : Refusal) → r ≡ Err x → Foretells code sent waiting (Err (Refused x))
    unfolding code_of
    write_told waiting x h =
        let k : number_of x ≡ early = sym (ap code_of h) ∙ said in
        sym (ap (λ (r : Reply). r.code) (write_early ws s plot value row (number_of x) k (number_not_0 x)).0)

    module _ (frames : ℕ) (h : r ≡ Ok frames) where
      none_early : early ≡ 0
      unfolding code_of
      none_early = sym said ∙ ap code_of h

      all : frames ≡ sent
      all = subst (λ (q : Result ℕ Refusal). IfOk q (λ n. n ≡ sent)) h counted

      pub write_full : (waiting : ℕ) → waiting ≤ 32 → 32 - waiting < frames → Foretells code sent waiting (Err Full)
      write_full waiting l z = (none none_early, omega (arith, all))

      pub write_goes : (waiting : ℕ) → waiting ≤ 32 → frames ≤ 32 - waiting → Foretells code sent waiting (Ok tt)
      write_goes waiting l z _ = omega (arith, all)

-- ---- a receiving

module _ (lines : List ℕ) (a len : ℕ) (here : a < length lines) where
  abbrev frame : List ℕ
  frame = part lines a len

  sends_one : length (receive_sends (frame_of frame)) ≤ 1
  unfolding receive_sends
  sends_one = go (eqb (frame_of frame).hops 0)
    where
      go : (t : Bool) → length (cond t [] (onward (frame_of frame) ∷ [])) ≤ 1
      go true = omega arith
      go false = omega arith

  first : (n : ℕ) → (get_or (part lines a n) 0 0 ≡ get_or lines a 0) ⊎ (part lines a n ≡ [])
  unfolding part
  first zero = inr refl
  first (suc n) = inl (ap (λ (l : List ℕ). get_or l 0 0) (part_cons lines a n here))

  -- its hops are those of its head
  head : (n : ℕ) → get_or (part lines a n) 0 0 ≡ get_or lines a 0 → (frame_of (part lines a n)).hops ≡ hops_at lines a
  unfolding frame_of
  head n e = rw e (omega arith)

  blank : (frame_of []).hops ≡ 0
  unfolding frame_of
  blank = refl

  none_sent : hops_at lines a ≡ 0 → length (receive_sends (frame_of frame)) ≡ 0
  unfolding receive_sends
  none_sent h = ⊎_elim (λ (e : get_or frame 0 0 ≡ get_or lines a 0). rw (head len e ∙ h) refl) (λ (e : frame ≡ []). rw (ap (λ (l : List ℕ). (frame_of l).hops) e ∙ blank) refl) (first len)

  module _ (ws row : List ℕ) where
    abbrev heard : ℕ
    heard = (receive ws (part lines a len) row).code

    abbrev onwards : ℕ
    onwards = length (receive_sends (frame_of (part lines a len)))

    pub receive_room : (waiting : ℕ) → waiting < 32 → Foretells heard onwards waiting (Ok tt)
    receive_room waiting h z = omega (arith, sends_one)

    pub receive_last : (waiting : ℕ) → waiting ≤ 32 → hops_at lines a ≡ 0 → Foretells heard onwards waiting (Ok tt)
    receive_last waiting h e z = omega (arith, none_sent e)

    -- a row without words is no frame
    some : heard ≡ 0 → frame ≡ [] → ⊥
    unfolding accepts frame_words body_words summed eq_words
    some z e =
        false_true {A = ⊥}
        (both_true (frame_ok (office_of ws).offices (office_of ws).plots (frame_of [])) false
        (ap (accepts (office_of ws).offices (office_of ws).plots) (sym e) ∙ frame_accepted ws (part lines a len) row z)).1

    one_sent : heard ≡ 0 → (hops_at lines a ≡ 0 → ⊥) → onwards ≡ 1
    unfolding receive_sends
    one_sent z n =
        ⊎_elim (λ (e : get_or frame 0 0 ≡ get_or lines a 0). rw (ne_eqb (frame_of frame).hops 0 (λ q. n (sym (head len e) ∙ q))) refl) (λ (e : frame ≡ []). absurd (some z e)) (first len)

    pub receive_told : (waiting : ℕ) (r : Result Unit Refusal) (x : Refusal) → code_of r ≡ heard → r ≡ Err x → Foretells heard onwards waiting (Err (Refused x))
    unfolding code_of
    receive_told waiting r x h e = sym h ∙ ap code_of e

    pub receive_full : (waiting : ℕ) → 32 ≤ waiting → (hops_at lines a ≡ 0 → ⊥) → heard ≡ 0 → Foretells heard onwards waiting (Err Full)
    receive_full waiting h n z = (z, omega (arith, one_sent z n))
