-- What `write` answers and leaves, from what its parts do. Assumes nothing.
use Rattle.std.proofs.Common.{Err, Ok, Result}
use Rattle.std.specs.Result.{IsErrAnd}
use Rattle.store.proofs.Rules.{laid as Laid-of}
use Prim.Native.Nat.{ℕ, zero, suc, ◌+◌, ◌*◌, ◌^◌, ◌<◌, ◌≤◌}
use mathlib.Core.Path.{◌≡◌, refl, sym, ap, ap₂, ◌∙◌, subst}
use mathlib.Core.Bool.{Bool, true, false}
use mathlib.Core.List.{List}
use native.Mathlib.Omega.{arith}
use lib.Dec.{ltb}
use lib.ListN.{length, get_or}
use borrow.Author.Tests.{ltb-true, le-leb, lt-leb}
use Rattle.causal.specs.Codes.{check}
use Rattle.causal.specs.Lists.{part, zeros}
use Rattle.causal.specs.Sets.{Within, has, subset_of}
use Rattle.causal.proofs.Codes.{check_none, or_both, or_none, or_some}
use Rattle.causal.proofs.Lists.{sum_le}
use Rattle.causal.proofs.Sets.{has_lt, subset_within}
use Rattle.frame.specs.declared.entry.Entry.{Entry}
use Rattle.frame.specs.declared.session.Session.{Session}
use Rattle.frame.specs.Entries.{blank_entry, id_of, entry_ok}
use Rattle.frame.specs.Frames.{frame_ok}
use Rattle.frame.specs.Refusals.{Reply, number_of, reply_of}
use Rattle.frame.specs.declared.refusal.Refusal.{Refusal}
use Rattle.frame.specs.Sessions.{SaneContent, content_of, ids_of, session_ok}
use Rattle.frame.specs.Tokens.{rows_of}
use Rattle.frame.specs.Calls.{laid}
use Rattle.frame.proofs.Entries.{RingFacts, facts_frame, frame_wider}
use Rattle.frame.proofs.OwnTurns.{count_is}
use Rattle.frame.proofs.Sessions.{session_facts}
use Rattle.store.specs.Offices.{Office, need, slot_at, office_of, store_words, sound_store, made}
use Rattle.store.specs.Slots.{hold_words}
use Rattle.store.proofs.Bridge.{store_same}
use Rattle.store.proofs.Keep.{Sound, store_facts}
use Rattle.store.proofs.Changes.{hold_words_lem}
use Rattle.office.specs.Calls.{Result as Outcome, refusal, new_entry, sent_of, write_sends, write_code, hold_all, missing, own_code, write_on, write}
use Rattle.office.specs.Answers.{session_if, extended_by, made_by, with_made, write_session}
use Rattle.office.specs.Promises.{MakePromise, WritePromise}
use Rattle.office.specs.Steps.{own_at, holds_in, Slots}
use Rattle.writing.specs.declared.write.Made.{Made}
use Rattle.writing.specs.declared.write.Wrote.{Wrote}
use Rattle.writing.specs.Answers.{entry_by, session_by, words_by, wrote_by}
use Rattle.frame.proofs.Refusals.{number_some}
use Rattle.writing.specs.Writes.{first_codes, second_codes, early_code, started, all_frames, Framed}
use Rattle.office.proofs.KeepCalls.{all_known}
use Rattle.office.proofs.Along.{Along, hold_end, start_along}
use Rattle.office.proofs.KeepWrite.{A, takes, e_ok}
use Rattle.writing.proofs.EarlyCodes.{write_code_lem}
use Rattle.office.proofs.Shape.{own_kept}
use Rattle.office.proofs.Slots.{settings, slot_of}
use Rattle.writing.proofs.Sends.{all_frames_lem}
use Rattle.office.proofs.Holds.{holds_are}

-- an entry of the ring makes a frame
pub frame_of : (n p : ℕ) (e : Entry) → RingFacts n p → entry_ok n p e ≡ true → frame_ok n 64 (started n e) ≡ true
frame_of n p e R ok =
    frame_wider n p 64 (started n e) R.to
    (facts_frame n p (started n e) (record { ring = refl; low = R.low; high = R.high; hops_ok = omega arith; entry = ok }))

-- ---- nothing is refused but perhaps for the room

pub record Ready (ws : List ℕ) (s : Session) (plot value : ℕ) : Type 0 where
  pub sound : sound_store ws ≡ true
  pub session : session_ok (office_of ws).offices (office_of ws).plots (content_of s) ≡ true
  pub plot_ok : ltb plot (office_of ws).plots ≡ true
  pub value_ok : ltb value 268435456 ≡ true
  pub room : ltb (length (content_of s).own) 16 ≡ true
  pub more : ltb (made (office_of ws)) 32 ≡ true
  pub read_held : subset_of (content_of s).read (office_of ws).held ≡ true
  pub owns : own_code (office_of ws) (content_of s).own ≡ 0

-- what the first refusals say
pub first_ready : (ws : List ℕ) (s : Session) (plot value : ℕ) → check (sound_store ws) 2 (first_codes (office_of ws).offices (office_of ws).plots (content_of s) plot value) ≡ 0
    → (sound_store ws ≡ true) × (session_ok (office_of ws).offices (office_of ws).plots (content_of s) ≡ true)
unfolding first_codes
first_ready ws s plot value h =
    let a = check_none (sound_store ws) 2 _ (omega arith) h in
    (a.0, (check_none (session_ok (office_of ws).offices (office_of ws).plots (content_of s)) 3 _ (omega arith) a.1).0)

pub ready : (ws : List ℕ) (s : Session) (plot value : ℕ) → check (sound_store ws) 2 (early_code (office_of ws) (content_of s) plot value) ≡ 0 → Ready ws s plot value
unfolding early_code first_codes second_codes
ready ws s plot value h =
    let a = check_none (sound_store ws) 2 _ (omega arith) h in
    let b = or_both (first_codes (office_of ws).offices (office_of ws).plots (content_of s) plot value) _ a.1 in
    let c = or_both (second_codes (office_of ws) (length (content_of s).own) (content_of s).read) _ b.1 in
    let d = check_none (session_ok (office_of ws).offices (office_of ws).plots (content_of s)) 3 _ (omega arith) b.0 in
    let f = check_none (ltb plot (office_of ws).plots) 4 _ (omega arith) d.1 in
    let g = check_none (ltb value 268435456) 5 _ (omega arith) f.1 in
    let i = check_none (ltb (length (content_of s).own) 16) 7 _ (omega arith) c.0 in
    let j = check_none (ltb (made (office_of ws)) 32) 6 _ (omega arith) i.1 in
    let k = check_none (subset_of (content_of s).read (office_of ws).held) 12 _ (omega arith) j.1 in
    record { sound = a.0; session = d.0; plot_ok = f.0; value_ok = g.0; room = i.0; more = j.0; read_held = k.0; owns = c.1 }

pub made_le : (O : Office) → made O ≤ 32
unfolding made
made_le O = sum_le (λ s. has O.held (32 * O.own + s)) (λ s. has_lt O.held (32 * O.own + s)) 32

-- a sound session over a sound store
module _ (ws : List ℕ) (s : Session) (sound : sound_store ws ≡ true) (session : session_ok (office_of ws).offices (office_of ws).plots (content_of s) ≡ true) where
  long : need (office_of ws).offices ≤ length ws
  unfolding office_of
  long = (Laid-of ws sound).long

  pub count_le : s.count ≤ 16
  count_le = omega (arith, (session_facts (office_of ws).offices (office_of ws).plots (content_of s) session).few, count_is s)

  pub slots : (own : List Entry) → own ≡ (content_of s).own → Slots own (length ws)
  slots own q =
      subst (λ (x : List Entry). Slots x (length ws)) (sym q)
      (λ i l. slot_of (office_of ws).offices (office_of ws).plots (length ws) (own_at (content_of s).own i) long (own_kept (office_of ws).offices (office_of ws).plots (content_of s) session i l))

  pub frames : (own : List Entry) → own ≡ (content_of s).own → Framed (get_or ws 0 0) own
  unfolding office_of
  frames own q =
      subst (Framed (get_or ws 0 0)) (sym q)
      (λ i l. frame_of (get_or ws 0 0) (get_or ws 2 0) (own_at (content_of s).own i) (settings ws sound) (own_kept (office_of ws).offices (office_of ws).plots (content_of s) session i l))

module _ (ws : List ℕ) (s : Session) (plot value : ℕ) (R : Ready ws s plot value) where
  pub few_own : length (content_of s).own < 16
  few_own = ltb-true (length (content_of s).own) 16 R.room

  pub few : s.count < 16
  few = omega (arith, few_own, count_is s)

  module _ (words : (i : ℕ) → get_or ws i 0 < 2 ^ 32) (N : SaneContent (content_of s)) where
    S : Sound (office_of ws)
    S = store_facts ws words R.sound

    abbrev E : Entry
    E = new_entry (office_of ws) (content_of s) plot value

    new_entry_ok : entry_ok (office_of ws).offices (office_of ws).plots E ≡ true
    new_entry_ok = e_ok (office_of ws) S (content_of s) N plot value R.session R.plot_ok R.value_ok R.more R.read_held R.owns

    pub new_slot : (e : Entry) → e ≡ new_entry (office_of ws) (content_of s) plot value → slot_at (id_of e) + 18 ≤ length ws
    new_slot e q =
        subst (λ (x : Entry). slot_at (id_of x) + 18 ≤ length ws) (sym q)
        (slot_of (office_of ws).offices (office_of ws).plots (length ws) E (long ws s R.sound R.session) new_entry_ok)

    pub new_frame : (e : Entry) → e ≡ new_entry (office_of ws) (content_of s) plot value → frame_ok (get_or ws 0 0) 64 (started (get_or ws 0 0) e) ≡ true
    unfolding office_of
    new_frame e q =
        subst (λ (x : Entry). frame_ok (get_or ws 0 0) 64 (started (get_or ws 0 0) x) ≡ true) (sym q)
        (frame_of (get_or ws 0 0) (get_or ws 2 0) E (settings ws R.sound) new_entry_ok)

    same : store_words ws (office_of ws) ≡ ws
    same = store_same ws (Laid-of ws R.sound).long

    read_in : Within (content_of s).read (office_of ws).held
    read_in = subset_within (content_of s).read (office_of ws).held N.read R.read_held

    along : Along (office_of ws) (hold_all (office_of ws) (missing (office_of ws) (content_of s).own)) (ids_of (content_of s).own)
    along = A (office_of ws) S (content_of s) N plot value R.session R.plot_ok R.value_ok R.more R.read_held R.owns

    -- the store that is left
    own_held : holds_in (office_of ws).held ws (content_of s).own ≡ store_words ws (hold_all (office_of ws) (missing (office_of ws) (content_of s).own))
    own_held =
        ap (λ (x : List ℕ). holds_in (office_of ws).held x (content_of s).own) (sym same)
        ∙ holds_are ws (office_of ws) S (long ws s R.sound R.session) (content_of s).read N.read read_in (content_of s).own (office_of ws) zeros
        (start_along (office_of ws) S (content_of s).read N.read read_in)
        (session_facts (office_of ws).offices (office_of ws).plots (content_of s) R.session).own
        (λ x m. (N.own x m, all_known (office_of ws) (content_of s).own R.owns x m))

    all_held : hold_words (holds_in (office_of ws).held ws (content_of s).own) E ≡ store_words ws (hold_all (office_of ws) (sent_of (office_of ws) (content_of s) plot value))
    unfolding sent_of
    all_held =
        ap (λ (x : List ℕ). hold_words x E) own_held
        ∙ hold_words_lem ws (hold_all (office_of ws) (missing (office_of ws) (content_of s).own)) along.sound (rw along.offices (long ws s R.sound R.session)) E
        (takes (office_of ws) S (content_of s) N plot value R.session R.plot_ok R.value_ok R.more R.read_held R.owns)
        ∙ ap (store_words ws) (sym (hold_end (office_of ws) (missing (office_of ws) (content_of s).own) E))

    pub store_left : (held : List ℕ) (own : List Entry) (e : Entry) → held ≡ part ws 3 8 → own ≡ (content_of s).own → e ≡ new_entry (office_of ws) (content_of s) plot value
        → hold_words (holds_in held ws own) e ≡ store_words ws (hold_all (office_of ws) (sent_of (office_of ws) (content_of s) plot value))
    unfolding office_of
    store_left held own e h o q = (λ i. hold_words (holds_in (h i) ws (o i)) (q i)) ∙ all_held

-- the row that is left
pub row_left : (ws : List ℕ) (s : Session) (plot value : ℕ) (held : List ℕ) (own : List Entry) (e : Entry) → held ≡ part ws 3 8 → own ≡ (content_of s).own
    → e ≡ new_entry (office_of ws) (content_of s) plot value → all_frames held (get_or ws 0 0) own e ≡ rows_of (write_sends (office_of ws) (content_of s) plot value)
unfolding office_of sent_of
row_left ws s plot value held own e h o q =
    (λ i. all_frames (h i) (get_or ws 0 0) (o i) (q i))
    ∙ all_frames_lem (office_of ws) (get_or ws 0 0) (content_of s).own (new_entry (office_of ws) (content_of s) plot value)

-- ---- the call

module _ (ws : List ℕ) (s : Session) (plot value : ℕ) (out : List ℕ) where
  abbrev W : Outcome (List ℕ) (List ℕ)
  W = write ws (content_of s) plot value out

  abbrev Early : ℕ
  Early = check (sound_store ws) 2 (early_code (office_of ws) (content_of s) plot value)

  abbrev Says : Reply → Session → List ℕ → List ℕ → Type 0
  Says r t z y =
      (r ≡ record { code = (write ws (content_of s) plot value out).code; words = (write ws (content_of s) plot value out).count })
      × (t ≡ write_session ws s plot value out) × (z ≡ (write ws (content_of s) plot value out).store) × (y ≡ (write ws (content_of s) plot value out).row)

  stops : (x : ℕ) → (x ≡ 0 → ⊥) → write ws (content_of s) plot value out ≡ refusal x ws (content_of s) out → Says (record { code = x; words = 0 }) s ws out
  unfolding write_session session_if
  stops x n e = (
    ap (λ (r : Outcome (List ℕ) (List ℕ)). record { code = r.code; words = r.count }) (sym e),
    same_session x n ∙ ap (λ (r : Outcome (List ℕ) (List ℕ)). session_if r.code s (extended_by s (new_entry (office_of ws) (content_of s) plot value))) (sym e),
    ap (λ (r : Outcome (List ℕ) (List ℕ)). r.store) (sym e),
    ap (λ (r : Outcome (List ℕ) (List ℕ)). r.row) (sym e),
  )
    where
      same_session : (x : ℕ) → (x ≡ 0 → ⊥) → s ≡ session_if x s (extended_by s (new_entry (office_of ws) (content_of s) plot value))
      same_session zero n = absurd (n refl)
      same_session (suc c) n = refl

  by_code : (x : ℕ) → sound_store ws ≡ true → write_code (office_of ws) (content_of s) plot value (length out) ≡ suc x
      → write ws (content_of s) plot value out ≡ refusal (suc x) ws (content_of s) out
  unfolding write write_on
  by_code x t e = rw (t, e) refl

  unsound : sound_store ws ≡ false → write ws (content_of s) plot value out ≡ refusal 2 ws (content_of s) out
  unfolding write
  unsound t = rw t refl

  pub write_early : (x : ℕ) → x ≡ Early → (x ≡ 0 → ⊥) → Says (record { code = x; words = 0 }) s ws out
  unfolding check
  write_early x e n = stops x n (go (sound_store ws) refl x e n)
    where
      go : (b : Bool) → sound_store ws ≡ b → (x : ℕ) → x ≡ check b 2 (early_code (office_of ws) (content_of s) plot value) → (x ≡ 0 → ⊥)
          → write ws (content_of s) plot value out ≡ refusal x ws (content_of s) out
      go b t zero e n = absurd (n refl)
      go true t (suc x) e n =
          by_code x t (write_code_lem (office_of ws) (content_of s) plot value (length out) ∙ or_some (early_code (office_of ws) (content_of s) plot value) _ (λ q. n (e ∙ q)) ∙ sym e)
      go false t (suc x) e n = unsound t ∙ ap (λ (c : ℕ). refusal {A = List ℕ} {B = List ℕ} c ws (content_of s) out) (sym e)

  pub write_late : Early ≡ 0 → length out < length (rows_of (write_sends (office_of ws) (content_of s) plot value)) → Says (record { code = 8; words = 0 }) s ws out
  unfolding check
  write_late z l =
      let a = check_none (sound_store ws) 2 _ (omega arith) z in
      stops 8 (λ (q : 8 ≡ 0). omega arith)
      (by_code 7 a.0
      (write_code_lem (office_of ws) (content_of s) plot value (length out)
      ∙ or_none (early_code (office_of ws) (content_of s) plot value) _ a.1
      ∙ rw (lt-leb (length (rows_of (write_sends (office_of ws) (content_of s) plot value))) (length out) l) refl))

  module _ (t : sound_store ws ≡ true) (e : write_code (office_of ws) (content_of s) plot value (length out) ≡ 0) where
    code_0 : 0 ≡ (write ws (content_of s) plot value out).code
    unfolding write write_on
    code_0 = rw (t, e) refl

    count_0 : length (rows_of (write_sends (office_of ws) (content_of s) plot value)) ≡ (write ws (content_of s) plot value out).count
    unfolding write write_on
    count_0 = rw (t, e) refl

    store_0 : store_words ws (hold_all (office_of ws) (sent_of (office_of ws) (content_of s) plot value)) ≡ (write ws (content_of s) plot value out).store
    unfolding write write_on
    store_0 = rw (t, e) refl

    row_0 : laid (rows_of (write_sends (office_of ws) (content_of s) plot value)) out ≡ (write ws (content_of s) plot value out).row
    unfolding write write_on
    row_0 = rw (t, e) refl

    session_0 : extended_by s (new_entry (office_of ws) (content_of s) plot value) ≡ write_session ws s plot value out
    unfolding write_session session_if
    session_0 = ap (λ (c : ℕ). session_if c s (extended_by s (new_entry (office_of ws) (content_of s) plot value))) code_0

  pub write_done : Early ≡ 0 → (m : ℕ) (t : Session) (z y : List ℕ) (held : List ℕ) (own : List Entry) (e : Entry) → held ≡ part ws 3 8 → own ≡ (content_of s).own
      → e ≡ new_entry (office_of ws) (content_of s) plot value → length (all_frames held (get_or ws 0 0) own e) ≤ length out
      → m ≡ length (all_frames held (get_or ws 0 0) own e) → t ≡ extended_by s e
      → z ≡ store_words ws (hold_all (office_of ws) (sent_of (office_of ws) (content_of s) plot value)) → y ≡ laid (all_frames held (get_or ws 0 0) own e) out
      → Says (record { code = 0; words = m }) t z y
  unfolding check
  write_done c m t z y held own e h o q l a b d f =
      let n = check_none (sound_store ws) 2 _ (omega arith) c in
      let r = row_left ws s plot value held own e h o q in
      let k : length (rows_of (write_sends (office_of ws) (content_of s) plot value)) ≤ length out = omega (arith, ap length r) in
      let w : write_code (office_of ws) (content_of s) plot value (length out) ≡ 0 =
      write_code_lem (office_of ws) (content_of s) plot value (length out)
      ∙ or_none (early_code (office_of ws) (content_of s) plot value) _ n.1
      ∙ rw (le-leb (length (rows_of (write_sends (office_of ws) (content_of s) plot value))) (length out) k) refl
      in (
        ap₂ (λ (x y : ℕ). record { code = x; words = y }) (code_0 n.0 w) (a ∙ ap length r ∙ count_0 n.0 w),
        b ∙ ap (extended_by s) q ∙ session_0 n.0 w,
        d ∙ store_0 n.0 w,
        f ∙ ap (λ (x : List ℕ). laid x out) r ∙ row_0 n.0 w,
      )

  -- ---- the entry that was made, in place of the session

  none_made : (x : ℕ) → (x ≡ 0 → ⊥) → x ≡ (write ws (content_of s) plot value out).code
      → blank_entry ≡ made_by (write ws (content_of s) plot value out).code (new_entry (office_of ws) (content_of s) plot value)
  unfolding made_by
  none_made zero n e = absurd (n refl)
  none_made (suc c) n e = ap (λ (k : ℕ). made_by k (new_entry (office_of ws) (content_of s) plot value)) e

  pub not_made : (x : Refusal) → Says (record { code = number_of x; words = 0 }) s ws out → MakePromise ws s plot value out (Err x) blank_entry ws out
  unfolding reply_of with_made
  not_made x S = (S, none_made (number_of x) (number_some x) (ap (λ (r : Reply). r.code) S.0))

  -- the exit of a `?`
  pub refused : (r : Result Made Refusal) (x : Refusal) → IsErrAnd r (λ y. y ≡ x) → Says (record { code = number_of x; words = 0 }) s ws out
      → MakePromise ws s plot value out (words_by r) (entry_by r) ws out
  unfolding words_by entry_by
  refused (Ok m) x p S = absurd p
  refused (Err y) x p S = rw p (not_made x S)

  pub made_is : (m : ℕ) (e : Entry) (z y : List ℕ) → e ≡ new_entry (office_of ws) (content_of s) plot value
      → Says (record { code = 0; words = m }) (extended_by s e) z y → MakePromise ws s plot value out (Ok m) e z y
  unfolding reply_of with_made made_by
  made_is m e z y q S =
      (S, q ∙ ap (λ (k : ℕ). made_by k (new_entry (office_of ws) (content_of s) plot value)) (ap (λ (r : Reply). r.code) S.0))

  few_of : (x : ℕ) → Early ≡ x → 0 ≡ (write ws (content_of s) plot value out).code → s.count < 16
  few_of zero e z = few ws s plot value (ready ws s plot value e)
  few_of (suc x) e z =
      let S = write_early (suc x) (sym e) (λ (q : suc x ≡ 0). omega arith) in
      let k : suc x ≡ (write ws (content_of s) plot value out).code = ap (λ (r : Reply). r.code) S.0 in
      absurd (omega arith)

  pub wrote_few : (m : Made) (z y : List ℕ) → MakePromise ws s plot value out (words_by (Ok m)) (entry_by (Ok m)) z y → s.count < 16
  unfolding reply_of words_by
  wrote_few m z y A = few_of Early refl (ap (λ (r : Reply). r.code) A.0.0)

  pub wrote_not : (r : Result Wrote Refusal) (x : Refusal) (z y : List ℕ) → IsErrAnd r (λ v. v ≡ x) → MakePromise ws s plot value out (words_by (Err x)) (entry_by (Err x)) z y
      → WritePromise ws s plot value out (reply_of (wrote_by r)) (session_by s r) z y
  unfolding with_made words_by entry_by wrote_by session_by
  wrote_not (Ok m) x z y p A = absurd p
  wrote_not (Err v) x z y p A = rw p A.0

  pub wrote_more : (m : Made) (t : Session) (z y : List ℕ) → t ≡ extended_by s m.entry → MakePromise ws s plot value out (words_by (Ok m)) (entry_by (Ok m)) z y
      → WritePromise ws s plot value out (reply_of (Ok m.words)) t z y
  unfolding with_made words_by entry_by
  wrote_more m t z y q A = rw q A.0
