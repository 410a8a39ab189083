-- What `receive` answers and leaves, from what its parts do. Assumes nothing.
use Rattle.std.proofs.Common.{Err, None, Ok, Option, Result, Some}
use Rattle.std.specs.Option.{ok_or}
use Rattle.std.specs.Result.{IsErrAnd}
use Rattle.store.proofs.Rules.{laid as Laid-of}
use Prim.Native.Nat.{ℕ, zero, suc, ◌+◌, ◌^◌, ◌<◌, ◌≤◌}
use mathlib.Core.Path.{◌≡◌, refl, sym, ap, ap₂, ◌∙◌, subst}
use mathlib.Core.Bool.{Bool, true, false, cond}
use mathlib.Core.List.{List, append-nil}
use mathlib.Core.Logic.{◌⊎◌, ⊎_elim}
use native.Mathlib.Omega.{arith}
use lib.Dec.{leb, eqb}
use lib.ListN.{length, get_or}
use lib.Seq.{sets}
use borrow.Author.Tests.{eq-eqb, ne_eqb, leb-true, le-leb, lt-leb}
use Rattle.causal.specs.Codes.{check, or_else}
use Rattle.causal.specs.Lists.{part, zeros}
use Rattle.causal.specs.Sets.{inserted, is_in, subset_of}
use Rattle.causal.specs.Tests.{either}
use Rattle.causal.proofs.Codes.{check_none, or_both, or_goes}
use Rattle.causal.proofs.Sets.{subset_by}
use Rattle.frame.specs.Sessions.{SaneEntry}
use Rattle.frame.specs.declared.entry.Entry.{Entry}
use Rattle.frame.specs.declared.entry.Frame.{Frame}
use Rattle.frame.specs.Entries.{id_of}
use Rattle.frame.specs.Frames.{ring_ok, frame_ok, frame_words, frame_of, accepts, blank_frame}
use Rattle.frame.specs.Refusals.{Reply, number_of, reply_of}
use Rattle.frame.specs.declared.refusal.Refusal.{Refusal}
use Rattle.frame.specs.declared.refusal.Refusal.TheVariants.{Format}
use Rattle.frame.specs.Tokens.{rows_of}
use Rattle.frame.specs.Calls.{laid, frame_in, read_frame_code, frame_if, read_frame}
use Rattle.frame.proofs.Entries.{frame_facts, facts_ring}
use Rattle.store.specs.Offices.{Office, need, slot_at, office_of, store_words, sound_store, reveal, hold}
use Rattle.store.specs.Slots.{hold_words}
use Rattle.store.proofs.Bridge.{store_same}
use Rattle.store.proofs.StoreBack.{store_back}
use Rattle.store.proofs.Keep.{Sound, store_facts, sound_canon, sound_store_lem}
use Rattle.store.proofs.Changes.{held_words, hold_words_lem, show_words}
use Rattle.office.specs.Calls.{stored, entry_code, onward, receive_code, hold_new, received_by, receive_sends, receive_on, receive}
use Rattle.office.specs.Steps.{hold_if}
use Rattle.office.proofs.KeepCalls.{Known, known, takes_new, kept, seed_set, seed_held}
use Rattle.office.proofs.Slots.{settings, slot_of}
use Rattle.hearing.proofs.Forwards.{length_onward}

-- ---- the number of a refusal

check_le : (A : Bool) (k B : ℕ) → k ≤ 12 → B ≤ 12 → check A k B ≤ 12
unfolding check
check_le true k B h l = l
check_le false k B h l = h

or_le : (a b : ℕ) → a ≤ 12 → b ≤ 12 → or_else a b ≤ 12
unfolding or_else
or_le zero b h l = l
or_le (suc a) b h l = h

entry_le : (O : Office) (e : Entry) → entry_code O e ≤ 12
unfolding entry_code
entry_le O e = check_le _ 10 _ (omega arith) (check_le _ 11 0 (omega arith) (omega arith))

-- its number is one of the paper's
pub receive_le : (O : Office) (f : Frame) (room : ℕ) → receive_code O f room ≤ 12
unfolding receive_code
receive_le O f room =
    or_le _ _ (entry_le O f.entry) (check_le _ 12 _ (omega arith) (check_le _ 8 0 (omega arith) (omega arith)))

-- ---- the refusals after 10 and 11

module _ (ws : List ℕ) (f : Frame) (room : ℕ) (none : 0 ≡ entry_code (office_of ws) f.entry) where
  abbrev Room : Bool
  Room = either (eqb f.hops 0) (leb (length (frame_words (onward f))) room)

  pub take_missing : subset_of f.entry.deps (part ws 3 8) ≡ false → 12 ≡ receive_code (office_of ws) f room
  unfolding receive_code check office_of
  take_missing s = or_goes 12 0 (entry_code (office_of ws) f.entry) _ none refl (rw s refl)

  last : subset_of f.entry.deps (part ws 3 8) ≡ true → (r : Bool) → Room ≡ r → check r 8 0 ≡ receive_code (office_of ws) f room
  unfolding receive_code check office_of
  last s r e = or_goes (check r 8 0) 0 (entry_code (office_of ws) f.entry) _ none refl (rw (s, e) refl)

  pub take_room : subset_of f.entry.deps (part ws 3 8) ≡ true → (f.hops ≡ 0 → ⊥) → room < length (frame_words f) → 8 ≡ receive_code (office_of ws) f room
  unfolding check either
  take_room s h l =
      let e : leb (length (frame_words (onward f))) room ≡ false = lt-leb _ room (omega (arith, length_onward f)) in
      last s false (rw (ne_eqb f.hops 0 h, e) refl)

  pub take_goes : (words : ℕ) → subset_of f.entry.deps (part ws 3 8) ≡ true → words ≡ length (frame_words f)
      → ((f.hops ≡ 0 → ⊥) × (words ≤ room)) ⊎ (f.hops ≡ 0) → 0 ≡ receive_code (office_of ws) f room
  unfolding check either
  take_goes words s w =
      ⊎_elim
      (λ (p : (f.hops ≡ 0 → ⊥) × (words ≤ room)).
      let e : leb (length (frame_words (onward f))) room ≡ true = le-leb _ room (omega (arith, length_onward f, p.1)) in
      last s true (rw (ne_eqb f.hops 0 p.0, e) refl))
      (λ (z : f.hops ≡ 0). last s true (rw (eq-eqb f.hops 0 z) refl))

module _ (ws : List ℕ) (f : Frame) (out : List ℕ) where
  abbrev pub Takes : Reply → List ℕ → List ℕ → Type 0
  Takes r z y =
      (r ≡ record { code = (receive_on (office_of ws) f out).code; words = (receive_on (office_of ws) f out).count })
      × (z ≡ stored (receive_on (office_of ws) f out).code ws (receive_on (office_of ws) f out).store) × (y ≡ (receive_on (office_of ws) f out).row)

  pub taken_refused : (x : ℕ) → x ≡ receive_code (office_of ws) f (length out) → (x ≡ 0 → ⊥) → Takes (record { code = x; words = 0 }) ws out
  unfolding receive_on
  taken_refused zero e n = absurd (n refl)
  taken_refused (suc c) e n = let q = sym e in (rw q refl, rw q refl, rw q refl)

  -- the exit of a `?`
  pub answered : (r : Result ℕ Refusal) (x : Refusal) → IsErrAnd r (λ y. y ≡ x) → Takes (record { code = number_of x; words = 0 }) ws out → Takes (reply_of r) ws out
  unfolding reply_of
  answered (Ok n) x p T = absurd p
  answered (Err y) x p T = rw p T

  done : receive_code (office_of ws) f (length out) ≡ 0
      → Takes (record { code = 0; words = length (rows_of (receive_sends f)) }) (store_words ws (received_by (office_of ws) f)) (laid (rows_of (receive_sends f)) out)
  unfolding receive_on
  done e = (rw e refl, rw e refl, rw e refl)

  module _ (words : (i : ℕ) → get_or ws i 0 < 2 ^ 32) (sound : sound_store ws ≡ true) (ok : frame_ok (get_or ws 0 0) (get_or ws 2 0) f ≡ true) (sane : SaneEntry f.entry) where
    pub slot : slot_at (id_of f.entry) + 18 ≤ length ws
    slot = slot_of (get_or ws 0 0) (get_or ws 2 0) (length ws) f.entry (Laid-of ws sound).long (frame_facts (get_or ws 0 0) (get_or ws 2 0) f ok).entry

    module _ (none : receive_code (office_of ws) f (length out) ≡ 0) where
      S : Sound (office_of ws)
      S = store_facts ws words sound

      ok' : frame_ok (office_of ws).offices (office_of ws).plots f ≡ true
      unfolding office_of
      ok' = ok

      long : need (office_of ws).offices ≤ length ws
      unfolding office_of
      long = (Laid-of ws sound).long

      same : store_words ws (office_of ws) ≡ ws
      same = store_same ws (Laid-of ws sound).long

      parts : (entry_code (office_of ws) f.entry ≡ 0) × (subset_of f.entry.deps (office_of ws).held ≡ true)
          × (either (eqb f.hops 0) (leb (length (frame_words (onward f))) (length out)) ≡ true)
      unfolding receive_code
      parts =
          let a = or_both (entry_code (office_of ws) f.entry) _ none in
          let b = check_none (subset_of f.entry.deps (office_of ws).held) 12 _ (omega arith) a.1 in
          let d = check_none (either (eqb f.hops 0) (leb (length (frame_words (onward f))) (length out))) 8 0 (omega arith) b.1 in
          (a.0, b.0, d.0)

      K : Known (office_of ws) f.entry
      K = known (office_of ws) f.entry parts.0

      abbrev H : Office
      H = hold_new (office_of ws) f.entry

      H-sound : Sound (hold_new (office_of ws) f.entry)
      H-sound = (kept (office_of ws) S f ok' sane K parts.1).0

      H-offices : (hold_new (office_of ws) f.entry).offices ≡ (office_of ws).offices
      unfolding hold_new hold
      H-offices = go (is_in (office_of ws).held (id_of f.entry))
        where
          go : (t : Bool) → (cond t (office_of ws) (hold (office_of ws) f.entry)).offices ≡ (office_of ws).offices
          go true = refl
          go false = refl

      H-long : need (hold_new (office_of ws) f.entry).offices ≤ length ws
      H-long = rw H-offices long

      -- held, if new
      pub held_new : (held z : List ℕ) → held ≡ part ws 3 8 → z ≡ hold_if (is_in held (id_of f.entry)) ws f.entry → z ≡ store_words ws (hold_new (office_of ws) f.entry)
      unfolding hold_new office_of
      held_new held z h e = e ∙ ap (λ (x : List ℕ). hold_if (is_in x (id_of f.entry)) ws f.entry) h ∙ go (is_in (part ws 3 8) (id_of f.entry)) refl
        where
          go : (t : Bool) → is_in (part ws 3 8) (id_of f.entry) ≡ t → hold_if t ws f.entry ≡ store_words ws (cond t (office_of ws) (hold (office_of ws) f.entry))
          go true t = sym same
          go false t =
              ap (λ (x : List ℕ). hold_words x f.entry) (sym same)
              ∙ hold_words_lem ws (office_of ws) S long f.entry (takes_new (office_of ws) S f ok' sane K parts.1 t)

      -- as the reveal asks
      pub seed_ready : (z : List ℕ) (k : ℕ) → z ≡ store_words ws (hold_new (office_of ws) f.entry) → k ≡ id_of f.entry
          → (sound_store z ≡ true) × (subset_of (inserted zeros k) (part z 3 8) ≡ true)
      seed_ready z k e q = (
        ap sound_store e ∙ sound_store_lem ws (hold_new (office_of ws) f.entry) H-sound H-long,
        ap₂ (λ (x : ℕ) (y : List ℕ). subset_of (inserted zeros x) (part y 3 8)) q e
            ∙ ap (subset_of (inserted zeros (id_of f.entry))) (held_words ws (hold_new (office_of ws) f.entry) H-sound H-long)
            ∙ subset_by (inserted zeros (id_of f.entry)) (hold_new (office_of ws) f.entry).held (seed_set (office_of ws) S f ok' sane) H-sound.held_set
            (seed_held (office_of ws) S f ok' sane K parts.1),
      )

      -- none are still to hear
      pub taken_last : (z v : List ℕ) (k : ℕ) → f.hops ≡ 0 → z ≡ store_words ws (hold_new (office_of ws) f.entry) → k ≡ id_of f.entry
          → v ≡ sets z 11 (reveal (office_of z) (inserted zeros k)).visible → Takes (record { code = 0; words = 0 }) v out
      unfolding receive_sends rows_of laid received_by
      taken_last z v k h e q g = let d = done none in (ap (λ (n : ℕ). record { code = 0; words = n }) nothing ∙ d.0, shown ∙ d.1, whole ∙ d.2)
        where
          nothing : 0 ≡ length (rows_of (receive_sends f))
          nothing = rw h refl

          whole : out ≡ laid (rows_of (receive_sends f)) out
          whole = rw h refl

          shown : v ≡ store_words ws (received_by (office_of ws) f)
          shown =
              g ∙ ap₂ (λ (x : ℕ) (y : List ℕ). sets y 11 (reveal (office_of y) (inserted zeros x)).visible) q e
              ∙ ap (λ (O : Office). sets (store_words ws H) 11 (reveal O (inserted zeros (id_of f.entry))).visible) (store_back (hold_new (office_of ws) f.entry).offices H (sound_canon H H-sound) ws H-long)
              ∙ show_words ws H H-sound H-long (inserted zeros (id_of f.entry)) (seed_set (office_of ws) S f ok' sane) (seed_held (office_of ws) S f ok' sane K parts.1)
              ∙ ap (λ (b : Bool). store_words ws (cond b (reveal H (inserted zeros (id_of f.entry))) H)) (sym (eq-eqb f.hops 0 h))

      -- it goes on
      pub on_room : (f.hops ≡ 0 → ⊥) → length (frame_words (onward f)) ≤ length out
      unfolding either
      on_room h =
          let t : either (eqb f.hops 0) (leb (length (frame_words (onward f))) (length out)) ≡ true = parts.2 in
          let u : leb (length (frame_words (onward f))) (length out) ≡ true = rw (ne_eqb f.hops 0 h) at t in
          leb-true (length (frame_words (onward f))) (length out) u

      pub taken_on : (z y : List ℕ) (m : ℕ) → (f.hops ≡ 0 → ⊥) → z ≡ store_words ws (hold_new (office_of ws) f.entry)
          → m ≡ length (frame_words (onward f)) → y ≡ laid (frame_words (onward f)) out → Takes (record { code = 0; words = m }) z y
      unfolding receive_sends rows_of received_by
      taken_on z y m h e a b = let d = done none in (answer ∙ d.0, stays ∙ d.1, row ∙ d.2)
        where
          sends : rows_of (receive_sends f) ≡ frame_words (onward f)
          sends = rw (ne_eqb f.hops 0 h) (append-nil (frame_words (onward f)))

          said : ℕ → Reply
          said k = record { code = 0; words = k }

          answer : said m ≡ said (length (rows_of (receive_sends f)))
          answer = ap said (a ∙ ap length (sym sends))

          stays : z ≡ store_words ws (received_by (office_of ws) f)
          stays = e ∙ ap (λ (b : Bool). store_words ws (cond b (reveal H (inserted zeros (id_of f.entry))) H)) (sym (ne_eqb f.hops 0 h))

          row : y ≡ laid (rows_of (receive_sends f)) out
          row = b ∙ ap (λ (l : List ℕ). laid l out) (sym sends)

-- ---- the frame that a row has

pub no_frame : (n p : ℕ) (fr : List ℕ) → None ≡ frame_in n p fr → accepts n p fr ≡ false
unfolding frame_in
no_frame n p fr q = go (accepts n p fr) q
  where
    go : (b : Bool) → None ≡ cond b (Some (frame_of fr)) None → b ≡ false
    go true q = cc
    go false q = refl

pub some_frame : (n p : ℕ) (fr : List ℕ) (f : Frame) → Some f ≡ frame_in n p fr → (accepts n p fr ≡ true) × (f ≡ frame_of fr)
unfolding frame_in
some_frame n p fr f q = go (accepts n p fr) q
  where
    go : (b : Bool) → Some f ≡ cond b (Some (frame_of fr)) None → (b ≡ true) × (f ≡ frame_of fr)
    go true q = (refl, cc)
    go false q = absurd (cc)

pub no_format : (o : Option Frame) (x : Refusal) → Err x ≡ ok_or o Format → o ≡ None → x ≡ Format
no_format (Some f) x e q = absurd (cc)
no_format None x e q = cc

-- ---- the call

module _ (ws fr out : List ℕ) where
  abbrev Says : Reply → List ℕ → List ℕ → Type 0
  Says r z y =
      (r ≡ record { code = (receive ws fr out).code; words = (receive ws fr out).count })
      × (z ≡ (receive ws fr out).store) × (y ≡ (receive ws fr out).row)

  pub receive_unsound : sound_store ws ≡ false → Says (record { code = 2; words = 0 }) ws out
  unfolding receive
  receive_unsound t = (rw t refl, rw t refl, rw t refl)

  -- the exit of a `?` that stands for no frame
  pub answered_format : (r : Result ℕ Refusal) (o : Option Frame) (x : Refusal) → IsErrAnd r (λ y. y ≡ x) → Err x ≡ ok_or o Format → o ≡ None
      → Says (record { code = 9; words = 0 }) ws out → Says (reply_of r) ws out
  unfolding reply_of number_of
  answered_format (Ok n) o x p e q S = absurd p
  answered_format (Err y) o x p e q S = let h : y ≡ Format = p ∙ no_format o x e q in rw h S

  -- a sound store has settings that a frame may be read for
  pub ring : sound_store ws ≡ true → ring_ok (get_or ws 0 0) (get_or ws 2 0) ≡ true
  ring t = facts_ring (get_or ws 0 0) (get_or ws 2 0) (settings ws t)

  pub receive_format : sound_store ws ≡ true → None ≡ frame_in (get_or ws 0 0) (get_or ws 2 0) fr → Says (record { code = 9; words = 0 }) ws out
  unfolding receive office_of
  receive_format t q = let a = no_frame (get_or ws 0 0) (get_or ws 2 0) fr q in (rw (t, a) refl, rw (t, a) refl, rw (t, a) refl)

  -- the frame that `read_frame` gives, where it is no blank
  module _ (t : sound_store ws ≡ true) (f : Frame) (q : f ≡ read_frame (get_or ws 0 0) (get_or ws 2 0) fr) where
    code_none : (f.offices ≡ 0 → ⊥) → read_frame_code (get_or ws 0 0) (get_or ws 2 0) fr ≡ 0
    unfolding read_frame frame_if
    code_none n = go (read_frame_code (get_or ws 0 0) (get_or ws 2 0) fr) refl
      where
        go : (k : ℕ) → read_frame_code (get_or ws 0 0) (get_or ws 2 0) fr ≡ k → k ≡ 0
        go zero e = refl
        go (suc k) e =
            let blank : f ≡ blank_frame = q ∙ ap (λ (x : ℕ). frame_if x fr) e in
            absurd (n (ap (λ (x : Frame). x.offices) blank))

    pub read_accepted : (f.offices ≡ 0 → ⊥) → accepts (get_or ws 0 0) (get_or ws 2 0) fr ≡ true
    unfolding read_frame_code
    read_accepted n =
        let a = check_none (ring_ok (get_or ws 0 0) (get_or ws 2 0)) 1 _ (omega arith) (code_none n) in
        (check_none (accepts (get_or ws 0 0) (get_or ws 2 0) fr) 9 0 (omega arith) a.1).0

    pub read_frame_lem : (f.offices ≡ 0 → ⊥) → f ≡ frame_of fr
    unfolding read_frame frame_if
    read_frame_lem n = q ∙ rw (code_none n) refl

  pub receive_taken : (f : Frame) (r : Reply) (z y : List ℕ) → sound_store ws ≡ true → accepts (get_or ws 0 0) (get_or ws 2 0) fr ≡ true → f ≡ frame_of fr
      → Takes ws f out r z y → Says r z y
  unfolding receive office_of
  receive_taken f r z y t a q d = let g : Takes ws (frame_of fr) out r z y = subst (λ (x : Frame). Takes ws x out r z y) q d in rw (t, a) g
