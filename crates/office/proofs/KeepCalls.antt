-- Readings and receives on a sound office leave a sound one, whatever the session and the frame. Assumes nothing.
use Prim.Native.Nat.{ℕ, ◌*◌, ◌+◌, ◌/◌, ◌<◌, suc, zero}
use mathlib.Core.Bool.{Bool, cond, false, true}
use mathlib.Core.List.Memᴰ
use mathlib.Core.List.{List, Memᴰ, [], ◌∷◌}
use mathlib.Core.Logic.{⊎_elim}
use mathlib.Core.Path.{◌∙◌, ◌≡◌, refl, sym}
use native.Mathlib.Omega.{arith}
use lib.Dec.{eqb, leb, ltb}
use lib.ListN.{length}
use borrow.Author.Tests.{eq-eqb}
use Rattle.causal.specs.Codes.{check, or_else}
use Rattle.causal.specs.Lists.{zeros}
use Rattle.causal.specs.Sets.{IdSet, Within, has, inserted, is_in, subset_of}
use Rattle.causal.specs.Tests.{both, either, implies}
use Rattle.causal.proofs.Sets.{has_zeros, ids_inserted, ids_zeros, in_inserted, in_is, out_is, subset_within}
use Rattle.causal.proofs.Tests.{implies_elim}
use Rattle.frame.specs.Calls.{laid}
use Rattle.frame.specs.Entries.{entry_ok, id_of, same_content}
use Rattle.frame.specs.Frames.{frame_ok, frame_words}
use Rattle.frame.specs.Sessions.{Content, SaneContent, SaneEntry, fresh_content, session_ok}
use Rattle.frame.specs.Tokens.{rows_of}
use Rattle.frame.specs.declared.entry.Entry.{Entry}
use Rattle.frame.specs.declared.entry.Frame.{Frame}
use Rattle.frame.proofs.Entries.{EntryFacts, entry_facts, frame_facts}
use Rattle.frame.proofs.Ids.{id_office, id_range, inserted_new}
use Rattle.store.specs.Offices.{Office, hold, reveal}
use Rattle.store.proofs.Keep.{Sound, Takes, hold_sound, reveal_sound}
use Rattle.office.specs.Calls.{Result, answer_words, entry_code, given, handed_all, hold_new, joint_code, joint_on, onward, own_code, plots_ok, read_all, read_code, read_on, receive_code, receive_on, receive_sends, received_by}

-- ---- reading

abbrev took : Office → Frame → List ℕ → Result Office Frame
took O f row =
    record {
      code = 0;
      count = length (rows_of (receive_sends f));
      found = [];
      store = received_by O f;
      session = fresh_content 0;
      row = laid (rows_of (receive_sends f)) row;
      sent = receive_sends f;
    }

module _ (O : Office) (S : Sound O) (s : Content) (N : SaneContent s) where
  revealed_sound : subset_of s.read O.held ≡ true → Sound (reveal O s.read)
  revealed_sound t = reveal_sound O S s.read N.read (subset_within s.read O.held N.read t)

  pub read_keeps : (plot : ℕ) → Sound (read_on O s plot).store
  unfolding read_on read_code check
  read_keeps plot = go (session_ok O.offices O.plots s) (ltb plot O.plots) (subset_of s.read O.held) refl
    where
      go : (a b c : Bool) → subset_of s.read O.held ≡ c
          → Sound (given (check a 3 (check b 4 (check c 12 0))) O s [] (read_all O s (plot ∷ []) [])).store
      go true true true q = revealed_sound q
      go true true false q = S
      go true false c q = S
      go false b c q = S

  pub joint_keeps : (plots row : List ℕ) → Sound (joint_on O s plots row).store
  unfolding joint_on joint_code check
  joint_keeps plots row =
      go (session_ok O.offices O.plots s) (both (leb (length plots) 16) (plots_ok O.plots plots)) (leb (3 * length plots) (length row))
      (subset_of s.read O.held) refl
    where
      go : (a b d c : Bool) → subset_of s.read O.held ≡ c
          → Sound (given (check a 3 (check b 4 (check d 8 (check c 12 0)))) O s row (read_all O s plots (laid (answer_words (handed_all O s plots)) row))).store
      go true true true true q = revealed_sound q
      go true true true false q = S
      go true true false c q = S
      go true false d c q = S
      go false b d c q = S

-- ---- receiving

-- the tests 10 and 11
pub record Known (O : Office) (e : Entry) : Type 0 where
  pub home : e.office ≡ O.own → has O.held (id_of e) ≡ 1

pub known : (O : Office) (e : Entry) → entry_code O e ≡ 0 → Known O e
unfolding entry_code check
known O e h = go (implies (eqb e.office O.own) (is_in O.held (id_of e))) refl h
  where
    go : (t : Bool) → implies (eqb e.office O.own) (is_in O.held (id_of e)) ≡ t
        → check t 10 (check (implies (is_in O.held (id_of e)) (same_content e (O.entry (id_of e)))) 11 0) ≡ 0 → Known O e
    go true t q =
        record {
          home =
              λ x.
              in_is O.held (id_of e) (implies_elim (eqb e.office O.own) (is_in O.held (id_of e)) t (eq-eqb e.office O.own x));
        }
    go false t q = absurd (omega arith)

pub all_known : (O : Office) (es : List Entry) → own_code O es ≡ 0 → (e : Entry) → Memᴰ e es → Known O e
unfolding own_code or_else
all_known O [] h e m = absurd (Memᴰ.not-nil m)
all_known O (x ∷ es) h e m = go (entry_code O x) refl h (λ q i. all_known O es q e i)
  where
    go : (c : ℕ) → entry_code O x ≡ c → or_else c (own_code O es) ≡ 0 → (own_code O es ≡ 0 → Memᴰ e es → Known O e) → Known O e
    go zero c q ih = ⊎_elim (λ (y : e ≡ x). rw y (known O x c)) (λ i. ih q i) (Memᴰ.cases_cons m)
    go (suc k) c q ih = absurd (omega arith)

pub away : (O : Office) (e : Entry) (n p : ℕ) → EntryFacts n p e → Known O e → has O.held (id_of e) ≡ 0 → (s : ℕ) → s < 31
    → 32 * O.own + (s + 1) ≡ id_of e → ⊥
away O e n p F K z s l q =
    let c : id_of e / 32 ≡ O.own = omega arith in
    let h = K.home (sym (id_office n p e F) ∙ c) in
    omega arith

module _ (O : Office) (S : Sound O) (f : Frame) (valid : frame_ok O.offices O.plots f ≡ true) (sane : SaneEntry f.entry) where
  ok : entry_ok O.offices O.plots f.entry ≡ true
  ok = (frame_facts O.offices O.plots f valid).entry

  F : EntryFacts O.offices O.plots f.entry
  F = entry_facts O.offices O.plots f.entry ok

  small : id_of f.entry < 256
  small = omega (arith, id_range O.offices O.plots f.entry F, S.few)

  pub takes_new : Known O f.entry → subset_of f.entry.deps O.held ≡ true → is_in O.held (id_of f.entry) ≡ false → Takes O f.entry
  takes_new K d t =
      let z = out_is O.held (id_of f.entry) t in
      record {
        ok = ok;
        clock8 = sane.clock8;
        deps_set = sane.deps_set;
        new = z;
        deps_held = subset_within f.entry.deps O.held sane.deps_set d;
        next = λ s l q. absurd (away O f.entry O.offices O.plots F K z s l q);
      }

  pub kept : Known O f.entry → subset_of f.entry.deps O.held ≡ true
      → Sound (hold_new O f.entry) × (has (hold_new O f.entry).held (id_of f.entry) ≡ 1)
  unfolding hold_new hold
  kept K d = go (is_in O.held (id_of f.entry)) refl
    where
      go : (t : Bool) → is_in O.held (id_of f.entry) ≡ t
          → Sound (cond t O (hold O f.entry)) × (has (cond t O (hold O f.entry)).held (id_of f.entry) ≡ 1)
      go true t = (S, in_is O.held (id_of f.entry) t)
      go false t = (hold_sound O S f.entry (takes_new K d t), inserted_new O.held (id_of f.entry) small S.held_set)

  -- the entry that is brought out, as a set of one id
  pub seed_set : IdSet (inserted zeros (id_of f.entry))
  seed_set = ids_inserted zeros (id_of f.entry) ids_zeros

  pub seed_held : Known O f.entry → subset_of f.entry.deps O.held ≡ true
      → Within (inserted zeros (id_of f.entry)) (hold_new O f.entry).held
  seed_held K d x h =
      ⊎_elim (λ (q : x ≡ id_of f.entry). rw q (kept K d).1) (λ z. absurd (omega (arith, has_zeros x)))
      (in_inserted zeros (id_of f.entry) x small ids_zeros h)

  got : Known O f.entry → subset_of f.entry.deps O.held ≡ true → Sound (received_by O f)
  unfolding received_by
  got K d = go (eqb f.hops 0)
    where
      go : (t : Bool) → Sound (cond t (reveal (hold_new O f.entry) (inserted zeros (id_of f.entry))) (hold_new O f.entry))
      go true = reveal_sound (hold_new O f.entry) (kept K d).0 (inserted zeros (id_of f.entry)) seed_set (seed_held K d)
      go false = (kept K d).0

  pub receive_keeps : (row : List ℕ) → Sound (receive_on O f row).store
  unfolding receive_on receive_code check or_else
  receive_keeps row =
      go (entry_code O f.entry) refl (subset_of f.entry.deps O.held) refl
      (either (eqb f.hops 0) (leb (length (frame_words (onward f))) (length row)))
    where
      go : (c : ℕ) → entry_code O f.entry ≡ c → (d : Bool) → subset_of f.entry.deps O.held ≡ d → (r : Bool)
          → Sound (given (or_else c (check d 12 (check r 8 0))) O (fresh_content 0) row (took O f row)).store
      go zero c true d true = got (known O f.entry c) d
      go zero c true d false = S
      go zero c false d r = S
      go (suc k) c d q r = S
