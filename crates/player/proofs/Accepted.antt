-- What holds of accepted calls on a store of a ring of three with 64 plots, and that 8 is never refused where the out row has 1751 words.
-- Assumes nothing.
use Prim.Native.Nat.{ℕ, suc, zero, ◌+◌, ◌-◌, ◌<◌, ◌≤◌}
use mathlib.Core.Bool.{Bool, cond, false, true}
use mathlib.Core.List.Memᴰ
use mathlib.Core.List.{List, Memᴰ, [], ◌++◌, ◌∷◌, append-nil, map}
use mathlib.Core.Logic.{⊎_elim}
use mathlib.Core.Path.{◌∙◌, ◌≡◌, ap, refl}
use native.Mathlib.Omega.{arith}
use lib.Bits.{bit_or}
use lib.Dec.{eqb, leb}
use lib.ListN.{get_or, length, length-append}
use borrow.Author.Tests.{leb-true, ltb-true}
use Rattle.causal.specs.Lists.{zeros}
use Rattle.causal.specs.Sets.{inserted, is_in, unite}
use Rattle.causal.specs.Tests.{either}
use Rattle.causal.proofs.Codes.{check_none, or_both}
use Rattle.causal.proofs.Lists.{zip8_at}
use Rattle.frame.specs.Calls.{laid}
use Rattle.frame.specs.Entries.{id_of, ids_ok}
use Rattle.frame.specs.Frames.{accepts, frame_of, frame_ok, frame_words, framed}
use Rattle.frame.specs.Sessions.{Content, fresh_content, ids_of, session_ok}
use Rattle.frame.specs.Tokens.{rows_of}
use Rattle.frame.specs.declared.entry.Entry.{Entry}
use Rattle.frame.specs.declared.entry.Frame.{Frame}
use Rattle.frame.proofs.Back.{accepted_ok}
use Rattle.frame.proofs.Entries.{EntryFacts, entry_facts, facts_ids, frame_facts, ids_facts}
use Rattle.frame.proofs.Ids.{id_range, ids_of_lem}
use Rattle.frame.proofs.LeaveOut.{left_few, left_from}
use Rattle.frame.proofs.Sessions.{SessionFacts, ids_from, ids_set, own_ok_lem, session_facts}
use Rattle.store.specs.Offices.{Office, hold, office_of, reveal, sound_store, store_words}
use Rattle.office.specs.Calls.{Result, entry_code, given, hold_all, hold_new, missing, new_entry, onward, own_code, parsed, read_code, read_on, read_plot, receive, receive_code, receive_on, receive_sends, received_by, sent_of, worded, write, write_code, write_on, write_sends}
use Rattle.player.proofs.Room.{Fit3}

-- ---- what a call sends

module _ (p : ℕ) (s : Content) (ok : session_ok 3 p s ≡ true) where
  facts : SessionFacts 3 p s
  facts = session_facts 3 p s ok

  own_deps : (e : Entry) → Memᴰ e s.own → EntryFacts 3 p e
  own_deps e m = entry_facts 3 p e (own_ok_lem 3 p s facts e m)

  own_small : (e : Entry) → Memᴰ e s.own → id_of e < 256
  own_small e m = omega (arith, id_range 3 p e (own_deps e m))

  own_ids : ids_ok 3 (ids_of s.own) ≡ true
  own_ids =
      ids_of_lem 3 (ids_of s.own) (ids_set s.own own_small)
      (λ d h. let t = Memᴰ.of_map id_of s.own (ids_from s.own own_small d h) in rw (← t.2) (id_range 3 p t.0 (own_deps t.0 t.1)))

  new_ids : (O : Office) (plot value : ℕ) → ids_ok 3 (new_entry O s plot value).deps ≡ true
  unfolding new_entry unite
  new_ids O plot value =
      facts_ids 3 (unite s.read (ids_of s.own))
      (λ j l g. zip8_at bit_or s.read (ids_of s.own) j l ∙ (λ i. bit_or (ids_facts 3 s.read facts.ids j l g i) (ids_facts 3 (ids_of s.own) own_ids j l g i)))

  sent_ids : (O : Office) (plot value : ℕ) (e : Entry) → Memᴰ e (sent_of O s plot value) → ids_ok 3 e.deps ≡ true
  unfolding sent_of
  sent_ids O plot value e m =
      ⊎_elim (λ i. (own_deps e (left_from (λ (x : Entry). is_in O.held (id_of x)) s.own e i).0).deps) (λ i. ap (λ (x : Entry). ids_ok 3 x.deps) (Memᴰ.eq_of_singleton i) ∙ new_ids O plot value)
      (Memᴰ.append_cases (missing O s.own) m)

  pub sends_fit : (O : Office) → O.offices ≡ 3 → (plot value : ℕ) (f : Frame) → Memᴰ f (write_sends O s plot value) → Fit3 f
  sends_fit O n plot value f m =
      let t = Memᴰ.of_map (framed O.offices (O.offices - 2)) (sent_of O s plot value) m in
      rw (← t.2) (record { ring = n; deps = sent_ids O plot value t.0 t.1 })

length_map : {A B : Type 0} (f : A → B) (l : List A) → length (map f l) ≡ length l
length_map f [] = refl
length_map f (x ∷ l) = ap suc (length_map f l)

pub sends_few : (O : Office) (s : Content) (plot value : ℕ) → length (write_sends O s plot value) ≤ length s.own + 1
unfolding sent_of
sends_few O s plot value =
    omega (
      arith,
      length_map (framed O.offices (O.offices - 2)) (missing O s.own ++ (new_entry O s plot value ∷ [])),
      length-append (missing O s.own) (new_entry O s plot value ∷ []),
      left_few (λ (x : Entry). is_in O.held (id_of x)) s.own,
    )

-- ---- no refusal

pub no_refusal : (b : Bool) (c : ℕ) (ws : List ℕ) (O : Office) (s : Content) (row : List ℕ) (X : Result Office Frame) → (worded b ws s row (given c O s row X)).code ≡ 0
    → (b ≡ true) × (c ≡ 0)
no_refusal false c ws O s row X h = absurd (omega arith)
no_refusal true zero ws O s row X h = (refl, refl)
no_refusal true (suc c) ws O s row X h = absurd (omega arith)

hold_ring : (es : List Entry) (O : Office) → ((hold_all O es).offices ≡ O.offices) × ((hold_all O es).plots ≡ O.plots)
unfolding hold_all hold
hold_ring [] O = (refl, refl)
hold_ring (e ∷ es) O = hold_ring es (hold O e)

-- the settings that a store begins with
ring_is : (ws : List ℕ) (O : Office) → (get_or (store_words ws O) 0 0 ≡ O.offices) × (get_or (store_words ws O) 2 0 ≡ O.plots)
unfolding store_words
ring_is ws O = (refl, refl)

reveal_ring : (O : Office) (seeds : List ℕ) → ((reveal O seeds).offices ≡ O.offices) × ((reveal O seeds).plots ≡ O.plots)
unfolding reveal
reveal_ring O seeds = (refl, refl)

office_ring : (ws : List ℕ) → ((office_of ws).offices ≡ get_or ws 0 0) × ((office_of ws).plots ≡ get_or ws 2 0)
unfolding office_of
office_ring ws = (refl, refl)

-- ---- an accepted write

write_tests : (O : Office) (s : Content) (plot value room : ℕ) → write_code O s plot value room ≡ 0
    → (session_ok O.offices O.plots s ≡ true) × (length s.own < 16) × (length (rows_of (write_sends O s plot value)) ≤ room)
unfolding write_code
write_tests O s plot value room h =
    let a = check_none _ 3 _ (omega arith) h in
    let b = check_none _ 4 _ (omega arith) a.1 in
    let c = check_none _ 5 _ (omega arith) b.1 in
    let d = check_none _ 7 _ (omega arith) c.1 in
    let e = check_none _ 6 _ (omega arith) d.1 in
    let f = check_none _ 12 _ (omega arith) e.1 in
    let g = or_both (own_code O s.own) _ f.1 in
    let r = check_none _ 8 _ (omega arith) g.1 in
    (a.0, ltb-true (length s.own) 16 d.0, leb-true (length (rows_of (write_sends O s plot value))) room r.0)

pub record Writes (ws : List ℕ) (s : Content) (plot value : ℕ) (row : List ℕ) (fs : List Frame) : Type 0 where
  pub sent : (write ws s plot value row).sent ≡ map frame_words fs
  pub count : (write ws s plot value row).count ≡ length (rows_of fs)
  pub left : (write ws s plot value row).row ≡ laid (rows_of fs) row
  pub room : length (rows_of fs) ≤ length row
  pub fit : (f : Frame) → Memᴰ f fs → Fit3 f
  pub offices : get_or (write ws s plot value row).store 0 0 ≡ 3
  pub plots : get_or (write ws s plot value row).store 2 0 ≡ 64
  pub few : length s.own < 16

module _ (ws : List ℕ) (n : get_or ws 0 0 ≡ 3) (p : get_or ws 2 0 ≡ 64) where
  abbrev O : Office
  O = office_of ws

  O-n : (office_of ws).offices ≡ 3
  O-n = (office_ring ws).0 ∙ n

  module _ (s : Content) (plot value : ℕ) (row : List ℕ) where
    pub writes : (write ws s plot value row).code ≡ 0 → Writes ws s plot value row (write_sends (office_of ws) s plot value)
    unfolding write write_on
    writes h =
        let z = no_refusal (sound_store ws) (write_code (office_of ws) s plot value (length row)) ws (office_of ws) s row _ h in
        let t = write_tests (office_of ws) s plot value (length row) z.1 in
        record {
          sent = rw (z.0, z.1);
          count = rw (z.0, z.1);
          left = rw (z.0, z.1);
          room = t.2;
          fit = sends_fit (office_of ws).plots s (rw O-n at t.0) (office_of ws) O-n plot value;
          offices = rw (z.0, z.1) ((ring_is ws (hold_all (office_of ws) (sent_of (office_of ws) s plot value))).0 ∙ (hold_ring (sent_of (office_of ws) s plot value) (office_of ws)).0 ∙ O-n);
          plots =
              rw (z.0, z.1)
              ((ring_is ws (hold_all (office_of ws) (sent_of (office_of ws) s plot value))).1 ∙ (hold_ring (sent_of (office_of ws) s plot value) (office_of ws)).1 ∙ (office_ring ws).1 ∙ p);
          few = t.1;
        }

-- an accepted write was of a session with room
pub few_own : (ws : List ℕ) (s : Content) (plot value : ℕ) (row : List ℕ) → (write ws s plot value row).code ≡ 0 → length s.own < 16
unfolding write write_on
few_own ws s plot value row h =
    let z = no_refusal (sound_store ws) (write_code (office_of ws) s plot value (length row)) ws (office_of ws) s row _ h in
    (write_tests (office_of ws) s plot value (length row) z.1).1

-- ---- an accepted reading

pub record Reads (ws : List ℕ) (s : Content) (plot : ℕ) : Type 0 where
  pub offices : get_or (read_plot ws s plot).store 0 0 ≡ 3
  pub plots : get_or (read_plot ws s plot).store 2 0 ≡ 64

module _ (ws : List ℕ) (n : get_or ws 0 0 ≡ 3) (p : get_or ws 2 0 ≡ 64) (s : Content) (plot : ℕ) where
  pub reads : (read_plot ws s plot).code ≡ 0 → Reads ws s plot
  unfolding read_plot read_on
  reads h =
      let z = no_refusal (sound_store ws) (read_code (office_of ws) s plot) ws (office_of ws) s [] _ h in
      record {
        offices = rw (z.0, z.1) ((ring_is ws (reveal (office_of ws) s.read)).0 ∙ shown.0 ∙ (office_ring ws).0 ∙ n);
        plots = rw (z.0, z.1) ((ring_is ws (reveal (office_of ws) s.read)).1 ∙ shown.1 ∙ (office_ring ws).1 ∙ p);
      }
    where
      shown : ((reveal (office_of ws) s.read).offices ≡ (office_of ws).offices) × ((reveal (office_of ws) s.read).plots ≡ (office_of ws).plots)
      shown = reveal_ring (office_of ws) s.read

-- ---- an accepted receiving

pub record Receives (ws frame row : List ℕ) (fs : List Frame) : Type 0 where
  pub sent : (receive ws frame row).sent ≡ map frame_words fs
  pub count : (receive ws frame row).count ≡ length (rows_of fs)
  pub left : (receive ws frame row).row ≡ laid (rows_of fs) row
  pub room : length (rows_of fs) ≤ length row
  pub fit : (f : Frame) → Memᴰ f fs → Fit3 f
  pub offices : get_or (receive ws frame row).store 0 0 ≡ 3
  pub plots : get_or (receive ws frame row).store 2 0 ≡ 64

no_refusal_2 : (b a : Bool) (c : ℕ) (ws : List ℕ) (O : Office) (row : List ℕ) (X : Result Office Frame)
    → (worded b ws (fresh_content 0) row (parsed a O row (given c O (fresh_content 0) row X))).code ≡ 0 → (b ≡ true) × (a ≡ true) × (c ≡ 0)
no_refusal_2 false a c ws O row X h = absurd (omega arith)
no_refusal_2 true false c ws O row X h = absurd (omega arith)
no_refusal_2 true true zero ws O row X h = (refl, refl, refl)
no_refusal_2 true true (suc c) ws O row X h = absurd (omega arith)

pub frame_accepted : (ws frame row : List ℕ) → (receive ws frame row).code ≡ 0 → accepts (office_of ws).offices (office_of ws).plots frame ≡ true
unfolding receive receive_on
frame_accepted ws frame row h =
    (no_refusal_2 (sound_store ws) (accepts (office_of ws).offices (office_of ws).plots frame) (receive_code (office_of ws) (frame_of frame) (length row)) ws (office_of ws) row _ h).1

got_ring : (O : Office) (f : Frame) → ((received_by O f).offices ≡ O.offices) × ((received_by O f).plots ≡ O.plots)
unfolding received_by hold_new reveal hold
got_ring O f = go (eqb f.hops 0) (is_in O.held (id_of f.entry))
  where
    go : (a b : Bool) → ((cond a (reveal (cond b O (hold O f.entry)) (inserted zeros (id_of f.entry))) (cond b O (hold O f.entry))).offices ≡ O.offices)
        × ((cond a (reveal (cond b O (hold O f.entry)) (inserted zeros (id_of f.entry))) (cond b O (hold O f.entry))).plots ≡ O.plots)
    go true true = (refl, refl)
    go true false = (refl, refl)
    go false true = (refl, refl)
    go false false = (refl, refl)

receive_room : (O : Office) (f : Frame) (room : ℕ) → receive_code O f room ≡ 0 → length (rows_of (receive_sends f)) ≤ room
unfolding receive_code receive_sends rows_of either
receive_room O f room h =
    let a = or_both (entry_code O f.entry) _ h in
    let b = check_none _ 12 _ (omega arith) a.1 in
    let c = check_none _ 8 _ (omega arith) b.1 in
    go (eqb f.hops 0) c.0
  where
    go : (t : Bool) → either t (leb (length (frame_words (onward f))) room) ≡ true → length (rows_of (cond t [] (onward f ∷ []))) ≤ room
    go true q = omega arith
    go false q = omega (arith, leb-true (length (frame_words (onward f))) room q, ap length (append-nil (frame_words (onward f))))

receive_fit : (f : Frame) → frame_ok 3 64 f ≡ true → (g : Frame) → Memᴰ g (receive_sends f) → Fit3 g
unfolding receive_sends
receive_fit f ok g = go (eqb f.hops 0)
  where
    go : (t : Bool) → Memᴰ g (cond t [] (onward f ∷ [])) → Fit3 g
    go true m = absurd (Memᴰ.not-nil m)
    go false m =
        let F = frame_facts 3 64 f ok in
        rw (Memᴰ.eq_of_singleton m) (record { ring = F.ring; deps = (entry_facts 3 64 f.entry F.entry).deps })

module _ (ws : List ℕ) (n : get_or ws 0 0 ≡ 3) (p : get_or ws 2 0 ≡ 64) (frame row : List ℕ) where
  pub receives : (receive ws frame row).code ≡ 0 → Receives ws frame row (receive_sends (frame_of frame))
  unfolding receive receive_on
  receives h =
      let z = no_refusal_2 (sound_store ws) (accepts (office_of ws).offices (office_of ws).plots frame) (receive_code (office_of ws) (frame_of frame) (length row)) ws (office_of ws) row _ h in
      let ok = accepted_ok (office_of ws).offices (office_of ws).plots frame z.1 in
      record {
        sent = rw (z.0, z.1, z.2);
        count = rw (z.0, z.1, z.2);
        left = rw (z.0, z.1, z.2);
        room = receive_room (office_of ws) (frame_of frame) (length row) z.2;
        fit = receive_fit (frame_of frame) (rw ((office_ring ws).0 ∙ n, (office_ring ws).1 ∙ p) at ok);
        offices = rw (z.0, z.1, z.2) ((ring_is ws (received_by (office_of ws) (frame_of frame))).0 ∙ (got_ring (office_of ws) (frame_of frame)).0 ∙ (office_ring ws).0 ∙ n);
        plots = rw (z.0, z.1, z.2) ((ring_is ws (received_by (office_of ws) (frame_of frame))).1 ∙ (got_ring (office_of ws) (frame_of frame)).1 ∙ (office_ring ws).1 ∙ p);
      }
