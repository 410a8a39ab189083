-- A receiving of a script, played. Assumes nothing.
use Prim.Native.Nat.{ℕ, suc, ◌%◌, ◌*◌, ◌+◌, ◌-◌, ◌<◌, ◌≤◌}
use mathlib.Core.Bool.{Bool, cond, false, true}
use mathlib.Core.List.{List, [], ◌++◌, ◌∷◌}
use mathlib.Core.Logic.{⊎_elim}
use mathlib.Core.Path.{◌∙◌, ◌≡◌, ap, refl, subst, sym}
use native.Mathlib.Omega.{arith}
use lib.ListN.{drop, get_or, length, length-append, length-set}
use lib.Seq.{get_or-set_other, get_or-set_same, length-sets, sets}
use borrow.Author.Tests.{lt-ltb}
use Rattle.causal.specs.Lists.{part}
use Rattle.causal.proofs.Tests.{eq_or_ne}
use Rattle.frame.specs.Frames.{frame_words}
use Rattle.frame.specs.declared.entry.Frame.{Frame}
use Rattle.office.specs.Calls.{Result, receive}
use Rattle.office.proofs.Refused.{receive_words_refused}
use Rattle.ring.specs.Run.{Call, at, next_of, over_words, received, receiving, step, turned_by, upd}
use Rattle.ring.proofs.Fit.{upd_other, upd_same}
use Rattle.script.specs.declared.line.Line.TheVariants.{Receive}
use Rattle.script.specs.declared.reply.Reply.TheVariants.{Full, NoFrame, Received, Refused}
use Rattle.player.specs.Desks.{Desk, count_at, first_at, pushed, slot_at, with_frames, without_oldest}
use Rattle.player.specs.Play.{Ring, Scene, called, crowded, play, play_receive, settled}
use Rattle.player.specs.Shows.{Queue, Shows}
use Rattle.player.specs.Steps.{Plays}
use Rattle.player.proofs.Scenes.{calm, jammed, next_low, next_ne, store_in, turned_shows, word_in}
use Rattle.player.proofs.Waiting.{pushed_length, taken}
use Rattle.causal.proofs.Lists.{part_cons}
use Rattle.player.proofs.PlayWrite.{Sends, length_map, next_queue, other_queue, plays_by}

-- ---- the oldest frame

-- the words that stand in the slot
abbrev pub frame_in : List ℕ → ℕ → List ℕ
frame_in lines slot = part lines (slot + 1) (get_or lines slot 0)

pub record Oldest (lines : List ℕ) (slot : ℕ) (rows : List (List ℕ)) : Type 0 where
  pub rest : List (List ℕ)
  pub are : rows ≡ frame_in lines slot ∷ rest
  pub short : get_or lines slot 0 ≤ 103

pub oldest : (lines : List ℕ) (o first count : ℕ) (rows : List (List ℕ)) → length lines ≡ 9984 → o < 3 → (count ≡ 0 → ⊥) → Queue lines o first count rows
    → Oldest lines (slot_at o first) rows
oldest lines o first count [] long ol ne Q = absurd (ne (sym Q.counted))
oldest lines o first count (f ∷ rest) long ol ne Q =
    record {
      rest = rest;
      are = ap (λ (x : List ℕ). x ∷ rest) (sym (ap (part lines (slot_at o first + 1)) size ∙ words));
      short = omega (arith, size, Q.short 0 (omega (arith, Q.counted)));
    }
  where
    here : part lines (slot_at o first) (suc (length f)) ≡ length f ∷ f
    here =
        let e : (first + 0) % 32 ≡ first = omega (arith, Q.start) in
        ap (λ (x : ℕ). part lines (slot_at o x) (suc (length f))) (sym e) ∙ Q.slot 0 (omega (arith, Q.counted))

    both : get_or lines (slot_at o first) 0 ∷ part lines (suc (slot_at o first)) (length f) ≡ length f ∷ f
    both = sym (part_cons lines (slot_at o first) (length f) (omega (arith, Q.start))) ∙ here

    size : get_or lines (slot_at o first) 0 ≡ length f
    size = ap (λ (l : List ℕ). get_or l 0 0) both

    words : part lines (slot_at o first + 1) (length f) ≡ f
    words = let e : slot_at o first + 1 ≡ suc (slot_at o first) = omega arith in ap (λ (x : ℕ). part lines x (length f)) e ∙ ap (drop 1) both

module _ (g : Scene) (d : Desk) (stores lines : List ℕ) (S : Shows g d stores lines) (o : ℕ) (ol : o < 3) (row : List ℕ) where
  pub receive_none : count_at d o ≡ 0 → Plays row g (Receive o) (record { desk = d; reply = NoFrame }) stores lines
  unfolding play play_receive
  receive_none z = plays_by row g (Receive o) d NoFrame stores lines g (rw (lt-ltb o 3 ol, none (g.ring.lines o) ((S.line o ol).counted ∙ z))) S
    where
      none : (l : List (List ℕ)) → length l ≡ 0 → l ≡ []
      none [] h = refl
      none (x ∷ l) h = absurd (omega arith)

  module _ (f : List ℕ) (rest : List (List ℕ)) (are : g.ring.lines o ≡ f ∷ rest) where
    abbrev R : Result (List ℕ) (List ℕ)
    R = receive (part stores (1747 * o) 1747) f row

    abbrev C : Call
    C = receiving o row

    play_is : play row g (Receive o) ≡ settled g C R.code (Received (length rest))
    unfolding play play_receive
    play_is = rw (lt-ltb o 3 ol, are, ← S.store o ol)

    step_refused : (c : ℕ) → R.code ≡ suc c → step over_words 3 g.ring C ≡ turned_by over_words 3 g.ring o R
    unfolding step over_words
    step_refused c h = rw (lt-ltb o 3 ol, are, ← S.store o ol, h)

    step_received : R.code ≡ 0 → step over_words 3 g.ring C ≡ received over_words 3 g.ring o rest R
    unfolding step over_words
    step_received h = rw (lt-ltb o 3 ol, are, ← S.store o ol, h)

    pub receive_refused : (c : ℕ) → R.code ≡ suc c → Plays row g (Receive o) (record { desk = d; reply = Refused (suc c) }) stores lines
    unfolding settled
    receive_refused c h =
        plays_by row g (Receive o) d (Refused (suc c)) stores lines (record { ring = turned_by over_words 3 g.ring o R; place = g.place })
        (play_is ∙ ap (λ (x : ℕ). settled g C x (Received (length rest))) h ∙ (λ i. (record { ring = step_refused c h i; place = g.place }, Refused (suc c))))
        (turned_shows g d stores lines S o ol R (receive_words_refused (part stores (1747 * o) 1747) f row (λ (z : R.code ≡ 0). omega arith)).store)

    module _ (z : R.code ≡ 0) (fs : List Frame) (F : Sends R row fs) where
      sent_length : length R.sent ≡ length fs
      sent_length = ap length F.sent ∙ length_map frame_words fs

      abbrev G : Ring
      G = received over_words 3 g.ring o rest R

      next_length : length (G.lines (next_of 3 o)) ≡ count_at d (next_of 3 o) + length fs
      next_length =
          ap length (upd_same (upd g.ring.lines o rest) (next_of 3 o) (g.ring.lines (next_of 3 o) ++ R.sent))
          ∙ omega (arith, length-append (g.ring.lines (next_of 3 o)) R.sent, sent_length, (S.line (next_of 3 o) (next_low o ol)).counted)

      pub receive_full : 32 < count_at d (next_of 3 o) + length fs → Plays row g (Receive o) (record { desk = d; reply = Full }) stores lines
      unfolding settled
      receive_full l =
          plays_by row g (Receive o) d Full stores lines g
          (play_is ∙ ap (λ (x : ℕ). settled g C x (Received (length rest))) z ∙ ap (λ (b : Bool). cond b (g, Full) (called g C, Received (length rest))) jam) S
        where
          jam : crowded (step over_words 3 g.ring C) ≡ true
          jam = ap crowded (step_received z) ∙ jammed (received over_words 3 g.ring o rest R) (next_of 3 o) (next_low o ol) (omega (arith, next_length))

      module _ (l : count_at d (next_of 3 o) + length fs ≤ 32) (size : length R.store ≡ 1747) where
        abbrev d' : Desk
        d' = without_oldest (with_frames d (next_of 3 o) (length fs)) o

        abbrev lines' : List ℕ
        lines' = pushed lines (next_of 3 o) (first_at d (next_of 3 o) + count_at d (next_of 3 o)) R.row (length fs)

        -- counts and first slots afterwards
        counts_long : o < length (with_frames d (next_of 3 o) (length fs)).count
        counts_long = omega (arith, length-set d.count (next_of 3 o) (count_at d (next_of 3 o) + length fs), S.three_counts)

        own_count : count_at (with_frames d (next_of 3 o) (length fs)) o ≡ count_at d o
        own_count = get_or-set_other d.count (next_of 3 o) o (count_at d (next_of 3 o) + length fs) 0 (next_ne o ol)

        count_own : count_at d' o ≡ count_at d o - 1
        count_own =
            get_or-set_same (with_frames d (next_of 3 o) (length fs)).count o (count_at (with_frames d (next_of 3 o) (length fs)) o - 1) 0 counts_long
            ∙ ap (λ (x : ℕ). x - 1) own_count

        first_own : first_at d' o ≡ (first_at d o + 1) % 32
        first_own = get_or-set_same d.first o ((first_at d o + 1) % 32) 0 (omega (arith, S.three))

        count_other : (q : ℕ) → (q ≡ o → ⊥) → count_at d' q ≡ count_at (with_frames d (next_of 3 o) (length fs)) q
        count_other q e = get_or-set_other (with_frames d (next_of 3 o) (length fs)).count o q (count_at (with_frames d (next_of 3 o) (length fs)) o - 1) 0 e

        first_other : (q : ℕ) → (q ≡ o → ⊥) → first_at d' q ≡ first_at d q
        first_other q e = get_or-set_other d.first o q ((first_at d o + 1) % 32) 0 e

        count_next : count_at d' (next_of 3 o) ≡ count_at d (next_of 3 o) + length fs
        count_next =
            count_other (next_of 3 o) (λ (e : next_of 3 o ≡ o). next_ne o ol (sym e))
            ∙ get_or-set_same d.count (next_of 3 o) (count_at d (next_of 3 o) + length fs) 0 (omega (arith, S.three_counts, next_low o ol))

        -- the lines afterwards
        line_next : G.lines (next_of 3 o) ≡ g.ring.lines (next_of 3 o) ++ R.sent
        line_next = upd_same (upd g.ring.lines o rest) (next_of 3 o) (g.ring.lines (next_of 3 o) ++ R.sent)

        line_own : G.lines o ≡ rest
        line_own =
            upd_other (upd g.ring.lines o rest) (next_of 3 o) (g.ring.lines (next_of 3 o) ++ R.sent) o (next_ne o ol) ∙ upd_same g.ring.lines o rest

        line_other : (q : ℕ) → (q ≡ o → ⊥) → (q ≡ next_of 3 o → ⊥) → G.lines q ≡ g.ring.lines q
        line_other q a b =
            upd_other (upd g.ring.lines o rest) (next_of 3 o) (g.ring.lines (next_of 3 o) ++ R.sent) q b ∙ upd_other g.ring.lines o rest q a

        at_next : Queue lines' (next_of 3 o) (first_at d' (next_of 3 o)) (count_at d' (next_of 3 o)) (G.lines (next_of 3 o))
        at_next =
            rw (first_other (next_of 3 o) (λ (e : next_of 3 o ≡ o). next_ne o ol (sym e)), count_next, line_next)
            (next_queue lines S.long_lines d S.three_counts R row fs F o ol (g.ring.lines (next_of 3 o)) (S.line (next_of 3 o) (next_low o ol)) l)

        at_own : Queue lines' o (first_at d' o) (count_at d' o) (G.lines o)
        at_own =
            rw (first_own, count_own, line_own)
            (taken lines' o (first_at d o) (count_at d o) f rest
            (other_queue lines S.long_lines d S.three_counts R row fs F o ol o (next_ne o ol) (first_at d o) (count_at d o) (f ∷ rest) (rw are at (S.line o ol))))

        at_other : (q : ℕ) → q < 3 → (q ≡ o → ⊥) → (q ≡ next_of 3 o → ⊥) → Queue lines' q (first_at d' q) (count_at d' q) (G.lines q)
        at_other q ql a b =
            rw (first_other q a, count_other q a ∙ get_or-set_other d.count (next_of 3 o) q (count_at d (next_of 3 o) + length fs) 0 b, line_other q a b)
            (other_queue lines S.long_lines d S.three_counts R row fs F o ol q b (first_at d q) (count_at d q) (g.ring.lines q) (S.line q ql))

        line' : (q : ℕ) → q < 3 → Queue lines' q (first_at d' q) (count_at d' q) (G.lines q)
        line' q ql =
            ⊎_elim (λ (e : q ≡ o). subst (λ (x : ℕ). Queue lines' x (first_at d' x) (count_at d' x) (G.lines x)) (sym e) at_own)
            (λ (a : q ≡ o → ⊥).
            ⊎_elim (λ (e : q ≡ next_of 3 o). subst (λ (x : ℕ). Queue lines' x (first_at d' x) (count_at d' x) (G.lines x)) (sym e) at_next) (λ (b : q ≡ next_of 3 o → ⊥). at_other q ql a b)
            (eq_or_ne q (next_of 3 o)))
            (eq_or_ne q o)

        quiet : crowded (step over_words 3 g.ring C) ≡ false
        quiet = ap crowded (step_received z) ∙ calm (received over_words 3 g.ring o rest R) (λ q ql. omega (arith, (line' q ql).counted, (line' q ql).few))

        pub receive_done : Plays row g (Receive o) (record { desk = d'; reply = Received (length rest) }) (sets stores (1747 * o) R.store) lines'
        unfolding settled
        receive_done =
            plays_by row g (Receive o) d' (Received (length rest)) (sets stores (1747 * o) R.store) lines' (record { ring = received over_words 3 g.ring o rest R; place = g.place })
            (play_is
            ∙ ap (λ (x : ℕ). settled g C x (Received (length rest))) z
            ∙ ap (λ (b : Bool). cond b (g, Full) (called g C, Received (length rest))) quiet
            ∙ (λ i. (record { ring = step_received z i; place = g.place }, Received (length rest))))
            (record {
              four = S.four;
              four_places = S.four_places;
              three = length-set d.first o ((first_at d o + 1) % 32) ∙ S.three;
              three_counts =
                  length-set (with_frames d (next_of 3 o) (length fs)).count o (count_at (with_frames d (next_of 3 o) (length fs)) o - 1)
                  ∙ length-set d.count (next_of 3 o) (count_at d (next_of 3 o) + length fs)
                  ∙ S.three_counts;
              long_stores = length-sets stores (1747 * o) R.store ∙ S.long_stores;
              long_lines = pushed_length lines (next_of 3 o) (first_at d (next_of 3 o) + count_at d (next_of 3 o)) R.row (length fs) ∙ S.long_lines;
              store = store_in stores R.store o ol S.long_stores size g.ring.stores S.store;
              offices = word_in 0 3 g.ring.stores o R.store F.offices S.offices;
              plots = word_in 2 64 g.ring.stores o R.store F.plots S.plots;
              line = line';
              session = S.session;
              place = S.place;
              placed = S.placed;
            })
