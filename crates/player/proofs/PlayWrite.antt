-- A write of a script, played. Assumes nothing.
use Prim.Native.Nat.{ℕ, suc, ◌*◌, ◌+◌, ◌<◌, ◌≤◌}
use mathlib.Core.Bool.{Bool, cond, false, true}
use mathlib.Core.List.{List, Memᴰ, [], ◌++◌, ◌∷◌, map}
use mathlib.Core.Logic.{⊎_elim}
use mathlib.Core.Path.{◌∙◌, ◌≡◌, ap, refl, subst, sym}
use native.Mathlib.Omega.{arith}
use lib.ListN.{drop, get_or, length, length-append, length-set}
use lib.Seq.{get_or-set_other, get_or-set_same, length-sets, sets}
use borrow.Author.Tests.{lt-ltb}
use Rattle.causal.specs.Lists.{part}
use Rattle.causal.proofs.Tests.{eq_or_ne}
use Rattle.frame.specs.Frames.{frame_words}
use Rattle.frame.specs.Sessions.{content_of}
use Rattle.frame.specs.Tokens.{rows_of}
use Rattle.frame.specs.declared.entry.Frame.{Frame}
use Rattle.frame.specs.declared.session.Session.{Session}
use Rattle.office.specs.Calls.{Result, write}
use Rattle.office.proofs.Refused.{write_words_refused}
use Rattle.ring.specs.Run.{Call, Tracked, next_of, over_words, refused_by, step, writing, wrote}
use Rattle.ring.proofs.Fit.{upd_other, upd_same}
use Rattle.script.specs.declared.line.Line.{Line}
use Rattle.script.specs.declared.line.Line.TheVariants.{Write}
use Rattle.script.specs.declared.reply.Reply.{Reply}
use Rattle.script.specs.declared.reply.Reply.TheVariants.{Full, Refused}
use Rattle.player.specs.Desks.{Desk, count_at, first_at, place_at, pushed, session_at, with_frames, with_session}
use Rattle.player.specs.Play.{Scene, called, crowded, play, play_write, settled, wrote_reply}
use Rattle.player.specs.Shows.{Queue, Shows}
use Rattle.player.specs.Steps.{Plays}
use Rattle.player.proofs.Room.{Fit3}
use Rattle.player.proofs.Scenes.{calm, jammed, line_few, next_low, refused_shows, session_in, store_in, word_in}
use Rattle.player.proofs.Waiting.{pushed_length, pushed_other, pushed_queue}

pub plays_by : (row : List ℕ) (g : Scene) (line : Line) (d : Desk) (reply : Reply) (stores lines : List ℕ) (h : Scene) → play row g line ≡ (h, reply) → Shows h d stores lines
    → Plays row g line (record { desk = d; reply = reply }) stores lines
plays_by row g line d reply stores lines h e S =
    record { shows = subst (λ (x : Scene × Reply). Shows x.0 d stores lines) (sym e) S; reply = ap (λ (x : Scene × Reply). x.1) (sym e) }

-- the store of a writing or receiving office, and the frames to the next
pub record Sends (R : Result (List ℕ) (List ℕ)) (row : List ℕ) (fs : List Frame) : Type 0 where
  pub sent : R.sent ≡ map frame_words fs
  pub left : R.row ≡ rows_of fs ++ drop (length (rows_of fs)) row
  pub fit : (f : Frame) → Memᴰ f fs → Fit3 f
  pub offices : get_or R.store 0 0 ≡ 3
  pub plots : get_or R.store 2 0 ≡ 64

pub length_map : {A B : Type 0} (f : A → B) (l : List A) → length (map f l) ≡ length l
length_map f [] = refl
length_map f (x ∷ l) = ap suc (length_map f l)

-- the next office's line, and the others
module _ (lines : List ℕ) (long : length lines ≡ 9984) (d : Desk) (counts : length d.count ≡ 3) (R : Result (List ℕ) (List ℕ)) (row : List ℕ) (fs : List Frame) (F : Sends R row fs) (o : ℕ) (ol : o < 3) where
  pub next_queue : (rows : List (List ℕ)) → Queue lines (next_of 3 o) (first_at d (next_of 3 o)) (count_at d (next_of 3 o)) rows → count_at d (next_of 3 o) + length fs ≤ 32 →
      Queue (pushed lines (next_of 3 o) (first_at d (next_of 3 o) + count_at d (next_of 3 o)) R.row (length fs)) (next_of 3 o) (first_at d (next_of 3 o)) (count_at d (next_of 3 o) + length fs) (rows ++ R.sent)
  next_queue rows Q l =
      rw (F.sent, F.left)
      (pushed_queue lines long fs F.fit (drop (length (rows_of fs)) row) (next_of 3 o) (first_at d (next_of 3 o)) (count_at d (next_of 3 o)) rows (next_low o ol) Q l)

  pub other_queue : (q : ℕ) → (q ≡ next_of 3 o → ⊥) → (first count : ℕ) (rows : List (List ℕ)) → Queue lines q first count rows →
      Queue (pushed lines (next_of 3 o) (first_at d (next_of 3 o) + count_at d (next_of 3 o)) R.row (length fs)) q first count rows
  other_queue q ne first count rows Q =
      rw F.left
      (pushed_other lines long fs F.fit (drop (length (rows_of fs)) row) (next_of 3 o) (first_at d (next_of 3 o) + count_at d (next_of 3 o)) q first count rows ne Q (length fs) (omega arith))

module _ (g : Scene) (d : Desk) (stores lines : List ℕ) (S : Shows g d stores lines) (i : ℕ) (il : i < 4) (plot value : ℕ) (row : List ℕ) where
  ol : place_at d i < 3
  ol = S.placed i il

  abbrev o : ℕ
  o = place_at d i

  abbrev R : Result (List ℕ) (List ℕ)
  R = write (part stores (1747 * place_at d i) 1747) (content_of (session_at d i)) plot value row

  abbrev r : Tracked
  r = (S.session i il).tracked

  abbrev C : Call
  C = writing (place_at d i) i plot value row

  play_is : play row g (Write i plot value) ≡ settled g C R.code (wrote_reply R.session.own)
  unfolding play play_write
  play_is = rw (lt-ltb i 4 il, S.place, (S.session i il).found, (S.session i il).content, ← S.store (place_at d i) ol)

  step_refused : (c : ℕ) → R.code ≡ suc c → step over_words 3 g.ring C ≡ refused_by over_words 3 g.ring (place_at d i) i r R
  unfolding step over_words
  step_refused c h = rw (lt-ltb (place_at d i) 3 ol, (S.session i il).found, (S.session i il).content, ← S.store (place_at d i) ol, h)

  step_wrote : R.code ≡ 0 → step over_words 3 g.ring C ≡ wrote over_words 3 g.ring (place_at d i) i r R
  unfolding step over_words
  step_wrote h = rw (lt-ltb (place_at d i) 3 ol, (S.session i il).found, (S.session i il).content, ← S.store (place_at d i) ol, h)

  pub write_refused : (c : ℕ) → R.code ≡ suc c → Plays row g (Write i plot value) (record { desk = d; reply = Refused (suc c) }) stores lines
  unfolding settled
  write_refused c h =
      plays_by row g (Write i plot value) d (Refused (suc c)) stores lines (record { ring = refused_by over_words 3 g.ring (place_at d i) i r R; place = g.place })
      (play_is ∙ ap (λ (x : ℕ). settled g C x (wrote_reply R.session.own)) h ∙ (λ i. (record { ring = step_refused c h i; place = g.place }, Refused (suc c))))
      (let L = write_words_refused (part stores (1747 * place_at d i) 1747) (content_of (session_at d i)) plot value row (λ (z : R.code ≡ 0). omega arith) in
      refused_shows g d stores lines S (place_at d i) ol R L.store i il r L.session)

  module _ (z : R.code ≡ 0) (fs : List Frame) (F : Sends R row fs) where
    sent_length : length R.sent ≡ length fs
    sent_length = ap length F.sent ∙ length_map frame_words fs

    next_length : length ((wrote over_words 3 g.ring (place_at d i) i r R).lines (next_of 3 (place_at d i))) ≡ count_at d (next_of 3 (place_at d i)) + length fs
    next_length =
        ap length (upd_same g.ring.lines (next_of 3 (place_at d i)) (g.ring.lines (next_of 3 (place_at d i)) ++ R.sent))
        ∙ omega (arith, length-append (g.ring.lines (next_of 3 (place_at d i))) R.sent, sent_length, (S.line (next_of 3 (place_at d i)) (next_low (place_at d i) ol)).counted)

    pub write_full : 32 < count_at d (next_of 3 (place_at d i)) + length fs → Plays row g (Write i plot value) (record { desk = d; reply = Full }) stores lines
    unfolding settled
    write_full l =
        plays_by row g (Write i plot value) d Full stores lines g
        (play_is ∙ ap (λ (x : ℕ). settled g C x (wrote_reply R.session.own)) z ∙ ap (λ (b : Bool). cond b (g, Full) (called g C, wrote_reply R.session.own)) jam) S
      where
        jam : crowded (step over_words 3 g.ring C) ≡ true
        jam = ap crowded (step_wrote z) ∙ jammed (wrote over_words 3 g.ring (place_at d i) i r R) (next_of 3 (place_at d i)) (next_low (place_at d i) ol) (omega (arith, next_length))

    module _ (l : count_at d (next_of 3 (place_at d i)) + length fs ≤ 32) (size : length R.store ≡ 1747) (s : Session) (content : R.session ≡ content_of s) (own : length s.own ≡ 16) where
      quiet : crowded (step over_words 3 g.ring C) ≡ false
      quiet = ap crowded (step_wrote z) ∙ calm (wrote over_words 3 g.ring (place_at d i) i r R) few
        where
          few : (q : ℕ) → q < 3 → length ((wrote over_words 3 g.ring (place_at d i) i r R).lines q) ≤ 32
          few q ql =
              ⊎_elim (λ (e : q ≡ next_of 3 (place_at d i)). rw e (omega (arith, next_length)))
              (λ (e : q ≡ next_of 3 (place_at d i) → ⊥).
              rw (upd_other g.ring.lines (next_of 3 (place_at d i)) (g.ring.lines (next_of 3 (place_at d i)) ++ R.sent) q e) (line_few g d stores lines S q ql))
              (eq_or_ne q (next_of 3 (place_at d i)))

      abbrev d' : Desk
      d' = with_session (with_frames d (next_of 3 (place_at d i)) (length fs)) i s

      abbrev lines' : List ℕ
      lines' = pushed lines (next_of 3 (place_at d i)) (first_at d (next_of 3 (place_at d i)) + count_at d (next_of 3 (place_at d i))) R.row (length fs)

      line' : (q : ℕ) → q < 3 → Queue lines' q (first_at d q) (count_at d' q) ((wrote over_words 3 g.ring (place_at d i) i r R).lines q)
      line' q ql =
          ⊎_elim
          (λ (e : q ≡ next_of 3 (place_at d i)).
          subst (λ (x : ℕ). Queue lines' x (first_at d x) (count_at d' x) ((wrote over_words 3 g.ring (place_at d i) i r R).lines x)) (sym e)
          (rw (
            get_or-set_same d.count (next_of 3 (place_at d i)) (count_at d (next_of 3 (place_at d i)) + length fs) 0 (omega (arith, S.three_counts, next_low (place_at d i) ol)),
            upd_same g.ring.lines (next_of 3 (place_at d i)) (g.ring.lines (next_of 3 (place_at d i)) ++ R.sent),
          )
          (next_queue lines S.long_lines d S.three_counts R row fs F (place_at d i) ol (g.ring.lines (next_of 3 (place_at d i))) (S.line (next_of 3 (place_at d i)) (next_low (place_at d i) ol)) l)))
          (λ (e : q ≡ next_of 3 (place_at d i) → ⊥).
          rw (
            get_or-set_other d.count (next_of 3 (place_at d i)) q (count_at d (next_of 3 (place_at d i)) + length fs) 0 e,
            upd_other g.ring.lines (next_of 3 (place_at d i)) (g.ring.lines (next_of 3 (place_at d i)) ++ R.sent) q e,
          )
          (other_queue lines S.long_lines d S.three_counts R row fs F (place_at d i) ol q e (first_at d q) (count_at d q) (g.ring.lines q) (S.line q ql)))
          (eq_or_ne q (next_of 3 (place_at d i)))

      pub write_done : Plays row g (Write i plot value) (record { desk = d'; reply = wrote_reply R.session.own }) (sets stores (1747 * place_at d i) R.store) lines'
      unfolding settled
      write_done =
          plays_by row g (Write i plot value) d' (wrote_reply R.session.own) (sets stores (1747 * place_at d i) R.store) lines'
          (record { ring = wrote over_words 3 g.ring (place_at d i) i r R; place = g.place })
          (play_is
          ∙ ap (λ (x : ℕ). settled g C x (wrote_reply R.session.own)) z
          ∙ ap (λ (b : Bool). cond b (g, Full) (called g C, wrote_reply R.session.own)) quiet
          ∙ (λ i. (record { ring = step_wrote z i; place = g.place }, wrote_reply R.session.own)))
          (record {
            four = length-set d.sessions i s ∙ S.four;
            four_places = S.four_places;
            three = S.three;
            three_counts = length-set d.count (next_of 3 (place_at d i)) (count_at d (next_of 3 (place_at d i)) + length fs) ∙ S.three_counts;
            long_stores = length-sets stores (1747 * place_at d i) R.store ∙ S.long_stores;
            long_lines = pushed_length lines (next_of 3 (place_at d i)) (first_at d (next_of 3 (place_at d i)) + count_at d (next_of 3 (place_at d i))) R.row (length fs) ∙ S.long_lines;
            store = store_in stores R.store (place_at d i) ol S.long_stores size g.ring.stores S.store;
            offices = word_in 0 3 g.ring.stores (place_at d i) R.store F.offices S.offices;
            plots = word_in 2 64 g.ring.stores (place_at d i) R.store F.plots S.plots;
            line = line';
            session = session_in g.ring.sessions d.sessions i _ s il S.four content own S.session;
            place = S.place;
            placed = S.placed;
          })
