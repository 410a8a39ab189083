-- A reading of a script, played. Assumes nothing.
use Prim.Native.Nat.{ℕ, suc, ◌*◌, ◌<◌}
use mathlib.Core.Bool.{Bool, cond, false}
use mathlib.Core.List.{List, [], ◌∷◌}
use mathlib.Core.Path.{◌∙◌, ◌≡◌, ap}
use native.Mathlib.Omega.{arith}
use lib.ListN.{get_or, length, length-set}
use lib.Seq.{length-sets, sets}
use borrow.Author.Tests.{lt-ltb}
use Rattle.causal.specs.Lists.{part}
use Rattle.frame.specs.Sessions.{content_of}
use Rattle.frame.specs.declared.session.Session.{Session}
use Rattle.office.specs.Calls.{Result, read_plot}
use Rattle.office.proofs.Refused.{read_words_refused}
use Rattle.ring.specs.Run.{Call, Tracked, over_words, read_in, reading, refused_by, step}
use Rattle.script.specs.declared.line.Line.TheVariants.{Read}
use Rattle.script.specs.declared.reply.Reply.TheVariants.{Full, Refused}
use Rattle.player.specs.Desks.{Desk, place_at, session_at, with_session}
use Rattle.player.specs.Play.{Scene, called, crowded, play, play_read, read_reply, settled}
use Rattle.player.specs.Shows.{Shows}
use Rattle.player.specs.Steps.{Plays}
use Rattle.player.proofs.Scenes.{calm, line_few, refused_shows, session_in, store_in, word_in}
use Rattle.player.proofs.PlayWrite.{plays_by}

module _ (g : Scene) (d : Desk) (stores lines : List ℕ) (S : Shows g d stores lines) (i : ℕ) (il : i < 4) (plot : ℕ) (row : List ℕ) where
  ol : place_at d i < 3
  ol = S.placed i il

  abbrev R : Result (List ℕ) (List ℕ)
  R = read_plot (part stores (1747 * place_at d i) 1747) (content_of (session_at d i)) plot

  abbrev r : Tracked
  r = (S.session i il).tracked

  abbrev C : Call
  C = reading (place_at d i) i plot

  play_is : play row g (Read i plot) ≡ settled g C R.code (read_reply R.found)
  unfolding play play_read
  play_is = rw (lt-ltb i 4 il, S.place, (S.session i il).found, (S.session i il).content, ← S.store (place_at d i) ol)

  step_refused : (c : ℕ) → R.code ≡ suc c → step over_words 3 g.ring C ≡ refused_by over_words 3 g.ring (place_at d i) i r R
  unfolding step over_words
  step_refused c h = rw (lt-ltb (place_at d i) 3 ol, (S.session i il).found, (S.session i il).content, ← S.store (place_at d i) ol, h)

  step_read : R.code ≡ 0 → step over_words 3 g.ring C ≡ read_in over_words 3 g.ring (place_at d i) i r (plot ∷ []) R
  unfolding step over_words
  step_read h = rw (lt-ltb (place_at d i) 3 ol, (S.session i il).found, (S.session i il).content, ← S.store (place_at d i) ol, h)

  pub read_refused : (c : ℕ) → R.code ≡ suc c → Plays row g (Read i plot) (record { desk = d; reply = Refused (suc c) }) stores lines
  unfolding settled
  read_refused c h =
      plays_by row g (Read i plot) d (Refused (suc c)) stores lines (record { ring = refused_by over_words 3 g.ring (place_at d i) i r R; place = g.place })
      (play_is ∙ ap (λ (x : ℕ). settled g C x (read_reply R.found)) h ∙ (λ i. (record { ring = step_refused c h i; place = g.place }, Refused (suc c))))
      (let L = read_words_refused (part stores (1747 * place_at d i) 1747) (content_of (session_at d i)) plot (λ (z : R.code ≡ 0). omega arith) in
      refused_shows g d stores lines S (place_at d i) ol R L.store i il r L.session)

  module _ (z : R.code ≡ 0) (offices : get_or R.store 0 0 ≡ 3) (plots : get_or R.store 2 0 ≡ 64) (size : length R.store ≡ 1747) (s : Session) (content : R.session ≡ content_of s) (own : length s.own ≡ 16) where
    quiet : crowded (step over_words 3 g.ring C) ≡ false
    quiet = ap crowded (step_read z) ∙ calm (read_in over_words 3 g.ring (place_at d i) i r (plot ∷ []) R) (line_few g d stores lines S)

    pub read_done : Plays row g (Read i plot) (record { desk = with_session d i s; reply = read_reply R.found }) (sets stores (1747 * place_at d i) R.store) lines
    unfolding settled
    read_done =
        plays_by row g (Read i plot) (with_session d i s) (read_reply R.found) (sets stores (1747 * place_at d i) R.store) lines
        (record { ring = read_in over_words 3 g.ring (place_at d i) i r (plot ∷ []) R; place = g.place })
        (play_is
        ∙ ap (λ (x : ℕ). settled g C x (read_reply R.found)) z
        ∙ ap (λ (b : Bool). cond b (g, Full) (called g C, read_reply R.found)) quiet
        ∙ (λ i. (record { ring = step_read z i; place = g.place }, read_reply R.found)))
        (record {
          four = length-set d.sessions i s ∙ S.four;
          four_places = S.four_places;
          three = S.three;
          three_counts = S.three_counts;
          long_stores = length-sets stores (1747 * place_at d i) R.store ∙ S.long_stores;
          long_lines = S.long_lines;
          store = store_in stores R.store (place_at d i) ol S.long_stores size g.ring.stores S.store;
          offices = word_in 0 3 g.ring.stores (place_at d i) R.store offices S.offices;
          plots = word_in 2 64 g.ring.stores (place_at d i) R.store plots S.plots;
          line = S.line;
          session = session_in g.ring.sessions d.sessions i _ s il S.four content own S.session;
          place = S.place;
          placed = S.placed;
        })
