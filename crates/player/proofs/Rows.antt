-- The words of an out row as it came make no difference to what a line does, only their number does: its frames are written over them.
-- Assumes nothing.
use Prim.Native.Nat.{ℕ, suc, zero}
use mathlib.Core.Bool.{Bool, cond, false, not, true}
use mathlib.Core.List.{List, [], ◌∷◌}
use mathlib.Core.Path.{◌∙◌, ◌≡◌, ap, refl, subst, sym}
use lib.Dec.{leb, ltb}
use lib.ListN.{get_or, length}
use Rattle.causal.specs.Tests.{all_below}
use Rattle.frame.specs.Calls.{laid}
use Rattle.frame.specs.Frames.{accepts, frame_of}
use Rattle.frame.specs.Sessions.{Content, fresh_content}
use Rattle.frame.specs.Tokens.{rows_of}
use Rattle.store.specs.Offices.{Office, office_of, sound_store}
use Rattle.office.specs.Calls.{Result, given, hold_all, parsed, receive, receive_code, receive_on, receive_sends, received_by, sent_of, worded, write, write_code, write_on, write_sends, wrote_session}
use Rattle.ring.specs.Run.{Call, Tracked, at, over_words, receive_at, receive_by, receiving, step, write_at, write_by, writing}
use Rattle.script.specs.declared.line.Line.{Line}
use Rattle.script.specs.declared.line.Line.TheVariants.{Move, Other, Read, Receive, Write}
use Rattle.script.specs.declared.reply.Reply.{Reply}
use Rattle.script.specs.declared.reply.Reply.TheVariants.{Full, Odd, Received}
use Rattle.player.specs.Desks.{Desk, count_at, first_at, session_at}
use Rattle.player.specs.Play.{Ring, Scene, called, crowded, place_of, play, play_receive, play_write, settled, wrote_reply}
use Rattle.player.specs.Shows.{Queue, Session-is, Shows}

-- ---- a call's result, but for the row

abbrev with_row : {A B : Type 0} → Result A B → List ℕ → Result A B
with_row R x = record { code = R.code; count = R.count; found = R.found; store = R.store; session = R.session; row = x; sent = R.sent }

write_row : (ws : List ℕ) (s : Content) (plot value : ℕ) (row row' : List ℕ) → length row ≡ length row'
    → write ws s plot value row' ≡ with_row (write ws s plot value row) (write ws s plot value row').row
unfolding write write_on
write_row ws s plot value row row' e =
    ap (λ (n : ℕ). Of (sound_store ws) (write_code O s plot value n) row') (sym e)
    ∙ go (sound_store ws) (write_code O s plot value (length row))
    ∙ ap (λ (n : ℕ). with_row (Of (sound_store ws) (write_code O s plot value (length row)) row) (Of (sound_store ws) (write_code O s plot value n) row').row) e
  where
    O : Office
    O = office_of ws

    Of : Bool → ℕ → List ℕ → Result (List ℕ) (List ℕ)
    Of t c r =
        worded t ws s r
        (given c O s r
        (record {
          code = 0;
          count = length (rows_of (write_sends O s plot value));
          found = [];
          store = hold_all O (sent_of O s plot value);
          session = wrote_session O s plot value;
          row = laid (rows_of (write_sends O s plot value)) r;
          sent = write_sends O s plot value;
        }))

    go : (t : Bool) (c : ℕ) → Of t c row' ≡ with_row (Of t c row) (Of t c row').row
    go true zero = refl
    go true (suc c) = refl
    go false c = refl

receive_row : (ws frame row row' : List ℕ) → length row ≡ length row' → receive ws frame row' ≡ with_row (receive ws frame row) (receive ws frame row').row
unfolding receive receive_on
receive_row ws frame row row' e =
    ap (λ (n : ℕ). Of (sound_store ws) fits (receive_code O (frame_of frame) n) row') (sym e)
    ∙ go (sound_store ws) fits (receive_code O (frame_of frame) (length row))
    ∙ ap (λ (n : ℕ). with_row (Of (sound_store ws) fits (receive_code O (frame_of frame) (length row)) row) (Of (sound_store ws) fits (receive_code O (frame_of frame) n) row').row) e
  where
    O : Office
    O = office_of ws

    fits : Bool
    fits = accepts O.offices O.plots frame

    Of : Bool → Bool → ℕ → List ℕ → Result (List ℕ) (List ℕ)
    Of t a c r =
        worded t ws (fresh_content 0) r
        (parsed a O r
        (given c O (fresh_content 0) r
        (record {
          code = 0;
          count = length (rows_of (receive_sends (frame_of frame)));
          found = [];
          store = received_by O (frame_of frame);
          session = fresh_content 0;
          row = laid (rows_of (receive_sends (frame_of frame))) r;
          sent = receive_sends (frame_of frame);
        })))

    go : (t a : Bool) (c : ℕ) → Of t a c row' ≡ with_row (Of t a c row) (Of t a c row').row
    go true true zero = refl
    go true true (suc c) = refl
    go true false c = refl
    go false a c = refl

-- ---- the ring, but for the rows of its events

pub record Alike (g h : Ring) : Type 0 where
  pub stores : g.stores ≡ h.stores
  pub lines : g.lines ≡ h.lines
  pub sessions : g.sessions ≡ h.sessions

alike : (g : Ring) → Alike g g
alike g = record { stores = refl; lines = refl; sessions = refl }

module _ (row row' : List ℕ) (e : length row ≡ length row') (g : Ring) (o : ℕ) where
  writing_alike : (i plot value : ℕ) → Alike (step over_words 3 g (writing o i plot value row)) (step over_words 3 g (writing o i plot value row'))
  unfolding step over_words
  writing_alike i plot value = by (ltb o 3) (at g.sessions i)
    where
      coded : (r : Tracked) (R : Result (List ℕ) (List ℕ)) (x : List ℕ) (c : ℕ) → Alike (write_by over_words 3 g o i r R c) (write_by over_words 3 g o i r (with_row R x) c)
      coded r R x zero = record { stores = refl; lines = refl; sessions = refl }
      coded r R x (suc c) = record { stores = refl; lines = refl; sessions = refl }

      by : (t : Bool) (rs : List Tracked) → Alike (cond t (write_at over_words 3 g o i plot value row rs) g) (cond t (write_at over_words 3 g o i plot value row' rs) g)
      by true [] = alike g
      by true (r ∷ rs) =
          let R = write (g.stores o) r.session plot value row in
          subst (λ (Q : Result (List ℕ) (List ℕ)). Alike (write_by over_words 3 g o i r R R.code) (write_by over_words 3 g o i r Q Q.code)) (sym (write_row (g.stores o) r.session plot value row row' e))
          (coded r R (write (g.stores o) r.session plot value row').row R.code)
      by false rs = alike g

  receiving_alike : Alike (step over_words 3 g (receiving o row)) (step over_words 3 g (receiving o row'))
  unfolding step over_words
  receiving_alike = by (ltb o 3) (g.lines o)
    where
      coded : (rest : List (List ℕ)) (R : Result (List ℕ) (List ℕ)) (x : List ℕ) (c : ℕ) → Alike (receive_by over_words 3 g o rest R c) (receive_by over_words 3 g o rest (with_row R x) c)
      coded rest R x zero = record { stores = refl; lines = refl; sessions = refl }
      coded rest R x (suc c) = record { stores = refl; lines = refl; sessions = refl }

      by : (t : Bool) (fs : List (List ℕ)) → Alike (cond t (receive_at over_words 3 g o row fs) g) (cond t (receive_at over_words 3 g o row' fs) g)
      by true [] = alike g
      by true (f ∷ rest) =
          let R = receive (g.stores o) f row in
          subst (λ (Q : Result (List ℕ) (List ℕ)). Alike (receive_by over_words 3 g o rest R R.code) (receive_by over_words 3 g o rest Q Q.code)) (sym (receive_row (g.stores o) f row row' e))
          (coded rest R (receive (g.stores o) f row').row R.code)
      by false fs = alike g

-- ---- a line

-- the rings are alike, the sessions at the same places, the replies the same
pub record Plays-alike (p q : Scene × Reply) : Type 0 where
  pub ring : Alike p.0.ring q.0.ring
  pub place : p.0.place ≡ q.0.place
  pub reply : p.1 ≡ q.1

same_play : (p : Scene × Reply) → Plays-alike p p
same_play p = record { ring = alike p.0.ring; place = refl; reply = refl }

settled_alike : (g : Scene) (c d : Call) (code : ℕ) (reply : Reply) → Alike (called g c).ring (called g d).ring → Plays-alike (settled g c code reply) (settled g d code reply)
unfolding settled crowded
settled_alike g c d zero reply A =
    subst (λ (t : Bool). Plays-alike (cond (crowded (called g c).ring) (g, Full) (called g c, reply)) (cond t (g, Full) (called g d, reply)))
    (ap (λ (l : ℕ → List (List ℕ)). not (all_below 3 (λ o. leb (length (l o)) 32))) A.lines) (by (crowded (called g c).ring))
  where
    by : (t : Bool) → Plays-alike (cond t (g, Full) (called g c, reply)) (cond t (g, Full) (called g d, reply))
    by true = same_play (g, Full)
    by false = record { ring = A; place = refl; reply = refl }
settled_alike g c d (suc code) reply A = record { ring = A; place = refl; reply = refl }

module _ (row row' : List ℕ) (e : length row ≡ length row') (g : Scene) where
  wrote_alike : (o i plot value : ℕ) (rs : List Tracked) → Plays-alike (play_write row g o i plot value rs) (play_write row' g o i plot value rs)
  unfolding play_write
  wrote_alike o i plot value [] = same_play (play_write row g o i plot value [])
  wrote_alike o i plot value (r ∷ rs) =
      let R = write (g.ring.stores o) r.session plot value row in
      subst
      (λ (Q : Result (List ℕ) (List ℕ)). Plays-alike (settled g (writing o i plot value row) R.code (wrote_reply R.session.own)) (settled g (writing o i plot value row') Q.code (wrote_reply Q.session.own)))
      (sym (write_row (g.ring.stores o) r.session plot value row row' e))
      (settled_alike g (writing o i plot value row) (writing o i plot value row') R.code (wrote_reply R.session.own) (writing_alike row row' e g.ring o i plot value))

  received_alike : (o : ℕ) (fs : List (List ℕ)) → Plays-alike (play_receive row g o fs) (play_receive row' g o fs)
  unfolding play_receive
  received_alike o [] = same_play (play_receive row g o [])
  received_alike o (f ∷ fs) =
      let R = receive (g.ring.stores o) f row in
      subst
      (λ (Q : Result (List ℕ) (List ℕ)). Plays-alike (settled g (receiving o row) R.code (Received (length fs))) (settled g (receiving o row') Q.code (Received (length fs))))
      (sym (receive_row (g.ring.stores o) f row row' e))
      (settled_alike g (receiving o row) (receiving o row') R.code (Received (length fs)) (receiving_alike row row' e g.ring o))

  pub play_alike : (line : Line) → Plays-alike (play row g line) (play row' g line)
  unfolding play
  play_alike (Write i plot value) = by (ltb i 4)
    where
      by : (t : Bool) → Plays-alike (cond t (play_write row g (place_of g i) i plot value (at g.ring.sessions i)) (g, Odd)) (cond t (play_write row' g (place_of g i) i plot value (at g.ring.sessions i)) (g, Odd))
      by true = wrote_alike (place_of g i) i plot value (at g.ring.sessions i)
      by false = same_play (g, Odd)
  play_alike (Read i plot) = same_play (play row g (Read i plot))
  play_alike (Move i o) = same_play (play row g (Move i o))
  play_alike (Receive o) = by (ltb o 3)
    where
      by : (t : Bool) → Plays-alike (cond t (play_receive row g o (g.ring.lines o)) (g, Odd)) (cond t (play_receive row' g o (g.ring.lines o)) (g, Odd))
      by true = received_alike o (g.ring.lines o)
      by false = same_play (g, Odd)
  play_alike Other = same_play (g, Odd)

-- ---- what is shown

pub shows_alike : (g h : Scene) (d : Desk) (stores lines : List ℕ) → Alike g.ring h.ring → g.place ≡ h.place → Shows g d stores lines → Shows h d stores lines
shows_alike g h d stores lines A p S =
    record {
      four = S.four;
      four_places = S.four_places;
      three = S.three;
      three_counts = S.three_counts;
      long_stores = S.long_stores;
      long_lines = S.long_lines;
      store = λ o l. S.store o l ∙ ap (λ (f : ℕ → List ℕ). f o) A.stores;
      offices = λ o l. subst (λ (f : ℕ → List ℕ). get_or (f o) 0 0 ≡ 3) A.stores (S.offices o l);
      plots = λ o l. subst (λ (f : ℕ → List ℕ). get_or (f o) 2 0 ≡ 64) A.stores (S.plots o l);
      line = λ o l. subst (λ (f : ℕ → List (List ℕ)). Queue lines o (first_at d o) (count_at d o) (f o)) A.lines (S.line o l);
      session = λ i l. subst (λ (rs : List Tracked). Session-is (at rs i) (session_at d i)) A.sessions (S.session i l);
      place = sym p ∙ S.place;
      placed = S.placed;
    }
