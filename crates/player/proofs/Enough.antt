-- "its rows are long enough that it never prints refusal 8". Assumes nothing.
use Rattle.std.proofs.Common.{None, Some}
use Prim.Native.Nat.{ℕ, suc, zero, ◌<◌}
use mathlib.Core.Bool.{Bool, cond, false, true}
use mathlib.Core.List.{List, [], ◌∷◌}
use mathlib.Core.Path.{◌≡◌, ap, refl}
use native.Mathlib.Omega.{arith}
use lib.Dec.{eqb, leb, ltb}
use lib.ListN.{get_or, length}
use borrow.Author.Tests.{eqb-false, le-leb, ltb-true}
use Rattle.causal.specs.Codes.{check, or_else}
use Rattle.causal.specs.Sets.{subset_of}
use Rattle.causal.specs.Tests.{both, either}
use Rattle.causal.proofs.Tests.{false_true}
use Rattle.frame.specs.Frames.{accepts, frame_of, frame_ok, frame_words}
use Rattle.frame.specs.Sessions.{Content, fresh_content, session_ok}
use Rattle.frame.specs.Tokens.{rows_of}
use Rattle.frame.specs.declared.entry.Entry.{Entry}
use Rattle.frame.specs.declared.entry.Frame.{Frame}
use Rattle.frame.proofs.Back.{accepted_ok}
use Rattle.frame.proofs.Entries.{entry_facts, frame_facts}
use Rattle.frame.proofs.Sessions.{session_facts}
use Rattle.store.specs.Offices.{Found as StoreFound, Office, made, office_of, sound_store}
use Rattle.office.specs.Calls.{Result, entry_code, given, onward, own_code, parsed, read_code, read_on, read_plot, receive, receive_code, receive_on, worded, write, write_code, write_on, write_sends}
use Rattle.ring.specs.Run.{Call, Tracked, at}
use Rattle.script.specs.declared.line.Line.{Line}
use Rattle.script.specs.declared.line.Line.TheVariants.{Move, Other, Read, Receive, Write}
use Rattle.script.specs.declared.reply.Reply.{Reply}
use Rattle.script.specs.declared.reply.Reply.TheVariants.{Found, Full, Moved, NoEntry, NoFrame, Odd, Received, Refused, Wrote}
use Rattle.player.specs.Play.{Scene, called, crowded, place_of, play, play_read, play_receive, play_write, read_reply, settled, wrote_reply}
use Rattle.player.proofs.Accepted.{sends_few, sends_fit}
use Rattle.player.proofs.Room.{Fit3, frame_room, rows_bound}

-- ---- the numbers of the calls

worded_code : (b : Bool) (ws : List ℕ) (s : Content) (row : List ℕ) (R : Result Office Frame) → (R.code ≡ 8 → ⊥) → (worded b ws s row R).code ≡ 8 → ⊥
worded_code true ws s row R h e = h e
worded_code false ws s row R h e = omega arith

given_code : (c : ℕ) (O : Office) (s : Content) (row : List ℕ) (R : Result Office Frame) → R.code ≡ 0 → (c ≡ 8 → ⊥) → (given c O s row R).code ≡ 8 → ⊥
given_code zero O s row R z h e = omega (arith, z)
given_code (suc c) O s row R z h e = h e

-- a check with another number
pass : (t : Bool) (k rest : ℕ) → (k ≡ 8 → ⊥) → (rest ≡ 8 → ⊥) → check t k rest ≡ 8 → ⊥
unfolding check
pass true k rest a b e = b e
pass false k rest a b e = a e

stops : (k rest : ℕ) → (k ≡ 8 → ⊥) → check false k rest ≡ 8 → ⊥
unfolding check
stops k rest h e = h e

held : (t : Bool) → t ≡ true → check t 8 0 ≡ 8 → ⊥
unfolding check
held true h e = omega arith
held false h e = false_true {A = ⊥} h

first : (a b : ℕ) → (a ≡ 8 → ⊥) → (b ≡ 8 → ⊥) → or_else a b ≡ 8 → ⊥
unfolding or_else
first zero b h k e = k e
first (suc a) b h k e = h e

no : (n : ℕ) → eqb n 8 ≡ false → n ≡ 8 → ⊥
no n h e = eqb-false n 8 h e

entry_never : (O : Office) (e : Entry) → entry_code O e ≡ 8 → ⊥
unfolding entry_code
entry_never O e = pass _ 10 _ (no 10 refl) (pass _ 11 0 (no 11 refl) (no 0 refl))

own_never : (O : Office) (es : List Entry) → own_code O es ≡ 8 → ⊥
unfolding own_code
own_never O [] = no 0 refl
own_never O (e ∷ es) = first (entry_code O e) (own_code O es) (entry_never O e) (own_never O es)

-- ---- reading

read_never : (ws : List ℕ) (s : Content) (plot : ℕ) → (read_plot ws s plot).code ≡ 8 → ⊥
unfolding read_plot read_on read_code
read_never ws s plot =
    worded_code (sound_store ws) ws s [] _ (given_code _ (office_of ws) s [] _ refl (pass _ 3 _ (no 3 refl) (pass _ 4 _ (no 4 refl) (pass _ 12 0 (no 12 refl) (no 0 refl)))))

-- ---- writing: at most 17 frames of at most 103 words

module _ (ws : List ℕ) (n : get_or ws 0 0 ≡ 3) (s : Content) (plot value : ℕ) (row : List ℕ) (long : length row ≡ 1751) where
  O-n : (office_of ws).offices ≡ 3
  unfolding office_of
  O-n = n

  room : session_ok (office_of ws).offices (office_of ws).plots s ≡ true → leb (length (rows_of (write_sends (office_of ws) s plot value))) (length row) ≡ true
  room ok =
      let h = rw O-n at ok in
      le-leb (length (rows_of (write_sends (office_of ws) s plot value))) (length row)
      (omega (
        arith,
        long,
        rows_bound (write_sends (office_of ws) s plot value) (sends_fit (office_of ws).plots s h (office_of ws) O-n plot value) [],
        sends_few (office_of ws) s plot value,
        (session_facts 3 (office_of ws).plots s h).few,
      ))

  pub write_never : (write ws s plot value row).code ≡ 8 → ⊥
  unfolding write write_on write_code
  write_never = worded_code (sound_store ws) ws s row _ (given_code _ (office_of ws) s row _ refl (go (session_ok (office_of ws).offices (office_of ws).plots s) refl))
    where
      go : (t : Bool) → session_ok (office_of ws).offices (office_of ws).plots s ≡ t
          → check t 3 (check (ltb plot (office_of ws).plots) 4 (check (ltb value 268435456) 5 (check (ltb (length s.own) 16) 7 (check (ltb (made (office_of ws)) 32) 6 (check (subset_of s.read (office_of ws).held) 12 (or_else (own_code (office_of ws) s.own) (check (leb (length (rows_of (write_sends (office_of ws) s plot value))) (length row)) 8 0))))))) ≡ 8 → ⊥
      go false e = stops 3 _ (no 3 refl)
      go true e =
          pass true 3 _ (no 3 refl)
          (pass _ 4 _ (no 4 refl)
          (pass _ 5 _ (no 5 refl)
          (pass _ 7 _ (no 7 refl)
          (pass _ 6 _ (no 6 refl)
          (pass _ 12 _ (no 12 refl)
          (first (own_code (office_of ws) s.own) _ (own_never (office_of ws) s.own) (held (leb (length (rows_of (write_sends (office_of ws) s plot value))) (length row)) (room e))))))))

-- ---- receiving: a frame of at most 103 words

onward_fit : (f : Frame) (p : ℕ) → frame_ok 3 p f ≡ true → Fit3 (onward f)
onward_fit f p ok = let F = frame_facts 3 p f ok in record { ring = F.ring; deps = (entry_facts 3 p f.entry F.entry).deps }

either_held : (a b : Bool) → b ≡ true → either a b ≡ true
unfolding either
either_held true b h = refl
either_held false b h = h

module _ (ws : List ℕ) (n : get_or ws 0 0 ≡ 3) (frame row : List ℕ) (long : length row ≡ 1751) where
  R-n : (office_of ws).offices ≡ 3
  unfolding office_of
  R-n = n

  pub receive_never : (receive ws frame row).code ≡ 8 → ⊥
  unfolding receive receive_on receive_code
  receive_never = worded_code (sound_store ws) ws (fresh_content 0) row _ (go (accepts (office_of ws).offices (office_of ws).plots frame) refl)
    where
      fits : accepts (office_of ws).offices (office_of ws).plots frame ≡ true → leb (length (frame_words (onward (frame_of frame)))) (length row) ≡ true
      fits t =
          let ok = rw R-n at (accepted_ok (office_of ws).offices (office_of ws).plots frame t) in
          le-leb (length (frame_words (onward (frame_of frame)))) (length row)
          (omega (arith, long, frame_room (onward (frame_of frame)) (onward_fit (frame_of frame) (office_of ws).plots ok)))

      go : (t : Bool) → accepts (office_of ws).offices (office_of ws).plots frame ≡ t → (parsed t (office_of ws) row (receive_on (office_of ws) (frame_of frame) row)).code ≡ 8 → ⊥
      go false e = no 9 refl
      go true e =
          given_code _ (office_of ws) (fresh_content 0) row _ refl
          (first (entry_code (office_of ws) (frame_of frame).entry) _ (entry_never (office_of ws) (frame_of frame).entry)
          (pass _ 12 _ (no 12 refl)
          (held (either (eqb (frame_of frame).hops 0) (leb (length (frame_words (onward (frame_of frame)))) (length row)))
          (either_held (eqb (frame_of frame).hops 0) (leb (length (frame_words (onward (frame_of frame)))) (length row)) (fits e)))))

-- ---- the replies

-- the number that a reply refuses with, 0 for none
number_in : Reply → ℕ
number_in (Wrote o s) = 0
number_in (Found v o s) = 0
number_in NoEntry = 0
number_in Moved = 0
number_in (Received n) = 0
number_in NoFrame = 0
number_in (Refused n) = n
number_in Full = 0
number_in Odd = 0

settled_never : (g : Scene) (c : Call) (k : ℕ) (reply : Reply) → (k ≡ 8 → ⊥) → number_in reply ≡ 0 → number_in (settled g c k reply).1 ≡ 8 → ⊥
unfolding settled number_in
settled_never g c zero reply h z = go (crowded (called g c).ring)
  where
    go : (b : Bool) → number_in (cond {A = Scene × Reply} b (g, Full) (called g c, reply)).1 ≡ 8 → ⊥
    go true e = omega arith
    go false e = omega arith
settled_never g c (suc k) reply h z = h

read_zero : (fs : List StoreFound) → number_in (read_reply fs) ≡ 0
unfolding read_reply number_in
read_zero [] = refl
read_zero (None ∷ fs) = refl
read_zero (Some e ∷ fs) = refl

module _ (g : Scene) (three : (o : ℕ) → o < 3 → get_or (g.ring.stores o) 0 0 ≡ 3) (in_ring : (i : ℕ) → i < 4 → place_of g i < 3) (row : List ℕ) (long : length row ≡ 1751) where
  by_test : (b : Bool) (x : Scene × Reply) → (number_in x.1 ≡ 8 → ⊥) → number_in (cond {A = Scene × Reply} b x (g, Odd)).1 ≡ 8 → ⊥
  unfolding number_in
  by_test true x h = h
  by_test false x h = no 0 refl

  placed : (i : ℕ) → ltb i 4 ≡ true → place_of g i < 3
  placed i h = in_ring i (ltb-true i 4 h)

  line_never : (line : Line) → number_in (play row g line).1 ≡ 8 → ⊥
  unfolding play play_write play_read play_receive wrote_reply number_in
  line_never (Write i plot value) = go (ltb i 4) refl (at g.ring.sessions i)
    where
      go : (b : Bool) → ltb i 4 ≡ b → (rs : List Tracked) → number_in (cond {A = Scene × Reply} b (play_write row g (place_of g i) i plot value rs) (g, Odd)).1 ≡ 8 → ⊥
      go false q rs = no 0 refl
      go true q [] = no 0 refl
      go true q (r ∷ rs) = settled_never g _ _ _ (write_never (g.ring.stores (place_of g i)) (three (place_of g i) (placed i q)) r.session plot value row long) refl
  line_never (Read i plot) = go (ltb i 4) (at g.ring.sessions i)
    where
      go : (b : Bool) → (rs : List Tracked) → number_in (cond {A = Scene × Reply} b (play_read g (place_of g i) i plot rs) (g, Odd)).1 ≡ 8 → ⊥
      go false rs = no 0 refl
      go true [] = no 0 refl
      go true (r ∷ rs) = settled_never g _ _ _ (read_never (g.ring.stores (place_of g i)) r.session plot) (read_zero _)
  line_never (Move i o) = by_test (both (ltb i 4) (ltb o 3)) _ (no 0 refl)
  line_never (Receive o) = go (ltb o 3) refl (g.ring.lines o)
    where
      go : (b : Bool) → ltb o 3 ≡ b → (fs : List (List ℕ)) → number_in (cond {A = Scene × Reply} b (play_receive row g o fs) (g, Odd)).1 ≡ 8 → ⊥
      go false q fs = no 0 refl
      go true q [] = no 0 refl
      go true q (f ∷ fs) = settled_never g _ _ _ (receive_never (g.ring.stores o) (three o (ltb-true o 3 q)) f row long) refl
  line_never Other = no 0 refl

  pub never_8_at : (line : Line) → (play row g line).1 ≡ Refused 8 → ⊥
  unfolding number_in
  never_8_at line e = line_never line (ap number_in e)
