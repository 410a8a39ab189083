-- From what a receiving answers to a line played. Assumes nothing.
use Rattle.std.proofs.Common.{Err, Ok, Result as Answer}
use Prim.Native.Nat.{ℕ, suc, ◌*◌, ◌+◌, ◌-◌, ◌<◌, ◌≤◌}
use mathlib.Core.List.{List, ◌∷◌}
use mathlib.Core.Path.{◌∙◌, ◌≡◌, ap, refl, subst, sym}
use native.Mathlib.Omega.{arith}
use lib.ListN.{drop, get_or, length}
use lib.Seq.{get_or-set_other, length-sets, sets}
use Rattle.causal.specs.Lists.{part}
use Rattle.causal.proofs.Lists.{part_length}
use Rattle.frame.specs.Calls.{laid}
use Rattle.frame.specs.Frames.{frame_of}
use Rattle.frame.specs.Refusals.{number_of, reply_of}
use Rattle.frame.specs.Tokens.{rows_of}
use Rattle.frame.specs.declared.entry.Frame.{Frame}
use Rattle.frame.specs.declared.refusal.Refusal.{Refusal}
use Rattle.office.specs.Calls.{Result, receive, receive_sends}
use Rattle.office.specs.Promises.{ReceivePromise}
use Rattle.office.proofs.Refused.{receive_words_refused}
use Rattle.ring.specs.Run.{next_of}
use Rattle.script.specs.declared.line.Line.TheVariants.{Receive}
use Rattle.script.specs.declared.reply.Reply.TheVariants.{Received, Refused}
use Rattle.player.specs.declared.ahead.Stay.{Stay}
use Rattle.player.specs.declared.ahead.Stay.TheVariants.{Full as StayFull, Refused as StayRefused}
use Rattle.player.specs.Desks.{Cut, Desk, count_at, first_at, pushed, with_frames, without_oldest}
use Rattle.player.specs.Play.{Scene}
use Rattle.player.specs.Shows.{Shows}
use Rattle.player.specs.Steps.{Foretells, Plays, stay_reply}
use Rattle.player.proofs.Accepted.{Receives, receives}
use Rattle.player.proofs.PlayReceive.{receive_done, receive_full, receive_refused}
use Rattle.player.proofs.PlayWrite.{Sends}
use Rattle.player.proofs.Refusals.{not_written, refused_as, words_code}
use Rattle.player.proofs.Room.{cut_rows}
use Rattle.player.proofs.Scenes.{next_ne, store_same}

-- the oldest frame of an office, after others went to the next
pub still : (d d' : Desk) (o next n : ℕ) → o < 3 → next ≡ next_of 3 o → d' ≡ with_frames d next n → (first_at d' o ≡ first_at d o) × (count_at d' o ≡ count_at d o)
still d d' o next n ol q e = (
  ap (λ (x : Desk). first_at x o) e,
  ap (λ (x : Desk). count_at x o) e ∙ get_or-set_other d.count next o (count_at d next + n) 0 (λ h. next_ne o ol (h ∙ q)),
)

module _ (g : Scene) (d : Desk) (stores lines : List ℕ) (S : Shows g d stores lines) (o : ℕ) (ol : o < 3) (row f : List ℕ) (rest : List (List ℕ)) (are : g.ring.lines o ≡ f ∷ rest) (next : ℕ) (e : next ≡ next_of 3 o) where
  abbrev ws : List ℕ
  ws = part stores (1747 * o) 1747

  abbrev R : Result (List ℕ) (List ℕ)
  R = receive ws f row

  abbrev fs : List Frame
  fs = receive_sends (frame_of f)

  facts : R.code ≡ 0 → Receives ws f row fs
  facts = receives ws (ap (λ (l : List ℕ). get_or l 0 0) (S.store o ol) ∙ S.offices o ol) (ap (λ (l : List ℕ). get_or l 2 0) (S.store o ol) ∙ S.plots o ol) f row

  sends : R.code ≡ 0 → Sends R row fs
  unfolding laid
  sends z = let F = facts z in record { sent = F.sent; left = F.left; fit = F.fit; offices = F.offices; plots = F.plots }

  -- what was said ahead of the call
  module _ (r : Answer Unit Stay) (A : Foretells R.code (length fs) (get_or d.count next 0) r) where
    told : (q : Answer Unit Stay) → r ≡ q → Foretells R.code (length fs) (count_at d (next_of 3 o)) q
    told q h = subst (λ (x : ℕ × Answer Unit Stay). Foretells R.code (length fs) (get_or d.count x.0 0) x.1) (λ i. (e i, h i)) A

    pub ahead_stays : (x : Stay) → r ≡ Err x → Plays row g (Receive o) (record { desk = d; reply = stay_reply x }) stores lines
    ahead_stays StayFull h = let t = told (Err StayFull) h in receive_full g d stores lines S o ol row f rest are t.0 fs (sends t.0) t.1
    ahead_stays (StayRefused x) h =
        refused_as (λ n. Plays row g (Receive o) (record { desk = d; reply = Refused n }) stores lines) R.code (receive_refused g d stores lines S o ol row f rest are) (number_of x) x refl (told (Err (StayRefused x)) h)

    pub ahead_goes : (x : Unit) → r ≡ Ok x → R.code ≡ 0 → get_or d.count next 0 + length fs ≤ 32
    ahead_goes x h z = rw e (told (Ok x) h z)

  module _ (r : Answer ℕ Refusal) (stores' row' : List ℕ) (A : ReceivePromise ws f row (reply_of r) (part stores' (1747 * o) 1747) row')
      (left : stores' ≡ sets stores (1747 * o) (part stores' (1747 * o) 1747)) where
    left_is : stores' ≡ sets stores (1747 * o) R.store
    left_is = left ∙ ap (sets stores (1747 * o)) A.1

    pub line_refused : (x : Refusal) → r ≡ Err x → Plays row g (Receive o) (record { desk = d; reply = Refused (number_of x) }) stores' lines
    line_refused x w =
        refused_as (λ n. Plays row g (Receive o) (record { desk = d; reply = Refused n }) stores' lines) R.code
        (λ c q.
        subst (λ (l : List ℕ). Plays row g (Receive o) (record { desk = d; reply = Refused (suc c) }) l lines)
        (sym (left_is ∙ ap (sets stores (1747 * o)) (receive_words_refused ws f row (λ (z : R.code ≡ 0). omega arith)).store ∙ store_same stores (1747 * o) 1747 (omega (arith, S.long_stores))))
        (receive_refused g d stores lines S o ol row f rest are c q))
        (number_of x) x refl (not_written r x _ A.0 w)

    module _ (words : ℕ) (w : r ≡ Ok words) where
      pub code : R.code ≡ 0
      code = (words_code r words _ A.0 w).0

      words_are : words ≡ length (rows_of fs)
      words_are = (words_code r words _ A.0 w).1 ∙ (facts code).count

      pub cut : Cut row' words (length fs)
      cut = rw (words_are, A.2 ∙ (sends code).left) (cut_rows fs (facts code).fit (drop (length (rows_of fs)) row))

      pub small : words ≤ length row
      small = omega (arith, words_are, (facts code).room)

      stored : length R.store ≡ 1747
      stored =
          ap length (sym A.1)
          ∙ part_length stores' (1747 * o) 1747 (omega (arith, S.long_stores, ap length left ∙ length-sets stores (1747 * o) (part stores' (1747 * o) 1747)))

      pub line_done : get_or d.count next 0 + length fs ≤ 32 → (d' : Desk) (lines' : List ℕ) (k : ℕ) → d' ≡ without_oldest (with_frames d next (length fs)) o
          → lines' ≡ pushed lines next (first_at d next + count_at d next) row' (length fs) → k ≡ count_at d o - 1
          → Plays row g (Receive o) (record { desk = d'; reply = Received k }) stores' lines'
      line_done l d' lines' k a b c =
          subst (λ (x : (Desk × ℕ) × (List ℕ × List ℕ)). Plays row g (Receive o) (record { desk = x.0.0; reply = Received x.0.1 }) x.1.0 x.1.1)
          (λ j. (
            (sym (a ∙ ap (λ (x : ℕ). without_oldest (with_frames d x (length fs)) o) e) j, waiting j),
            (sym left_is j, sym (b ∙ (λ i. pushed lines (e i) (first_at d (e i) + count_at d (e i)) (A.2 i) (length fs))) j),
          ))
          (receive_done g d stores lines S o ol row f rest are code fs (sends code) (rw e at l) stored)
        where
          waiting : length rest ≡ k
          waiting = omega (arith, c, (S.line o ol).counted, ap length are)
