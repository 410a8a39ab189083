-- From what a write answers to a line played. Assumes nothing.
use Rattle.std.proofs.Common.{Err, Ok, Result as Answer}
use Prim.Native.Nat.{ℕ, suc, ◌*◌, ◌+◌, ◌<◌, ◌≤◌}
use mathlib.Core.List.{List}
use mathlib.Core.Path.{◌∙◌, ◌≡◌, ap, refl, subst, sym}
use native.Mathlib.Omega.{arith}
use lib.ListN.{drop, get_or, length, set}
use lib.Seq.{length-sets, set-get_or, sets}
use Rattle.causal.specs.Lists.{part}
use Rattle.causal.proofs.Lists.{part_length}
use Rattle.frame.specs.Calls.{laid}
use Rattle.frame.specs.Entries.{blank_entry}
use Rattle.frame.specs.Refusals.{number_of}
use Rattle.frame.specs.Sessions.{content_of}
use Rattle.frame.specs.Tokens.{rows_of}
use Rattle.frame.specs.declared.entry.Entry.{Entry}
use Rattle.frame.specs.declared.entry.Frame.{Frame}
use Rattle.frame.specs.declared.refusal.Refusal.{Refusal}
use Rattle.frame.specs.declared.session.Session.{Session}
use Rattle.frame.proofs.OwnTurns.{count_is}
use Rattle.store.specs.Offices.{office_of}
use Rattle.office.specs.Answers.{extended_by, made_by}
use Rattle.office.specs.Calls.{Result, new_entry, write, write_sends}
use Rattle.office.specs.Promises.{MakePromise}
use Rattle.office.proofs.Refused.{write_words_refused}
use Rattle.ring.specs.Run.{next_of}
use Rattle.script.specs.declared.line.Line.{Line}
use Rattle.script.specs.declared.line.Line.TheVariants.{Write}
use Rattle.script.specs.declared.reply.Reply.{Reply}
use Rattle.script.specs.declared.reply.Reply.TheVariants.{Refused}
use Rattle.writing.specs.declared.write.Made.{Made}
use Rattle.writing.specs.Answers.{entry_by, words_by}
use Rattle.player.specs.declared.ahead.Stay.{Stay}
use Rattle.player.specs.declared.ahead.Stay.TheVariants.{Full as StayFull, Refused as StayRefused}
use Rattle.player.specs.declared.board.Board.{Board}
use Rattle.player.specs.Desks.{Cut, Desk, count_at, desk, first_at, no_session, place_at, pushed, session_at, with_frames, with_session}
use Rattle.player.specs.Play.{Scene, wrote_reply}
use Rattle.player.specs.Shows.{Shows}
use Rattle.player.specs.Steps.{Foretells, Plays, stay_reply}
use Rattle.player.proofs.Accepted.{Writes, writes}
use Rattle.player.proofs.Contents.{wrote_name, write_reply, write_session, write_size}
use Rattle.player.proofs.PlayWrite.{Sends, write_done, write_full, write_refused}
use Rattle.player.proofs.Refusals.{not_written, refused_as, words_code}
use Rattle.player.proofs.Room.{cut_rows}
use Rattle.player.proofs.Scenes.{store_same}

-- a session put where it stands already
pub same_desk : (ss : List Session) (i : ℕ) (s : Session) (b : Board) → get_or ss i no_session ≡ s → desk ss b ≡ desk (set ss i s) b
same_desk ss i s b e = ap (λ (l : List Session). desk l b) (sym (set-get_or ss i no_session)) ∙ ap (λ (x : Session). desk (set ss i x) b) e

-- where all stays
pub stays : (row : List ℕ) (g : Scene) (line : Line) (ss : List Session) (i : ℕ) (s : Session) (b : Board) (reply : Reply) (stores lines : List ℕ)
    → get_or ss i no_session ≡ s → Plays row g line (record { desk = desk ss b; reply = reply }) stores lines
    → Plays row g line (record { desk = desk (set ss i s) b; reply = reply }) stores lines
stays row g line ss i s b reply stores lines q P = subst (λ (x : Desk). Plays row g line (record { desk = x; reply = reply }) stores lines) (same_desk ss i s b q) P

-- what a promise says of each answer of a write
pub made_done : (P : Answer ℕ Refusal → Entry → Type 0) (r : Answer Made Refusal) (m : Made) → r ≡ Ok m → P (words_by r) (entry_by r) → P (Ok m.words) m.entry
unfolding words_by entry_by
made_done P r m e p = subst (λ (x : Answer Made Refusal). P (words_by x) (entry_by x)) e p

pub made_refused : (P : Answer ℕ Refusal → Entry → Type 0) (r : Answer Made Refusal) (x : Refusal) → r ≡ Err x → P (words_by r) (entry_by r) → P (Err x) blank_entry
unfolding words_by entry_by
made_refused P r x e p = subst (λ (y : Answer Made Refusal). P (words_by y) (entry_by y)) e p

module _ (g : Scene) (d : Desk) (stores lines : List ℕ) (S : Shows g d stores lines) (i : ℕ) (il : i < 4) (s : Session) (own : session_at d i ≡ s) (plot value : ℕ) (row : List ℕ) (next : ℕ) (e : next ≡ next_of 3 (place_at d i)) where
  abbrev ws : List ℕ
  ws = part stores (1747 * place_at d i) 1747

  abbrev R : Result (List ℕ) (List ℕ)
  R = write ws (content_of s) plot value row

  abbrev fs : List Frame
  fs = write_sends (office_of ws) (content_of s) plot value

  ol : place_at d i < 3
  ol = S.placed i il

  same : write ws (content_of (session_at d i)) plot value row ≡ R
  same = ap (λ (x : Session). write ws (content_of x) plot value row) own

  size : length s.own ≡ 16
  size = ap (λ (x : Session). length x.own) (sym own) ∙ (S.session i il).size

  facts : R.code ≡ 0 → Writes ws (content_of s) plot value row fs
  facts =
      writes ws (ap (λ (l : List ℕ). get_or l 0 0) (S.store (place_at d i) ol) ∙ S.offices (place_at d i) ol) (ap (λ (l : List ℕ). get_or l 2 0) (S.store (place_at d i) ol) ∙ S.plots (place_at d i) ol)
      (content_of s) plot value row

  sends : R.code ≡ 0 → Sends (write ws (content_of (session_at d i)) plot value row) row fs
  unfolding laid
  sends z =
      let F = facts z in
      subst (λ (Q : Result (List ℕ) (List ℕ)). Sends Q row fs) (sym same)
      (record { sent = F.sent; left = F.left; fit = F.fit; offices = F.offices; plots = F.plots })

  refused : (c : ℕ) → R.code ≡ suc c → Plays row g (Write i plot value) (record { desk = d; reply = Refused (suc c) }) stores lines
  refused c h = write_refused g d stores lines S i il plot value row c (ap (λ (Q : Result (List ℕ) (List ℕ)). Q.code) same ∙ h)

  -- what was said ahead of the call
  module _ (r : Answer Unit Stay) (A : Foretells R.code (length fs) (get_or d.count next 0) r) where
    told : (q : Answer Unit Stay) → r ≡ q → Foretells R.code (length fs) (count_at d (next_of 3 (place_at d i))) q
    told q h = subst (λ (x : ℕ × Answer Unit Stay). Foretells R.code (length fs) (get_or d.count x.0 0) x.1) (λ i. (e i, h i)) A

    pub ahead_stays : (x : Stay) → r ≡ Err x → Plays row g (Write i plot value) (record { desk = d; reply = stay_reply x }) stores lines
    ahead_stays StayFull h =
        let t = told (Err StayFull) h in
        write_full g d stores lines S i il plot value row (ap (λ (Q : Result (List ℕ) (List ℕ)). Q.code) same ∙ t.0) fs (sends t.0) t.1
    ahead_stays (StayRefused x) h =
        refused_as (λ n. Plays row g (Write i plot value) (record { desk = d; reply = Refused n }) stores lines) R.code refused (number_of x) x refl (told (Err (StayRefused x)) h)

    pub ahead_goes : (x : Unit) → r ≡ Ok x → R.code ≡ 0 → get_or d.count next 0 + length fs ≤ 32
    ahead_goes x h z = rw e (told (Ok x) h z)

  module _ (stores' row' : List ℕ) (left : stores' ≡ sets stores (1747 * place_at d i) (part stores' (1747 * place_at d i) 1747)) where
    abbrev pub Promised : Answer ℕ Refusal → Entry → Type 0
    Promised written entry = MakePromise ws s plot value row written entry (part stores' (1747 * place_at d i) 1747) row'

    module _ (written : Answer ℕ Refusal) (entry : Entry) (A : Promised written entry) where
      left_is : stores' ≡ sets stores (1747 * place_at d i) R.store
      left_is = left ∙ ap (sets stores (1747 * place_at d i)) A.0.2

    pub line_refused : (x : Refusal) (entry : Entry) → Promised (Err x) entry → Plays row g (Write i plot value) (record { desk = d; reply = Refused (number_of x) }) stores' lines
    line_refused x entry A =
        refused_as (λ n. Plays row g (Write i plot value) (record { desk = d; reply = Refused n }) stores' lines) R.code
        (λ c q.
        subst (λ (l : List ℕ). Plays row g (Write i plot value) (record { desk = d; reply = Refused (suc c) }) l lines)
        (sym (left_is (Err x) entry A ∙ ap (sets stores (1747 * place_at d i)) (write_words_refused ws (content_of s) plot value row (λ (z : R.code ≡ 0). omega arith)).store ∙ store_same stores (1747 * place_at d i) 1747 (omega (arith, ol, S.long_stores))))
        (refused c q))
        (number_of x) x refl (not_written (Err x) x _ A.0.0 refl)

    module _ (words : ℕ) (entry : Entry) (A : Promised (Ok words) entry) where
      pub code : R.code ≡ 0
      code = (words_code (Ok words) words _ A.0.0 refl).0

      words_are : words ≡ length (rows_of fs)
      words_are = (words_code (Ok words) words _ A.0.0 refl).1 ∙ (facts code).count

      pub cut : Cut row' words (length fs)
      unfolding laid
      cut = rw (words_are, A.0.3 ∙ (facts code).left) (cut_rows fs (facts code).fit (drop (length (rows_of fs)) row))

      pub small : words ≤ length row
      small = omega (arith, words_are, (facts code).room)

      pub few : s.count < 16
      few = omega (arith, count_is s, (facts code).few)

      made : entry ≡ new_entry (office_of ws) (content_of s) plot value
      unfolding made_by
      made = A.1 ∙ ap (λ (c : ℕ). made_by c (new_entry (office_of ws) (content_of s) plot value)) code

      stored : length R.store ≡ 1747
      stored =
          ap length (sym A.0.2)
          ∙ part_length stores' (1747 * place_at d i) 1747 (omega (arith, ol, S.long_stores, ap length left ∙ length-sets stores (1747 * place_at d i) (part stores' (1747 * place_at d i) 1747)))

      pub line_done : get_or d.count next 0 + length fs ≤ 32 → (d' : Desk) (lines' : List ℕ) → d' ≡ with_frames d next (length fs)
          → lines' ≡ pushed lines next (first_at d next + count_at d next) row' (length fs)
          → Plays row g (Write i plot value) (record { desk = with_session d' i (extended_by s entry); reply = wrote_name entry }) stores' lines'
      line_done l d' lines' a b =
          subst (λ (x : (Desk × Reply) × (List ℕ × List ℕ)). Plays row g (Write i plot value) (record { desk = x.0.0; reply = x.0.1 }) x.1.0 x.1.1)
          (λ j. (
            (with_session (sym (a ∙ ap (λ (x : ℕ). with_frames d x (length fs)) e) j) i (extended_by s (sym made j)), (ap (λ (Q : Result (List ℕ) (List ℕ)). wrote_reply Q.session.own) same ∙ write_reply ws s size plot value row code ∙ ap wrote_name (sym made)) j),
            (
              (ap (λ (Q : Result (List ℕ) (List ℕ)). sets stores (1747 * place_at d i) Q.store) same ∙ sym (left_is (Ok words) entry A)) j,
              (ap (λ (Q : Result (List ℕ) (List ℕ)). onto (next_of 3 (place_at d i)) Q.row) same ∙ (λ k. onto (sym e k) (sym A.0.3 k)) ∙ sym b) j,
            ),
          ))
          (write_done g d stores lines S i il plot value row (ap (λ (Q : Result (List ℕ) (List ℕ)). Q.code) same ∙ code) fs (sends code) (rw e at l) (ap (λ (Q : Result (List ℕ) (List ℕ)). length Q.store) same ∙ stored)
          (extended_by s (new_entry (office_of ws) (content_of s) plot value))
          (ap (λ (Q : Result (List ℕ) (List ℕ)). Q.session) same ∙ write_session ws s size plot value row code (facts code).few) (write_size ws s size (new_entry (office_of ws) (content_of s) plot value)))
        where
          onto : ℕ → List ℕ → List ℕ
          onto n x = pushed lines n (first_at d n + count_at d n) x (length fs)
