-- The content of the session that a write leaves is the one that Calls says; and what a write answers and makes of a session that carries nothing is
-- right whatever stands in its row of entries. Assumes nothing.
use Rattle.std.proofs.Common.{Err, Ok, Result}
use Prim.Native.Nat.{ℕ, zero, suc, ◌+◌, ◌<◌}
use mathlib.Core.Path.{◌≡◌, refl, ap, ap₂, ◌∙◌}
use mathlib.Core.Bool.{Bool, true, false}
use mathlib.Core.List.{List, [], ◌∷◌, ◌++◌}
use native.Mathlib.Omega.{arith}
use lib.Dec.{ltb}
use lib.ListN.{length, get_or, set}
use lib.Seq.{get_or-set_same, get_or-set_other}
use borrow.Author.Tests.{ltb-true}
use Rattle.causal.specs.Lists.{tab}
use Rattle.causal.proofs.Codes.{check_none}
use Rattle.causal.proofs.Lists.{tab_more}
use Rattle.frame.specs.declared.entry.Entry.{Entry}
use Rattle.frame.specs.declared.entry.Frame.{Frame}
use Rattle.frame.specs.declared.session.Session.{Session}
use Rattle.frame.specs.declared.refusal.Refusal.{Refusal}
use Rattle.frame.specs.Calls.{laid}
use Rattle.frame.specs.Refusals.{Reply, number_of, reply_of}
use Rattle.frame.specs.Sessions.{Content, content_of, nobody, session_ok}
use Rattle.frame.specs.Tokens.{rows_of}
use Rattle.frame.proofs.OwnTurns.{count_is}
use Rattle.frame.proofs.Refusals.{number_some}
use Rattle.store.specs.Offices.{Office, office_of, sound_store}
use Rattle.office.specs.Calls.{Result as Outcome, given, worded, new_entry, sent_of, hold_all, write_sends, write_code, write_on, wrote_session, write}
use Rattle.office.specs.Answers.{session_if, extended_by, made_by, with_made, write_session}
use Rattle.office.specs.Decide.{alone}
use Rattle.office.specs.Promises.{MakePromise}

tab_same : (n : ℕ) (f g : ℕ → Entry) → ((i : ℕ) → i < n → f i ≡ g i) → tab n f ≡ tab n g
unfolding tab
tab_same zero f g h = refl
tab_same (suc n) f g h = ap₂ (λ (l : List Entry) (e : Entry). l ++ (e ∷ [])) (tab_same n f g (λ i l. h i (omega arith))) (h n (omega arith))

-- the entry that is put behind the own writes
own_extended : (own : List Entry) (n : ℕ) (e : Entry) → n < length own → tab (n + 1) (λ i. get_or (set own n e) i nobody) ≡ tab n (λ i. get_or own i nobody) ++ (e ∷ [])
own_extended own n e l =
    tab_more n (λ i. get_or (set own n e) i nobody)
    ∙ ap₂ (λ (x : List Entry) (y : Entry). x ++ (y ∷ []))
    (tab_same n (λ i. get_or (set own n e) i nobody) (λ i. get_or own i nobody) (λ i m. get_or-set_other own n i e nobody (λ (q : i ≡ n). omega arith)))
    (get_or-set_same own n e nobody l)

pub content_extended : (s : Session) (e : Entry) → s.count < length s.own → (O : Office) (plot value : ℕ) → e ≡ new_entry O (content_of s) plot value → content_of (extended_by s e) ≡ wrote_session O (content_of s) plot value
unfolding content_of extended_by wrote_session
content_extended s e l O plot value q =
    (λ i.
    record {
      offices = s.offices;
      clock = Rattle.causal.specs.Clocks.join s.clock (q i).clock;
      read = s.read;
      own = (own_extended s.own s.count e l ∙ ap (λ (y : Entry). tab s.count (λ j. get_or s.own j nobody) ++ (y ∷ [])) q) i;
    })

abbrev wrote : Office → Content → ℕ → ℕ → List ℕ → Outcome Office Frame
wrote O s plot value row =
    record {
      code = 0;
      count = length (rows_of (write_sends O s plot value));
      found = [];
      store = hold_all O (sent_of O s plot value);
      session = wrote_session O s plot value;
      row = laid (rows_of (write_sends O s plot value)) row;
      sent = write_sends O s plot value;
    }

room_left : (O : Office) (s : Content) (plot value room : ℕ) → write_code O s plot value room ≡ 0 → length s.own < 16
unfolding write_code
room_left O s plot value room h =
    let a = check_none (session_ok O.offices O.plots s) 3 _ (omega arith) h in
    let b = check_none (ltb plot O.plots) 4 _ (omega arith) a.1 in
    let c = check_none (ltb value 268435456) 5 _ (omega arith) b.1 in
    ltb-true (length s.own) 16 (check_none (ltb (length s.own) 16) 7 _ (omega arith) c.1).0

-- a session of a program has room for 16 own writes
pub write_content : (ws : List ℕ) (s : Session) → length s.own ≡ 16 → (plot value : ℕ) (row : List ℕ) → content_of (write_session ws s plot value row) ≡ (write ws (content_of s) plot value row).session
unfolding write_session write write_on session_if
write_content ws s n plot value row = go (sound_store ws) (write_code (office_of ws) (content_of s) plot value (length row)) refl
  where
    few : write_code (office_of ws) (content_of s) plot value (length row) ≡ 0 → s.count < length s.own
    few h = omega (arith, room_left (office_of ws) (content_of s) plot value (length row) h, count_is s)

    go : (t : Bool) (c : ℕ) → write_code (office_of ws) (content_of s) plot value (length row) ≡ c
        → content_of (session_if (worded t ws (content_of s) row (given c (office_of ws) (content_of s) row (wrote (office_of ws) (content_of s) plot value row))).code s (extended_by s (new_entry (office_of ws) (content_of s) plot value)))
        ≡ (worded t ws (content_of s) row (given c (office_of ws) (content_of s) row (wrote (office_of ws) (content_of s) plot value row))).session
    go true zero e = content_extended s (new_entry (office_of ws) (content_of s) plot value) (few e) (office_of ws) plot value refl
    go true (suc c) e = refl
    go false c e = refl

-- ---- a session that carries nothing

-- the session that is left, by the reply and the entry
left_by : (s : Session) (c w : ℕ) (N : Entry) (r : Result ℕ Refusal) (e : Entry) → ◌≡◌ {A = Reply} (reply_of r) (record { code = c; words = w }) → e ≡ made_by c N
    → with_made s r e ≡ session_if c s (extended_by s N)
unfolding reply_of with_made made_by session_if
left_by s zero w N (Ok m) e p q = ap (extended_by s) q
left_by s (suc c) w N (Ok m) e p q = let n : 0 ≡ suc c = ap (λ (k : Reply). k.code) p in absurd (omega arith)
left_by s zero w N (Err x) e p q = absurd (number_some x (ap (λ (k : Reply). k.code) p))
left_by s (suc c) w N (Err x) e p q = refl

-- what is right for one row of entries is so for every other
pub made_alone : (ws : List ℕ) (n : ℕ) (clock read : List ℕ) (own own' : List Entry) (plot value : ℕ) (row : List ℕ) (r : Result ℕ Refusal) (e : Entry) (ws' row' : List ℕ)
    → MakePromise ws (alone n clock read own) plot value row r e ws' row' → MakePromise ws (alone n clock read own') plot value row r e ws' row'
unfolding content_of tab write_session
made_alone ws n clock read own own' plot value row r e ws' row' h = ((h.0.0, left_by (alone n clock read own') _ _ _ r e h.0.0 h.1, h.0.2, h.0.3), h.1)
