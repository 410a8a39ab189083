-- THE CLAIM OVER ANSWERS: every chain of calls whose answers keep their promises leads to the run of the definitions, so the claim holds of
-- it. Assumes nothing.
use Rattle.std.proofs.Common.{Some}
use Prim.Native.Nat.{ℕ, ◌<◌, ◌≤◌, suc, zero}
use mathlib.Core.Bool.{Bool, cond, false, true}
use mathlib.Core.List.Memᴰ
use mathlib.Core.List.{List, Memᴰ, [], ◌++◌, ◌∷◌, map, map-append}
use mathlib.Core.Logic.{◌⊎◌, inl, inr, ⊎_elim}
use mathlib.Core.Path.{◌∙◌, ◌≡◌, ap, refl, sym}
use native.Mathlib.Omega.{arith}
use lib.Dec.{eqb, leb, ltb}
use lib.ListN.{drop, length, set, take}
use lib.Seq.{take_at}
use borrow.Author.Tests.{le-ltb, leb-true, lt-ltb}
use Rattle.causal.specs.Tests.{both}
use Rattle.causal.proofs.Tests.{both_true, lt_or_le}
use Rattle.frame.specs.Calls.{laid}
use Rattle.frame.specs.Entries.{entry_ok, id_of, name_of}
use Rattle.frame.specs.Frames.{accepts, frame_of, frame_words, ring_ok}
use Rattle.frame.specs.Promises.{WriteTokenPromise}
use Rattle.frame.specs.Refusals.{Reply, replied}
use Rattle.frame.specs.Sessions.{Content, content_of, fresh_content}
use Rattle.frame.specs.TokenCalls.{write_token, write_token_code}
use Rattle.frame.specs.Tokens.{token_words}
use Rattle.frame.specs.declared.entry.Entry.{Entry}
use Rattle.frame.specs.declared.entry.Frame.{Frame}
use Rattle.frame.specs.declared.session.Session.{Session}
use Rattle.frame.proofs.Entries.{entry_facts}
use Rattle.frame.proofs.OwnTurns.{content_back}
use Rattle.joining.specs.Joins.{join_code, joined}
use Rattle.store.specs.Offices.{Found, Office, empty_office, need, office_of, reveal, settings_ok, sound_store, store_words}
use Rattle.office.specs.Calls.{Result, answer_words, fresh_code, given, handed, joint_code, joint_on, open_office, parsed, read_all, read_code, read_joint, read_on, read_plot, receive, receive_code, receive_on, worded, write, write_code, write_on}
use Rattle.office.specs.Promises.{JointPromise, ReadPromise, ReceivePromise, WritePromise}
use Rattle.office.proofs.Refused.{receive_words_refused, write_words_refused}
use Rattle.ring.specs.Answers.{ReadAnswer, SessionAnswer, WriteAnswer, Carried, Ring, Said, content_in, joint_back, joint_said, named_in, own_of, read_said, received_said, shown, token_written, wrote_said}
use Rattle.ring.specs.Claim.{Absent, Claim, Opened, Runs, Step, absent, begins_fresh, begun, copies_session, copies_token, joins, more, none, reads, reads_jointly, reads_token, receives, receives_words, writes, writes_token}
use Rattle.ring.specs.Holds.{Holds, Same}
use Rattle.ring.specs.Run.{Call, Event, Made, Tracked, TrackedToken, answered, at, begins, contents_run, copy_session, copy_token, copied_session, copied_token, fresh, from_token, from_token_at, join_at, join_by, joining, joint, joint_at, next_of, noted_event, over_contents, over_words, read_at, read_by, read_left, reading, receive_at, receive_by, receive_left, receiving, receiving_words, refused, refused_by, run, start_by, starting, step, token_reading, token_writing, token_at, token_by, turned, turned_by, upd, with_session, words_by, words_run, write_at, write_by, write_left, writer_past, writing}
use Rattle.ring.proofs.Together.{together_to}
use Rattle.ring.proofs.Cuts.{cut_row, found_row, named_is}
use Rattle.ring.proofs.Fit.{Agrees, Sys, Whole, upd_same}
use Rattle.ring.proofs.Log.{entry_in, log_agrees}
use Rattle.ring.proofs.Promises.{answers_joined, fresh_step, join_step, joint_step, read_step, read_token_step, receive_sends_lem, receive_step, write_sends_lem, write_step, write_token_step}
use Rattle.ring.proofs.SameRun.{WState, accepts_frame, at_map, joint_is, step_same}
use Rattle.ring.proofs.Sized.{Sized, sized_at, step_sized}
use Rattle.ring.proofs.Steps.{Ok, contents_ok, ok_whole, step_ok}
use Rattle.ring.proofs.Theorem.{demand3}

-- ---- an answer as a result

abbrev Res : Type 0
Res = Result (List ℕ) (List ℕ)

abbrev result_of : Said → Res
result_of a =
    record {
      code = a.code;
      count = a.count;
      found = a.found;
      store = a.store;
      session = content_of a.session;
      row = a.row;
      sent = a.sent;
    }

result_is : (a : Said) (R : Res) → a.code ≡ R.code → a.count ≡ R.count → a.found ≡ R.found → a.store ≡ R.store
    → content_of a.session ≡ R.session → a.row ≡ R.row → a.sent ≡ R.sent → result_of a ≡ R
result_is a R c k f w s r l = λ i. record { code = c i; count = k i; found = f i; store = w i; session = s i; row = r i; sent = l i }

-- fields that a call leaves blank
no_found : (t : Bool) (c : ℕ) (ws : List ℕ) (s : Content) (row : List ℕ) (O : Office) (R : Result Office Frame) → R.found ≡ []
    → (worded t ws s row (given c O s row R)).found ≡ []
no_found true zero ws s row O R h = h
no_found true (suc c) ws s row O R h = refl
no_found false c ws s row O R h = refl

no_count : (t : Bool) (c : ℕ) (ws : List ℕ) (s : Content) (row : List ℕ) (O : Office) (R : Result Office Frame) → R.count ≡ 0
    → (worded t ws s row (given c O s row R)).count ≡ 0
no_count true zero ws s row O R h = h
no_count true (suc c) ws s row O R h = refl
no_count false c ws s row O R h = refl

no_row : (t : Bool) (c : ℕ) (ws : List ℕ) (s : Content) (row : List ℕ) (O : Office) (R : Result Office Frame) → R.row ≡ row
    → (worded t ws s row (given c O s row R)).row ≡ row
no_row true zero ws s row O R h = h
no_row true (suc c) ws s row O R h = refl
no_row false c ws s row O R h = refl

no_sent : (t : Bool) (c : ℕ) (ws : List ℕ) (s : Content) (row : List ℕ) (O : Office) (R : Result Office Frame) → R.sent ≡ []
    → (worded t ws s row (given c O s row R)).sent ≡ []
no_sent true zero ws s row O R h = ap (map frame_words) h
no_sent true (suc c) ws s row O R h = refl
no_sent false c ws s row O R h = refl

no_session : (t : Bool) (c : ℕ) (ws : List ℕ) (s : Content) (row : List ℕ) (O : Office) (R : Result Office Frame) → R.session ≡ s
    → (worded t ws s row (given c O s row R)).session ≡ s
no_session true zero ws s row O R h = h
no_session true (suc c) ws s row O R h = refl
no_session false c ws s row O R h = refl

write_found : (ws : List ℕ) (s : Content) (plot value : ℕ) (row : List ℕ) → (over_words.on_write ws s plot value row).found ≡ []
unfolding over_words write write_on
write_found ws s plot value row = no_found (sound_store ws) (write_code (office_of ws) s plot value (length row)) ws s row (office_of ws) _ refl

read_blank : (ws : List ℕ) (s : Content) (plot : ℕ)
    → ((over_words.on_read ws s plot).count ≡ 0) × ((over_words.on_read ws s plot).row ≡ []) × ((over_words.on_read ws s plot).sent ≡ [])
unfolding over_words read_plot read_on
read_blank ws s plot = (
  no_count (sound_store ws) (read_code (office_of ws) s plot) ws s [] (office_of ws) _ refl,
  no_row (sound_store ws) (read_code (office_of ws) s plot) ws s [] (office_of ws) _ refl,
  no_sent (sound_store ws) (read_code (office_of ws) s plot) ws s [] (office_of ws) _ refl,
)

joint_blank : (ws : List ℕ) (s : Content) (plots row : List ℕ)
    → ((over_words.on_joint ws s plots row).count ≡ 0) × ((over_words.on_joint ws s plots row).sent ≡ [])
unfolding over_words read_joint joint_on
joint_blank ws s plots row = (
  no_count (sound_store ws) (joint_code (office_of ws) s plots (length row)) ws s row (office_of ws) _ refl,
  no_sent (sound_store ws) (joint_code (office_of ws) s plots (length row)) ws s row (office_of ws) _ refl,
)

receive_blank : (ws frame row : List ℕ)
    → ((over_words.on_receive ws frame row).found ≡ []) × ((over_words.on_receive ws frame row).session ≡ fresh_content 0)
unfolding over_words receive receive_on
receive_blank ws frame row = go (sound_store ws) (accepts (office_of ws).offices (office_of ws).plots frame)
  where
    received : Result Office Frame
    received = receive_on (office_of ws) (frame_of frame) row

    go : (t a : Bool)
        → ((worded t ws (fresh_content 0) row (parsed a (office_of ws) row received)).found ≡ [])
        × ((worded t ws (fresh_content 0) row (parsed a (office_of ws) row received)).session ≡ fresh_content 0)
    go t true = (
      no_found t (receive_code (office_of ws) (frame_of frame) (length row)) ws (fresh_content 0) row (office_of ws) _ refl,
      no_session t (receive_code (office_of ws) (frame_of frame) (length row)) ws (fresh_content 0) row (office_of ws) _ refl,
    )
    go true false = (refl, refl)
    go false false = (refl, refl)

-- ---- lists

map_set : {A B : Type 0} (f : A → B) (l : List A) (i : ℕ) (a : A) → map f (set l i a) ≡ set (map f l) i (f a)
map_set f [] i a = refl
map_set f (x ∷ l) zero a = refl
map_set f (x ∷ l) (suc i) a = ap (λ t. f x ∷ t) (map_set f l i a)

abbrev with_in : WState → List Tracked → WState
with_in g l = record { stores = g.stores; lines = g.lines; sessions = l; tokens = g.tokens; log = g.log; events = g.events }

-- ---- what is left, shown

module _ (n : ℕ) (σ : Ring) where
  refused_shown : (o i : ℕ) (s : Carried) (a : Said)
      → shown (refused σ o i s a) ≡ refused_by over_words n (shown σ) o i (content_in s) (result_of a)
  refused_shown o i s a =
      ap (with_in (shown (refused σ o i s a))) (map_set content_in σ.sessions i (record { session = a.session; past = s.past }))

  write_shown : (o i : ℕ) (s : Carried) (a : Said) (c : ℕ)
      → shown (write_left own_of n σ o i s a c) ≡ write_by over_words n (shown σ) o i (content_in s) (result_of a) c
  write_shown o i s a zero = ap (with_in (shown (write_left own_of n σ o i s a zero))) (map_set content_in σ.sessions i _)
  write_shown o i s a (suc c) = refused_shown o i s a

  read_shown : (o i : ℕ) (s : Carried) (plots : List ℕ) (a : Said) (c : ℕ)
      → shown (read_left σ o i s plots a c) ≡ read_by over_words n (shown σ) o i (content_in s) plots (result_of a) c
  read_shown o i s plots a zero = ap (with_in (shown (read_left σ o i s plots a zero))) (map_set content_in σ.sessions i _)
  read_shown o i s plots a (suc c) = refused_shown o i s a

  receive_shown : (o : ℕ) (rest : List (List ℕ)) (a : Said) (c : ℕ)
      → shown (receive_left n σ o rest a c) ≡ receive_by over_words n (shown σ) o rest (result_of a) c
  receive_shown o rest a zero = refl
  receive_shown o rest a (suc c) = refl

  words_shown : (o : ℕ) (a : Said) (t : Bool)
      → shown (cond t (turned σ o a) σ) ≡ cond t (turned_by over_words n (shown σ) o (result_of a)) (shown σ)
  words_shown o a true = refl
  words_shown o a false = refl

  copy_shown : (s : Carried) → shown (with_session σ s) ≡ with_session (shown σ) (content_in s)
  copy_shown s = ap (with_in (shown σ)) (map-append content_in σ.sessions (s ∷ []))

  -- a session that is handed out, of the content that the run has
  begins_zero : (s : Session) (past : List ℕ) (t : Content) → content_of s ≡ t
      → shown (begins σ s past 0)
      ≡ with_session (noted_event (shown σ) (answered 0 0 [])) (record { session = t; past = past })
  begins_zero s past t e =
      ap (with_in (shown (begins σ s past 0)))
      (map-append content_in σ.sessions (record { session = s; past = past } ∷ [])
      ∙ ap (λ (x : Content). map content_in σ.sessions ++ (record { session = x; past = past } ∷ [])) e)

  fresh_shown : (s : Session) (m c : ℕ) → (c ≡ 0 → content_of s ≡ fresh_content m)
      → shown (begins σ s [] c) ≡ start_by over_words n (shown σ) m c
  fresh_shown s m zero h = begins_zero s [] (fresh_content m) (h refl)
  fresh_shown s m (suc c) h = refl

  from_shown : (s : Session) (x : TrackedToken (List ℕ)) (c : ℕ) → (c ≡ 0 → content_of s ≡ over_words.token_read x.token)
      → shown (begins σ s x.past c) ≡ from_token over_words n (shown σ) x c
  from_shown s x zero h = begins_zero s x.past (over_words.token_read x.token) (h refl)
  from_shown s x (suc c) h = refl

  join_shown : (s : Session) (a b : Carried) (c : ℕ) → (c ≡ 0 → content_of s ≡ joined (content_of a.session) (content_of b.session))
      → shown (begins σ s (a.past ++ b.past) c) ≡ join_by over_words n (shown σ) (content_in a) (content_in b) c
  join_shown s a b zero h = begins_zero s (a.past ++ b.past) (joined (content_of a.session) (content_of b.session)) (h refl)
  join_shown s a b (suc c) h = refl

  token_shown : (s : Carried) (row : List ℕ) (r : Reply) (row' : List ℕ) → WriteTokenPromise s.session row r row' → (c : ℕ)
      → write_token_code (content_of s.session) (length row) ≡ c
      → shown (token_written σ s r row' c) ≡ token_by over_words n (shown σ) (content_in s) row c
  unfolding write_token replied laid over_words
  token_shown s row r row' h zero e =
      let t = write_token_step s.session row r row' h in
      let u = t.2 e in
      let w : take r.words row' ≡ token_words (content_of s.session) =
      ap (take r.words) u.1
      ∙ take_at (token_words (content_of s.session)) (drop (length (token_words (content_of s.session))) row) r.words (sym u.0)
      in
      λ i.
      record {
        stores = σ.stores;
        lines = σ.lines;
        sessions = map content_in σ.sessions;
        tokens = σ.tokens ++ (record { token = w i; past = s.past } ∷ []);
        log = σ.log;
        events = σ.events ++ (answered 0 (u.0 i) (t.1 i) ∷ []);
      }
  token_shown s row r row' h (suc c) e =
      let k : r.words ≡ 0 =
      ap (λ (x : Reply). x.words) h.0 ∙ ap (λ (x : ℕ). (replied x (length (token_words (content_of s.session)))).words) e
      in
      λ i.
      record {
        stores = σ.stores;
        lines = σ.lines;
        sessions = map content_in σ.sessions;
        tokens = σ.tokens;
        log = σ.log;
        events = σ.events ++ (answered (suc c) (k i) (h.1 i) ∷ []);
      }

-- ---- a step

same_at : (n : ℕ) (rows : ℕ → List ℕ) (g g' : WState) (c : Sys) → g ≡ g' → Same n rows g c → Same n rows g' c
same_at n rows g g' c e S = rw e at S

ok_at : (n p : ℕ) (two : 2 ≤ n) (eight : n ≤ 8) (c c' : Sys) → c ≡ c' → Ok n p two eight c → Ok n p two eight c'
ok_at n p two eight c c' e K = rw e at K

module _ (n p : ℕ) (two : 2 ≤ n) (eight : n ≤ 8) (one : 1 ≤ p) (p64 : p ≤ 64) (rows : ℕ → List ℕ)
    (enough : (o : ℕ) → o < n → need n ≤ length (rows o)) where
  -- every row that waits in a line is a frame
  line_accepted : (g : WState) (c : Sys) → Same n rows g c → Ok n p two eight c → (o : ℕ) (w : List ℕ) → Memᴰ w (g.lines o)
      → accepts n p w ≡ true
  line_accepted g c S k o w m =
      let t = Memᴰ.of_map frame_words (c.lines o) (rw (S.lines o) at m) in
      ap (accepts n p) (sym t.2)
      ∙ accepts_frame n p two eight one p64 (entry_in c.log) (writer_past c.log) c (ok_whole n p two eight c k) o t.0 t.1

  -- what a reading handed back is in the log under its name
  handed_named : (c : Sys) → Ok n p two eight c → (v : Event) → Memᴰ v c.events → (q : ℕ) (e : Entry) → Memᴰ (q, Some e) v.reads
      → named_in c.log (name_of e) ≡ e
  handed_named c k v i q e m =
      let h = (w.events v i).handed q e m in
      let t = Memᴰ.of_map (λ (m : Made). id_of m.entry) c.log h.2 in
      let is : t.0.entry ≡ e = sym (A.entry t.0 t.1) ∙ ap (entry_in c.log) t.2 ∙ sym h.1 in
      named_is c.log e t.0 t.1 is (only e t.0 t.1 is)
    where
      w : Whole n p two (entry_in c.log) (writer_past c.log) c
      w = ok_whole n p two eight c k

      A : Agrees (entry_in c.log) (writer_past c.log) c.log
      A = log_agrees c.log k.distinct

      good : (m : Made) → Memᴰ m c.log → entry_ok n p m.entry ≡ true
      good m i = ap (entry_ok n p) (sym (A.entry m i)) ∙ (w.good (id_of m.entry) (Memᴰ.map (λ (x : Made). id_of x.entry) i)).ok

      only : (e : Entry) (m : Made) → Memᴰ m c.log → m.entry ≡ e → (x : Made) → Memᴰ x c.log
          → name_of x.entry ≡ name_of e → x.entry ≡ e
      only e m i is x j q =
          let a = (entry_facts n p x.entry (good x j)).bounds in
          let b = (entry_facts n p m.entry (good m i)).bounds in
          let d : name_of x.entry ≡ name_of m.entry = q ∙ ap name_of (sym is) in
          let u : id_of x.entry ≡ id_of m.entry = omega (arith, a.from, a.to, b.from, b.to, d) in
          sym (A.entry x j) ∙ ap (entry_in c.log) u ∙ A.entry m i ∙ is

  module _ (σ : Ring) (c : Sys) (S : Same n rows (shown σ) c) (k : Ok n p two eight c) (z : Sized σ) where
    on_office : (o : ℕ) (h : WState) → o < n → cond (ltb o n) h (shown σ) ≡ h
    on_office o h lt = rw (lt-ltb o n lt)

    there : (i : ℕ) (s : Carried) → at σ.sessions i ≡ s ∷ [] → at (map content_in σ.sessions) i ≡ content_in s ∷ []
    there i s e = at_map content_in σ.sessions i ∙ ap (map content_in) e

    next : (x : Call) → Same n rows (step over_words n (shown σ) x) (step over_contents n c x)
    next x = step_same n p two eight one p64 rows enough (shown σ) c S k x (step_ok n p two eight c k x)

    -- no call
    off : (o : ℕ) (h : WState) → (n ≤ o) ⊎ (h ≡ shown σ) → shown σ ≡ cond (ltb o n) h (shown σ)
    off o h a =
        ⊎_elim (λ (le : n ≤ o). sym (beyond le)) (λ (e : h ≡ shown σ). sym (ap (λ (x : WState). cond (ltb o n) x (shown σ)) e ∙ same (ltb o n))) a
      where
        beyond : n ≤ o → cond (ltb o n) h (shown σ) ≡ shown σ
        beyond le = rw (le-ltb o n le)

        same : (t : Bool) → cond t (shown σ) (shown σ) ≡ shown σ
        same true = refl
        same false = refl

    nobody_there : (i : ℕ) → at σ.sessions i ≡ [] → at (map content_in σ.sessions) i ≡ []
    nobody_there i e = at_map content_in σ.sessions i ∙ ap (map content_in) e

    absent_is : (x : Call) → Absent n σ x → shown σ ≡ step over_words n (shown σ) x
    unfolding step Absent
    absent_is (writing o i plot value row) a =
        off o (write_at over_words n (shown σ) o i plot value row (at (map content_in σ.sessions) i))
        (⊎_elim (λ le. inl le) (λ e. inr (ap (write_at over_words n (shown σ) o i plot value row) (nobody_there i e))) a)
    absent_is (reading o i plot) a =
        off o (read_at over_words n (shown σ) o i plot (at (map content_in σ.sessions) i))
        (⊎_elim (λ le. inl le) (λ e. inr (ap (read_at over_words n (shown σ) o i plot) (nobody_there i e))) a)
    absent_is (joint o i plots row) a =
        off o (joint_at over_words n (shown σ) o i plots row (at (map content_in σ.sessions) i))
        (⊎_elim (λ le. inl le) (λ e. inr (ap (joint_at over_words n (shown σ) o i plots row) (nobody_there i e))) a)
    absent_is (receiving o row) a =
        off o (receive_at over_words n (shown σ) o row (σ.lines o))
        (⊎_elim (λ le. inl le) (λ e. inr (ap (receive_at over_words n (shown σ) o row) e)) a)
    absent_is (receiving_words o words row) a =
        off o (words_by over_words n (shown σ) o (over_words.on_words (σ.stores o) words row)) (inl a)
    absent_is (fresh m) a = absurd a
    absent_is (token_writing i row) a = sym (ap (token_at over_words n (shown σ) row) (nobody_there i a))
    absent_is (token_reading t m q) a = sym (ap (from_token_at over_words n (shown σ) m q) a)
    absent_is (copy_session i) a = sym (ap (copied_session over_words n (shown σ)) (nobody_there i a))
    absent_is (copy_token t) a = sym (ap (copied_token over_words n (shown σ)) a)
    absent_is (joining i j m q) a =
        ⊎_elim (λ e. sym (ap (λ (l : List Tracked). join_at over_words n (shown σ) m q l (at (map content_in σ.sessions) j)) (nobody_there i e)))
        (λ e. sym (ap (join_at over_words n (shown σ) m q (at (map content_in σ.sessions) i)) (nobody_there j e) ∙ none_second (at (map content_in σ.sessions) i))) a
      where
        none_second : (l : List Tracked) → join_at over_words n (shown σ) m q l [] ≡ shown σ
        none_second [] = refl
        none_second (x ∷ l) = refl

    -- a row that is sent is a frame, since it waits in a line afterwards
    module _ (o : ℕ) (l : ℕ → List (List ℕ)) (R : Res) where
      behind : (w : List ℕ) → Memᴰ w R.sent → Memᴰ w (upd l (next_of n o) (σ.lines (next_of n o) ++ R.sent) (next_of n o))
      behind w m =
          rw (upd_same l (next_of n o) (σ.lines (next_of n o) ++ R.sent)) (Memᴰ.append_right (σ.lines (next_of n o)) m)

    sent_none : (R : Res) (x : ℕ) → R.code ≡ suc x → ((R.code ≡ 0 → ⊥) → R.sent ≡ []) → (w : List ℕ) → Memᴰ w R.sent → ⊥
    sent_none R x e empty w m = Memᴰ.not-nil (rw (empty (λ q. omega (arith, e, q))) at m)

    write_frames : (o i : ℕ) (s : Tracked) (R : Res) (c' : Sys) → Ok n p two eight c' → ((R.code ≡ 0 → ⊥) → R.sent ≡ []) → (x : ℕ) → R.code ≡ x
        → Same n rows (write_by over_words n (shown σ) o i s R x) c' → (w : List ℕ) → Memᴰ w R.sent → accepts n p w ≡ true
    write_frames o i s R c' K empty zero e T w m =
        line_accepted (write_by over_words n (shown σ) o i s R 0) c' T K (next_of n o) w (behind o σ.lines R w m)
    write_frames o i s R c' K empty (suc x) e T w m = absurd (sent_none R x e empty w m)

    receive_frames : (o : ℕ) (rest : List (List ℕ)) (R : Res) (c' : Sys) → Ok n p two eight c' → ((R.code ≡ 0 → ⊥) → R.sent ≡ []) → (x : ℕ)
        → R.code ≡ x → Same n rows (receive_by over_words n (shown σ) o rest R x) c' → (w : List ℕ) → Memᴰ w R.sent → accepts n p w ≡ true
    receive_frames o rest R c' K empty zero e T w m =
        line_accepted (receive_by over_words n (shown σ) o rest R 0) c' T K (next_of n o) w (behind o (upd σ.lines o rest) R w m)
    receive_frames o rest R c' K empty (suc x) e T w m = absurd (sent_none R x e empty w m)

    -- a write
    module _ (o i plot value : ℕ) (row : List ℕ) (s : Carried) (lt : o < n) (e : at σ.sessions i ≡ s ∷ []) where
      abbrev Rw : Res
      Rw = over_words.on_write (σ.stores o) (content_of s.session) plot value row

      write_runs : step over_words n (shown σ) (writing o i plot value row) ≡ write_by over_words n (shown σ) o i (content_in s) Rw Rw.code
      unfolding step
      write_runs =
          on_office o (write_at over_words n (shown σ) o i plot value row (at (map content_in σ.sessions) i)) lt
          ∙ ap (write_at over_words n (shown σ) o i plot value row) (there i s e)

      write_empty : (Rw.code ≡ 0 → ⊥) → Rw.sent ≡ []
      unfolding over_words
      write_empty h = (write_words_refused (σ.stores o) (content_of s.session) plot value row h).sent

      written_frames : (w : List ℕ) → Memᴰ w Rw.sent → accepts n p w ≡ true
      written_frames =
          write_frames o i (content_in s) Rw (step over_contents n c (writing o i plot value row)) (step_ok n p two eight c k (writing o i plot value row)) write_empty
          Rw.code refl
          (same_at n rows _ _ _ write_runs (next (writing o i plot value row)))

      write_is : (r : WriteAnswer) (ws' row' : List ℕ) → WritePromise (σ.stores o) s.session plot value row r.reply r.session ws' row'
          → shown (write_left own_of n σ o i s (wrote_said r ws' row') r.reply.code) ≡ step over_words n (shown σ) (writing o i plot value row)
      write_is r ws' row' h =
          let t = write_step (σ.stores o) s.session (sized_at n σ z i s e) plot value row r ws' row' h in
          let u = write_sends_lem (σ.stores o) (content_of s.session) plot value row in
          let is : result_of (wrote_said r ws' row') ≡ Rw =
          result_is (wrote_said r ws' row') Rw t.0 t.1 (sym (write_found (σ.stores o) (content_of s.session) plot value row)) t.3 t.2 t.4
          (cut_row n p p64 Rw.sent written_frames row row' r.reply.words (t.4 ∙ u.0) (t.1 ∙ u.1))
          in
          write_shown n σ o i s (wrote_said r ws' row') r.reply.code
          ∙ ap (λ (x : Res). write_by over_words n (shown σ) o i (content_in s) x x.code) is
          ∙ sym write_runs

    -- a reading of one plot
    read_is : (o i plot : ℕ) (s : Carried) (r : ReadAnswer) (ws' : List ℕ) → o < n → at σ.sessions i ≡ s ∷ []
        → ReadPromise (σ.stores o) s.session plot r.code r.found r.entry r.session ws'
        → shown (read_left σ o i s (plot ∷ []) (read_said r ws') r.code) ≡ step over_words n (shown σ) (reading o i plot)
    unfolding step
    read_is o i plot s r ws' lt e h =
        let t = read_step (σ.stores o) s.session plot r ws' h in
        let b = read_blank (σ.stores o) (content_of s.session) plot in
        let is : result_of (read_said r ws') ≡ over_words.on_read (σ.stores o) (content_of s.session) plot =
        result_is (read_said r ws') (over_words.on_read (σ.stores o) (content_of s.session) plot) t.0 (sym b.0) t.1 t.3 t.2 (sym b.1) (sym b.2)
        in
        read_shown n σ o i s (plot ∷ []) (read_said r ws') r.code
        ∙ ap (λ (x : Res). read_by over_words n (shown σ) o i (content_in s) (plot ∷ []) x x.code) is
        ∙ sym
        (on_office o (read_at over_words n (shown σ) o i plot (at (map content_in σ.sessions) i)) lt
        ∙ ap (read_at over_words n (shown σ) o i plot) (there i s e))

    -- a joint reading
    module _ (o i : ℕ) (plots row : List ℕ) (s : Carried) (lt : o < n) (e : at σ.sessions i ≡ s ∷ []) where
      abbrev Rj : Res
      Rj = over_words.on_joint (σ.stores o) (content_of s.session) plots row

      abbrev J : Result Office Frame
      J = joint_on (c.stores o) (content_of s.session) plots row

      joint_runs : step over_contents n c (joint o i plots row) ≡ read_by over_contents n c o i (content_in s) plots J J.code
      unfolding step over_contents
      joint_runs =
          here (joint_at over_contents n c o i plots row (at c.sessions i))
          ∙ ap (joint_at over_contents n c o i plots row) (ap (λ (l : List Tracked). at l i) (sym S.sessions) ∙ there i s e)
        where
          here : (h : Sys) → cond (ltb o n) h c ≡ h
          here h = rw (lt-ltb o n lt)

      joint_ok : Ok n p two eight (read_by over_contents n c o i (content_in s) plots J J.code)
      joint_ok = ok_at n p two eight _ _ joint_runs (step_ok n p two eight c k (joint o i plots row))

      found_J : joint_back J.code c.log plots J.row ≡ J.found
      unfolding joint_on joint_back laid
      found_J = go (joint_code (c.stores o) (content_of s.session) plots (length row)) joint_ok
        where
          h : ℕ → Found
          h = handed (reveal (c.stores o) (content_of s.session).read) (content_of s.session)

          res : ℕ → Result Office Frame
          res y = given y (c.stores o) (content_of s.session) row (read_all (c.stores o) (content_of s.session) plots (laid (answer_words (map h plots)) row))

          go : (y : ℕ) → Ok n p two eight (read_by over_contents n c o i (content_in s) plots (res y) (res y).code)
              → joint_back (res y).code c.log plots (res y).row ≡ (res y).found
          go zero K =
              ap (λ (l : List ℕ). joint_back 0 c.log plots (laid l row)) (answers_joined (map h plots))
              ∙ found_row c.log h plots _
              (λ q x m e.
              handed_named (read_by over_contents n c o i (content_in s) plots (res 0) 0) K _ (Memᴰ.append_right c.events (Memᴰ.head refl)) q x
              (rw e at (together_to h plots q m)))
          go (suc y) K = refl

      joint_holds : (r : SessionAnswer) (ws' row' : List ℕ) → JointPromise (σ.stores o) s.session plots row r.code r.session ws' row'
          → shown (read_left σ o i s plots (joint_said σ.log plots r ws' row') r.code) ≡ step over_words n (shown σ) (joint o i plots row)
      unfolding step over_words
      joint_holds r ws' row' h =
          let t = joint_step (σ.stores o) s.session plots row r ws' row' h in
          let b = joint_blank (σ.stores o) (content_of s.session) plots row in
          let ji = joint_is n p two eight one p64 rows enough (shown σ) c S k o lt (content_of s.session) plots row in
          let cj : r.code ≡ J.code = t.0 ∙ ap (λ (x : Res). x.code) ji in
          let rj : row' ≡ J.row = t.3 ∙ ap (λ (x : Res). x.row) ji in
          let f : joint_back r.code σ.log plots row' ≡ Rj.found =
          (λ i. joint_back (cj i) (S.log i) plots (rj i)) ∙ found_J ∙ sym (ap (λ (x : Res). x.found) ji)
          in
          let is : result_of (joint_said σ.log plots r ws' row') ≡ Rj =
          result_is (joint_said σ.log plots r ws' row') Rj t.0 (sym b.0) f t.2 t.1 t.3 (sym b.1)
          in
          read_shown n σ o i s plots (joint_said σ.log plots r ws' row') r.code
          ∙ ap (λ (x : Res). read_by over_words n (shown σ) o i (content_in s) plots x x.code) is
          ∙ sym
          (on_office o (joint_at over_words n (shown σ) o i plots row (at (map content_in σ.sessions) i)) lt
          ∙ ap (joint_at over_words n (shown σ) o i plots row) (there i s e))

    -- a receive
    received_is : (o : ℕ) (f row : List ℕ) (r : Reply) (ws' row' : List ℕ) → ReceivePromise (σ.stores o) f row r ws' row'
        → ((w : List ℕ) → Memᴰ w (over_words.on_receive (σ.stores o) f row).sent → accepts n p w ≡ true)
        → result_of (received_said r ws' row') ≡ over_words.on_receive (σ.stores o) f row
    received_is o f row r ws' row' h frames =
        let t = receive_step (σ.stores o) f row r ws' row' h in
        let u = receive_sends_lem (σ.stores o) f row in
        let b = receive_blank (σ.stores o) f row in
        result_is (received_said r ws' row') (over_words.on_receive (σ.stores o) f row) t.0 t.1 (sym b.0) t.2
        (content_back (fresh_content 0) (omega arith) ∙ sym b.1) t.3
        (cut_row n p p64 (over_words.on_receive (σ.stores o) f row).sent frames row row' r.words (t.3 ∙ u.0) (t.1 ∙ u.1))

    receive_empty : (ws f row : List ℕ) → ((over_words.on_receive ws f row).code ≡ 0 → ⊥) → (over_words.on_receive ws f row).sent ≡ []
    unfolding over_words
    receive_empty ws f row h = (receive_words_refused ws f row h).sent

    module _ (o : ℕ) (row f : List ℕ) (rest : List (List ℕ)) (lt : o < n) (e : σ.lines o ≡ f ∷ rest) where
      abbrev Rh : Res
      Rh = over_words.on_receive (σ.stores o) f row

      receive_runs : step over_words n (shown σ) (receiving o row) ≡ receive_by over_words n (shown σ) o rest Rh Rh.code
      unfolding step
      receive_runs = on_office o (receive_at over_words n (shown σ) o row (σ.lines o)) lt ∙ ap (receive_at over_words n (shown σ) o row) e

      receive_is : (r : Reply) (ws' row' : List ℕ) → ReceivePromise (σ.stores o) f row r ws' row'
          → shown (receive_left n σ o rest (received_said r ws' row') r.code) ≡ step over_words n (shown σ) (receiving o row)
      receive_is r ws' row' h =
          receive_shown n σ o rest (received_said r ws' row') r.code
          ∙ ap (λ (x : Res). receive_by over_words n (shown σ) o rest x x.code)
          (received_is o f row r ws' row' h
          (receive_frames o rest Rh (step over_contents n c (receiving o row)) (step_ok n p two eight c k (receiving o row)) (receive_empty (σ.stores o) f row)
          Rh.code refl
          (same_at n rows _ _ _ receive_runs (next (receiving o row)))))
          ∙ sym receive_runs

    -- words that nobody sent: the code, the store and the row are all that a run has of them
    words_is : (o : ℕ) (words row : List ℕ) (r : Reply) (ws' row' : List ℕ) → o < n → ReceivePromise (σ.stores o) words row r ws' row'
        → shown (cond (eqb r.code 9) (turned σ o (received_said r ws' row')) σ) ≡ step over_words n (shown σ) (receiving_words o words row)
    unfolding step over_words
    words_is o words row r ws' row' lt h =
        let t = receive_step (σ.stores o) words row r ws' row' h in
        words_shown n σ o (received_said r ws' row') (eqb r.code 9)
        ∙ (λ i.
        cond (eqb (t.0 i) 9)
        (record {
          stores = upd σ.stores o (t.2 i);
          lines = σ.lines;
          sessions = map content_in σ.sessions;
          tokens = σ.tokens;
          log = σ.log;
          events = σ.events ++ (record { code = t.0 i; count = t.1 i; row = t.3 i; reads = []; past = [] } ∷ []);
        })
        (shown σ))
        ∙ sym (on_office o (words_by over_words n (shown σ) o (over_words.on_words (σ.stores o) words row)) lt)

    pub step_is : {x : Call} {τ : Ring} → Step n σ x τ → shown τ ≡ step over_words n (shown σ) x
    unfolding step over_words
    step_is (absent x a) = absent_is x a
    step_is (writes o i plot value row s r ws' row' lt e h) = write_is o i plot value row s lt e r ws' row' h
    step_is (reads o i plot s r ws' lt e h) = read_is o i plot s r ws' lt e h
    step_is (reads_jointly o i plots row s r ws' row' lt e h) = joint_holds o i plots row s lt e r ws' row' h
    step_is (receives o row f rest r ws' row' lt e h) = receive_is o row f rest lt e r ws' row' h
    step_is (receives_words o words row r ws' row' lt h) = words_is o words row r ws' row' lt h
    step_is (begins_fresh m r h) =
        let t = fresh_step m r h in
        ap (λ (x : ℕ). shown (begins σ r.session [] x)) t.0 ∙ fresh_shown n σ r.session m (fresh_code m) t.1
    step_is (writes_token i row s r row' e h) =
        ap (λ (x : ℕ). shown (token_written σ s r row' x)) (write_token_step s.session row r row' h).0
        ∙ token_shown n σ s row r row' h (write_token_code (content_of s.session) (length row)) refl
        ∙ sym (ap (token_at over_words n (shown σ) row) (there i s e))
    step_is (reads_token t m q x r e h) =
        let u = read_token_step x.token m q r h in
        ap (λ (y : ℕ). shown (begins σ r.session x.past y)) u.0
        ∙ from_shown n σ r.session x (over_words.token_code m q x.token) u.1
        ∙ sym (ap (from_token_at over_words n (shown σ) m q) e)
    step_is (copies_session i s e) = copy_shown n σ s ∙ sym (ap (copied_session over_words n (shown σ)) (there i s e))
    step_is (copies_token t x e) = sym (ap (copied_token over_words n (shown σ)) e)
    step_is (joins i j m q s t r e f h) =
        let u = join_step m q s.session t.session r h in
        ap (λ (x : ℕ). shown (begins σ r.session (s.past ++ t.past) x)) u.0
        ∙ join_shown n σ r.session s t (join_code m q (content_of s.session) (content_of t.session)) u.1
        ∙ sym (λ k. join_at over_words n (shown σ) m q (there i s e k) (there j t f k))

  -- ---- a chain of steps

  runs_is : {σ τ : Ring} {cs : List Call} → Runs n σ cs τ → (c : Sys) → Same n rows (shown σ) c → Ok n p two eight c → Sized σ
      → shown τ ≡ run over_words n (shown σ) cs
  unfolding run
  runs_is none c S k z = refl
  runs_is (more {σ = σ} {τ = τ} {c = x} {cs = cs} a rest) c S k z =
      let e = step_is σ c S k z a in
      let K = step_ok n p two eight c k x in
      let T = step_same n p two eight one p64 rows enough (shown σ) c S k x K in
      runs_is rest (step over_contents n c x) (same_at n rows _ _ _ (sym e) T) K (step_sized n σ z a)
      ∙ ap (λ (g : WState). run over_words n g cs) e

holds_at : (n : ℕ) (rows : ℕ → List ℕ) (g g' : WState) (c : Sys) → g ≡ g' → Holds n rows g c → Holds n rows g' c
holds_at n rows g g' c e H = rw e at H

-- what an accepted opening says
settled : (n o p : ℕ) (ws : List ℕ) → (open_office n o p ws).0 ≡ 0 → (ring_ok n p ≡ true) × (need n ≤ length ws)
unfolding open_office settings_ok
settled n o p ws e = go (settings_ok n o p) refl (leb (need n) (length ws)) refl e
  where
    go : (t : Bool) → settings_ok n o p ≡ t → (u : Bool) → leb (need n) (length ws) ≡ u
        → (cond {A = ℕ × List ℕ} t (cond {A = ℕ × List ℕ} u (0, store_words ws (empty_office n o p)) (2, ws)) (1, ws)).0 ≡ 0
        → (ring_ok n p ≡ true) × (need n ≤ length ws)
    go true t true u e = ((both_true (ring_ok n p) (ltb o n) t).0, leb-true (need n) (length ws) u)
    go true t false u e = absurd (omega (arith, e))
    go false t u v e = absurd (omega (arith, e))

ranges : (n p : ℕ) → ring_ok n p ≡ true → (2 ≤ n) × (n ≤ 8) × (1 ≤ p) × (p ≤ 64)
unfolding ring_ok
ranges n p e =
    let a = both_true (leb 2 n) _ e in
    let b = both_true (leb n 8) _ a.1 in
    let c = both_true (leb 1 p) _ b.1 in (leb-true 2 n a.0, leb-true n 8 b.0, leb-true 1 p c.0, leb-true p 64 c.1)

-- nothing is opened for a number that no office has
beyond : (n o p : ℕ) (ws : List ℕ) → n ≤ o → (open_office n o p ws).1 ≡ ws
unfolding open_office settings_ok both
beyond n o p ws le = rw (le-ltb o n le) (go (ring_ok n p))
  where
    go : (t : Bool)
        → (cond {A = ℕ × List ℕ} (both t false) (cond {A = ℕ × List ℕ} (leb (need n) (length ws)) (0, store_words ws (empty_office n o p)) (2, ws)) (1, ws)).1 ≡ ws
    go true = refl
    go false = refl

stores_are : (n p : ℕ) (rows ws : ℕ → List ℕ) → Opened n p rows ws → (o : ℕ) → cond (ltb o n) (ws o) (rows o) ≡ (open_office n o p (rows o)).1
stores_are n p rows ws opened o =
    ⊎_elim (λ (lt : o < n). rw (lt-ltb o n lt) (opened o lt).1) (λ (le : n ≤ o). rw (le-ltb o n le) (sym (beyond n o p (rows o) le)))
    (lt_or_le o n)

pub claim : Claim
unfolding words_run contents_run run
claim n p some rows ws opened cs τ R =
    let first = opened 0 (omega (arith, some)) in
    let r = ranges n p (settled n 0 p (rows 0) (sym first.0)).0 in
    let two : 2 ≤ n = r.0 in
    let eight : n ≤ 8 = r.1 in
    let one : 1 ≤ p = r.2 in
    let p64 : p ≤ 64 = r.3 in
    let long : (o : ℕ) → o < n → need n ≤ length (rows o) =
    λ o lt. let x = opened o lt in (settled n o p (rows o) (sym x.0)).1
    in
    let e : (begun n rows ws).stores ≡ (λ o. (open_office n o p (rows o)).1) = λ i o. stores_are n p rows ws opened o i in
    let S : Same n rows (shown (begun n rows ws)) (contents_run n p []) =
    same_at n rows _ _ _ (ap (λ (f : ℕ → List ℕ). starting f) (sym e)) (demand3 n p two eight one p64 rows long []).same
    in
    let is : shown τ ≡ words_run n p rows cs =
    runs_is n p two eight one p64 rows long R (contents_run n p []) S (contents_ok n p two eight []) (λ s m. absurd (Memᴰ.not-nil m))
    ∙ ap (λ (f : ℕ → List ℕ). run over_words n (starting f) cs) e
    in
    (is, holds_at n rows (words_run n p rows cs) (shown τ) (contents_run n p cs) (sym is) (demand3 n p two eight one p64 rows long cs))

-- a chain stands at each of its moments: every beginning of it is one
pub beginning : (n : ℕ) (cs ds : List Call) (σ τ : Ring) → Runs n σ (cs ++ ds) τ → (υ : Ring) × Runs n σ cs υ × Runs n υ ds τ
beginning n [] ds σ τ r = (σ, none, r)
beginning n (c ∷ cs) ds σ τ (more a r) = let t = beginning n cs ds _ τ r in (t.0, more a t.1, t.2)
