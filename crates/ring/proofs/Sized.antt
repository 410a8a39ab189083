-- The structs that cross keep their row of sixteen entries: so in every chain of answered calls. Assumes nothing.
use Rattle.std.proofs.Common.{None, Some}
use Prim.Native.Nat.{ℕ, ◌-◌, ◌≤◌, suc, zero}
use mathlib.Core.Bool.{Bool, cond, false, true}
use mathlib.Core.List.Memᴰ
use mathlib.Core.List.{List, Memᴰ, [], ◌++◌, ◌∷◌}
use mathlib.Core.Logic.{⊎_elim}
use mathlib.Core.Path.{◌∙◌, ◌≡◌, ap, refl}
use native.Mathlib.Omega.{arith}
use lib.Dec.{eqb}
use lib.ListN.{length, length-append, length-replicate, length-set, replicate, set}
use Rattle.frame.specs.Entries.{blank_entry}
use Rattle.frame.specs.Refusals.{Reply}
use Rattle.frame.specs.Sessions.{Content, content_of, filled, fresh_content, session_of}
use Rattle.frame.specs.TokenCalls.{content_if, read_token, read_token_code}
use Rattle.frame.specs.Tokens.{content_from}
use Rattle.frame.specs.declared.session.Session.{Session}
use Rattle.joining.specs.Joins.{join_code, join_sessions, joined, joined_if}
use Rattle.store.specs.Offices.{Found, Office, current, office_of, reveal}
use Rattle.office.specs.Answers.{extended_by, fresh_by, noted_all_in, noted_in, read_joint_session, read_plot_session, session_if, write_session}
use Rattle.office.specs.Calls.{fresh_code, new_entry, read_joint, read_plot, write}
use Rattle.ring.specs.Answers.{Carried, Ring, Said, joint_said, own_of, read_said, received_said, token_written, wrote_said}
use Rattle.ring.specs.Claim.{Step, absent, begins_fresh, copies_session, copies_token, joins, reads, reads_jointly, reads_token, receives, receives_words, writes, writes_token}
use Rattle.ring.specs.Run.{Call, at, begins, read_left, receive_left, turned, write_left}
use Rattle.ring.proofs.Fit.{mem_at, mem_set}
use Rattle.ring.proofs.Promises.{join_few, token_few}

abbrev pub Sized : Ring → Type 0
Sized σ = (s : Carried) → Memᴰ s σ.sessions → length s.session.own ≡ 16

-- ---- the structs that the calls answer

sized_if : (c : ℕ) (s t : Session) → length s.own ≡ 16 → length t.own ≡ 16 → length (session_if c s t).own ≡ 16
unfolding session_if
sized_if zero s t a b = b
sized_if (suc c) s t a b = a

sized_noted : (f : Found) (s : Session) → length (noted_in f s).own ≡ length s.own
unfolding noted_in
sized_noted None s = refl
sized_noted (Some e) s = refl

sized_all : (O : Office) (qs : List ℕ) (s : Session) → length (noted_all_in O qs s).own ≡ length s.own
unfolding noted_all_in
sized_all O [] s = refl
sized_all O (q ∷ qs) s = sized_all O qs (noted_in (current O q) s) ∙ sized_noted (current O q) s

sized_read : (ws : List ℕ) (s : Session) (plot : ℕ) → length s.own ≡ 16 → length (read_plot_session ws s plot).own ≡ 16
unfolding read_plot_session
sized_read ws s plot h =
    sized_if (read_plot ws (content_of s) plot).code s (noted_in (current (reveal (office_of ws) s.read) plot) s) h
    (sized_noted (current (reveal (office_of ws) s.read) plot) s ∙ h)

sized_joint : (ws : List ℕ) (s : Session) (plots row : List ℕ) → length s.own ≡ 16 → length (read_joint_session ws s plots row).own ≡ 16
unfolding read_joint_session
sized_joint ws s plots row h =
    sized_if (read_joint ws (content_of s) plots row).code s (noted_all_in (reveal (office_of ws) s.read) plots s) h
    (sized_all (reveal (office_of ws) s.read) plots s ∙ h)

sized_write : (ws : List ℕ) (s : Session) (plot value : ℕ) (row : List ℕ) → length s.own ≡ 16 → length (write_session ws s plot value row).own ≡ 16
unfolding write_session extended_by
sized_write ws s plot value row h =
    sized_if (write ws (content_of s) plot value row).code s (extended_by s (new_entry (office_of ws) (content_of s) plot value)) h
    (length-set s.own s.count (new_entry (office_of ws) (content_of s) plot value) ∙ h)

sized_of : (c : Content) → length c.own ≤ 16 → length (session_of c).own ≡ 16
unfolding session_of filled
sized_of c h =
    let a = length-append c.own (replicate (16 - length c.own) blank_entry) in
    let b = length-replicate (16 - length c.own) blank_entry in
    omega (arith, a, b, h)

sized_fresh : (m : ℕ) → length (session_of (fresh_by (fresh_code m) m)).own ≡ 16
unfolding fresh_by
sized_fresh m = go (fresh_code m)
  where
    go : (c : ℕ) → length (session_of (fresh_by c m)).own ≡ 16
    go zero = sized_of (fresh_content m) (omega arith)
    go (suc c) = sized_of (fresh_content 0) (omega arith)

sized_token : (words : List ℕ) (m p : ℕ) → length (session_of (read_token m p words)).own ≡ 16
unfolding read_token content_if
sized_token words m p = go (read_token_code m p words) refl
  where
    go : (c : ℕ) → read_token_code m p words ≡ c → length (session_of (content_if c words)).own ≡ 16
    go zero e = sized_of (content_from words) (token_few words m p e)
    go (suc c) e = sized_of (fresh_content 0) (omega arith)

sized_join : (m p : ℕ) (a b : Content) → length (session_of (join_sessions m p a b)).own ≡ 16
unfolding join_sessions joined_if
sized_join m p a b = go (join_code m p a b) refl
  where
    go : (c : ℕ) → join_code m p a b ≡ c → length (session_of (joined_if c a b)).own ≡ 16
    go zero e = sized_of (joined a b) (join_few m p a b e)
    go (suc c) e = sized_of (fresh_content 0) (omega arith)

-- ---- a step

module _ (n : ℕ) (σ : Ring) (z : Sized σ) where
  pub sized_at : (i : ℕ) (s : Carried) → at σ.sessions i ≡ s ∷ [] → length s.session.own ≡ 16
  sized_at i s e = z s (mem_at σ.sessions i s (rw e (Memᴰ.head refl)))

  set_sized : (i : ℕ) (x : Carried) → length x.session.own ≡ 16 → (s : Carried) → Memᴰ s (set σ.sessions i x) → length s.session.own ≡ 16
  set_sized i x h s m = ⊎_elim (λ (e : s ≡ x). rw e h) (λ j. z s j) (mem_set σ.sessions i x s m)

  more_sized : (x : Carried) → length x.session.own ≡ 16 → (s : Carried) → Memᴰ s (σ.sessions ++ (x ∷ [])) → length s.session.own ≡ 16
  more_sized x h s m =
      ⊎_elim (λ j. z s j) (λ (j : Memᴰ s (x ∷ [])). rw (Memᴰ.eq_of_singleton j) h) (Memᴰ.append_cases σ.sessions m)

  write_sized : (o i : ℕ) (s : Carried) (a : Said) → length a.session.own ≡ 16 → (c : ℕ) → Sized (write_left own_of n σ o i s a c)
  write_sized o i s a h zero = set_sized i _ h
  write_sized o i s a h (suc c) = set_sized i _ h

  read_sized : (o i : ℕ) (s : Carried) (plots : List ℕ) (a : Said) → length a.session.own ≡ 16 → (c : ℕ) → Sized (read_left σ o i s plots a c)
  read_sized o i s plots a h zero = set_sized i _ h
  read_sized o i s plots a h (suc c) = set_sized i _ h

  receive_sized : (o : ℕ) (rest : List (List ℕ)) (a : Said) (c : ℕ) → Sized (receive_left n σ o rest a c)
  receive_sized o rest a zero = z
  receive_sized o rest a (suc c) = z

  words_sized : (o : ℕ) (a : Said) (t : Bool) → Sized (cond t (turned σ o a) σ)
  words_sized o a true = z
  words_sized o a false = z

  begins_sized : (s : Session) (past : List ℕ) → length s.own ≡ 16 → (c : ℕ) → Sized (begins σ s past c)
  begins_sized s past h zero = more_sized _ h
  begins_sized s past h (suc c) = z

  token_sized : (s : Carried) (r : Reply) (row' : List ℕ) (c : ℕ) → Sized (token_written σ s r row' c)
  token_sized s r row' zero = z
  token_sized s r row' (suc c) = z

  own_is : (s t : Session) → s ≡ t → length t.own ≡ 16 → length s.own ≡ 16
  own_is s t e h = ap (λ (x : Session). length x.own) e ∙ h

  pub step_sized : {x : Call} {τ : Ring} → Step n σ x τ → Sized τ
  step_sized (absent c a) = z
  step_sized (writes o i plot value row s r ws' row' lt e h) =
      write_sized o i s (wrote_said r ws' row') (own_is r.session _ h.1 (sized_write (σ.stores o) s.session plot value row (sized_at i s e)))
      r.reply.code
  step_sized (reads o i plot s r ws' lt e h) =
      read_sized o i s (plot ∷ []) (read_said r ws') (own_is r.session _ h.3 (sized_read (σ.stores o) s.session plot (sized_at i s e)))
      r.code
  step_sized (reads_jointly o i plots row s r ws' row' lt e h) =
      read_sized o i s plots (joint_said σ.log plots r ws' row')
      (own_is r.session _ h.1 (sized_joint (σ.stores o) s.session plots row (sized_at i s e))) r.code
  step_sized (receives o row f rest r ws' row' lt e h) = receive_sized o rest (received_said r ws' row') r.code
  step_sized (receives_words o words row r ws' row' lt h) = words_sized o (received_said r ws' row') (eqb r.code 9)
  step_sized (begins_fresh m r h) = begins_sized r.session [] (own_is r.session _ h.1 (sized_fresh m)) r.code
  step_sized (writes_token i row s r row' e h) = token_sized s r row' r.code
  step_sized (reads_token t m p x r e h) =
      begins_sized r.session x.past (own_is r.session _ h.1 (sized_token x.token m p)) r.code
  step_sized (copies_session i s e) = more_sized s (sized_at i s e)
  step_sized (copies_token t x e) = z
  step_sized (joins i j m p s t r e f h) =
      begins_sized r.session (s.past ++ t.past) (own_is r.session _ h.1 (sized_join m p (content_of s.session) (content_of t.session)))
      r.code
