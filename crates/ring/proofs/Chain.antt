-- The claim over answers is not empty: each call has an answer that keeps its promise, so every list of calls has a chain of them.
-- Assumes nothing.
use Prim.Native.Nat.{ℕ, ◌<◌, ◌≤◌, suc, zero}
use mathlib.Core.List.{List, [], ◌∷◌}
use mathlib.Core.Logic.{◌⊎◌, inl, inr, ⊎_elim}
use mathlib.Core.Path.{◌≡◌, refl, sym}
use lib.ListN.{length}
use Rattle.causal.proofs.Tests.{lt_or_le}
use Rattle.frame.specs.Sessions.{content_of, session_of}
use Rattle.frame.specs.TokenCalls.{read_token, read_token_code, write_token, write_token_row}
use Rattle.joining.specs.Joins.{join_code, join_sessions}
use Rattle.store.specs.Offices.{need}
use Rattle.office.specs.Answers.{any_found, entry_found, fresh_by, read_joint_session, read_plot_session, write_session}
use Rattle.office.specs.Calls.{fresh_code, open_office, read_joint, read_plot, receive, write}
use Rattle.ring.specs.Answers.{Ring}
use Rattle.ring.specs.Claim.{Absent, Answered, Opened, Runs, Step, absent, begins_fresh, copies_session, copies_token, joins, more, none, reads, reads_jointly, reads_token, receives, receives_words, writes, writes_token}
use Rattle.ring.specs.Run.{Call, at, copy_session, copy_token, fresh, joining, joint, reading, receiving, receiving_words, token_reading, token_writing, writing}
use Rattle.ring.proofs.Theorem.{opens}

-- ---- each call has an answer

pub at_one : {A : Type 0} (l : List A) (i : ℕ) → (at l i ≡ []) ⊎ ((x : A) × (at l i ≡ x ∷ []))
unfolding at
at_one [] i = inl refl
at_one (x ∷ l) zero = inr (x, refl)
at_one (x ∷ l) (suc i) = at_one l i

line_one : (l : List (List ℕ)) → (l ≡ []) ⊎ ((f : List ℕ) × (rest : List (List ℕ)) × (l ≡ f ∷ rest))
line_one [] = inl refl
line_one (f ∷ rest) = inr (f, rest, refl)

module _ (n : ℕ) (σ : Ring) where
  pub answer : (x : Call) → (τ : Ring) × Step n σ x τ
  unfolding Absent
  answer (writing o i plot value row) =
      ⊎_elim
      (λ (lt : o < n).
      ⊎_elim (λ e. (σ, absent (writing o i plot value row) (inr e)))
      (λ a.
      let R = write (σ.stores o) (content_of a.0.session) plot value row in (
        _,
        writes o i plot value row a.0 (record { reply = record { code = R.code; words = R.count }; session = write_session (σ.stores o) a.0.session plot value row }) R.store R.row
            lt a.1
            (refl, refl, refl, refl),
      ))
      (at_one σ.sessions i))
      (λ (le : n ≤ o). (σ, absent (writing o i plot value row) (inl le))) (lt_or_le o n)
  answer (reading o i plot) =
      ⊎_elim
      (λ (lt : o < n).
      ⊎_elim (λ e. (σ, absent (reading o i plot) (inr e)))
      (λ a.
      let R = read_plot (σ.stores o) (content_of a.0.session) plot in (
        _,
        reads o i plot a.0
            (record {
              code = R.code;
              found = any_found R.found;
              entry = entry_found R.found;
              session = read_plot_session (σ.stores o) a.0.session plot;
            })
            R.store
            lt a.1
            (refl, refl, refl, refl, refl),
      ))
      (at_one σ.sessions i))
      (λ (le : n ≤ o). (σ, absent (reading o i plot) (inl le))) (lt_or_le o n)
  answer (joint o i plots row) =
      ⊎_elim
      (λ (lt : o < n).
      ⊎_elim (λ e. (σ, absent (joint o i plots row) (inr e)))
      (λ a.
      let R = read_joint (σ.stores o) (content_of a.0.session) plots row in (
        _,
        reads_jointly o i plots row a.0 (record { code = R.code; session = read_joint_session (σ.stores o) a.0.session plots row }) R.store R.row
            lt a.1
            (refl, refl, refl, refl),
      ))
      (at_one σ.sessions i))
      (λ (le : n ≤ o). (σ, absent (joint o i plots row) (inl le))) (lt_or_le o n)
  answer (receiving o row) =
      ⊎_elim
      (λ (lt : o < n).
      ⊎_elim (λ e. (σ, absent (receiving o row) (inr e)))
      (λ a.
      let R = receive (σ.stores o) a.0 row in
      (_, receives o row a.0 a.1 (record { code = R.code; words = R.count }) R.store R.row lt a.2 (refl, refl, refl)))
      (line_one (σ.lines o)))
      (λ (le : n ≤ o). (σ, absent (receiving o row) (inl le))) (lt_or_le o n)
  answer (receiving_words o words row) =
      ⊎_elim
      (λ (lt : o < n).
      let R = receive (σ.stores o) words row in
      (_, receives_words o words row (record { code = R.code; words = R.count }) R.store R.row lt (refl, refl, refl)))
      (λ (le : n ≤ o). (σ, absent (receiving_words o words row) le)) (lt_or_le o n)
  answer (fresh m) =
      (_, begins_fresh m (record { code = fresh_code m; session = session_of (fresh_by (fresh_code m) m) }) (refl, refl))
  answer (token_writing i row) =
      ⊎_elim (λ e. (σ, absent (token_writing i row) e))
      (λ a.
      (_, writes_token i row a.0 (write_token (content_of a.0.session) (length row)) (write_token_row (content_of a.0.session) row) a.1 (refl, refl)))
      (at_one σ.sessions i)
  answer (token_reading t m p) =
      ⊎_elim (λ e. (σ, absent (token_reading t m p) e))
      (λ a.
      (_, reads_token t m p a.0 (record { code = read_token_code m p a.0.token; session = session_of (read_token m p a.0.token) }) a.1 (refl, refl)))
      (at_one σ.tokens t)
  answer (copy_session i) =
      ⊎_elim (λ e. (σ, absent (copy_session i) e)) (λ a. (_, copies_session i a.0 a.1)) (at_one σ.sessions i)
  answer (copy_token t) = ⊎_elim (λ e. (σ, absent (copy_token t) e)) (λ a. (_, copies_token t a.0 a.1)) (at_one σ.tokens t)
  answer (joining i j m p) =
      ⊎_elim (λ e. (σ, absent (joining i j m p) (inl e)))
      (λ a.
      ⊎_elim (λ e. (σ, absent (joining i j m p) (inr e)))
      (λ b.
      let A = content_of a.0.session in
      let B = content_of b.0.session in
      (_, joins i j m p a.0 b.0 (record { code = join_code m p A B; session = session_of (join_sessions m p A B) }) a.1 b.1 (refl, refl)))
      (at_one σ.sessions j))
      (at_one σ.sessions i)

chain : (n : ℕ) (cs : List Call) (σ : Ring) → (τ : Ring) × Runs n σ cs τ
chain n [] σ = (σ, none)
chain n (c ∷ cs) σ =
    let a = answer n σ c in
    let b = chain n cs a.0 in (b.0, more a.1 b.1)

opened : (n p : ℕ) → 2 ≤ n → n ≤ 8 → 1 ≤ p → p ≤ 64 → (rows : ℕ → List ℕ) → ((o : ℕ) → o < n → need n ≤ length (rows o)) →
    (ws : ℕ → List ℕ) × Opened n p rows ws
opened n p two eight one p64 rows long = (λ o. (open_office n o p (rows o)).1, λ o lt. (sym (opens n p two eight one p64 rows long o lt), refl))

pub all_answered : Answered
all_answered = record { opened = opened; called = λ n σ cs. chain n cs σ }
