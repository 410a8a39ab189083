-- To reveal (01: to bring out): "to show it and everything reached through dependencies". Step by step: each step shows the lowest pending
-- id that is not visible, and what it depends on becomes pending. `Reached` says the same with no steps; proofs/Reached.antt: they agree.
-- Assumes nothing.
use Rattle.std.specs.Prelude.{◌≡◌, ℕ, zero, suc, ◌+◌, ◌*◌, List, None, Some}
use Rattle.causal.specs.Sets.{has, unite, minus, inserted, lowest_of}
use Rattle.store.specs.declared.reveal.Revealed.{Revealed}

-- at most f steps from the pending set p, the visible set v and c steps taken; D k is what k depends on
unfoldable pub steps : ℕ → (ℕ → List ℕ) → List ℕ → List ℕ → ℕ → Revealed
steps zero D p v c = record { visible = v; steps = c }
steps (suc f) D p v c =
    elim (lowest_of (minus p v)) [
      | Some k ↦ steps f D (unite p (D k)) (inserted v k) (c + 1)
      | None ↦ record { visible = v; steps = c }
    ]

unfoldable pub revealed : (ℕ → List ℕ) → ℕ → List ℕ → List ℕ → Revealed
revealed D n visible seeds = steps (32 * n) D seeds visible 0

-- what is reached from the seeds through the deps
pub data Reached (D : ℕ → List ℕ) (seeds : List ℕ) : ℕ → Type 0 where
  seed : {k : ℕ} → has seeds k ≡ 1 → Reached D seeds k
  dep : {k j : ℕ} → Reached D seeds k → has (D k) j ≡ 1 → Reached D seeds j
