-- A receive keeps the invariant. Assumes nothing.
use Prim.Native.Nat.{ℕ, ◌+◌, ◌-◌, ◌<◌, ◌≤◌, suc, zero}
use mathlib.Core.List.Memᴰ
use mathlib.Core.List.{List, Memᴰ, [], ◌++◌, ◌∷◌, append-nil}
use mathlib.Core.Logic.{◌≢◌, ◌⊎◌, inl, inr}
use mathlib.Core.Path.{◌∙◌, ◌≡◌, ap, refl, sym}
use native.Mathlib.Decide.{ℕ_discrete, dec_le}
use native.Mathlib.Omega.{arith}
use Rattle.mesh.specs.Ring.{Shape, iter}
use Rattle.mesh.specs.World.{Cov, Inv, Reach, Receive, World, ahead, beyond, has, passes, via}
use Rattle.mesh.proofs.Carry.{carry, line_made, reached_held, receive_ready, shift}
use Rattle.mesh.proofs.Iter.{iter_next, iter_onto, iter_period}
use Rattle.mesh.proofs.Lists.{Side, left, nil_split, one_split, right, side}

-- a member of `passes x t`
on_mem : (x t z s : ℕ) → Memᴰ (z, s) (passes x t) → (z ≡ x) × (suc s ≡ t)
on_mem x zero z s m = absurd (Memᴰ.not-nil m)
on_mem x (suc u) z s m = let e = Memᴰ.eq_of_singleton m in (ap (λ (p : ℕ × ℕ). p.0) e, ap (λ (p : ℕ × ℕ). suc p.1) e)

on_split : (x t : ℕ) (bef : List (ℕ × ℕ)) (z s : ℕ) (aft : List (ℕ × ℕ)) → passes x t ≡ bef ++ (z, s) ∷ aft →
    (bef ≡ []) × (z ≡ x) × (suc s ≡ t)
on_split x zero bef z s aft e = absurd (nil_split bef (z, s) aft e)
on_split x (suc u) bef z s aft e =
    let r = one_split (x, u) bef (z, s) aft e in (r.0, ap (λ (p : ℕ × ℕ). p.0) r.1, ap (λ (p : ℕ × ℕ). suc p.1) r.1)

on_in : (x t u : ℕ) → t ≡ suc u → Memᴰ (x, u) (passes x t)
on_in x t u e = rw e (Memᴰ.head refl)

module _ (S : Shape) (W W' : World) (I : Inv S W) (Y x t : ℕ) (rest : List (ℕ × ℕ)) (R : Receive S W W' Y x t rest) where
  top_frame : Memᴰ (x, t) (W.line Y)
  top_frame = rw R.first (Memᴰ.head refl)

  -- a frame that waited still waits, or is the one received
  still : (o z s : ℕ) → Memᴰ (z, s) (W.line o) → Memᴰ (z, s) (W'.line o) ⊎ ((o ≡ Y) × (z ≡ x) × (s ≡ t))
  still o z s m = at_Y (ℕ_discrete o Y)
    where
      split : o ≡ Y → ◌≡◌ {A = ℕ × ℕ} (z, s) (x, t) ⊎ Memᴰ (z, s) rest → Memᴰ (z, s) (W'.line o) ⊎ ((o ≡ Y) × (z ≡ x) × (s ≡ t))
      split e (inl p) = inr (e, ap (λ (q : ℕ × ℕ). q.0) p, ap (λ (q : ℕ × ℕ). q.1) p)
      split e (inr m') = inl (rw (e, R.popped) m')

      at_next : o ≢ Y → Dec (o ≡ S.next Y) → Memᴰ (z, s) (W'.line o) ⊎ ((o ≡ Y) × (z ≡ x) × (s ≡ t))
      at_next ne (yes e) = inl (rw (e, R.passed) (Memᴰ.append_left (passes x t) (rw e at m)))
      at_next ne (no nx) = inl (rw (R.others o ne nx) m)

      at_Y : Dec (o ≡ Y) → Memᴰ (z, s) (W'.line o) ⊎ ((o ≡ Y) × (z ≡ x) × (s ≡ t))
      at_Y (yes e) = split e (Memᴰ.cases_cons (rw (e, R.first) at m))
      at_Y (no ne) = at_next ne (ℕ_discrete o (S.next Y))

  -- a frame that waits waited before, or is the one passed on
  came : (o z s : ℕ) → Memᴰ (z, s) (W'.line o) → Memᴰ (z, s) (W.line o) ⊎ ((o ≡ S.next Y) × (z ≡ x) × (suc s ≡ t))
  came o z s m = at_Y (ℕ_discrete o Y)
    where
      split : o ≡ S.next Y → Memᴰ (z, s) (W.line (S.next Y)) ⊎ Memᴰ (z, s) (passes x t)
          → Memᴰ (z, s) (W.line o) ⊎ ((o ≡ S.next Y) × (z ≡ x) × (suc s ≡ t))
      split e (inl m') = inl (rw e m')
      split e (inr m') = let r = on_mem x t z s m' in inr (e, r.0, r.1)

      at_next : o ≢ Y → Dec (o ≡ S.next Y) → Memᴰ (z, s) (W.line o) ⊎ ((o ≡ S.next Y) × (z ≡ x) × (suc s ≡ t))
      at_next ne (yes e) = split e (Memᴰ.append_cases (W.line (S.next Y)) (rw (e, R.passed) at m))
      at_next ne (no nx) = inl (rw (R.others o ne nx) at m)

      at_Y : Dec (o ≡ Y) → Memᴰ (z, s) (W.line o) ⊎ ((o ≡ S.next Y) × (z ≡ x) × (suc s ≡ t))
      at_Y (yes e) = inl (rw (e, R.first) (Memᴰ.tail (rw (e, R.popped) at m)))
      at_Y (no ne) = at_next ne (ℕ_discrete o (S.next Y))

  -- the frame received, seen from i steps before Y: it has arrived at Y, or is on its way in the next line
  moved : (bef : List (ℕ × ℕ)) (Z i j : ℕ) → iter S i Z ≡ Y → i ≤ j → j ≤ i + t → Cov S W' bef Z j x
  moved bef Z i j e a b = go (ℕ_discrete j i)
    where
      on : (u : ℕ) → t ≡ suc u → j ≢ i → Cov S W' bef Z j x
      on u q ne =
          let p : iter S (suc i) Z ≡ S.next Y = iter_next S i Z ∙ ap S.next e in
          beyond i u (rw (p, R.passed) (Memᴰ.append_right (W.line (S.next Y)) (on_in x t u q))) (omega arith) (omega arith)

      go : Dec (j ≡ i) → Cov S W' bef Z j x
      go (yes q) = has (rw (q, e) R.held_new)
      go (no ne) = on (t - 1) (omega arith) ne

  kept : (bef bef' : List (ℕ × ℕ)) (Z j d : ℕ) → ((s : ℕ) → Memᴰ (d, s) bef → j ≤ s → Cov S W' bef' Z j d) → Cov S W bef Z j d
      → Cov S W' bef' Z j d
  kept bef bef' Z j d f c = carry S W W' R.held_to bef bef' Z j d f far c
    where
      far : (i s : ℕ) → Memᴰ (d, s) (W.line (iter S (suc i) Z)) → suc i ≤ j → j ≤ suc i + s → Cov S W' bef' Z j d
      far i s m a b = go (still (iter S (suc i) Z) d s m)
        where
          go : Memᴰ (d, s) (W'.line (iter S (suc i) Z)) ⊎ ((iter S (suc i) Z ≡ Y) × (d ≡ x) × (s ≡ t)) → Cov S W' bef' Z j d
          go (inl m') = beyond i s m' a b
          go (inr r) = rw r.1 (moved bef' Z (suc i) j r.0 a (omega arith))

  same : (bef : List (ℕ × ℕ)) (Z j d : ℕ) → Cov S W bef Z j d → Cov S W' bef Z j d
  same bef Z j d c = kept bef bef Z j d (λ s m le. ahead s m le) c

  held_down' : (o z d : ℕ) → W'.held o z → S.deps z d → W'.held o d
  held_down' o z d h m = go (R.held_from o z h)
    where
      go : W.held o z ⊎ ((o ≡ Y) × (z ≡ x)) → W'.held o d
      go (inl h') = R.held_to o d (I.held_down o z d h' m)
      go (inr r) = rw r.0 (R.held_to Y d (receive_ready S W I Y x t rest R.first d (rw r.1 at m)))

  held_made' : (o z : ℕ) → W'.held o z → W'.made z
  held_made' o z h = go (R.held_from o z h)
    where
      go : W.held o z ⊎ ((o ≡ Y) × (z ≡ x)) → W'.made z
      go (inl h') = R.made_to z (I.held_made o z h')
      go (inr r) = rw r.1 (R.made_to x (line_made S W I Y x t top_frame))

  -- every office holds an id whose last frame was received
  all_hold : t ≡ 0 → (p : ℕ) → p < S.n → W'.held p x
  all_hold e p h = let k = iter_onto S Y p R.in_ring h in go k.0 k.1 k.2
    where
      go : (k : ℕ) → k < S.n → iter S k Y ≡ p → W'.held p x
      go zero a q = rw (← q) R.held_new
      go (suc k) a q = rw q at (R.held_to (iter S (suc k) Y) x (I.behind Y x t (suc k) top_frame (omega arith) a))

  visible_held' : (o z p : ℕ) → p < S.n → W'.visible o z → W'.held p z
  visible_held' o z p h s = go (R.visible_from o z s)
    where
      go : W.visible o z ⊎ ((o ≡ Y) × (t ≡ 0) × Reach S x z) → W'.held p z
      go (inl s') = R.held_to p z (I.visible_held o z p h s')
      go (inr r) = reached_held S W' held_down' p x z r.2 (all_hold r.1 p h)

  visible_down' : (o z d : ℕ) → W'.visible o z → S.deps z d → W'.visible o d
  visible_down' o z d s m = go (R.visible_from o z s)
    where
      go : W.visible o z ⊎ ((o ≡ Y) × (t ≡ 0) × Reach S x z) → W'.visible o d
      go (inl s') = R.visible_to o d (I.visible_down o z d s' m)
      go (inr r) = rw r.0 (R.visible_new d r.1 (via r.2 m))

  low' : (Z z s : ℕ) → Memᴰ (z, s) (W'.line Z) → s ≤ S.top
  low' Z z s m = go (came Z z s m)
    where
      go : Memᴰ (z, s) (W.line Z) ⊎ ((Z ≡ S.next Y) × (z ≡ x) × (suc s ≡ t)) → s ≤ S.top
      go (inl m') = I.low Z z s m'
      go (inr r) = omega (arith, I.low Y x t top_frame)

  behind' : (Z z s k : ℕ) → Memᴰ (z, s) (W'.line Z) → s < k → k < S.n → W'.held (iter S k Z) z
  behind' Z z s k m a b = go (came Z z s m)
    where
      last : Dec (suc k ≡ S.n) → suc s ≡ t → W'.held (iter S (suc k) Y) x
      last (yes e) q =
          let p : iter S (suc k) Y ≡ Y = ap (λ (i : ℕ). iter S i Y) e ∙ iter_period S Y R.in_ring in
          rw p R.held_new
      last (no ne) q = R.held_to (iter S (suc k) Y) x (I.behind Y x t (suc k) top_frame (omega arith) (omega arith))

      go : Memᴰ (z, s) (W.line Z) ⊎ ((Z ≡ S.next Y) × (z ≡ x) × (suc s ≡ t)) → W'.held (iter S k Z) z
      go (inl m') = R.held_to (iter S k Z) z (I.behind Z z s k m' a b)
      go (inr r) = rw (r.0, r.1) (last (ℕ_discrete (suc k) S.n) r.2)

  order' : (Z : ℕ) (bef : List (ℕ × ℕ)) (z s : ℕ) (aft : List (ℕ × ℕ)) → W'.line Z ≡ bef ++ (z, s) ∷ aft →
      (d : ℕ) → S.deps z d → (j : ℕ) → j ≤ s → Cov S W' bef Z j d
  order' Z bef z s aft e d m j le = at_Y (ℕ_discrete Z Y)
    where
      -- in Y's line: what stood before it has lost the frame received
      here : W'.line Y ≡ bef ++ (z, s) ∷ aft → Cov S W' bef Y j d
      here q =
          kept ((x, t) ∷ bef) bef Y j d first_gone
          (I.order Y ((x, t) ∷ bef) z s aft (R.first ∙ ap (λ (l : List (ℕ × ℕ)). (x, t) ∷ l) (sym R.popped ∙ q)) d m j le)
        where
          first_gone : (u : ℕ) → Memᴰ (d, u) ((x, t) ∷ bef) → j ≤ u → Cov S W' bef Y j d
          first_gone u m' l = go (Memᴰ.cases_cons m')
            where
              go : ◌≡◌ {A = ℕ × ℕ} (d, u) (x, t) ⊎ Memᴰ (d, u) bef → Cov S W' bef Y j d
              go (inl p) =
                  let p0 : d ≡ x = ap (λ (f : ℕ × ℕ). f.0) p in
                  let p1 : u ≡ t = ap (λ (f : ℕ × ℕ). f.1) p in
                  rw p0 (moved bef Y 0 j refl (omega arith) (omega arith))
              go (inr m'') = ahead u m'' l

      -- in the next line: it stood there, or it is the frame passed on
      there : W'.line (S.next Y) ≡ bef ++ (z, s) ∷ aft → Cov S W' bef (S.next Y) j d
      there q = go (side (W.line (S.next Y)) (passes x t) bef (z, s) aft (sym R.passed ∙ q))
        where
          go : Side (W.line (S.next Y)) (passes x t) bef (z, s) aft → Cov S W' bef (S.next Y) j d
          go (left aft' p) = same bef (S.next Y) j d (I.order (S.next Y) bef z s aft' p d m j le)
          go (right bef' p p') =
              let r = on_split x t bef' z s aft p' in
              let all : bef ≡ W.line (S.next Y) = p ∙ rw r.0 (append-nil (W.line (S.next Y))) in
              rw all
              (same (W.line (S.next Y)) (S.next Y) j d
              (shift S W Y j d (I.order Y [] x t rest R.first d (rw r.1 at m) (suc j) (omega arith))))

      at_next : Z ≢ Y → Dec (Z ≡ S.next Y) → Cov S W' bef Z j d
      at_next ne (yes q) = rw q (there (rw q at e))
      at_next ne (no nx) = same bef Z j d (I.order Z bef z s aft (sym (R.others Z ne nx) ∙ e) d m j le)

      at_Y : Dec (Z ≡ Y) → Cov S W' bef Z j d
      at_Y (yes q) = rw q (here (rw q at e))
      at_Y (no ne) = at_next ne (ℕ_discrete Z (S.next Y))

  cover' : (C d j : ℕ) → W'.held C d → j < S.n → Cov S W' [] C j d
  cover' C d j h le = go (R.held_from C d h)
    where
      new : Dec (j ≤ t) → Cov S W' [] Y j x
      new (yes a) = moved [] Y 0 j refl (omega arith) (omega arith)
      new (no a) = has (R.held_to (iter S j Y) x (I.behind Y x t j top_frame (omega arith) le))

      go : W.held C d ⊎ ((C ≡ Y) × (d ≡ x)) → Cov S W' [] C j d
      go (inl h') = same [] C j d (I.cover C d j h' le)
      go (inr r) = rw (r.0, r.1) (new (dec_le j t))

  pub receive_inv : Inv S W'
  receive_inv =
      record {
        visible_held = visible_held';
        visible_down = visible_down';
        held_down = held_down';
        held_made = held_made';
        low = low';
        behind = behind';
        order = order';
        cover = cover';
      }
