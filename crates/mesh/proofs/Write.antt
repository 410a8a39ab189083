-- A write keeps the invariant. Assumes nothing.
use Prim.Native.Nat.{ℕ, ◌<◌, ◌≤◌, suc, zero}
use mathlib.Core.List.Memᴰ
use mathlib.Core.List.{List, Memᴰ, [], ◌++◌, ◌∷◌}
use mathlib.Core.Logic.{◌⊎◌, inl, inr}
use mathlib.Core.Path.{◌∙◌, ◌≡◌, ap, sym}
use native.Mathlib.Decide.{ℕ_discrete}
use native.Mathlib.Omega.{arith}
use Rattle.mesh.specs.Ring.{Shape, iter}
use Rattle.mesh.specs.World.{Cov, Inv, World, Write, ahead, beyond, frames, has}
use Rattle.mesh.proofs.Carry.{carry, shift}
use Rattle.mesh.proofs.Iter.{iter_period}
use Rattle.mesh.proofs.Lists.{Side, left, map_split, mem_split, right, side}

module _ (S : Shape) (W W' : World) (I : Inv S W) (C : ℕ) (ds : List ℕ) (e : ℕ) (R : Write S W W' C ds e) where
  abbrev ys : List ℕ
  ys = ds ++ e ∷ []

  -- what waited still waits
  still : (o z s : ℕ) → Memᴰ (z, s) (W.line o) → Memᴰ (z, s) (W'.line o)
  still o z s m = at_next (ℕ_discrete o (S.next C))
    where
      at_next : Dec (o ≡ S.next C) → Memᴰ (z, s) (W'.line o)
      at_next (yes q) = rw (q, R.does.sent) (Memᴰ.append_left (frames S.top ys) (rw q at m))
      at_next (no nx) = rw (R.does.others o nx) m

  -- what waits waited before, or is sent by this write
  came : (o z s : ℕ) → Memᴰ (z, s) (W'.line o) → Memᴰ (z, s) (W.line o) ⊎ ((o ≡ S.next C) × Memᴰ z ys × (s ≡ S.top))
  came o z s m = at_next (ℕ_discrete o (S.next C))
    where
      split : o ≡ S.next C → Memᴰ (z, s) (W.line (S.next C)) ⊎ Memᴰ (z, s) (frames S.top ys)
          → Memᴰ (z, s) (W.line o) ⊎ ((o ≡ S.next C) × Memᴰ z ys × (s ≡ S.top))
      split q (inl m') = inl (rw q m')
      split q (inr m') =
          let r = Memᴰ.of_map (λ (y : ℕ). (y, S.top)) ys m' in
          let p : r.0 ≡ z = ap (λ (f : ℕ × ℕ). f.0) r.2 in
          inr (q, rw p at r.1, sym (ap (λ (f : ℕ × ℕ). f.1) r.2))

      at_next : Dec (o ≡ S.next C) → Memᴰ (z, s) (W.line o) ⊎ ((o ≡ S.next C) × Memᴰ z ys × (s ≡ S.top))
      at_next (yes q) = split q (Memᴰ.append_cases (W.line (S.next C)) (rw (q, R.does.sent) at m))
      at_next (no nx) = inl (rw (R.does.others o nx) at m)

  kept : (bef bef' : List (ℕ × ℕ)) (Z j d : ℕ) → ((s : ℕ) → Memᴰ (d, s) bef → Memᴰ (d, s) bef') → Cov S W bef Z j d
      → Cov S W' bef' Z j d
  kept bef bef' Z j d f c =
      carry S W W' R.does.held_to bef bef' Z j d (λ s m le. ahead s (f s m) le)
      (λ i s m a b. beyond i s (still (iter S (suc i) Z) d s m) a b) c

  same : (bef : List (ℕ × ℕ)) (Z j d : ℕ) → Cov S W bef Z j d → Cov S W' bef Z j d
  same bef Z j d c = kept bef bef Z j d (λ s m. m) c

  made_all : (y : ℕ) → Memᴰ y ys → W'.made y
  made_all y m = go (Memᴰ.append_cases ds m)
    where
      go : Memᴰ y ds ⊎ Memᴰ y (e ∷ []) → W'.made y
      go (inl m') = R.does.made_to y (R.carried y m')
      go (inr m') = rw (Memᴰ.eq_of_singleton m') R.does.made_new

  held_down' : (o z d : ℕ) → W'.held o z → S.deps z d → W'.held o d
  held_down' o z d h m = go (R.does.held_from o z h)
    where
      new : (bef aft : List ℕ) → ys ≡ bef ++ z ∷ aft → W.held C d ⊎ Memᴰ d bef → W'.held C d
      new bef aft q (inl h') = R.does.held_to C d h'
      new bef aft q (inr m') = R.does.held_new d (rw q (Memᴰ.append_left (z ∷ aft) m'))

      go : W.held o z ⊎ ((o ≡ C) × Memᴰ z ys) → W'.held o d
      go (inl h') = R.does.held_to o d (I.held_down o z d h' m)
      go (inr r) = let s = mem_split r.1 in rw r.0 (new s.0 s.1 s.2 (R.ready s.0 z s.1 s.2 d m))

  held_made' : (o z : ℕ) → W'.held o z → W'.made z
  held_made' o z h = go (R.does.held_from o z h)
    where
      go : W.held o z ⊎ ((o ≡ C) × Memᴰ z ys) → W'.made z
      go (inl h') = R.does.made_to z (I.held_made o z h')
      go (inr r) = made_all z r.1

  low' : (Z z s : ℕ) → Memᴰ (z, s) (W'.line Z) → s ≤ S.top
  low' Z z s m = go (came Z z s m)
    where
      go : Memᴰ (z, s) (W.line Z) ⊎ ((Z ≡ S.next C) × Memᴰ z ys × (s ≡ S.top)) → s ≤ S.top
      go (inl m') = I.low Z z s m'
      go (inr r) = omega arith

  behind' : (Z z s k : ℕ) → Memᴰ (z, s) (W'.line Z) → s < k → k < S.n → W'.held (iter S k Z) z
  behind' Z z s k m a b = go (came Z z s m)
    where
      go : Memᴰ (z, s) (W.line Z) ⊎ ((Z ≡ S.next C) × Memᴰ z ys × (s ≡ S.top)) → W'.held (iter S k Z) z
      go (inl m') = R.does.held_to (iter S k Z) z (I.behind Z z s k m' a b)
      go (inr r) =
          let l : suc k ≡ S.n = omega arith in
          let p : iter S (suc k) C ≡ C = ap (λ (i : ℕ). iter S i C) l ∙ iter_period S C R.in_ring in
          rw (r.0, p) (R.does.held_new z r.1)

  order' : (Z : ℕ) (bef : List (ℕ × ℕ)) (z s : ℕ) (aft : List (ℕ × ℕ)) → W'.line Z ≡ bef ++ (z, s) ∷ aft →
      (d : ℕ) → S.deps z d → (j : ℕ) → j ≤ s → Cov S W' bef Z j d
  order' Z bef z s aft q d m j le = at_next (ℕ_discrete Z (S.next C))
    where
      -- a frame of this write, for the id y that stands after b among them
      new : (b a : List ℕ) (y : ℕ) → ys ≡ b ++ y ∷ a → z ≡ y → s ≡ S.top → W.held C d ⊎ Memᴰ d b
          → Cov S W' (W.line (S.next C) ++ frames S.top b) (S.next C) j d
      new b a y p ez es (inl h) =
          kept (W.line (S.next C)) (W.line (S.next C) ++ frames S.top b) (S.next C) j d (λ u. Memᴰ.append_left (frames S.top b))
          (shift S W C j d (I.cover C d (suc j) h (omega arith)))
      new b a y p ez es (inr m') = ahead S.top (Memᴰ.append_right (W.line (S.next C)) (Memᴰ.map (λ (i : ℕ). (i, S.top)) m')) (omega arith)

      there : W'.line (S.next C) ≡ bef ++ (z, s) ∷ aft → Cov S W' bef (S.next C) j d
      there p = go (side (W.line (S.next C)) (frames S.top ys) bef (z, s) aft (sym R.does.sent ∙ p))
        where
          go : Side (W.line (S.next C)) (frames S.top ys) bef (z, s) aft → Cov S W' bef (S.next C) j d
          go (left aft' l) = same bef (S.next C) j d (I.order (S.next C) bef z s aft' l d m j le)
          go (right bef' l l') =
              let r = map_split (λ (y : ℕ). (y, S.top)) ys bef' (z, s) aft l' in
              let ez : z ≡ r.1 = ap (λ (f : ℕ × ℕ). f.0) r.5 in
              rw (l, r.4)
              (new r.0 r.2 r.1 r.3 ez (ap (λ (f : ℕ × ℕ). f.1) r.5) (R.ready r.0 r.1 r.2 r.3 d (rw ez at m)))

      at_next : Dec (Z ≡ S.next C) → Cov S W' bef Z j d
      at_next (yes p) = rw p (there (rw p at q))
      at_next (no nx) = same bef Z j d (I.order Z bef z s aft (sym (R.does.others Z nx) ∙ q) d m j le)

  cover' : (O d j : ℕ) → W'.held O d → j < S.n → Cov S W' [] O j d
  cover' O d j h le = go (R.does.held_from O d h)
    where
      new : Memᴰ d ys → (i : ℕ) → i < S.n → Cov S W' [] C i d
      new m zero l = has (R.does.held_new d m)
      new m (suc i) l =
          beyond 0 S.top (rw R.does.sent (Memᴰ.append_right (W.line (S.next C)) (Memᴰ.map (λ (y : ℕ). (y, S.top)) m))) (omega arith)
          (omega arith)

      go : W.held O d ⊎ ((O ≡ C) × Memᴰ d ys) → Cov S W' [] O j d
      go (inl h') = same [] O j d (I.cover O d j h' le)
      go (inr r) = rw r.0 (new r.1 j le)

  pub write_inv : Inv S W'
  write_inv =
      record {
        visible_held = λ o z p h s. R.does.held_to p z (I.visible_held o z p h (R.does.visible_from o z s));
        visible_down = λ o z d s m. R.does.visible_to o d (I.visible_down o z d (R.does.visible_from o z s) m);
        held_down = held_down';
        held_made = held_made';
        low = low';
        behind = behind';
        order = order';
        cover = cover';
      }
