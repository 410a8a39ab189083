-- A reveal keeps the invariant. Assumes nothing.
use Prim.Native.Nat.{ℕ, ◌<◌, suc}
use mathlib.Core.List.{List, []}
use mathlib.Core.Logic.{◌⊎◌, inl, inr}
use mathlib.Core.Path.{◌∙◌, ◌≡◌, sym}
use Rattle.mesh.specs.Ring.{Shape, iter}
use Rattle.mesh.specs.World.{Cov, Inv, Reach, Reveal, World, ahead, beyond, via}
use Rattle.mesh.proofs.Carry.{carry, reached_held}

module _ (S : Shape) (W W' : World) (I : Inv S W) (O : ℕ) (ids : ℕ → Type 0) (R : Reveal S W W' O ids) where
  same : (bef : List (ℕ × ℕ)) (Z j d : ℕ) → Cov S W bef Z j d → Cov S W' bef Z j d
  same bef Z j d c =
      carry S W W' R.held_to bef bef Z j d (λ s m le. ahead s m le) (λ i s m a b. beyond i s (rw (R.others (iter S (suc i) Z)) m) a b) c

  held_down' : (o z d : ℕ) → W'.held o z → S.deps z d → W'.held o d
  held_down' o z d h m = R.held_to o d (I.held_down o z d (R.held_from o z h) m)

  visible_held' : (o z p : ℕ) → p < S.n → W'.visible o z → W'.held p z
  visible_held' o z p h s = go (R.visible_from o z s)
    where
      go : W.visible o z ⊎ ((o ≡ O) × ((r : ℕ) × ids r × Reach S r z)) → W'.held p z
      go (inl s') = R.held_to p z (I.visible_held o z p h s')
      go (inr r) =
          let u = R.seen r.1.0 r.1.1 in
          reached_held S W' held_down' p r.1.0 z r.1.2 (R.held_to p r.1.0 (I.visible_held u.0 r.1.0 p h u.1))

  visible_down' : (o z d : ℕ) → W'.visible o z → S.deps z d → W'.visible o d
  visible_down' o z d s m = go (R.visible_from o z s)
    where
      go : W.visible o z ⊎ ((o ≡ O) × ((r : ℕ) × ids r × Reach S r z)) → W'.visible o d
      go (inl s') = R.visible_to o d (I.visible_down o z d s' m)
      go (inr r) = rw r.0 (R.visible_new r.1.0 d r.1.1 (via r.1.2 m))

  pub reveal_inv : Inv S W'
  reveal_inv =
      record {
        visible_held = visible_held';
        visible_down = visible_down';
        held_down = held_down';
        held_made = λ o z h. R.made_to z (I.held_made o z (R.held_from o z h));
        low = λ Z z s m. I.low Z z s (rw (R.others Z) at m);
        behind = λ Z z s k m a b. R.held_to (iter S k Z) z (I.behind Z z s k (rw (R.others Z) at m) a b);
        order = λ Z bef z s aft e d m j le. same bef Z j d (I.order Z bef z s aft (sym (R.others Z) ∙ e) d m j le);
        cover = λ C d j h le. same [] C j d (I.cover C d j (R.held_from C d h) le);
      }
