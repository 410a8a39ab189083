-- What each transition's proof uses. Assumes nothing.
use Prim.Native.Nat.{ℕ, ◌+◌, ◌≤◌, suc, zero}
use mathlib.Core.List.Memᴰ
use mathlib.Core.List.{List, Memᴰ, [], ◌∷◌}
use mathlib.Core.Path.{◌≡◌}
use native.Mathlib.Omega.{arith}
use Rattle.mesh.specs.Ring.{Shape, iter}
use Rattle.mesh.specs.World.{Cov, Fresh, Inv, Reach, World, ahead, beyond, has, self, via}
use Rattle.mesh.proofs.Lists.{mem_of}

module _ (S : Shape) where
  -- what holds x, and all that its ids depend on, holds what is reached from x
  pub reached_held : (W : World) → ((o x d : ℕ) → W.held o x → S.deps x d → W.held o d) →
      (o x z : ℕ) → Reach S x z → W.held o x → W.held o z
  reached_held W down o x z (self) h = h
  reached_held W down o x z (via {y = y} {d = d} r m) h = down o y d (reached_held W down o x y r h) m

  -- no receive is ever refused: what Y is about to receive depends only on what Y holds
  pub receive_ready : (W : World) → Inv S W → (Y x t : ℕ) (rest : List (ℕ × ℕ)) → W.line Y ≡ (x, t) ∷ rest →
      (d : ℕ) → S.deps x d → W.held Y d
  receive_ready W I Y x t rest e d m = go (I.order Y [] x t rest e d m 0 (omega arith))
    where
      go : Cov S W [] Y 0 d → W.held Y d
      go (has h) = h
      go (ahead s m' le) = absurd (Memᴰ.not-nil m')
      go (beyond i s m' a b) = absurd (omega arith)

  -- seen from the next office
  pub shift : (W : World) (Y j d : ℕ) → Cov S W [] Y (suc j) d → Cov S W (W.line (S.next Y)) (S.next Y) j d
  shift W Y j d (has h) = has h
  shift W Y j d (ahead s m le) = absurd (Memᴰ.not-nil m)
  shift W Y j d (beyond zero s m a b) = ahead s m (omega arith)
  shift W Y j d (beyond (suc i) s m a b) = beyond i s m (omega arith) (omega arith)

  -- what is held stays held, and a frame that is on its way to an office is still on its way, or has arrived:
  -- then this is so from every place
  pub carry : (W W' : World) → ((o z : ℕ) → W.held o z → W'.held o z) →
      (bef bef' : List (ℕ × ℕ)) (Y j d : ℕ) →
      ((s : ℕ) → Memᴰ (d, s) bef → j ≤ s → Cov S W' bef' Y j d) →
      ((i s : ℕ) → Memᴰ (d, s) (W.line (iter S (suc i) Y)) → suc i ≤ j → j ≤ suc i + s → Cov S W' bef' Y j d) →
      Cov S W bef Y j d → Cov S W' bef' Y j d
  carry W W' to bef bef' Y j d f g (has h) = has (to (iter S j Y) d h)
  carry W W' to bef bef' Y j d f g (ahead s m le) = f s m le
  carry W W' to bef bef' Y j d f g (beyond i s m a b) = g i s m a b

  -- whatever waits is made
  pub line_made : (W : World) → Inv S W → (Y x t : ℕ) → Memᴰ (x, t) (W.line Y) → W.made x
  line_made W I Y x t m =
      let lo : t ≤ S.top = I.low Y x t m in
      I.held_made (iter S (suc S.top) Y) x (I.behind Y x t (suc S.top) m (omega arith) (omega arith))

  pub fresh_inv : (W : World) → Fresh S W → Inv S W
  fresh_inv W F =
      record {
        visible_held = λ o x p h s. absurd (F.no_visible o x s);
        visible_down = λ o x d s m. absurd (F.no_visible o x s);
        held_down = λ o x d h m. absurd (F.no_held o x h);
        held_made = λ o x h. absurd (F.no_held o x h);
        low = λ Y x t m. absurd (none Y x t m);
        behind = λ Y x t k m a b. absurd (none Y x t m);
        order = λ Y bef x t aft e d m j le. absurd (none Y x t (mem_of bef (x, t) aft e));
        cover = λ C d j h le. absurd (F.no_held C d h);
      }
    where
      none : (Y x t : ℕ) → Memᴰ (x, t) (W.line Y) → ⊥
      none Y x t m = Memᴰ.not-nil (rw (F.no_line Y) at m)
