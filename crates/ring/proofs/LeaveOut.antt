-- Entries but for those that a test takes out, as ids. Assumes nothing.
use Prim.Native.Nat.{ℕ}
use mathlib.Core.Bool.{Bool, cond, false, true}
use mathlib.Core.List.{List, Memᴰ, [], ◌∷◌, map}
use mathlib.Core.Path.{◌≡◌, refl}
use Rattle.frame.specs.Entries.{id_of}
use Rattle.frame.specs.Sessions.{leave_out}
use Rattle.frame.specs.declared.entry.Entry.{Entry}
use Rattle.mesh.specs.Sessions.{Without, without_drop, without_keep, without_nil}

module _ (t : Entry → Bool) where
  pub left_without : (Q : ℕ → Type 0) (es : List Entry) → ((e : Entry) → Memᴰ e es → t e ≡ true → Q (id_of e))
      → Without Q (map id_of es) (map id_of (leave_out t es))
  unfolding leave_out
  left_without Q [] q = without_nil
  left_without Q (e ∷ es) q = go (t e) refl (left_without Q es (λ x m. q x (Memᴰ.tail m)))
    where
      go : (b : Bool) → t e ≡ b → Without Q (map id_of es) (map id_of (leave_out t es))
          → Without Q (map id_of (e ∷ es)) (map id_of (cond b (leave_out t es) (e ∷ leave_out t es)))
      go true b ih = without_drop (q e (Memᴰ.head refl) b) ih
      go false b ih = without_keep ih
