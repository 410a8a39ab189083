-- Each entry made is later than those it depends on, and than those of its writer's past, which are reached from them. Assumes nothing.
use Prim.Native.Nat.{ℕ, ◌≤◌}
use mathlib.Core.List.{List, Memᴰ}
use mathlib.Core.Path.{◌≡◌}
use native.Mathlib.Omega.{arith}
use Rattle.causal.specs.Clocks.{Covers}
use Rattle.causal.specs.Sets.{has}
use Rattle.frame.specs.declared.entry.Entry.{Entry}
use Rattle.mesh.specs.World.{Reach, self, via}
use Rattle.ring.specs.Later.{Later}
use Rattle.ring.proofs.Base.{dep_made, facts}
use Rattle.ring.proofs.Clocks.{Clocks, Under, under_outranks}
use Rattle.ring.proofs.Fit.{Sys, Whole, ids, shape}

module _ (n p : ℕ) (two : 2 ≤ n) (eight : n ≤ 8) (E : ℕ → Entry) (P : ℕ → List ℕ) (g : Sys) (w : Whole n p two E P g) (K : Clocks n E g) where
  under_later : (k d : ℕ) → Memᴰ k (ids g.log) → Memᴰ d (ids g.log) → Under (E d) (E k) → Later (E k) (E d)
  under_later k d m i u =
      record {
        outranked = under_outranks (E d) (E k) n p eight (facts n p two eight E P g w k m) (w.good k m).clock8 (w.good d i).clock8 u;
        covered = u.le;
      }

  pub dep_later : (k d : ℕ) → Memᴰ k (ids g.log) → has (E k).deps d ≡ 1 → Later (E k) (E d)
  dep_later k d m h = under_later k d m (dep_made n p two eight E P g w k d m h) (K.deps k d m h)

  -- on the way down no number of a clock grows
  reached_made : (x q : ℕ) → Reach (shape n two E) x q → Memᴰ x (ids g.log)
      → Memᴰ q (ids g.log) × Covers (E x).clock (E q).clock
  reached_made x q (self) m = (m, λ j l. omega arith)
  reached_made x q (via {y = y} {d = d} c h) m =
      let t = reached_made x y c m in
      let u = K.deps y d t.0 h in
      (dep_made n p two eight E P g w y d t.0 h, λ j l. omega (arith, u.le j l, t.1 j l))

  past_under : (k q : ℕ) → Memᴰ k (ids g.log) → Memᴰ q (P k) → Memᴰ q (ids g.log) × Under (E q) (E k)
  past_under k q m i =
      let t = w.law k q m i in
      let u = K.deps k t.0 m t.1 in
      let v = reached_made t.0 q t.2 (dep_made n p two eight E P g w k t.0 m t.1) in
      let F = facts n p two eight E P g w k m in
      (v.0, record { le = λ j l. omega (arith, u.le j l, v.1 j l); lt = omega (arith, u.lt, v.1 (E k).office (omega (arith, F.bounds.office_ok))) })

  pub past_later : (k q : ℕ) → Memᴰ k (ids g.log) → Memᴰ q (P k) → Later (E k) (E q)
  past_later k q m i = let t = past_under k q m i in under_later k q m t.0 t.1
