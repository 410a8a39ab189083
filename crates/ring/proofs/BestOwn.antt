-- What is handed back does not depend on the order of the own writes: among those of a sound session no two tie. Assumes nothing.
use Rattle.std.proofs.Common.{None, Some}
use Prim.Native.Nat.{ℕ}
use mathlib.Core.Bool.{Bool, cond, false, true}
use mathlib.Core.List.{List, Memᴰ, [], ◌∷◌, map}
use mathlib.Core.Logic.{◌⊎◌, inl, inr, ⊎_elim}
use mathlib.Core.Path.{◌∙◌, ◌≡◌, ap, refl, sym}
use lib.Dec.{eqb}
use lib.ListN.{get_or, length}
use Rattle.causal.proofs.Ranks.{above_total}
use Rattle.causal.proofs.Tests.{false_true}
use Rattle.frame.specs.Entries.{id_of, outranks}
use Rattle.frame.specs.declared.entry.Entry.{Entry}
use Rattle.frame.proofs.Entries.{EntryFacts, outranks_irrefl, outranks_trans}
use Rattle.joining.proofs.Orders.{Apart, apart_one}
use Rattle.store.specs.Offices.{Found, best_own, better, consider}
use Rattle.store.proofs.Best.{Over, own_from, own_keeps, own_over}

-- what is found in place of x outranks it
consider_strict : (t : Bool) (e x h : Entry) → consider t e (Some x) ≡ Some h → (h ≡ x) ⊎ (outranks h x ≡ true)
unfolding consider better
consider_strict true e x h q = go (outranks e x) refl
  where
    go : (b : Bool) → outranks e x ≡ b → (h ≡ x) ⊎ (outranks h x ≡ true)
    go true y = let r : Some e ≡ Some h = rw y at q in let z : e ≡ h = cc in inr (rw (← z) y)
    go false y = let r : Some x ≡ Some h = rw y at q in inl (cc)
consider_strict false e x h q = inl (cc)

consider_some : (t : Bool) (e x : Entry) → (y : Entry) × (consider t e (Some x) ≡ Some y)
unfolding consider better
consider_some true e x = go (outranks e x)
  where
    go : (b : Bool) → (y : Entry) × (cond b (Some e) (Some x) ≡ Some y)
    go true = (e, refl)
    go false = (x, refl)
consider_some false e x = (x, refl)

own_strict : (plot : ℕ) (es : List Entry) (x h : Entry) → best_own plot (Some x) es ≡ Some h → (h ≡ x) ⊎ (outranks h x ≡ true)
unfolding best_own
own_strict plot [] x h q = inl (cc)
own_strict plot (e ∷ es) x h q =
    let s = consider_some (eqb e.plot plot) e x in
    let r : best_own plot (Some s.0) es ≡ Some h = sym (ap (λ (f : Found). best_own plot f es) s.1) ∙ q in
    join (consider_strict (eqb e.plot plot) e x s.0 s.1) (own_strict plot es s.0 h r)
  where
    join : {y : Entry} → (y ≡ x) ⊎ (outranks y x ≡ true) → (h ≡ y) ⊎ (outranks h y ≡ true) → (h ≡ x) ⊎ (outranks h x ≡ true)
    join {y} (inl a) (inl b) = inl (b ∙ a)
    join {y} (inl a) (inr b) = inr (rw (← a) b)
    join {y} (inr a) (inl b) = inr (rw b a)
    join {y} (inr a) (inr b) = inr (outranks_trans h y x b a)

module _ (n p : ℕ) (es fs : List Entry) (to : (e : Entry) → Memᴰ e es → Memᴰ e fs) (from : (e : Entry) → Memᴰ e fs → Memᴰ e es)
    (keeps : (e : Entry) → Memᴰ e es → EntryFacts n p e × (length e.clock ≡ 8)) (apart : Apart (map id_of es)) where
  -- no two own writes tie: the clock has the serial at its own office
  no_tie : (e f : Entry) → Memᴰ e es → Memᴰ f es → outranks e f ≡ false → outranks f e ≡ false → e ≡ f
  unfolding outranks
  no_tie e f i j x y =
      let E = keeps e i in
      let F = keeps f j in
      let t = above_total e.clock f.clock e.office f.office (E.1 ∙ sym F.1) x y in
      let s : e.serial ≡ f.serial =
      sym E.0.own_clock ∙ (λ k. get_or (t.0 k) (t.1 k) 0) ∙ F.0.own_clock
      in
      apart_one id_of es apart e f i j (λ k. id_of (record { office = t.1 k; serial = s k; plot = e.plot; value = e.value; clock = e.clock; deps = e.deps }))

  -- nothing that the other order considers outranks what is found
  under : (plot : ℕ) (b : Found) (h : Entry) → best_own plot b fs ≡ Some h → Over (best_own plot b es) h
  under plot b h q =
      ⊎_elim (λ (y : b ≡ Some h). own_keeps plot es b h (rw y (outranks_irrefl h))) (λ m. own_over plot es b h (from h m.0) m.1)
      (own_from plot fs b h q)

  over : (plot : ℕ) (b : Found) (h : Entry) → best_own plot b es ≡ Some h → Over (best_own plot b fs) h
  over plot b h q =
      ⊎_elim (λ (y : b ≡ Some h). own_keeps plot fs b h (rw y (outranks_irrefl h))) (λ m. own_over plot fs b h (to h m.0) m.1)
      (own_from plot es b h q)

  -- what two orders find is one entry
  same : (plot : ℕ) (b : Found) (x y : Entry) → best_own plot b es ≡ Some x → best_own plot b fs ≡ Some y → x ≡ y
  same plot b x y p q = go (own_from plot es b x p) (own_from plot fs b y q)
    where
      no_x : outranks x y ≡ false
      no_x = rw q at (over plot b x p)

      no_y : outranks y x ≡ false
      no_y = rw p at (under plot b y q)

      go : (b ≡ Some x) ⊎ (Memᴰ x es × (x.plot ≡ plot)) → (b ≡ Some y) ⊎ (Memᴰ y fs × (y.plot ≡ plot)) → x ≡ y
      go (inl e) (inl f) = let r : Some x ≡ Some y = sym e ∙ f in cc
      go (inl e) (inr m) =
          ⊎_elim (λ (z : y ≡ x). sym z) (λ (z : outranks y x ≡ true). false_true (sym no_y ∙ z))
          (own_strict plot fs x y (sym (ap (λ (f : Found). best_own plot f fs) e) ∙ q))
      go (inr m) (inl f) =
          ⊎_elim (λ (z : x ≡ y). z) (λ (z : outranks x y ≡ true). false_true (sym no_x ∙ z))
          (own_strict plot es y x (sym (ap (λ (g : Found). best_own plot g es) f) ∙ p))
      go (inr m) (inr k) = no_tie x y m.0 (from y k.0) no_x no_y

  pub best_same : (plot : ℕ) (b : Found) → best_own plot b es ≡ best_own plot b fs
  best_same plot b = go (best_own plot b es) refl (best_own plot b fs) refl
    where
      go : (x : Found) → best_own plot b es ≡ x → (y : Found) → best_own plot b fs ≡ y → x ≡ y
      go None e None f = refl
      go None e (Some y) f = absurd (rw e at (under plot b y f))
      go (Some x) e None f = absurd (rw f at (over plot b x e))
      go (Some x) e (Some y) f = ap Some (same plot b x y e f)
