-- What is current on a plot, and what is handed back, is not outranked. Assumes nothing.
use Rattle.std.proofs.Common.{◌≡◌, ℕ, zero, suc, ◌*◌, ◌<◌, Bool, true, false, cond, eqb, ◌⊎◌, List, [], ◌∷◌, sym, refl, ap, ◌∙◌, inl, inr, ⊎_elim, arith, eq-eqb, eqb-true, None, Some}
use mathlib.Core.List.Memᴰ
use mathlib.Core.List.{Memᴰ}
use Rattle.causal.specs.Sets.{has, is_in}
use Rattle.causal.specs.Tests.{both}
use Rattle.causal.proofs.Sets.{in_is, is_in_lem}
use Rattle.causal.proofs.Tests.{both_intro, both_true, false_true, split}
use Rattle.causal.specs.Rank.{ranks_above}
use Rattle.causal.proofs.Ranks.{above_irrefl}
use Rattle.frame.specs.Entries.{outranks}
use Rattle.frame.specs.declared.entry.Entry.{Entry}
use Rattle.frame.proofs.Entries.{outranks_irrefl, outranks_trans}
use Rattle.store.specs.Offices.{Found, Office, best_own, best_to, better, consider, current}

-- nothing that f hands back is outranked by q, and f is not none
abbrev pub Over : Found → Entry → Type 0
Over None q = ⊥
Over (Some h) q = outranks q h ≡ false

-- q is under what is found: also under the better of that and e
better_keeps : (e q : Entry) (b : Found) → Over b q → Over (better e b) q
unfolding better
better_keeps e q None h = absurd h
better_keeps e q (Some b) h = go (outranks e b) refl
  where
    up : outranks e b ≡ true → (t : Bool) → outranks q e ≡ t → outranks q e ≡ false
    up y true z = false_true (sym h ∙ outranks_trans q e b z y)
    up y false z = z

    go : (t : Bool) → outranks e b ≡ t → Over (cond t (Some e) (Some b)) q
    go true y = up y (outranks q e) refl
    go false y = h

better_new : (e : Entry) (b : Found) → Over (better e b) e
unfolding better
better_new e None = outranks_irrefl e
better_new e (Some b) = go (outranks e b) refl
  where
    go : (t : Bool) → outranks e b ≡ t → Over (cond t (Some e) (Some b)) e
    go true y = outranks_irrefl e
    go false y = y

pub consider_keeps : (t : Bool) (e q : Entry) (b : Found) → Over b q → Over (consider t e b) q
unfolding consider
consider_keeps true e q b h = better_keeps e q b h
consider_keeps false e q b h = h

pub consider_new : (t : Bool) (e : Entry) (b : Found) → t ≡ true → Over (consider t e b) e
unfolding consider
consider_new true e b h = better_new e b
consider_new false e b h = false_true h

some_not : (h : Entry) → None ≡ Some h → ⊥
some_not h e = let z : ◌≡◌ {A = ℕ} 0 1 = cc in omega arith

-- where what is found comes from
pub consider_from : (t : Bool) (e h : Entry) (b : Found) → consider t e b ≡ Some h → (b ≡ Some h) ⊎ ((t ≡ true) × (h ≡ e))
unfolding consider better
consider_from true e h None q = inr (refl, cc)
consider_from true e h (Some b) q = go (outranks e b) refl
  where
    go : (t : Bool) → outranks e b ≡ t → (Some b ≡ Some h) ⊎ ((true ≡ true) × (h ≡ e))
    go true y = let r : Some e ≡ Some h = rw y at q in inr (refl, cc)
    go false y = let r : Some b ≡ Some h = rw y at q in inl r
consider_from false e h b q = inl q

module _ (O : Office) (plot : ℕ) where
  abbrev cand : ℕ → Bool
  cand k = both (is_in O.visible k) (eqb (O.entry k).plot plot)

  best_over : (m k : ℕ) → k < m → cand k ≡ true → Over (best_to O plot m) (O.entry k)
  unfolding best_to
  best_over zero k l h = absurd (omega arith)
  best_over (suc m) k l h =
      ⊎_elim (λ (x : k < m). consider_keeps (cand m) (O.entry m) (O.entry k) (best_to O plot m) (best_over m k x h))
      (λ (x : k ≡ m). rw x (consider_new (cand m) (O.entry m) (best_to O plot m) (rw x at h))) (split k m l)

  best_from : (m : ℕ) (h : Entry) → best_to O plot m ≡ Some h
      → (k : ℕ) × (k < m) × (has O.visible k ≡ 1) × (h ≡ O.entry k) × ((O.entry k).plot ≡ plot)
  unfolding best_to
  best_from zero h q = absurd (some_not h q)
  best_from (suc m) h q =
      ⊎_elim (λ (x : best_to O plot m ≡ Some h). let r = best_from m h x in (r.0, omega (arith, r.1), r.2, r.3, r.4))
      (λ (x : (cand m ≡ true) × (h ≡ O.entry m)).
      let w = both_true (is_in O.visible m) (eqb (O.entry m).plot plot) x.0 in
      (m, omega arith, in_is O.visible m w.0, x.1, eqb-true (O.entry m).plot plot w.1))
      (consider_from (cand m) (O.entry m) h (best_to O plot m) q)

  -- what is visible on the plot does not outrank what is current there
  pub current_over : (k : ℕ) → k < 32 * O.offices → has O.visible k ≡ 1 → (O.entry k).plot ≡ plot → Over (current O plot) (O.entry k)
  unfolding current
  current_over k l v e =
      best_over (32 * O.offices) k l
      (both_intro (is_in O.visible k) (eqb (O.entry k).plot plot) (is_in_lem O.visible k v) (eq-eqb (O.entry k).plot plot e))

  pub current_from : (h : Entry) → current O plot ≡ Some h
      → (k : ℕ) × (k < 32 * O.offices) × (has O.visible k ≡ 1) × (h ≡ O.entry k) × ((O.entry k).plot ≡ plot)
  unfolding current
  current_from h q = best_from (32 * O.offices) h q

module _ (plot : ℕ) where
  pub own_keeps : (es : List Entry) (b : Found) (q : Entry) → Over b q → Over (best_own plot b es) q
  unfolding best_own
  own_keeps [] b q h = h
  own_keeps (e ∷ es) b q h = own_keeps es (consider (eqb e.plot plot) e b) q (consider_keeps (eqb e.plot plot) e q b h)

  pub own_over : (es : List Entry) (b : Found) (q : Entry) → Memᴰ q es → q.plot ≡ plot → Over (best_own plot b es) q
  unfolding best_own
  own_over [] b q m h = absurd (Memᴰ.not-nil m)
  own_over (e ∷ es) b q m h =
      ⊎_elim
      (λ (x : q ≡ e).
      own_keeps es (consider (eqb e.plot plot) e b) q
      (rw x (consider_new (eqb e.plot plot) e b (eq-eqb e.plot plot (ap (λ (y : Entry). y.plot) (sym x) ∙ h)))))
      (λ x. own_over es (consider (eqb e.plot plot) e b) q x h) (Memᴰ.cases_cons m)

  pub own_from : (es : List Entry) (b : Found) (h : Entry) → best_own plot b es ≡ Some h → (b ≡ Some h) ⊎ (Memᴰ h es × (h.plot ≡ plot))
  unfolding best_own
  own_from [] b h q = inl q
  own_from (e ∷ es) b h q =
      ⊎_elim (λ (x : consider (eqb e.plot plot) e b ≡ Some h).
      ⊎_elim (λ y. inl y)
      (λ (y : (eqb e.plot plot ≡ true) × (h ≡ e)). inr (Memᴰ.head y.1, ap (λ (z : Entry). z.plot) y.1 ∙ eqb-true e.plot plot y.0))
      (consider_from (eqb e.plot plot) e h b x)) (λ (x : Memᴰ h es × (h.plot ≡ plot)). inr (Memᴰ.tail x.0, x.1))
      (own_from es (consider (eqb e.plot plot) e b) h q)

-- "Where an own entry of the same name and clock but other content ties with the presented one, the presented one is handed back"
tie_no_rank : (e b : Entry) → e.office ≡ b.office → e.clock ≡ b.clock → outranks e b ≡ false
unfolding outranks
tie_no_rank e b o c =
    ap (λ (x : List ℕ). ranks_above x e.office b.clock b.office) c
    ∙ ap (λ (x : ℕ). ranks_above b.clock x b.clock b.office) o
    ∙ above_irrefl b.clock b.office

pub tie_stays : (e b : Entry) → e.office ≡ b.office → e.clock ≡ b.clock → better e (Some b) ≡ Some b
unfolding better
tie_stays e b o c = ap (λ (t : Bool). cond t (Some e) (Some b)) (tie_no_rank e b o c)
