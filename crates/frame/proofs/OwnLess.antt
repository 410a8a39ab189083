-- Own writes with some left out, and one list behind another, keep the rules of a session. Assumes nothing.
use Rattle.std.proofs.Common.{◌≡◌, ℕ, ◌<◌, ◌≤◌, Bool, true, false, cond, ◌⊎◌, List, [], ◌∷◌, ◌++◌, refl, inl, inr, ⊎_elim, arith}
use mathlib.Core.List.{Memᴰ}
use Rattle.causal.specs.Sets.{IdSet, has, inserted, unite}
use Rattle.causal.proofs.Sets.{ids_inserted, ids_unite, in_inserted, in_or_out, in_unite, inserted_old, subset_by, subset_within, unite_left, unite_right}
use Rattle.frame.specs.Entries.{id_of}
use Rattle.frame.specs.Sessions.{SaneEntry, leave_out, own_ok}
use Rattle.frame.specs.declared.entry.Entry.{Entry}
use Rattle.frame.proofs.Entries.{entry_facts}
use Rattle.frame.proofs.Ids.{id_range, inserted_new}
use Rattle.frame.proofs.Sessions.{OwnFacts, facts_own, ids_with, own_facts}

-- a list that keeps the rules, and behind it one that keeps them after it
pub own_append : (n p : ℕ) (read seen : List ℕ) (xs ys : List Entry) → own_ok n p read seen xs ≡ true → own_ok n p read (ids_with seen xs) ys ≡ true
    → own_ok n p read seen (xs ++ ys) ≡ true
own_append n p read seen [] ys h k = k
own_append n p read seen (x ∷ xs) ys h k =
    let F = own_facts n p read seen x xs h in
    facts_own n p read seen x (xs ++ ys)
    (record { ok = F.ok; new = F.new; deps = F.deps; rest = own_append n p read (inserted seen (id_of x)) xs ys F.rest k })

-- out of a smaller set, where it was not in the larger
out_before : (s : List ℕ) (k d : ℕ) → k < 256 → IdSet s → has (inserted s k) d ≡ 0 → has s d ≡ 0
out_before s k d l w h = ⊎_elim (λ (x : has s d ≡ 1). absurd (omega (arith, inserted_old s k l w d x))) (λ x. x) (in_or_out s d)

module _ (n p : ℕ) (n8 : n ≤ 8) (read read' : List ℕ) (wr : IdSet read) (wr' : IdSet read') (t : Entry → Bool) where
  abbrev Known : List ℕ → ℕ → Type 0
  Known seen d = (has read d ≡ 1) ⊎ (has seen d ≡ 1)

  abbrev Known' : List ℕ → ℕ → Type 0
  Known' seen d = (has read' d ≡ 1) ⊎ (has seen d ≡ 1)

  -- what was known is known; what is left out is known; what is kept is new
  pub record Less (seen seen' : List ℕ) (es : List Entry) : Type 0 where
    pub known : (d : ℕ) → Known seen d → Known' seen' d
    pub out : (e : Entry) → Memᴰ e es → t e ≡ true → Known' seen' (id_of e)
    pub new : (e : Entry) → Memᴰ e es → t e ≡ false → has seen (id_of e) ≡ 0 → has seen' (id_of e) ≡ 0

  pub own_less : (es : List Entry) → ((e : Entry) → Memᴰ e es → SaneEntry e) → (seen seen' : List ℕ) → IdSet seen → IdSet seen'
      → Less seen seen' es → own_ok n p read seen es ≡ true → own_ok n p read' seen' (leave_out t es) ≡ true
  unfolding leave_out own_ok
  own_less [] sane seen seen' w w' L h = refl
  own_less (e ∷ es) sane seen seen' w w' L h =
      go (t e) refl (λ a b u v K. own_less es (λ f m. sane f (Memᴰ.tail m)) a b u v K)
    where
      F : OwnFacts n p read seen e es
      F = own_facts n p read seen e es h

      small : id_of e < 256
      small = omega (arith, id_range n p e (entry_facts n p e F.ok))

      wi : IdSet (inserted seen (id_of e))
      wi = ids_inserted seen (id_of e) w

      wi' : IdSet (inserted seen' (id_of e))
      wi' = ids_inserted seen' (id_of e) w'

      -- e is left out: it is known already
      drops : t e ≡ true → Less (inserted seen (id_of e)) seen' es
      drops q =
          record {
            known = known;
            out = λ f m. L.out f (Memᴰ.tail m);
            new = λ f m b z. L.new f (Memᴰ.tail m) b (out_before seen (id_of e) (id_of f) small w z);
          }
        where
          known : (d : ℕ) → Known (inserted seen (id_of e)) d → Known' seen' d
          known d (inl x) = L.known d (inl x)
          known d (inr x) =
              ⊎_elim (λ (y : d ≡ id_of e). rw y (L.out e (Memᴰ.head refl) q)) (λ y. L.known d (inr y)) (in_inserted seen (id_of e) d small w x)

      -- e is kept
      more : (d : ℕ) → Known' seen' d → Known' (inserted seen' (id_of e)) d
      more d (inl x) = inl x
      more d (inr x) = inr (inserted_old seen' (id_of e) small w' d x)

      keeps : Less (inserted seen (id_of e)) (inserted seen' (id_of e)) es
      keeps = record { known = known; out = λ f m b. more (id_of f) (L.out f (Memᴰ.tail m) b); new = new }
        where
          known : (d : ℕ) → Known (inserted seen (id_of e)) d → Known' (inserted seen' (id_of e)) d
          known d (inl x) = more d (L.known d (inl x))
          known d (inr x) =
              ⊎_elim (λ (y : d ≡ id_of e). inr (rw y (inserted_new seen' (id_of e) small w'))) (λ y. more d (L.known d (inr y)))
              (in_inserted seen (id_of e) d small w x)

          new : (f : Entry) → Memᴰ f es → t f ≡ false → has (inserted seen (id_of e)) (id_of f) ≡ 0 → has (inserted seen' (id_of e)) (id_of f) ≡ 0
          new f m b z = ⊎_elim (λ (x : has (inserted seen' (id_of e)) (id_of f) ≡ 1). absurd (clash (in_inserted seen' (id_of e) (id_of f) small w' x))) (λ x. x)
              (in_or_out (inserted seen' (id_of e)) (id_of f))
            where
              clash : (id_of f ≡ id_of e) ⊎ (has seen' (id_of f) ≡ 1) → ⊥
              clash (inl y) =
                  let o : has (inserted seen (id_of e)) (id_of e) ≡ 1 = inserted_new seen (id_of e) small w in
                  let q : has (inserted seen (id_of e)) (id_of e) ≡ 0 = rw y at z in
                  omega arith
              clash (inr y) =
                  let q : has seen' (id_of f) ≡ 0 = L.new f (Memᴰ.tail m) b (out_before seen (id_of e) (id_of f) small w z) in
                  omega arith

      deps : (d : ℕ) → has e.deps d ≡ 1 → has (unite read' seen') d ≡ 1
      deps d x =
          ⊎_elim (λ y. unite_left read' seen' wr' d y) (λ y. unite_right read' seen' w' d y)
          (L.known d
          (in_unite read seen d (ids_unite read seen wr w)
          (subset_within e.deps (unite read seen) (sane e (Memᴰ.head refl)).deps_set F.deps d x)))

      go : (b : Bool) → t e ≡ b
          → ((a c : List ℕ) → IdSet a → IdSet c → Less a c es → own_ok n p read a es ≡ true → own_ok n p read' c (leave_out t es) ≡ true)
          → own_ok n p read' seen' (cond b (leave_out t es) (e ∷ leave_out t es)) ≡ true
      go true q ih = ih (inserted seen (id_of e)) seen' wi w' (drops q) F.rest
      go false q ih =
          facts_own n p read' seen' e (leave_out t es)
          (record {
            ok = F.ok;
            new = L.new e (Memᴰ.head refl) q F.new;
            deps = subset_by e.deps (unite read' seen') (sane e (Memᴰ.head refl)).deps_set (ids_unite read' seen' wr' w') deps;
            rest = ih (inserted seen (id_of e)) (inserted seen' (id_of e)) wi wi' keeps F.rest;
          })
