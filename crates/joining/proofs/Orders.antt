-- One list in two orders: the same members, as many; lists without repeats and of the same members are in some order of each other. Sessions that
-- have gone on. Assumes nothing.
use mathlib.Core.List.Memᴰ
use mathlib.Core.List.{List, Memᴰ, [], ◌++◌, ◌∷◌, append_assoc, append-nil, map}
use mathlib.Core.Logic.{⊎_elim}
use mathlib.Core.Path.{◌∙◌, ◌≡◌, ap, refl, sym}
use native.Mathlib.Omega.{arith}
use lib.ListN.{length, length-append}
use Rattle.frame.specs.Sessions.{Content}
use Rattle.frame.specs.declared.entry.Entry.{Entry}
use Rattle.joining.specs.Orders.{GoneOn, Permuted, permuted_cons, permuted_nil}

module _ {A : Type 0} where
  -- an element in the middle
  mid_in : (bef : List A) (x : A) (aft : List A) → Memᴰ x (bef ++ x ∷ aft)
  mid_in bef x aft = Memᴰ.append_right bef (Memᴰ.head refl)

  mid_more : (bef : List A) (x : A) (aft : List A) (y : A) → Memᴰ y (bef ++ aft) → Memᴰ y (bef ++ x ∷ aft)
  mid_more bef x aft y m =
      ⊎_elim (λ i. Memᴰ.append_left (x ∷ aft) i) (λ i. Memᴰ.append_right bef (Memᴰ.tail i)) (Memᴰ.append_cases bef m)

  mid_less : (bef : List A) (x : A) (aft : List A) (y : A) → (y ≡ x → ⊥) → Memᴰ y (bef ++ x ∷ aft) → Memᴰ y (bef ++ aft)
  mid_less bef x aft y ne m =
      ⊎_elim (λ i. Memᴰ.append_left aft i)
      (λ (i : Memᴰ y (x ∷ aft)). ⊎_elim (λ q. absurd (ne q)) (λ j. Memᴰ.append_right bef j) (Memᴰ.cases_cons i)) (Memᴰ.append_cases bef m)

  pub permuted_length : {l m : List A} → Permuted l m → length l ≡ length m
  permuted_length permuted_nil = refl
  permuted_length (permuted_cons {x = x} bef aft e k) =
      omega (arith, ap length e, permuted_length k, length-append bef (x ∷ aft), length-append bef aft)

  pub permuted_to : {l m : List A} → Permuted l m → (y : A) → Memᴰ y l → Memᴰ y m
  permuted_to permuted_nil y i = i
  permuted_to (permuted_cons {x = x} bef aft e k) y i =
      rw e
      (⊎_elim (λ (q : y ≡ x). rw q (mid_in bef x aft)) (λ j. mid_more bef x aft y (permuted_to k y j)) (Memᴰ.cases_cons i))

  pub permuted_from : {l m : List A} → Permuted l m → (y : A) → Memᴰ y m → Memᴰ y l
  permuted_from permuted_nil y i = i
  permuted_from (permuted_cons {x = x} bef aft e k) y i =
      ⊎_elim (λ j. Memᴰ.tail (permuted_from k y (Memᴰ.append_left aft j)))
      (λ (j : Memᴰ y (x ∷ aft)).
      ⊎_elim (λ q. Memᴰ.head q) (λ h. Memᴰ.tail (permuted_from k y (Memᴰ.append_right bef h))) (Memᴰ.cases_cons j))
      (Memᴰ.append_cases bef (rw e at i))

  -- one more behind both
  pub permuted_end : {l m : List A} (y : A) → Permuted l m → Permuted (l ++ (y ∷ [])) (m ++ (y ∷ []))
  permuted_end y permuted_nil = permuted_cons [] [] refl permuted_nil
  permuted_end y (permuted_cons {x = x} {l = l} bef aft e k) =
      permuted_cons {l = l ++ (y ∷ [])} bef (aft ++ (y ∷ [])) (ap (λ (z : List A). z ++ (y ∷ [])) e ∙ append_assoc bef (x ∷ aft) (y ∷ []))
      (rw (← append_assoc bef aft (y ∷ [])) (permuted_end y k))

  -- ---- lists without repeats

  pub data Apart : List A → Type 0 where
    apart_nil : Apart []
    apart_cons : {x : A} {l : List A} → (Memᴰ x l → ⊥) → Apart l → Apart (x ∷ l)

  apart_less : (bef : List A) (x : A) (aft : List A) → Apart (bef ++ x ∷ aft) → Apart (bef ++ aft) × (Memᴰ x (bef ++ aft) → ⊥)
  apart_less [] x aft (apart_cons out d) = (d, out)
  apart_less (y ∷ bef) x aft (apart_cons out d) =
      let r = apart_less bef x aft d in (
        apart_cons (λ m. out (mid_more bef x aft y m)) r.0,
        λ m. ⊎_elim (λ (q : x ≡ y). out (rw (← q) (mid_in bef x aft))) (λ i. r.1 i) (Memᴰ.cases_cons m),
      )

  mem_split : {x : A} {l : List A} → Memᴰ x l → (bef : List A) × (aft : List A) × (l ≡ bef ++ x ∷ aft)
  mem_split (Memᴰ.head {x = y} {xs = ys} e) = ([], ys, ap (λ z. z ∷ ys) (sym e))
  mem_split (Memᴰ.tail {x = y} m) = let r = mem_split m in (y ∷ r.0, r.1, ap (λ z. y ∷ z) r.2)

  pub apart_permuted : (l m : List A) → Apart l → Apart m → ((y : A) → Memᴰ y l → Memᴰ y m) → ((y : A) → Memᴰ y m → Memᴰ y l)
      → Permuted l m
  apart_permuted [] [] a b to from = permuted_nil
  apart_permuted [] (y ∷ m) a b to from = absurd (Memᴰ.not-nil (from y (Memᴰ.head refl)))
  apart_permuted (x ∷ l) m (apart_cons out a) b to from =
      let s = mem_split (to x (Memᴰ.head refl)) in
      let d = apart_less s.0 x s.1 (rw s.2 at b) in
      permuted_cons s.0 s.1 s.2
      (apart_permuted l (s.0 ++ s.1) a d.0
      (λ y i. mid_less s.0 x s.1 y (λ (q : y ≡ x). out (rw q at i)) (rw s.2 at (to y (Memᴰ.tail i))))
      (λ y i.
      ⊎_elim (λ (q : y ≡ x). absurd (d.1 (rw q at i))) (λ j. j)
      (Memᴰ.cases_cons (from y (rw s.2 (mid_more s.0 x s.1 y i))))))

-- what has no repeats under a map has none
pub apart_map : {A B : Type 0} (f : A → B) (l : List A) → Apart (map f l) → Apart l
apart_map f [] a = apart_nil
apart_map f (x ∷ l) (apart_cons out a) = apart_cons (λ m. out (Memᴰ.map f m)) (apart_map f l a)

-- .. and of a list that has none under it, what is the same there is one
pub apart_one : {A B : Type 0} (f : A → B) (l : List A) → Apart (map f l) → (x y : A) → Memᴰ x l → Memᴰ y l → f x ≡ f y → x ≡ y
apart_one f [] a x y i j q = absurd (Memᴰ.not-nil i)
apart_one f (z ∷ l) (apart_cons out a) x y i j q =
    ⊎_elim
    (λ (p : x ≡ z). ⊎_elim (λ (r : y ≡ z). p ∙ sym r) (λ m. absurd (out (rw (ap f (sym p) ∙ q) (Memᴰ.map f m)))) (Memᴰ.cases_cons j))
    (λ m. ⊎_elim (λ (r : y ≡ z). absurd (out (rw (ap f (sym r) ∙ sym q) (Memᴰ.map f m)))) (λ k. apart_one f l a x y m k q) (Memᴰ.cases_cons j))
    (Memᴰ.cases_cons i)

-- ---- sessions that have gone on

pub gone_self : (s : Content) → GoneOn s s
gone_self s = record { offices = refl; clock = λ j l. omega arith; read = λ k h. h; more = []; own = sym (append-nil s.own) }

pub gone_then : (a b c : Content) → GoneOn a b → GoneOn b c → GoneOn a c
gone_then a b c G H =
    record {
      offices = G.offices ∙ H.offices;
      clock = λ j l. omega (arith, G.clock j l, H.clock j l);
      read = λ k h. H.read k (G.read k h);
      more = G.more ++ H.more;
      own = H.own ∙ ap (λ (l : List Entry). l ++ H.more) G.own ∙ append_assoc a.own G.more H.more;
    }
