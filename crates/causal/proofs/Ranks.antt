-- Laws of rank: a strict order, total on clocks of one length. Assumes nothing.
use Prim.Native.Nat.{ℕ, suc, ◌+◌, ◌<◌, ◌≤◌}
use mathlib.Core.Path.{◌≡◌, refl, sym, ap, ◌∙◌}
use mathlib.Core.Bool.{Bool, true, false, cond}
use mathlib.Core.Logic.{◌⊎◌, inl, inr, ⊎_elim}
use mathlib.Core.List.{List, [], ◌∷◌, ◌++◌}
use native.Mathlib.Omega.{arith}
use native.Mathlib.Numerals.{add-one}
use lib.Dec.{ltb}
use borrow.Author.Tests.{ltb-true, ltb-false, lt-ltb, le-ltb, eq-eqb, ne_eqb}
use lib.ListN.{length, get_or, drop, length-append, drop_of_length-le}
use lib.Seq.{drop-cons}
use Rattle.std.specs.Ordering.{nat_cmp, ordering_then, is_gt}
use Rattle.std.specs.declared.cmp.Ordering.TheVariants.{Less, Equal, Greater}
use Rattle.std.specs.Cmp.Lexicographic.{slice_cmp}
use Rattle.causal.specs.Rank.{higher, rank_of, ranks_above}
use Rattle.causal.proofs.Tests.{false_true}

-- how it compares, place by place
pub higher_more : (x y : ℕ) (xs ys : List ℕ) → y < x → higher (x ∷ xs) (y ∷ ys) ≡ true
unfolding higher
higher_more x y xs ys h = rw (lt-ltb y x h)

pub higher_less : (x y : ℕ) (xs ys : List ℕ) → x < y → higher (x ∷ xs) (y ∷ ys) ≡ false
unfolding higher
higher_less x y xs ys h = rw (le-ltb y x (omega arith), lt-ltb x y h)

pub higher_same : (x y : ℕ) (xs ys : List ℕ) → x ≡ y → higher (x ∷ xs) (y ∷ ys) ≡ higher xs ys
unfolding higher
higher_same x y xs ys h = rw (le-ltb y x (omega arith), le-ltb x y (omega arith))

pub data Order (x y : ℕ) : Type 0 where
  less : x < y → Order x y
  same : x ≡ y → Order x y
  more : y < x → Order x y

pub order : (x y : ℕ) → Order x y
order x y = go (ltb x y) refl (ltb y x) refl
  where
    go : (a : Bool) → ltb x y ≡ a → (b : Bool) → ltb y x ≡ b → Order x y
    go true p b q = less (ltb-true x y p)
    go false p true q = more (ltb-true y x q)
    go false p false q = same (omega (arith, ltb-false x y p, ltb-false y x q))

pub higher_irrefl : (xs : List ℕ) → higher xs xs ≡ false
unfolding higher
higher_irrefl [] = refl
higher_irrefl (x ∷ xs) = higher_same x x xs xs refl ∙ higher_irrefl xs

pub higher_trans : (xs ys zs : List ℕ) → higher xs ys ≡ true → higher ys zs ≡ true → higher xs zs ≡ true
unfolding higher
higher_trans [] ys zs p q = false_true p
higher_trans (x ∷ xs) [] zs p q = false_true q
higher_trans (x ∷ xs) (y ∷ ys) [] p q = refl
higher_trans (x ∷ xs) (y ∷ ys) (z ∷ zs) p q = go (order x y) (order y z) (higher_trans xs ys zs)
  where
    go : Order x y → Order y z → (higher xs ys ≡ true → higher ys zs ≡ true → higher xs zs ≡ true) → higher (x ∷ xs) (z ∷ zs) ≡ true
    go (less a) o ih = false_true (sym (higher_less x y xs ys a) ∙ p)
    go (same a) (less b) ih = false_true (sym (higher_less y z ys zs b) ∙ q)
    go (same a) (same b) ih =
        higher_same x z xs zs (a ∙ b) ∙ ih (sym (higher_same x y xs ys a) ∙ p) (sym (higher_same y z ys zs b) ∙ q)
    go (same a) (more b) ih = higher_more x z xs zs (omega arith)
    go (more a) (less b) ih = false_true (sym (higher_less y z ys zs b) ∙ q)
    go (more a) (same b) ih = higher_more x z xs zs (omega arith)
    go (more a) (more b) ih = higher_more x z xs zs (omega arith)

-- of two lists one of which is above the other, any third is below the one or above the other
pub higher_cotrans : (xs ys zs : List ℕ) → higher xs zs ≡ true → (higher xs ys ≡ true) ⊎ (higher ys zs ≡ true)
unfolding higher
higher_cotrans [] ys zs p = false_true p
higher_cotrans (x ∷ xs) [] zs p = inl refl
higher_cotrans (x ∷ xs) (y ∷ ys) [] p = inr refl
higher_cotrans (x ∷ xs) (y ∷ ys) (z ∷ zs) p = go (order x y) (order y z) (λ q. higher_cotrans xs ys zs q)
  where
    go : Order x y → Order y z → (higher xs zs ≡ true → (higher xs ys ≡ true) ⊎ (higher ys zs ≡ true)) → (higher (x ∷ xs) (y ∷ ys) ≡ true) ⊎ (higher (y ∷ ys) (z ∷ zs) ≡ true)
    go (more a) o ih = inl (higher_more x y xs ys a)
    go (less a) (more b) ih = inr (higher_more y z ys zs b)
    go (less a) (same b) ih = false_true (sym (higher_less x z xs zs (omega arith)) ∙ p)
    go (less a) (less b) ih = false_true (sym (higher_less x z xs zs (omega arith)) ∙ p)
    go (same a) (more b) ih = inr (higher_more y z ys zs b)
    go (same a) (less b) ih = false_true (sym (higher_less x z xs zs (omega arith)) ∙ p)
    go (same a) (same b) ih =
        ⊎_elim (λ q. inl (higher_same x y xs ys a ∙ q)) (λ q. inr (higher_same y z ys zs b ∙ q)) (ih (sym (higher_same x z xs zs (a ∙ b)) ∙ p))

-- lists as long as each other, neither above the other, are the same
pub higher_total : (xs ys : List ℕ) → length xs ≡ length ys → higher xs ys ≡ false → higher ys xs ≡ false → xs ≡ ys
unfolding higher
higher_total [] [] l p q = refl
higher_total [] (y ∷ ys) l p q = absurd (omega arith)
higher_total (x ∷ xs) [] l p q = absurd (omega arith)
higher_total (x ∷ xs) (y ∷ ys) l p q = go (order x y) (λ u v. higher_total xs ys (omega arith) u v)
  where
    go : Order x y → (higher xs ys ≡ false → higher ys xs ≡ false → xs ≡ ys) → x ∷ xs ≡ y ∷ ys
    go (less a) ih = false_true (sym q ∙ higher_more y x ys xs a)
    go (more a) ih = false_true (sym p ∙ higher_more x y xs ys a)
    go (same a) ih = let r = ih (sym (higher_same x y xs ys a) ∙ p) (sym (higher_same y x ys xs (sym a)) ∙ q) in cc

snoc_eq : (xs ys : List ℕ) (x y : ℕ) → xs ++ (x ∷ []) ≡ ys ++ (y ∷ []) → (xs ≡ ys) × (x ≡ y)
snoc_eq [] [] x y e = (refl, cc)
snoc_eq [] (b ∷ ys) x y e = let r : length ((x ∷ [])) ≡ length (b ∷ ys ++ (y ∷ [])) = ap length e in absurd (omega (arith, length-append ys (y ∷ [])))
snoc_eq (a ∷ xs) [] x y e = let r : length (a ∷ xs ++ (x ∷ [])) ≡ length (y ∷ []) = ap length e in absurd (omega (arith, length-append xs (x ∷ [])))
snoc_eq (a ∷ xs) (b ∷ ys) x y e = let r = snoc_eq xs ys x y (cc) in let q : a ≡ b = cc in let t = r.0 in (cc, r.1)

-- ---- clocks and offices

pub above_irrefl : (c : List ℕ) (o : ℕ) → ranks_above c o c o ≡ false
unfolding ranks_above
above_irrefl c o = higher_irrefl (rank_of c o)

pub above_trans : (a b c : List ℕ) (o p q : ℕ) → ranks_above a o b p ≡ true → ranks_above b p c q ≡ true → ranks_above a o c q ≡ true
unfolding ranks_above
above_trans a b c o p q = higher_trans (rank_of a o) (rank_of b p) (rank_of c q)

-- neither outranks the other: the same clock and the same office
pub above_total : (c d : List ℕ) (o p : ℕ) → length c ≡ length d → ranks_above c o d p ≡ false → ranks_above d p c o ≡ false → (c ≡ d) × (o ≡ p)
unfolding ranks_above
above_total c d o p l f g =
    let ll : length (rank_of c o) ≡ length (rank_of d p) = length-append c (o ∷ []) ∙ ap (λ (n : ℕ). n + 1) l ∙ sym (length-append d (p ∷ [])) in
    snoc_eq c d o p (higher_total (rank_of c o) (rank_of d p) ll f g)

-- ---- a comparison from the front, place by place

module _ (c d : List ℕ) (o p j : ℕ) where
  abbrev Left : Bool
  Left = higher (rank_of (drop j c) o) (rank_of (drop j d) p)

  pub rank_same : j < length c → j < length d → get_or c j 0 ≡ get_or d j 0 → Left ≡ higher (rank_of (drop (j + 1) c) o) (rank_of (drop (j + 1) d) p)
  rank_same h k e = rw (add-one, drop-cons c j 0 h, drop-cons d j 0 k) (higher_same (get_or c j 0) (get_or d j 0) _ _ e)

  pub rank_differs : j < length c → j < length d → (get_or c j 0 ≡ get_or d j 0 → ⊥) → ltb (get_or d j 0) (get_or c j 0) ≡ Left
  rank_differs h k n = rw (drop-cons c j 0 h, drop-cons d j 0 k) (go (order (get_or c j 0) (get_or d j 0)))
    where
      go : Order (get_or c j 0) (get_or d j 0)
          → ltb (get_or d j 0) (get_or c j 0) ≡ higher (get_or c j 0 ∷ rank_of (drop (suc j) c) o) (get_or d j 0 ∷ rank_of (drop (suc j) d) p)
      go (less a) = le-ltb (get_or d j 0) (get_or c j 0) (omega arith) ∙ sym (higher_less _ _ _ _ a)
      go (same a) = absurd (n a)
      go (more a) = lt-ltb _ _ a ∙ sym (higher_more _ _ _ _ a)

  pub rank_end : length c ≤ j → length d ≤ j → ltb p o ≡ Left
  unfolding higher
  rank_end h k = rw (drop_of_length-le c {i = j} h, drop_of_length-le d {i = j} k) (go (ltb p o) refl (ltb o p) refl)
    where
      go : (a : Bool) → ltb p o ≡ a → (b : Bool) → ltb o p ≡ b → a ≡ cond a true (cond b false false)
      go true e b f = refl
      go false e true f = refl
      go false e false f = refl

-- ---- std's `c.cmp(&d).then(o.cmp(&p)).is_gt()` says the same

nat_less : (x y : ℕ) → x < y → nat_cmp x y ≡ Less
nat_less x y h = rw (lt-ltb x y h)

nat_same : (x y : ℕ) → x ≡ y → nat_cmp x y ≡ Equal
nat_same x y h = rw (le-ltb x y (omega arith), eq-eqb x y h)

nat_more : (x y : ℕ) → y < x → nat_cmp x y ≡ Greater
nat_more x y h = rw (le-ltb x y (omega arith), ne_eqb x y (λ (e : x ≡ y). omega arith))

higher_cmp : (c d : List ℕ) (o p : ℕ) → length c ≡ length d → is_gt (ordering_then (slice_cmp nat_cmp c d) (nat_cmp o p)) ≡ higher (rank_of c o) (rank_of d p)
higher_cmp [] [] o p l = go (order o p)
  where
    go : Order o p → is_gt (nat_cmp o p) ≡ higher (o ∷ []) (p ∷ [])
    go (less a) = rw (nat_less o p a) (sym (higher_less o p [] [] a))
    go (same a) = rw (nat_same o p a) (sym (higher_same o p [] [] a ∙ higher_irrefl []))
    go (more a) = rw (nat_more o p a) (sym (higher_more o p [] [] a))
higher_cmp [] (y ∷ d) o p l = absurd (omega arith)
higher_cmp (x ∷ c) [] o p l = absurd (omega arith)
higher_cmp (x ∷ c) (y ∷ d) o p l = go (order x y) (higher_cmp c d o p (omega arith))
  where
    go : Order x y → is_gt (ordering_then (slice_cmp nat_cmp c d) (nat_cmp o p)) ≡ higher (rank_of c o) (rank_of d p)
        → is_gt (ordering_then (slice_cmp nat_cmp (x ∷ c) (y ∷ d)) (nat_cmp o p)) ≡ higher (rank_of (x ∷ c) o) (rank_of (y ∷ d) p)
    go (less a) ih = rw (nat_less x y a) (sym (higher_less x y _ _ a))
    go (same a) ih = rw (nat_same x y a) (ih ∙ sym (higher_same x y _ _ a))
    go (more a) ih = rw (nat_more x y a) (sym (higher_more x y _ _ a))

pub above_cmp : (c d : List ℕ) (o p : ℕ) → length c ≡ length d → is_gt (ordering_then (slice_cmp nat_cmp c d) (nat_cmp o p)) ≡ ranks_above c o d p
unfolding ranks_above
above_cmp c d o p l = higher_cmp c d o p l
