-- What `==` says of words. Of two arrays of words, and of two slices, it answers `pointwise eqb`, std's test word by word:
-- that is eq_words. Assumes nothing.
use Prim.Native.Nat.{ℕ}
use mathlib.Core.Path.{◌≡◌, refl, ◌∙◌}
use mathlib.Core.Bool.{Bool, true, false, ◌&&◌}
use mathlib.Core.List.{List, [], ◌∷◌}
use lib.Dec.{eqb}
use Rattle.std.specs.Cmp.Lexicographic.{pointwise}
use Rattle.causal.specs.Tests.{both}
use Rattle.causal.specs.Lists.{eq_words}

-- a derived `==` joins its fields by `&&`
pub and_both : (a b : Bool) → (a && b) ≡ both a b
unfolding both
and_both true b = refl
and_both false b = refl

pub pointwise_words : (xs ys : List ℕ) → pointwise eqb xs ys ≡ eq_words xs ys
unfolding eq_words
pointwise_words [] [] = refl
pointwise_words [] (y ∷ ys) = refl
pointwise_words (x ∷ xs) [] = refl
pointwise_words (x ∷ xs) (y ∷ ys) = rw (pointwise_words xs ys) (and_both (eqb x y) (eq_words xs ys))

-- r is what `xs == ys` answered
pub equal_words : (r : Bool) (xs ys : List ℕ) → r ≡ pointwise eqb xs ys → r ≡ eq_words xs ys
equal_words r xs ys e = e ∙ pointwise_words xs ys
