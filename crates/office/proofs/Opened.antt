-- "each store left by a call is sound": the one that opening leaves; and every ring size of 2 to 8 gets a fresh session ("A fresh errand needs a
-- ring size of 2 to 8, else 1"). Assumes nothing.
use Prim.Native.Nat.{ℕ, ◌<◌, ◌≤◌}
use mathlib.Core.Bool.{Bool, true, false, cond}
use mathlib.Core.List.{List}
use mathlib.Core.Logic.{◌⊎◌, ⊎_elim}
use mathlib.Core.Path.{◌≡◌, refl}
use native.Mathlib.Omega.{arith}
use lib.Dec.{leb, ltb}
use lib.ListN.{length}
use borrow.Author.Tests.{le-leb, leb-true, ltb-true}
use Rattle.causal.specs.Lists.{zeros}
use Rattle.causal.specs.Codes.{check}
use Rattle.causal.specs.Sets.{has}
use Rattle.causal.specs.Tests.{both}
use Rattle.causal.proofs.Sets.{has_zeros, ids_zeros}
use Rattle.causal.proofs.Tests.{both_true}
use Rattle.frame.specs.Frames.{ring_ok}
use Rattle.frame.proofs.Entries.{ring_facts}
use Rattle.store.specs.Offices.{settings_ok, empty_office, need, sound_store, store_words}
use Rattle.store.proofs.Keep.{Sound, sound_store_lem}
use Rattle.office.specs.Calls.{fresh_code, open_office}

-- nothing is in the empty set
no : {A : Type 0} (k : ℕ) → has zeros k ≡ 1 → A
no k h = absurd (omega (arith, has_zeros k))

empty_sound : (n o p : ℕ) → settings_ok n o p ≡ true → Sound (empty_office n o p)
unfolding settings_ok
empty_sound n o p h =
    let a = both_true (ring_ok n p) (ltb o n) h in
    let R = ring_facts n p a.0 in
    record {
      settings = h;
      own_low = ltb-true o n a.1;
      few = R.high;
      held_set = ids_zeros;
      visible_set = ids_zeros;
      range = λ k m. no k m;
      ok = λ k m. no k m;
      none = λ k m. refl;
      office = λ k m. no k m;
      serial = λ k m. no k m;
      clock8 = λ k m. no k m;
      deps_set = λ k m. no k m;
      held_closed = λ k m. no k m;
      visible_held = λ k m. m;
      visible_closed = λ k m. no k m;
      gap = λ s l m. no _ m;
    }

pub open_left : (n o p : ℕ) (ws : List ℕ) → (open_office n o p ws).0 ≡ 0 → sound_store (open_office n o p ws).1 ≡ true
unfolding open_office
open_left n o p ws = go (settings_ok n o p) refl (leb (need n) (length ws)) refl
  where
    R : Bool → Bool → ℕ × List ℕ
    R t u = cond t (cond u (0, store_words ws (empty_office n o p)) (2, ws)) (1, ws)

    go : (t : Bool) → settings_ok n o p ≡ t → (u : Bool) → leb (need n) (length ws) ≡ u → (R t u).0 ≡ 0 → sound_store (R t u).1 ≡ true
    go true x true y h = sound_store_lem ws (empty_office n o p) (empty_sound n o p x) (leb-true (need n) (length ws) y)
    go true x false y h = absurd (omega arith)
    go false x u y h = absurd (omega arith)

-- ---- fresh sessions

pub fresh_given : (n : ℕ) → 2 ≤ n → n ≤ 8 → fresh_code n ≡ 0
unfolding fresh_code both check
fresh_given n low high = rw (le-leb 2 n low, le-leb n 8 high) refl

pub fresh_refused : (n : ℕ) → (n < 2) ⊎ (8 < n) → fresh_code n ≡ 1
unfolding fresh_code both check
fresh_refused n h = go (leb 2 n) refl (leb n 8) refl
  where
    go : (t : Bool) → leb 2 n ≡ t → (u : Bool) → leb n 8 ≡ u → check (both t u) 1 0 ≡ 1
    go true x true y =
        let a = leb-true 2 n x in
        let b = leb-true n 8 y in
        absurd (⊎_elim (λ (l : n < 2). omega (arith, a, l)) (λ (l : 8 < n). omega (arith, b, l)) h)
    go true x false y = refl
    go false x u y = refl
