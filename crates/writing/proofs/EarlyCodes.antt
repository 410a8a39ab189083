-- The refusals of a write before the room is known, as code finds them. Assumes nothing.
use Prim.Native.Nat.{ℕ, zero, suc, ◌≤◌}
use mathlib.Core.Path.{◌≡◌, refl, sym, ◌∙◌}
use mathlib.Core.Bool.{Bool, true, false}
use mathlib.Core.List.{List, [], ◌∷◌}
use native.Mathlib.Omega.{arith}
use lib.Dec.{ltb, leb}
use lib.ListN.{length, get_or}
use Rattle.causal.specs.Codes.{check, or_else}
use Rattle.causal.specs.Sets.{subset_of}
use Rattle.causal.proofs.Codes.{check_none, or_some, or_stops, or_goes}
use Rattle.frame.specs.declared.entry.Entry.{Entry}
use Rattle.frame.specs.Sessions.{Content, session_ok}
use Rattle.frame.specs.Tokens.{rows_of}
use Rattle.store.specs.Offices.{Office, sound_store, made}
use Rattle.office.specs.Calls.{entry_code, own_code, write_code, write_sends}
use Rattle.office.specs.Decide.{start_code}
use Rattle.writing.specs.Writes.{first_codes, second_codes, early_code}

pub write_code_lem : (O : Office) (s : Content) (plot value room : ℕ)
    → write_code O s plot value room ≡ or_else (early_code O s plot value) (check (leb (length (rows_of (write_sends O s plot value))) room) 8 0)
unfolding write_code early_code first_codes second_codes check or_else
write_code_lem O s plot value room =
    go (session_ok O.offices O.plots s) (ltb plot O.plots) (ltb value 268435456) (ltb (length s.own) 16) (ltb (made O) 32) (subset_of s.read O.held) (own_code O s.own)
    (check (leb (length (rows_of (write_sends O s plot value))) room) 8 0)
  where
    go : (a b c d f h : Bool) (x y : ℕ)
        → check a 3 (check b 4 (check c 5 (check d 7 (check f 6 (check h 12 (or_else x y))))))
        ≡ or_else (or_else (check a 3 (check b 4 (check c 5 0))) (or_else (check d 7 (check f 6 (check h 12 0))) x)) y
    go true true true true true true x y = refl
    go true true true true true false x y = refl
    go true true true true false h x y = refl
    go true true true false f h x y = refl
    go true true false d f h x y = refl
    go true false c d f h x y = refl
    go false b c d f h x y = refl

-- its first refusals: those that a reading has too, then 4 and 5
pub start_sound : (ws : List ℕ) (s : Content) → 0 ≡ start_code ws s → sound_store ws ≡ true
unfolding start_code
start_sound ws s h = (check_none (sound_store ws) 2 _ (omega arith) (sym h)).0

module _ (ws : List ℕ) (s : Content) (plot value c : ℕ) (e : c ≡ start_code ws s) where
  abbrev Rest : ℕ
  Rest = check (ltb plot (get_or ws 2 0)) 4 (check (ltb value 268435456) 5 0)

  abbrev First : ℕ
  First = check (sound_store ws) 2 (first_codes (get_or ws 0 0) (get_or ws 2 0) s plot value)

  first_is : or_else (start_code ws s) Rest ≡ First
  unfolding start_code first_codes check or_else
  first_is = go (sound_store ws) (session_ok (get_or ws 0 0) (get_or ws 2 0) s) Rest
    where
      go : (a b : Bool) (x : ℕ) → or_else (check a 2 (check b 3 0)) x ≡ check a 2 (check b 3 x)
      go true true x = refl
      go true false x = refl
      go false b x = refl

  pub first_stops : (c ≡ 0 → ⊥) → c ≡ check (sound_store ws) 2 (first_codes (get_or ws 0 0) (get_or ws 2 0) s plot value)
  first_stops n = or_stops c (start_code ws s) Rest e n ∙ first_is

  pub first_goes : (x : ℕ) → c ≡ 0 → x ≡ check (ltb plot (get_or ws 2 0)) 4 (check (ltb value 268435456) 5 0)
      → x ≡ check (sound_store ws) 2 (first_codes (get_or ws 0 0) (get_or ws 2 0) s plot value)
  first_goes x z q = or_goes x c (start_code ws s) Rest e z q ∙ first_is

-- the code of write: what its parts say
pub early_stops : (b : Bool) (O : Office) (s : Content) (plot value x : ℕ) → x ≡ check b 2 (first_codes O.offices O.plots s plot value) → (x ≡ 0 → ⊥)
    → x ≡ check b 2 (early_code O s plot value)
unfolding early_code check
early_stops true O s plot value x e z =
    e ∙ sym (or_some (first_codes O.offices O.plots s plot value) _ (λ q. z (e ∙ q)))
early_stops false O s plot value x e z = e

pub early_second : (b : Bool) (O : Office) (s : Content) (plot value x : ℕ) → check b 2 (first_codes O.offices O.plots s plot value) ≡ 0
    → x ≡ second_codes O (length s.own) s.read → (x ≡ 0 → ⊥) → x ≡ check b 2 (early_code O s plot value)
unfolding early_code check or_else
early_second b O s plot value x z e n =
    let a = check_none b 2 _ (omega arith) z in
    rw (a.0, a.1) (e ∙ sym (or_some (second_codes O (length s.own) s.read) (own_code O s.own) (λ q. n (e ∙ q))))

pub early_own : (b : Bool) (O : Office) (s : Content) (plot value x : ℕ) → check b 2 (first_codes O.offices O.plots s plot value) ≡ 0
    → second_codes O (length s.own) s.read ≡ 0 → x ≡ own_code O s.own → x ≡ check b 2 (early_code O s plot value)
unfolding early_code check or_else
early_own b O s plot value x z w e = let a = check_none b 2 _ (omega arith) z in rw (a.0, a.1, w) e

-- ---- every number is one of the paper's

check_le : (A : Bool) (k B : ℕ) → k ≤ 12 → B ≤ 12 → check A k B ≤ 12
unfolding check
check_le true k B h l = l
check_le false k B h l = h

or_le : (a b : ℕ) → a ≤ 12 → b ≤ 12 → or_else a b ≤ 12
unfolding or_else
or_le zero b h l = l
or_le (suc a) b h l = h

entry_le : (O : Office) (e : Entry) → entry_code O e ≤ 12
unfolding entry_code
entry_le O e = check_le _ 10 _ (omega arith) (check_le _ 11 0 (omega arith) (omega arith))

own_le : (O : Office) (es : List Entry) → own_code O es ≤ 12
unfolding own_code
own_le O [] = omega arith
own_le O (e ∷ es) = or_le (entry_code O e) (own_code O es) (entry_le O e) (own_le O es)

pub early_le : (b : Bool) (O : Office) (s : Content) (plot value : ℕ) → check b 2 (early_code O s plot value) ≤ 12
unfolding early_code first_codes second_codes
early_le b O s plot value =
    check_le b 2 _ (omega arith)
    (or_le _ _ (check_le _ 3 _ (omega arith) (check_le _ 4 _ (omega arith) (check_le _ 5 0 (omega arith) (omega arith))))
    (or_le _ _ (check_le _ 7 _ (omega arith) (check_le _ 6 _ (omega arith) (check_le _ 12 0 (omega arith) (omega arith)))) (own_le O s.own)))
