-- Where the frames of a row begin, and frames put into slots. Assumes nothing.
use Prim.Native.Nat.{ℕ, suc, zero, ◌%◌, ◌+◌, ◌<◌, ◌≤◌}
use mathlib.Core.List.{List, [], ◌∷◌}
use mathlib.Core.Logic.{⊎_elim}
use mathlib.Core.Path.{◌∙◌, ◌≡◌, ap, refl, sym}
use native.Mathlib.Numerals.{add-one}
use native.Mathlib.Omega.{arith}
use lib.ListN.{length, set}
use lib.Seq.{sets}
use Rattle.causal.specs.Lists.{part}
use Rattle.causal.proofs.Lists.{sets_append}
use Rattle.causal.proofs.Tests.{lt_or_le}
use Rattle.player.specs.Desks.{Cut, frame_len, pushed, slot_at, start_of}

-- a frame's length in front of it
pub push_one : (lines row : List ℕ) (slot at len : ℕ) → at + len ≤ length row → sets (set lines slot len) (slot + 1) (part row at len) ≡ sets lines slot (len ∷ part row at len)
push_one lines row slot at len h = sym (sets_append lines slot (len ∷ []) (part row at len))

-- ---- where frames begin

pub start_more : (ws : List ℕ) (k : ℕ) → start_of ws (k + 1) ≡ start_of ws k + frame_len ws k
unfolding start_of
start_more ws k = rw (add-one k)

start_mono : (ws : List ℕ) (k n : ℕ) → k ≤ n → start_of ws k ≤ start_of ws n
unfolding start_of
start_mono ws k zero h = let e : k ≡ 0 = omega arith in rw e (omega arith)
start_mono ws k (suc n) h =
    ⊎_elim (λ (l : k < suc n). omega (arith, start_mono ws k n (omega arith))) (λ (g : suc n ≤ k). let e : k ≡ suc n = omega arith in rw e (omega arith)) (lt_or_le k (suc n))

pub start_next : (ws : List ℕ) (k n : ℕ) → k < n → start_of ws k + frame_len ws k ≤ start_of ws n
start_next ws k n h = omega (arith, start_mono ws (k + 1) n (omega arith), start_more ws k)

-- counting them
pub count_goes : (ws : List ℕ) (words m n : ℕ) → Cut ws words m → start_of ws n < words → n ≤ m → n + 1 ≤ m
count_goes ws words m n c h l =
    ⊎_elim (λ (g : n < m). omega arith) (λ (g : m ≤ n). absurd (let e : n ≡ m = omega arith in let q : start_of ws n ≡ words = ap (start_of ws) e ∙ c.whole in omega arith)) (lt_or_le n m)

pub count_ends : (ws : List ℕ) (words m n : ℕ) → Cut ws words m → words ≤ start_of ws n → n ≤ m → n ≡ m
count_ends ws words m n c h l =
    ⊎_elim (λ (g : n < m). absurd (omega (arith, start_next ws n m g, c.whole))) (λ (g : m ≤ n). omega arith) (lt_or_le n m)

pub pushed_none : (lines : List ℕ) (o q : ℕ) (row : List ℕ) → lines ≡ pushed lines o q row 0
unfolding pushed
pushed_none lines o q row = refl

pub pushed_more : (lines : List ℕ) (o q : ℕ) (row : List ℕ) (k : ℕ) →
    sets (pushed lines o q row k) (slot_at o ((q + k) % 32)) (frame_len row k ∷ part row (start_of row k) (frame_len row k)) ≡ pushed lines o q row (k + 1)
unfolding pushed
pushed_more lines o q row k = rw (add-one k)

pub start_none : (ws : List ℕ) → 0 ≡ start_of ws 0
unfolding start_of
start_none ws = refl
