-- A store that was lent from the stores, and came back; what is asked of frames that are delivered. Assumes nothing.
use Prim.Native.Nat.{ℕ, ◌+◌, ◌-◌, ◌<◌, ◌≤◌}
use mathlib.Core.List.{List, ◌++◌, append_assoc}
use mathlib.Core.Path.{◌∙◌, ◌≡◌, ap, subst, sym}
use native.Mathlib.Omega.{arith}
use lib.ListN.{drop, length, take}
use lib.Seq.{drop-drop, sets, sets-eq}
use Rattle.causal.specs.Lists.{part}
use Rattle.causal.proofs.Lists.{part_length, part_sets_whole}
use Rattle.player.specs.Desks.{Cut, frame_len, start_of}

-- what push_frames asks
module _ (out : List ℕ) (words m n : ℕ) (C : Cut out words n) (k : m ≡ n) (room : words ≤ length out) where
  pub frames_room : start_of out m ≤ length out
  frames_room = omega (arith, ap (start_of out) k ∙ C.whole)

  pub frames_short : (j : ℕ) → j < m → frame_len out j ≤ 103
  frames_short j h = C.short j (omega arith)

-- ---- a part that was lent, and came back

pub lent_part : (ws : List ℕ) (a n : ℕ) → take (a + n - a) (drop a ws) ≡ part ws a n
unfolding part
lent_part ws a n = let e : a + n - a ≡ n = omega arith in ap (λ (x : ℕ). take x (drop a ws)) e

pub put_back : (ws new : List ℕ) (a n : ℕ) → a + n ≤ length ws → length new ≡ n → take a ws ++ (new ++ drop (a + n - a) (drop a ws)) ≡ sets ws a new
put_back ws new a n h e =
    let k : a + n - a ≡ length new = omega arith in
    ap (λ (x : ℕ). take a ws ++ (new ++ drop x (drop a ws))) k
    ∙ ap (λ (l : List ℕ). take a ws ++ (new ++ l)) (drop-drop (length new) a ws)
    ∙ sym (append_assoc (take a ws) new (drop (a + length new) ws))
    ∙ sym (sets-eq new ws a (omega arith))

-- what a call promises of the part that it was lent, it promises of the part where it stands
module _ (stores W new : List ℕ) (a : ℕ) (e : W ≡ part stores a 1747) where
  abbrev left : List ℕ
  left = take a stores ++ (new ++ drop (a + 1747 - a) (drop a stores))

  pub lent_at : (P : List ℕ → List ℕ → Type 0) → P W new → a + 1747 ≤ length stores → length new ≡ length W
      → P (part stores a 1747) (part left a 1747) × (left ≡ sets stores a (part left a 1747))
  lent_at P x h l = (subst (λ (p : List ℕ × List ℕ). P p.0 p.1) (λ i. (e i, sym back i)) x, put ∙ ap (sets stores a) (sym back))
    where
      size : length new ≡ 1747
      size = l ∙ ap length e ∙ part_length stores a 1747 h

      put : left ≡ sets stores a new
      put = put_back stores new a 1747 h size

      back : part left a 1747 ≡ new
      back = (λ i. part (put i) a (sym size i)) ∙ part_sets_whole stores a new (omega (arith, size))
