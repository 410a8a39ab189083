-- A frame's words, with head and check made anew, are those of the frame with one fewer still to hear. Assumes nothing.
use Prim.Native.Nat.{ℕ, suc, ◌+◌, ◌-◌, ◌%◌, ◌≤◌}
use mathlib.Core.Path.{◌≡◌, refl, sym, ap, ap₂, ◌∙◌}
use mathlib.Core.List.{List, [], ◌∷◌, ◌++◌, append_assoc}
use native.Mathlib.Omega.{arith}
use lib.ListN.{length, get_or, drop, set, length-append}
use lib.Seq.{sets, set_at, take-length}
use Rattle.causal.specs.Lists.{part}
use Rattle.causal.proofs.Lists.{sets_front}
use Rattle.frame.specs.declared.entry.Frame.{Frame}
use Rattle.frame.specs.Words.{sum_word, summed, total}
use Rattle.frame.specs.Frames.{body_words, frame_of, frame_words}
use Rattle.frame.specs.Calls.{laid}
use Rattle.frame.proofs.Frames.{length_frame, last_word}
use Rattle.office.specs.Calls.{onward}

-- it keeps its number of words
pub length_onward : (f : Frame) → length (frame_words (onward f)) ≡ length (frame_words f)
length_onward f = length_frame (onward f) ∙ sym (length_frame f)

-- ---- the two words that change, and those between

abbrev head : Frame → ℕ
head f = get_or (body_words f) 0 0

abbrev between : Frame → List ℕ
between f = drop 1 (body_words f)

abbrev check : Frame → ℕ
check f = sum_word (body_words f)

parts : (f : Frame) → frame_words f ≡ head f ∷ (between f ++ (check f ∷ []))
unfolding frame_words summed body_words
parts f = refl

first : (f : Frame) → get_or (frame_words f) 0 0 ≡ head f
first f = ap (λ (l : List ℕ). get_or l 0 0) (parts f)

between_stays : (f : Frame) → between f ≡ between (onward f)
unfolding body_words
between_stays f = refl

head_down : (f : Frame) → 1 ≤ f.hops → (4096 ≤ head f) × (head f - 4096 ≡ head (onward f))
unfolding body_words
head_down f h = (omega arith, omega arith)

-- the check is the sum of the payloads modulo 2^28
check_down : (f : Frame) → 1 ≤ f.hops → 4026531840 + (check f - 4096) % 268435456 ≡ check (onward f)
unfolding total body_words
check_down f h = let d = head_down f h in sums (head f) (head (onward f)) (total (between f)) d.0 (sym d.1)
  where
    sums : (a b t : ℕ) → 4096 ≤ a → b ≡ a - 4096
        → 4026531840 + (4026531840 + (a % 268435456 + t) % 268435456 - 4096) % 268435456 ≡ 4026531840 + (b % 268435456 + t) % 268435456
    sums a b t l e = omega arith

-- ---- of a row that is the writing of a frame

module _ (ws : List ℕ) (e : ws ≡ frame_words (frame_of ws)) where
  pub long : 4 ≤ length ws
  long = omega (arith, ap length e, length_frame (frame_of ws))

  pub head_large : 4096 ≤ get_or ws 0 0
  unfolding body_words
  head_large = let q = ap (λ (l : List ℕ). get_or l 0 0) e ∙ first (frame_of ws) in omega arith

  pub check_large : 4096 ≤ get_or ws (length ws - 1) 0
  check_large = let q = ap (λ (l : List ℕ). get_or l (length l - 1) 0) e ∙ last_word (frame_of ws) in omega arith

-- ---- in the out row

-- a row copied to the front of another, then its first and its last word made anew
made_anew : (ws out xs : List ℕ) (a z b y : ℕ) → ws ≡ a ∷ (xs ++ (z ∷ []))
    → set (set (ws ++ drop (length ws) out) 0 b) (length ws - 1) y ≡ laid (b ∷ (xs ++ (y ∷ []))) out
unfolding laid
made_anew ws out xs a z b y e =
    ap (λ (l : List ℕ). set (set l 0 b) (length ws - 1) y) copied
    ∙ set_at (b ∷ xs) z (drop (length ws) out) y (length ws - 1) (omega (arith, long, length-append xs (z ∷ [])))
    ∙ ap (λ (l : List ℕ). b ∷ l) (sym (append_assoc xs (y ∷ []) (drop (length ws) out)))
    ∙ ap (λ (n : ℕ). b ∷ ((xs ++ (y ∷ [])) ++ drop n out)) same
  where
    long : length ws ≡ suc (length (xs ++ (z ∷ [])))
    long = ap length e

    same : length ws ≡ suc (length (xs ++ (y ∷ [])))
    same = omega (arith, long, length-append xs (z ∷ []), length-append xs (y ∷ []))

    copied : ws ++ drop (length ws) out ≡ a ∷ (xs ++ (z ∷ drop (length ws) out))
    copied = ap (λ (l : List ℕ). l ++ drop (length ws) out) e ∙ ap (λ (l : List ℕ). a ∷ l) (append_assoc xs (z ∷ []) (drop (length ws) out))

-- a row with its head and its check less one hop: ws is what they were
abbrev less_one : List ℕ → List ℕ → List ℕ
less_one ws row = set (set row 0 (get_or ws 0 0 - 4096)) (length ws - 1) (4026531840 + (get_or ws (length ws - 1) 0 - 4096) % 268435456)

pub onward_front : (ws out : List ℕ) → ws ≡ frame_words (frame_of ws) → 1 ≤ (frame_of ws).hops
    → less_one ws (ws ++ drop (length ws) out) ≡ laid (frame_words (onward (frame_of ws))) out
onward_front ws out e h = go (frame_of ws) e h
  where
    go : (f : Frame) → ws ≡ frame_words f → 1 ≤ f.hops → less_one ws (ws ++ drop (length ws) out) ≡ laid (frame_words (onward f)) out
    go f q p =
        let a : get_or ws 0 0 - 4096 ≡ head (onward f) = ap (λ (l : List ℕ). get_or l 0 0 - 4096) q ∙ ap (λ (w : ℕ). w - 4096) (first f) ∙ (head_down f p).1 in
        let z : 4026531840 + (get_or ws (length ws - 1) 0 - 4096) % 268435456 ≡ check (onward f) =
        ap (λ (l : List ℕ). 4026531840 + (get_or l (length l - 1) 0 - 4096) % 268435456) q
        ∙ ap (λ (w : ℕ). 4026531840 + (w - 4096) % 268435456) (last_word f)
        ∙ check_down f p
        in
        made_anew ws out (between f) (head f) (check f) _ _ (q ∙ parts f)
        ∙ ap₂ (λ (x y : ℕ). laid (x ∷ (between f ++ (y ∷ []))) out) a z
        ∙ ap (λ (xs : List ℕ). laid (head (onward f) ∷ (xs ++ (check (onward f) ∷ []))) out) (between_stays f)
        ∙ ap (λ (ws : List ℕ). laid ws out) (sym (parts (onward f)))

-- the row copied word by word
copied_front : (ws out : List ℕ) → length ws ≤ length out → sets out 0 (part ws 0 (length ws)) ≡ ws ++ drop (length ws) out
unfolding part
copied_front ws out h = ap (sets out 0) (take-length ws) ∙ sets_front out ws h

-- what `put_onward` leaves: the row, then its head and its check less one hop
abbrev sent : List ℕ → List ℕ → List ℕ
sent ws out = less_one ws (sets out 0 (part ws 0 (length ws)))

pub onward_laid : (ws out : List ℕ) → ws ≡ frame_words (frame_of ws) → 1 ≤ (frame_of ws).hops → length ws ≤ length out
    → sent ws out ≡ laid (frame_words (onward (frame_of ws))) out
onward_laid ws out e h l = ap (less_one ws) (copied_front ws out l) ∙ onward_front ws out e h
