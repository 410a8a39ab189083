-- A frame of a ring of three has at most 103 words; a row of such frames is cut by their heads. Assumes nothing.
use Prim.Native.Nat.{ℕ, suc, zero, ◌%◌, ◌*◌, ◌+◌, ◌/◌, ◌<◌, ◌≤◌}
use mathlib.Core.Bool.{true}
use mathlib.Core.List.{List, Memᴰ, [], ◌++◌, ◌∷◌, append_assoc, append-nil}
use mathlib.Core.Logic.{⊎_elim}
use mathlib.Core.Path.{◌∙◌, ◌≡◌, ap, refl, sym}
use native.Mathlib.Omega.{arith}
use lib.ListN.{drop, get_or, length, length-append, take, take-append-drop}
use lib.Seq.{drop-append_seam, drop-cons, get_or-append-add, take-append_seam, take-length, take-suc}
use Rattle.causal.specs.Lists.{part, sum_below}
use Rattle.causal.specs.Sets.{bit, has}
use Rattle.causal.proofs.Bits.{bit_zero_word}
use Rattle.causal.proofs.Lists.{sum_le}
use Rattle.causal.proofs.Sets.{has_lt}
use Rattle.causal.proofs.Tests.{lt_or_le}
use Rattle.frame.specs.Entries.{ids_ok}
use Rattle.frame.specs.Frames.{blank_frame, body_words, frame_words}
use Rattle.frame.specs.Tokens.{rows_of}
use Rattle.frame.specs.Words.{id_words, summed}
use Rattle.frame.specs.declared.entry.Frame.{Frame}
use Rattle.frame.proofs.Entries.{ids_facts}
use Rattle.frame.proofs.Frames.{length_frame}
use Rattle.frame.proofs.Words.{ids_length}
use Rattle.ring.proofs.CarryWrites.{rows_append}
use Rattle.player.specs.Desks.{Cut, frame_len, length_at, start_of}

-- ---- how long a frame is

sum_flat : (f : ℕ → ℕ) → ((i : ℕ) → f i < 2) → (m n : ℕ) → ((i : ℕ) → m ≤ i → i < n → f i ≡ 0) → sum_below n f ≤ m
unfolding sum_below
sum_flat f two m zero z = omega arith
sum_flat f two m (suc n) z =
    ⊎_elim (λ (l : n < m). omega (arith, sum_le f two (suc n))) (λ (g : m ≤ n). omega (arith, sum_flat f two m n (λ i a b. z i a (omega arith)), z n g (omega arith))) (lt_or_le n m)

pub ids_room : (s : List ℕ) → ids_ok 3 s ≡ true → length (id_words s) ≤ 96
unfolding id_words has
ids_room s h =
    omega (
      arith,
      ids_length s 256,
      sum_flat (has s) (has_lt s) 96 256 (λ i a b. ap (λ (w : ℕ). bit w (i % 32)) (ids_facts 3 s h (i / 32) (omega arith) (omega arith)) ∙ bit_zero_word (i % 32)),
    )

-- what the words of a frame of a ring of three are told by
pub record Fit3 (f : Frame) : Type 0 where
  pub ring : f.offices ≡ 3
  pub deps : ids_ok 3 f.entry.deps ≡ true

pub frame_room : (f : Frame) → Fit3 f → length (frame_words f) ≤ 103
frame_room f F = omega (arith, length_frame f, F.ring, ids_room f.entry.deps F.deps)

-- the head tells the length
head_tells : (f : Frame) (rest : List ℕ) → Fit3 f → length_at (frame_words f ++ rest) 0 ≡ length (frame_words f)
unfolding frame_words body_words summed
head_tells f rest F =
    let r = ids_room f.entry.deps F.deps in
    let h = F.ring in
    let e = length_frame f in
    omega (arith, e)

-- ---- rows of frames

abbrev pub frame_at : List Frame → ℕ → Frame
frame_at fs k = get_or fs k blank_frame

pub at_mem : {A : Type 0} (l : List A) (k : ℕ) (d : A) → k < length l → Memᴰ (get_or l k d) l
at_mem [] k d h = absurd (omega arith)
at_mem (x ∷ l) zero d h = Memᴰ.head refl
at_mem (x ∷ l) (suc k) d h = Memᴰ.tail (at_mem l k d (omega arith))

rows_one : (f : Frame) → rows_of (f ∷ []) ≡ frame_words f
unfolding rows_of
rows_one f = append-nil (frame_words f)

rows_cons : (f : Frame) (fs : List Frame) → rows_of (f ∷ fs) ≡ frame_words f ++ rows_of fs
unfolding rows_of
rows_cons f fs = refl

none : length (rows_of []) ≤ 0
unfolding rows_of
none = omega arith

module _ (fs : List Frame) (fit : (f : Frame) → Memᴰ f fs → Fit3 f) (rest : List ℕ) where
  fit_at : (k : ℕ) → k < length fs → Fit3 (frame_at fs k)
  fit_at k h = fit (frame_at fs k) (at_mem fs k blank_frame h)

  -- the row before frame k, the frame, and what follows
  split_row : (k : ℕ) → k < length fs → rows_of fs ++ rest ≡ rows_of (take k fs) ++ (frame_words (frame_at fs k) ++ (rows_of (drop (suc k) fs) ++ rest))
  split_row k h =
      ap (λ (l : List Frame). rows_of l ++ rest) (sym (take-append-drop k fs))
      ∙ ap (λ (l : List Frame). rows_of (take k fs ++ l) ++ rest) (drop-cons fs k blank_frame h)
      ∙ ap (λ (l : List ℕ). l ++ rest) (rows_append (take k fs) (frame_at fs k ∷ drop (suc k) fs) ∙ ap (λ (l : List ℕ). rows_of (take k fs) ++ l) (rows_cons (frame_at fs k) (drop (suc k) fs)))
      ∙ append_assoc (rows_of (take k fs)) (frame_words (frame_at fs k) ++ rows_of (drop (suc k) fs)) rest
      ∙ ap (λ (l : List ℕ). rows_of (take k fs) ++ l) (append_assoc (frame_words (frame_at fs k)) (rows_of (drop (suc k) fs)) rest)

  rows_more : (k : ℕ) → k < length fs → length (rows_of (take (suc k) fs)) ≡ length (rows_of (take k fs)) + length (frame_words (frame_at fs k))
  rows_more k h =
      ap (λ (l : List Frame). length (rows_of l)) (take-suc fs k blank_frame h)
      ∙ ap length (rows_append (take k fs) (frame_at fs k ∷ []) ∙ ap (λ (l : List ℕ). rows_of (take k fs) ++ l) (rows_one (frame_at fs k)))
      ∙ length-append (rows_of (take k fs)) (frame_words (frame_at fs k))

  length_here : (k : ℕ) → k < length fs → length_at (rows_of fs ++ rest) (length (rows_of (take k fs))) ≡ length (frame_words (frame_at fs k))
  length_here k h =
      ap (λ (l : List ℕ). length_at l (length (rows_of (take k fs)))) (split_row k h)
      ∙ ap (λ (i : ℕ). length_at (rows_of (take k fs) ++ (frame_words (frame_at fs k) ++ (rows_of (drop (suc k) fs) ++ rest))) i) zero_more
      ∙ ap (λ (w : ℕ). 7 + w % 256) (get_or-append-add (rows_of (take k fs)) (frame_words (frame_at fs k) ++ (rows_of (drop (suc k) fs) ++ rest)) 0 0)
      ∙ head_tells (frame_at fs k) (rows_of (drop (suc k) fs) ++ rest) (fit_at k h)
    where
      zero_more : length (rows_of (take k fs)) ≡ length (rows_of (take k fs)) + 0
      zero_more = omega arith

  pub start_at : (k : ℕ) → k ≤ length fs → start_of (rows_of fs ++ rest) k ≡ length (rows_of (take k fs))
  unfolding start_of rows_of
  start_at zero h = refl
  start_at (suc k) h =
      let e = start_at k (omega arith) in
      ap (λ (i : ℕ). i + length_at (rows_of fs ++ rest) i) e ∙ ap (λ (n : ℕ). length (rows_of (take k fs)) + n) (length_here k (omega arith)) ∙ sym (rows_more k (omega arith))

  pub len_at : (k : ℕ) → k < length fs → frame_len (rows_of fs ++ rest) k ≡ length (frame_words (frame_at fs k))
  len_at k h = ap (length_at (rows_of fs ++ rest)) (start_at k (omega arith)) ∙ length_here k h

  pub cut_rows : Cut (rows_of fs ++ rest) (length (rows_of fs)) (length fs)
  cut_rows =
      record {
        whole = start_at (length fs) (omega arith) ∙ ap (λ (l : List Frame). length (rows_of l)) (take-length fs);
        short = λ k h. omega (arith, len_at k h, frame_room (frame_at fs k) (fit_at k h));
      }

  -- frame k stands there
  pub frame_there : (k : ℕ) → k < length fs → part (rows_of fs ++ rest) (start_of (rows_of fs ++ rest) k) (frame_len (rows_of fs ++ rest) k) ≡ frame_words (frame_at fs k)
  unfolding part
  frame_there k h =
      (λ i. part (rows_of fs ++ rest) (start_at k (omega arith) i) (len_at k h i))
      ∙ ap (λ (l : List ℕ). part l (length (rows_of (take k fs))) (length (frame_words (frame_at fs k)))) (split_row k h)
      ∙ ap (take (length (frame_words (frame_at fs k)))) (drop-append_seam (rows_of (take k fs)) (frame_words (frame_at fs k) ++ (rows_of (drop (suc k) fs) ++ rest)))
      ∙ take-append_seam (frame_words (frame_at fs k)) (rows_of (drop (suc k) fs) ++ rest)

  pub rows_bound : length (rows_of fs) ≤ 103 * length fs
  rows_bound = omega (arith, ap (λ (l : List Frame). length (rows_of l)) (take-length fs), bound (length fs) (omega arith))
    where
      bound : (k : ℕ) → k ≤ length fs → length (rows_of (take k fs)) ≤ 103 * k
      bound zero h = none
      bound (suc k) h = omega (arith, rows_more k (omega arith), bound k (omega arith), frame_room (frame_at fs k) (fit_at k (omega arith)))
