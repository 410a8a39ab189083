-- The lines of waiting frames: a frame put behind, frames put behind, the oldest taken. Assumes nothing.
use Prim.Native.Nat.{ℕ, suc, zero, ◌%◌, ◌*◌, ◌+◌, ◌-◌, ◌<◌, ◌≤◌}
use mathlib.Core.List.{List, Memᴰ, [], ◌++◌, ◌∷◌, append_assoc, append-nil, map}
use mathlib.Core.Logic.{⊎_elim}
use mathlib.Core.Path.{◌∙◌, ◌≡◌, ap, refl, subst, sym}
use native.Mathlib.Nat.{add_assoc, add-zero}
use native.Mathlib.Omega.{arith}
use lib.ListN.{get_or-append, get_or, length, length-append, take}
use lib.Seq.{get_or-append_seam, length-sets, sets, take-length, take-suc}
use Rattle.causal.specs.Lists.{part}
use Rattle.causal.proofs.Lists.{part_sets_after, part_sets_before, part_sets_whole}
use Rattle.causal.proofs.Tests.{eq_or_ne, lt_or_le, split}
use Rattle.frame.specs.Frames.{blank_frame, frame_words}
use Rattle.frame.specs.Tokens.{rows_of}
use Rattle.frame.specs.declared.entry.Frame.{Frame}
use Rattle.player.specs.Desks.{frame_len, pushed, slot_at, start_of}
use Rattle.player.specs.Shows.{Queue, row_at}
use Rattle.player.proofs.Room.{Fit3, at_mem, frame_room, frame_there, frame_at, len_at}

-- ---- slots do not meet

pub apart : (lines : List ℕ) (x y n : ℕ) (vs : List ℕ) → (x ≡ y → ⊥) → n ≤ 104 → length vs ≤ 104 → part (sets lines (104 * y) vs) (104 * x) n ≡ part lines (104 * x) n
apart lines x y n vs ne a b =
    ⊎_elim (λ (l : x < y). part_sets_before lines (104 * x) n (104 * y) vs (omega arith))
    (λ (l : y ≤ x). ⊎_elim (λ (e : x ≡ y). absurd (ne e)) (λ (e : x ≡ y → ⊥). part_sets_after lines (104 * x) n (104 * y) vs (omega arith)) (eq_or_ne x y)) (lt_or_le x y)

-- ---- one frame more

module _ (lines : List ℕ) (long : length lines ≡ 9984) (f : List ℕ) (short : length f ≤ 103) where
  push_queue : (o first count : ℕ) (rows : List (List ℕ)) → o < 3 → Queue lines o first count rows → count < 32 →
      Queue (sets lines (slot_at o ((first + count) % 32)) (length f ∷ f)) o first (count + 1) (rows ++ (f ∷ []))
  push_queue o first count rows ol Q l =
      record {
        start = Q.start;
        counted = omega (arith, length-append rows (f ∷ []), Q.counted);
        few = omega arith;
        short = λ j h. ⊎_elim (λ (a : j < count). rw (old j a) (Q.short j a)) (λ (e : j ≡ count). rw (new j e) short) (split j count (omega arith));
        slot = λ j h. ⊎_elim (λ (a : j < count). rw (old j a) (there j a)) (λ (e : j ≡ count). rw (new j e) (here j e)) (split j count (omega arith));
      }
    where
      old : (j : ℕ) → j < count → row_at (rows ++ (f ∷ [])) j ≡ row_at rows j
      old j a = get_or-append rows (f ∷ []) [] j (omega (arith, Q.counted))

      new : (j : ℕ) → j ≡ count → row_at (rows ++ (f ∷ [])) j ≡ f
      new j e = ap (λ (x : ℕ). row_at (rows ++ (f ∷ [])) x) (e ∙ sym Q.counted) ∙ get_or-append_seam rows f [] []

      there : (j : ℕ) → j < count →
          part (sets lines (slot_at o ((first + count) % 32)) (length f ∷ f)) (slot_at o ((first + j) % 32)) (suc (length (row_at rows j))) ≡ length (row_at rows j) ∷ row_at rows j
      there j a =
          apart lines (32 * o + (first + j) % 32) (32 * o + (first + count) % 32) (suc (length (row_at rows j))) (length f ∷ f)
          (λ (e : 32 * o + (first + j) % 32 ≡ 32 * o + (first + count) % 32). omega arith) (omega (arith, Q.short j a)) (omega arith)
          ∙ Q.slot j a

      here : (j : ℕ) → j ≡ count → part (sets lines (slot_at o ((first + count) % 32)) (length f ∷ f)) (slot_at o ((first + j) % 32)) (suc (length f)) ≡ length f ∷ f
      here j e =
          ap (λ (x : ℕ). part (sets lines (slot_at o ((first + count) % 32)) (length f ∷ f)) (slot_at o ((first + x) % 32)) (suc (length f))) e
          ∙ part_sets_whole lines (slot_at o ((first + count) % 32)) (length f ∷ f) (omega arith)

  pub push_other : (o q o' first count : ℕ) (rows : List (List ℕ)) → q < 32 → (o' ≡ o → ⊥) → Queue lines o' first count rows → Queue (sets lines (slot_at o q) (length f ∷ f)) o' first count rows
  push_other o q o' first count rows ql ne Q =
      record {
        start = Q.start;
        counted = Q.counted;
        few = Q.few;
        short = Q.short;
        slot =
            λ j h.
            apart lines (32 * o' + (first + j) % 32) (32 * o + q) (suc (length (row_at rows j))) (length f ∷ f)
            (λ (e : 32 * o' + (first + j) % 32 ≡ 32 * o + q). ne (omega arith)) (omega (arith, Q.short j h)) (omega arith)
            ∙ Q.slot j h;
      }

-- ---- the frames of a row

map_at : {A B : Type 0} (h : A → B) (l : List A) (k : ℕ) (a : A) (b : B) → k < length l → get_or (map h l) k b ≡ h (get_or l k a)
map_at h [] k a b l = absurd (omega arith)
map_at h (x ∷ xs) zero a b l = refl
map_at h (x ∷ xs) (suc k) a b l = map_at h xs k a b (omega arith)

length_map : {A B : Type 0} (f : A → B) (l : List A) → length (map f l) ≡ length l
length_map f [] = refl
length_map f (x ∷ l) = ap suc (length_map f l)

pub pushed_length : (lines : List ℕ) (o q : ℕ) (row : List ℕ) (n : ℕ) → length (pushed lines o q row n) ≡ length lines
unfolding pushed
pushed_length lines o q row zero = refl
pushed_length lines o q row (suc n) =
    length-sets (pushed lines o q row n) (slot_at o ((q + n) % 32)) (frame_len row n ∷ part row (start_of row n) (frame_len row n)) ∙ pushed_length lines o q row n

module _ (lines : List ℕ) (long : length lines ≡ 9984) (fs : List Frame) (fit : (f : Frame) → Memᴰ f fs → Fit3 f) (rest : List ℕ) where
  -- one more
  more : (o q n : ℕ) → n < length fs →
      pushed lines o q (rows_of fs ++ rest) (suc n) ≡ sets (pushed lines o q (rows_of fs ++ rest) n) (slot_at o ((q + n) % 32)) (length (frame_words (frame_at fs n)) ∷ frame_words (frame_at fs n))
  unfolding pushed
  more o q n h =
      λ i. sets (pushed lines o q (rows_of fs ++ rest) n) (slot_at o ((q + n) % 32)) (len_at fs fit rest n h i ∷ frame_there fs fit rest n h i)

  room : (n : ℕ) → n < length fs → length (frame_words (frame_at fs n)) ≤ 103
  room n h = frame_room (frame_at fs n) (fit (frame_at fs n) (at_mem fs n blank_frame h))

  push_all : (o first count : ℕ) (rows : List (List ℕ)) → o < 3 → Queue lines o first count rows → (n : ℕ) → n ≤ length fs → count + n ≤ 32 →
      Queue (pushed lines o (first + count) (rows_of fs ++ rest) n) o first (count + n) (rows ++ take n (map frame_words fs))
  unfolding pushed
  push_all o first count rows ol Q zero h l = rw (add-zero count, append-nil rows) Q
  push_all o first count rows ol Q (suc n) h l =
      let P = push_queue (pushed lines o (first + count) (rows_of fs ++ rest) n) (pushed_length lines o (first + count) (rows_of fs ++ rest) n ∙ long)
      (frame_words (frame_at fs n)) (room n (omega arith)) o first (count + n) (rows ++ take n (map frame_words fs)) ol (push_all o first count rows ol Q n (omega arith) (omega arith)) (omega arith) in
      subst (λ (x : List ℕ × (ℕ × List (List ℕ))). Queue x.0 o first x.1.0 x.1.1) ends P
    where
      e_slot : (first + (count + n)) % 32 ≡ (first + count + n) % 32
      e_slot = ap (λ (x : ℕ). x % 32) (sym (add_assoc first count n))

      e_count : count + n + 1 ≡ count + suc n
      e_count = omega arith

      e_rows : (rows ++ take n (map frame_words fs)) ++ (frame_words (frame_at fs n) ∷ []) ≡ rows ++ take (suc n) (map frame_words fs)
      e_rows =
          append_assoc rows (take n (map frame_words fs)) (frame_words (frame_at fs n) ∷ [])
          ∙ ap (λ (l : List (List ℕ)). rows ++ l)
          (ap (λ (x : List ℕ). take n (map frame_words fs) ++ (x ∷ [])) (sym (map_at frame_words fs n blank_frame [] (omega arith)))
          ∙ sym (take-suc (map frame_words fs) n [] (omega (arith, length_map frame_words fs))))

      ends : ◌≡◌ {A = List ℕ × (ℕ × List (List ℕ))}
          (sets (pushed lines o (first + count) (rows_of fs ++ rest) n) (slot_at o ((first + (count + n)) % 32)) (length (frame_words (frame_at fs n)) ∷ frame_words (frame_at fs n)), (count + n + 1, (rows ++ take n (map frame_words fs)) ++ (frame_words (frame_at fs n) ∷ [])))
          (pushed lines o (first + count) (rows_of fs ++ rest) (suc n), (count + suc n, rows ++ take (suc n) (map frame_words fs)))
      ends =
          λ i. (
            (ap (λ (x : ℕ). sets (pushed lines o (first + count) (rows_of fs ++ rest) n) (slot_at o x) (length (frame_words (frame_at fs n)) ∷ frame_words (frame_at fs n))) e_slot
                ∙ sym (more o (first + count) n (omega arith)))
                i,
            (e_count i, e_rows i),
          )

  pub pushed_queue : (o first count : ℕ) (rows : List (List ℕ)) → o < 3 → Queue lines o first count rows → count + length fs ≤ 32 →
      Queue (pushed lines o (first + count) (rows_of fs ++ rest) (length fs)) o first (count + length fs) (rows ++ map frame_words fs)
  pushed_queue o first count rows ol Q l =
      rw whole at (push_all o first count rows ol Q (length fs) (omega arith) l)
    where
      whole : take (length fs) (map frame_words fs) ≡ map frame_words fs
      whole = ap (λ (x : ℕ). take x (map frame_words fs)) (sym (length_map frame_words fs)) ∙ take-length (map frame_words fs)

  pub pushed_other : (o q o' first count : ℕ) (rows : List (List ℕ)) → (o' ≡ o → ⊥) → Queue lines o' first count rows → (n : ℕ) → n ≤ length fs →
      Queue (pushed lines o q (rows_of fs ++ rest) n) o' first count rows
  unfolding pushed
  pushed_other o q o' first count rows ne Q zero h = Q
  pushed_other o q o' first count rows ne Q (suc n) h =
      subst (λ (x : List ℕ). Queue x o' first count rows) (sym (more o q n (omega arith)))
      (push_other (pushed lines o q (rows_of fs ++ rest) n) (pushed_length lines o q (rows_of fs ++ rest) n ∙ long) (frame_words (frame_at fs n)) (room n (omega arith)) o ((q + n) % 32) o' first count rows
      (omega arith) ne (pushed_other o q o' first count rows ne Q n (omega arith)))

-- ---- the oldest taken

pub taken : (lines : List ℕ) (o first count : ℕ) (f : List ℕ) (rows : List (List ℕ)) → Queue lines o first count (f ∷ rows) → Queue lines o ((first + 1) % 32) (count - 1) rows
taken lines o first count f rows Q =
    record {
      start = omega arith;
      counted = omega (arith, Q.counted);
      few = omega (arith, Q.few);
      short = λ j h. Q.short (suc j) (omega arith);
      slot = λ j h. ap (λ (x : ℕ). part lines (slot_at o x) (suc (length (row_at rows j)))) (turn j) ∙ Q.slot (suc j) (omega arith);
    }
  where
    turn : (j : ℕ) → ((first + 1) % 32 + j) % 32 ≡ (first + suc j) % 32
    turn j = omega arith
