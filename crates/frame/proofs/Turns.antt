-- What each turn of the codec's loops does, and what the writer's steps make together. Assumes nothing.
use Rattle.std.proofs.Common.{◌≡◌, ℕ, zero, suc, ◌+◌, ◌-◌, ◌*◌, ◌/◌, ◌%◌, ◌^◌, ◌<◌, ◌≤◌, Bool, true, false, cond, eqb, leb, List, [], ◌∷◌, ◌++◌, length, get_or, take, drop, set, sym, refl, ap, ◌∙◌, ⊎_elim, append_assoc, append-nil, le_refl, pow-suc, zero-add, add-one, arith, length-append, length-drop, drop_of_length-le, take_all, drop-drop, ext_get_or, pow_pos, pow_mono, shr_lt, le-ltb, lt-ltb, le-leb}
use lib.Count.{count_trailing_zeros}
use lib.Pow.{high, ones_lt, ones_split}
use lib.Seq.{set_comm, sets, sets-eq, length-sets}
use Rattle.causal.specs.Lists.{tab, zeros}
use Rattle.causal.specs.Sets.{bit}
use Rattle.causal.proofs.Tests.{lt_or_le}
use Rattle.causal.proofs.Lists.{sets_append, sets_front, tab_length, tab_at, get_d_sets_in, get_d_sets_after}
use Rattle.causal.proofs.Sets.{zero_at, size_le}
use Rattle.causal.proofs.Walk.{Passed, next, skip, fold_next, fold_end}
use Rattle.frame.specs.declared.entry.Frame.{Frame}
use Rattle.frame.specs.Words.{pay_at, clock_words, clock_place, clock_from, id_word, id_word_if, id_words_to, id_words, id_words_in, total, sum_word, summed}
use Rattle.causal.specs.Codes.{check}
use Rattle.frame.specs.Refusals.{replied}
use Rattle.frame.specs.Frames.{head_word, body_words, frame_words, frame_ok}
use Rattle.frame.specs.Calls.{laid, laid_if, write_frame_code, write_frame, write_frame_row}
use Rattle.frame.proofs.Words.{ids_in, ids_size, length_clock, total_append}
use Rattle.frame.proofs.Frames.{length_body, length_frame}

-- ---- a clock, read

pub clock_whole : (ws : List ℕ) (at n : ℕ) → n ≤ 8 → sets zeros 0 (tab n (λ j. pay_at ws (at + j))) ≡ clock_from ws at n
unfolding clock_from
clock_whole ws at n h =
    ext_get_or 0 (sets zeros 0 (tab n G)) (tab 8 (clock_place ws at n)) (length-sets zeros 0 (tab n G) ∙ sym (tab_length 8 (clock_place ws at n)))
    (λ j l.
    let j8 : j < 8 = omega (arith, length-sets zeros 0 (tab n G)) in
    ⊎_elim (within j j8) (beyond j j8) (lt_or_le j n) ∙ sym (tab_at 8 (clock_place ws at n) j 0 j8))
  where
    G : ℕ → ℕ
    G j = pay_at ws (at + j)

    within : (j : ℕ) → j < 8 → j < n → get_or (sets zeros 0 (tab n G)) j 0 ≡ clock_place ws at n j
    within j j8 l =
        let e : 0 + j ≡ j = zero-add j in
        ap (λ (i : ℕ). get_or (sets zeros 0 (tab n G)) i 0) (sym e)
        ∙ get_d_sets_in zeros 0 (tab n G) j (omega (arith, tab_length n G)) (omega (arith, tab_length n G))
        ∙ tab_at n G j 0 l
        ∙ ap (λ (b : Bool). cond b (pay_at ws (at + j)) 0) (sym (lt-ltb j n l))

    beyond : (j : ℕ) → j < 8 → n ≤ j → get_or (sets zeros 0 (tab n G)) j 0 ≡ clock_place ws at n j
    beyond j j8 l =
        get_d_sets_after zeros 0 (tab n G) j (omega (arith, tab_length n G)) ∙ zero_at j
        ∙ ap (λ (b : Bool). cond b (pay_at ws (at + j)) 0) (sym (le-ltb j n l))

-- ---- words of ids, written

word_place : (j t : ℕ) → t < 32 → id_word (32 * j + t) ≡ 1610612737 + 256 * j + t
word_place j t h =
    let d : (32 * j + t) / 32 ≡ j = omega arith in
    let m : (32 * j + t) % 32 ≡ t = omega arith in
    rw (d, m) (omega arith)

module _ (j w : ℕ) where
  abbrev Ids : ℕ → List ℕ
  Ids b = id_words_in j w b

  ids_none : (i : ℕ) → i < 32 → bit w i ≡ 0 → Ids (suc i) ≡ Ids i
  unfolding id_words_in id_word_if
  ids_none i h e = rw (e) (append-nil (Ids i))

  ids_one : (i : ℕ) → bit w i ≡ 1 → Ids (i + 1) ≡ Ids i ++ (id_word (32 * j + i) ∷ [])
  unfolding id_words_in id_word_if
  ids_one i e = rw (add-one, e) refl

  ids_grow : (b c : ℕ) → length (Ids b) ≤ length (Ids (c + b))
  unfolding id_words_in
  ids_grow b zero = rw zero-add (omega arith)
  ids_grow b (suc c) =
      let e : suc c + b ≡ suc (c + b) = omega arith in
      rw e (omega (arith, ids_grow b c, length-append (Ids (c + b)) (id_word_if (eqb (bit w (c + b)) 1) (32 * j + (c + b)))))

  pub ids_room : (b : ℕ) → b ≤ 32 → length (Ids b) ≤ length (Ids 32)
  ids_room b h = let e : 32 - b + b ≡ 32 = omega arith in rw e at (ids_grow b (32 - b))

  -- the word of the next id, and the words up to it
  pub ids_step : (b rest : ℕ) → Passed w b rest → (rest ≡ 0 → ⊥) → Ids (count_trailing_zeros 32 rest + 1) ≡ Ids b ++ ((1610612737 + 256 * j + count_trailing_zeros 32 rest) ∷ [])
  ids_step b rest p n =
      let x = next w b rest p n in
      let t : ℕ = count_trailing_zeros 32 rest in
      let v : id_word (32 * j + t) ≡ 1610612737 + 256 * j + t = word_place j t x.below in
      ids_one t x.member ∙ ap (λ (l : List ℕ). l ++ (id_word (32 * j + t) ∷ [])) (fold_next Ids w ids_none b rest t x) ∙ ap (λ (y : ℕ). Ids b ++ (y ∷ [])) v

  pub ids_end : (b rest : ℕ) → Passed w b rest → rest ≡ 0 → Ids 32 ≡ Ids b
  ids_end b rest p z = fold_end Ids w ids_none b rest p z

-- ---- a word of a set that has all ids up to some serial

ones_shr : (l : ℕ) → l ≤ 32 → 4294967295 / 2 ^ l ≡ 2 ^ (32 - l) - 1
ones_shr l h =
    let e : 32 - l + l ≡ 32 = omega arith in
    ap (λ (k : ℕ). (2 ^ k - 1) / 2 ^ l) (sym e) ∙ ap (λ (x : ℕ). x / 2 ^ l) (ones_split (32 - l) l) ∙ high (2 ^ (32 - l) - 1) l (ones_lt l)

ones_at : (c i : ℕ) → i < c → bit (2 ^ c - 1) i ≡ 1
unfolding bit
ones_at c i h =
    let e : suc (c - suc i) + i ≡ c = omega arith in
    let d : (2 ^ c - 1) / 2 ^ i ≡ 2 ^ suc (c - suc i) - 1 =
    ap (λ (k : ℕ). (2 ^ k - 1) / 2 ^ i) (sym e) ∙ ap (λ (x : ℕ). x / 2 ^ i) (ones_split (suc (c - suc i)) i) ∙ high (2 ^ suc (c - suc i) - 1) i (ones_lt i)
    in
    ap (λ (x : ℕ). x % 2) d ∙ odd (c - suc i)
  where
    odd : (m : ℕ) → (2 ^ suc m - 1) % 2 ≡ 1
    odd m = rw pow-suc (omega (arith, pow_pos m))

ones_over : (c i : ℕ) → c ≤ i → bit (2 ^ c - 1) i ≡ 0
unfolding bit
ones_over c i h =
    let e : 0 + i ≡ i = zero-add i in
    let l : 2 ^ c - 1 < 2 ^ (0 + i) = rw e (omega (arith, ones_lt c, pow_mono {i = c} {j = i} h)) in
    let z = shr_lt {n = 2 ^ c - 1} 0 i l in
    omega arith

words_up : (j c m : ℕ) → m ≤ c → c ≤ 32 → id_words_in j (2 ^ c - 1) m ≡ tab m (λ i. 1610612737 + 256 * j + i)
unfolding id_words_in id_word_if tab
words_up j c zero l h = refl
words_up j c (suc m) l h = rw (ones_at c m l, word_place j m (omega arith), words_up j c m (omega arith) h) refl

run_words : (j c : ℕ) → c ≤ 32 → id_words_in j (2 ^ c - 1) 32 ≡ tab c (λ i. 1610612737 + 256 * j + i)
run_words j c h =
    skip (Ids j (2 ^ c - 1)) c 32 h (λ k l m. ids_none j (2 ^ c - 1) k m (ones_over c k l)) ∙ words_up j c c (le_refl c) h

-- the same by how many bits are free above
module _ (j w l : ℕ) (h : l ≤ 32) (e : w ≡ 4294967295 / 2 ^ l) where
  pub run_is : id_words_in j w 32 ≡ tab (32 - l) (λ i. 1610612737 + 256 * j + i)
  run_is = ap (λ (x : ℕ). id_words_in j x 32) (e ∙ ones_shr l h) ∙ run_words j (32 - l) (omega arith)

  pub run_length : length (id_words_in j w 32) ≡ 32 - l
  run_length = ap length run_is ∙ tab_length (32 - l) (λ i. 1610612737 + 256 * j + i)

-- one word of a set more
pub ids_word : (s : List ℕ) (j : ℕ) → id_words_to s (32 * (j + 1)) ≡ id_words_to s (32 * j) ++ id_words_in j (get_or s j 0) 32
ids_word s j = let e : 32 * (j + 1) ≡ 32 * j + 32 = omega arith in rw e (ids_in s j 32 (omega arith))

words_grow : (s : List ℕ) (a d : ℕ) → length (id_words_to s a) ≤ length (id_words_to s (d + a))
unfolding id_words_to
words_grow s a zero = rw zero-add (omega arith)
words_grow s a (suc d) =
    let e : suc d + a ≡ suc (d + a) = omega arith in
    rw e (omega (arith, words_grow s a d, length-append (id_words_to s (d + a)) (id_word_if (Rattle.causal.specs.Sets.is_in s (d + a)) (d + a))))

pub words_room : (s : List ℕ) (j : ℕ) → j < 8 → length (id_words_to s (32 * j)) + length (id_words_in j (get_or s j 0) 32) ≤ length (id_words s)
unfolding id_words
words_room s j h =
    let e : 256 - 32 * (j + 1) + 32 * (j + 1) ≡ 256 = omega arith in
    let g : length (id_words_to s (32 * (j + 1))) ≤ length (id_words_to s 256) = rw e at (words_grow s (32 * (j + 1)) (256 - 32 * (j + 1))) in
    omega (arith, ap length (ids_word s j), length-append (id_words_to s (32 * j)) (id_words_in j (get_or s j 0) 32))

-- ---- the writer's steps make the writing

frame_filled : (f : Frame) (out a0 a1 a2 a3 : List ℕ) (head end : ℕ)
    → head ≡ head_word f.entry.office f.entry.serial f.hops f.offices (length (id_words f.entry.deps))
    → a0 ≡ sets out 0 (head ∷ (805306368 + f.entry.plot) ∷ (1073741824 + f.entry.value) ∷ [])
    → a1 ≡ sets a0 3 (clock_words f.offices f.entry.clock)
    → a2 ≡ sets a1 (3 + f.offices) (id_words f.entry.deps)
    → end ≡ 3 + f.offices + length (id_words f.entry.deps)
    → a3 ≡ set a2 end (sum_word (body_words f))
    → length (frame_words f) ≤ length out
    → a3 ≡ laid (frame_words f) out
unfolding laid body_words frame_words summed
frame_filled f out a0 a1 a2 a3 head end eh e0 e1 e2 ee e3 room = whole ∙ sets_front out (frame_words f) room
  where
    C : List ℕ
    C = clock_words f.offices f.entry.clock

    D : List ℕ
    D = id_words f.entry.deps

    H : List ℕ
    H =
        head_word f.entry.office f.entry.serial f.hops f.offices (length (id_words f.entry.deps))
        ∷ (805306368 + f.entry.plot)
        ∷ (1073741824 + f.entry.value)
        ∷ []

    body : a2 ≡ sets out 0 (body_words f)
    body =
        let f0 : a0 ≡ sets out 0 H = e0 ∙ ap (λ (x : ℕ). sets out 0 (x ∷ (805306368 + f.entry.plot) ∷ (1073741824 + f.entry.value) ∷ [])) eh in
        let f1 : a1 ≡ sets out 0 (H ++ C) = e1 ∙ ap (λ (l : List ℕ). sets l 3 C) f0 ∙ sym (sets_append out 0 H C) in
        let k : 3 + f.offices ≡ 0 + length (H ++ C) = omega (arith, length-append H C, length_clock f.offices f.entry.clock) in
        e2 ∙ ap (λ (l : List ℕ). sets l (3 + f.offices) D) f1 ∙ ap (λ (i : ℕ). sets (sets out 0 (H ++ C)) i D) k ∙ sym (sets_append out 0 (H ++ C) D)

    whole : a3 ≡ sets out 0 (frame_words f)
    whole =
        let B : List ℕ = body_words f in
        let lb : length B ≡ f.offices + length D + 3 = length_body f in
        let le : end ≡ length B = omega arith in
        let k : end ≡ 0 + length B = omega arith in
        e3
        ∙ ap (λ (l : List ℕ). set l end (sum_word B)) body
        ∙ ap (λ (i : ℕ). set (sets out 0 B) i (sum_word B)) k
        ∙ sym (sets_append out 0 B (sum_word B ∷ []))

-- the same where the head is put last

pub set_sets : (l : List ℕ) (i : ℕ) (xs : List ℕ) (j a : ℕ) → j < i → set (sets l i xs) j a ≡ sets (set l j a) i xs
set_sets l i [] j a h = refl
set_sets l i (x ∷ xs) j a h =
    set_sets (set l i x) (suc i) xs j a (omega arith)
    ∙ ap (λ (m : List ℕ). sets m (suc i) xs) (set_comm l i j x a (λ (e : i ≡ j). omega arith))

sets_first : (o xs ys : List ℕ) (k a b c : ℕ) → 3 ≤ k
    → sets (sets (sets o 3 xs) k ys) 0 (a ∷ b ∷ c ∷ []) ≡ sets (sets (sets o 0 (a ∷ b ∷ c ∷ [])) 3 xs) k ys
sets_first o xs ys k a b c h =
    ap (λ (l : List ℕ). set (set l 1 b) 2 c) (one o 0 a (omega arith)) ∙ ap (λ (l : List ℕ). set l 2 c) (one (set o 0 a) 1 b (omega arith))
    ∙ one (set (set o 0 a) 1 b) 2 c (omega arith)
  where
    one : (l : List ℕ) (j x : ℕ) → j < 3 → set (sets (sets l 3 xs) k ys) j x ≡ sets (sets (set l j x) 3 xs) k ys
    one l j x m = set_sets (sets l 3 xs) k ys j x (omega arith) ∙ ap (λ (r : List ℕ). sets r k ys) (set_sets l 3 xs j x m)

pub head_last : (f : Frame) (out a0 a1 a2 a3 : List ℕ) (head end : ℕ)
    → head ≡ head_word f.entry.office f.entry.serial f.hops f.offices (length (id_words f.entry.deps))
    → a0 ≡ sets out 3 (clock_words f.offices f.entry.clock)
    → a1 ≡ sets a0 (3 + f.offices) (id_words f.entry.deps)
    → a2 ≡ sets a1 0 (head ∷ (805306368 + f.entry.plot) ∷ (1073741824 + f.entry.value) ∷ [])
    → end ≡ 3 + f.offices + length (id_words f.entry.deps)
    → a3 ≡ set a2 end (sum_word (body_words f))
    → length (frame_words f) ≤ length out
    → a3 ≡ laid (frame_words f) out
head_last f out a0 a1 a2 a3 head end eh e0 e1 e2 ee e3 room =
    let C : List ℕ = clock_words f.offices f.entry.clock in
    let D : List ℕ = id_words f.entry.deps in
    let H : List ℕ = head ∷ (805306368 + f.entry.plot) ∷ (1073741824 + f.entry.value) ∷ [] in
    let q : a2 ≡ sets (sets (sets out 0 H) 3 C) (3 + f.offices) D =
    e2 ∙ ap (λ (l : List ℕ). sets l 0 H) (e1 ∙ ap (λ (l : List ℕ). sets l (3 + f.offices) D) e0)
    ∙ sets_first out C D (3 + f.offices) head (805306368 + f.entry.plot) (1073741824 + f.entry.value) (omega arith)
    in
    frame_filled f out (sets out 0 H) (sets (sets out 0 H) 3 C) a2 a3 head end eh refl refl q ee e3 room

-- the check by the sums of the parts
mod_right : (a b c : ℕ) → b % 268435456 ≡ c % 268435456 → (a + b) % 268435456 ≡ (a + c) % 268435456
mod_right a b c e = omega arith

mod_left : (a b : ℕ) → (a % 268435456 + b) % 268435456 ≡ (a + b) % 268435456
mod_left a b = omega arith

parts_sum : (h p v c d x y : ℕ) → c % 268435456 ≡ x % 268435456 → d % 268435456 ≡ y % 268435456
    → (h + (p + v) + c + d) % 268435456 ≡ (h % 268435456 + ((805306368 + p) % 268435456 + ((1073741824 + v) % 268435456 + (x + y)))) % 268435456
parts_sum h p v c d x y e f =
    let a : h + (p + v) + c + y ≡ h + (p + v) + y + c = omega arith in
    let b : (h + (p + v) + y + x) % 268435456 ≡ (h + (805306368 + p + (1073741824 + v + (x + y)))) % 268435456 = omega arith in
    mod_right (h + (p + v) + c) d y f ∙ ap (λ (n : ℕ). n % 268435456) a ∙ mod_right (h + (p + v) + y) c x e ∙ b
    ∙ mod_right h (805306368 + p + (1073741824 + v + (x + y))) ((805306368 + p) % 268435456 + ((1073741824 + v) % 268435456 + (x + y)))
    (mod_right (805306368 + p) (1073741824 + v + (x + y)) ((1073741824 + v) % 268435456 + (x + y)) (sym (mod_left (1073741824 + v) (x + y)))
    ∙ sym (mod_left (805306368 + p) ((1073741824 + v) % 268435456 + (x + y))))
    ∙ sym (mod_left h ((805306368 + p) % 268435456 + ((1073741824 + v) % 268435456 + (x + y))))

pub body_sum : (f : Frame) (head clocks deps : ℕ)
    → head ≡ head_word f.entry.office f.entry.serial f.hops f.offices (length (id_words f.entry.deps))
    → clocks % 268435456 ≡ total (clock_words f.offices f.entry.clock) % 268435456
    → deps % 268435456 ≡ total (id_words f.entry.deps) % 268435456
    → 4026531840 + (head + (f.entry.plot + f.entry.value) + clocks + deps) % 268435456 ≡ sum_word (body_words f)
unfolding body_words total
body_sum f head clocks deps e c d =
    let C : List ℕ = clock_words f.offices f.entry.clock in
    let D : List ℕ = id_words f.entry.deps in
    ap (λ (x : ℕ). 4026531840 + x)
    (parts_sum head f.entry.plot f.entry.value clocks deps (total C) (total D) c d
    ∙ ap (λ (x : ℕ). (head % 268435456 + ((805306368 + f.entry.plot) % 268435456 + ((1073741824 + f.entry.value) % 268435456 + x))) % 268435456) (sym (total_append C D))
    ∙ ap (λ (x : ℕ). (x % 268435456 + ((805306368 + f.entry.plot) % 268435456 + ((1073741824 + f.entry.value) % 268435456 + total (C ++ D)))) % 268435456) e)

-- no frame has more than 268 words
pub frame_most : (f : Frame) → f.offices ≤ 8 → length (frame_words f) ≤ 268
frame_most f h = omega (arith, length_frame f, ids_size f.entry.deps, size_le f.entry.deps)

-- ---- the rest of a row, lent to the writer of frames

pub put_lent : (ws o new : List ℕ) (at : ℕ) → at + length ws ≤ length o → new ≡ laid ws (take (length o - at) (drop at o))
    → take at o ++ (new ++ drop (length o - at) (drop at o)) ≡ sets o at ws
unfolding laid
put_lent ws o new at h e =
    let rest : take (length o - at) (drop at o) ≡ drop at o = take_all (length o - at) (drop at o) (simp length-drop (omega arith)) in
    let w : new ≡ ws ++ drop (length ws) (drop at o) = e ∙ ap (λ (l : List ℕ). ws ++ drop (length ws) l) rest in
    let n : drop (length o - at) (drop at o) ≡ [] = drop_of_length-le (drop at o) {i = length o - at} (simp length-drop (omega arith)) in
    rw (n, append-nil, w, drop-drop (length ws) at o) (sym (append_assoc (take at o) ws (drop (at + length ws) o)) ∙ sym (sets-eq ws o at h))

pub lent_room : (o : List ℕ) (at m : ℕ) → at + m ≤ length o → m ≤ length (take (length o - at) (drop at o))
lent_room o at m h =
    let rest : take (length o - at) (drop at o) ≡ drop at o = take_all (length o - at) (drop at o) (simp length-drop (omega arith)) in
    rw rest (simp length-drop (omega arith))

-- ---- what the writer answers

module _ (f : Frame) (out : List ℕ) where
  pub write_refused : (c : ℕ) → write_frame_code f (length out) ≡ suc c
      → (record { code = suc c; words = 0 } ≡ write_frame f (length out)) × (out ≡ write_frame_row f out)
  unfolding write_frame write_frame_row replied laid_if
  write_refused c e = (rw e refl, rw e refl)

  pub write_accepted : (n : ℕ) (row : List ℕ) → write_frame_code f (length out) ≡ 0 → n ≡ length (frame_words f) → row ≡ laid (frame_words f) out
      → (record { code = 0; words = n } ≡ write_frame f (length out)) × (row ≡ write_frame_row f out)
  unfolding write_frame write_frame_row replied laid_if
  write_accepted n row e q r = (rw (e, q) refl, rw e r)

  pub write_code_3 : frame_ok f.offices 64 f ≡ false → write_frame_code f (length out) ≡ 3
  unfolding write_frame_code check
  write_code_3 e = rw e refl

  pub write_code_8 : frame_ok f.offices 64 f ≡ true → leb (length (frame_words f)) (length out) ≡ false → write_frame_code f (length out) ≡ 8
  unfolding write_frame_code check
  write_code_8 e h = rw (e, h) refl

  pub write_code_0 : frame_ok f.offices 64 f ≡ true → length (frame_words f) ≤ length out → write_frame_code f (length out) ≡ 0
  unfolding write_frame_code check
  write_code_0 e h = rw (e, le-leb (length (frame_words f)) (length out) h) refl
