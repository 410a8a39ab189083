-- Rows of bytes: what the check of one answers, by its steps. Assumes nothing.
use Prim.Native.Nat.{ℕ, ◌/◌, ◌%◌, ◌<◌, ◌≤◌}
use mathlib.Core.Path.{◌≡◌, refl, sym, ap, ◌∙◌}
use mathlib.Core.Bool.{true, false}
use mathlib.Core.List.{List}
use native.Mathlib.Omega.{arith}
use lib.ListN.{length, take, replicate, length-replicate}
use lib.Seq.{sets}
use borrow.Author.Tests.{eq-eqb, ne_eqb}
use Rattle.causal.specs.Codes.{check}
use Rattle.causal.specs.Lists.{tab}
use Rattle.causal.proofs.Tests.{not_so}
use Rattle.causal.proofs.Lists.{tab_length, take_front}
use Rattle.frame.specs.Frames.{ring_ok, frame_of, accepts}
use Rattle.frame.specs.Calls.{read_frame_code}
use Rattle.frame.proofs.Entries.{frame_facts}
use Rattle.frame.proofs.Frames.{length_frame, count_fits}
use Rattle.frame.proofs.Back.{accepted_ok, accepted_written}
use Rattle.host.specs.Bytes.{word_at, words_of, check_bytes}

-- a row that was filled from the front
pub filled : (bs row : List ℕ) (n : ℕ) → n ≤ 267 → row ≡ sets (replicate 267 0) 0 (tab n (word_at bs)) → take n row ≡ tab n (word_at bs)
filled bs row n h e =
    let l = tab_length n (word_at bs) in
    ap (take n) e ∙ take_front (replicate 267 0) (tab n (word_at bs)) n (sym l) (omega (arith, length-replicate {A = ℕ} 267 0))

-- a frame has at most 267 words
pub frame_short : (n p : ℕ) (ws : List ℕ) → ring_ok n p ≡ true → 267 < length ws → accepts n p ws ≡ false
frame_short n p ws r h =
    not_so (accepts n p ws)
    (λ a.
    let f = frame_of ws in
    let g = frame_facts n p f (accepted_ok n p ws a) in
    omega (arith, ap length (accepted_written n p ws a), length_frame f, g.ring, g.high, count_fits n p f.entry g.high g.entry))

module _ (n p : ℕ) (bs : List ℕ) where
  pub bytes_1 : ring_ok n p ≡ false → 1 ≡ check_bytes n p bs
  unfolding check_bytes check
  bytes_1 r = rw r refl

  pub bytes_odd : ring_ok n p ≡ true → (length bs % 4 ≡ 0 → ⊥) → 9 ≡ check_bytes n p bs
  unfolding check_bytes check
  bytes_odd r h = rw (r, ne_eqb (length bs % 4) 0 h) refl

  pub bytes_long : ring_ok n p ≡ true → length bs % 4 ≡ 0 → 267 < length bs / 4 → 9 ≡ check_bytes n p bs
  unfolding check_bytes check read_frame_code words_of
  bytes_long r h l =
      rw (r, eq-eqb (length bs % 4) 0 h, frame_short n p (tab (length bs / 4) (word_at bs)) r (omega (arith, tab_length (length bs / 4) (word_at bs)))) refl

  pub bytes_words : ring_ok n p ≡ true → length bs % 4 ≡ 0 → (c : ℕ) → c ≡ read_frame_code n p (tab (length bs / 4) (word_at bs)) → c ≡ check_bytes n p bs
  unfolding check_bytes check words_of
  bytes_words r h c e = rw (r, eq-eqb (length bs % 4) 0 h) e
