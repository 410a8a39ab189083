-- The frames of a write in the out row: one behind the other, each in the rest of the row lent to the frame writer. Assumes nothing.
use Prim.Native.Nat.{ℕ, ◌+◌, ◌-◌, ◌*◌, ◌<◌, ◌≤◌}
use mathlib.Core.Path.{◌≡◌, sym, ap, ◌∙◌, subst}
use mathlib.Core.Bool.{Bool, true, false, cond}
use mathlib.Core.List.{List, [], ◌∷◌, ◌++◌, map, append_assoc, append-nil}
use Rattle.std.proofs.Math.ListN.{drop_of_length-le}
use Rattle.std.proofs.lemmas.List.{drop_more}
use native.Mathlib.Nat.{add-zero}
use native.Mathlib.Omega.{arith}
use lib.ListN.{length, get_or, drop, length-append}
use lib.Seq.{sets}
use Rattle.causal.specs.Sets.{is_in}
use Rattle.causal.proofs.Lists.{sets_append}
use Rattle.frame.specs.declared.entry.Entry.{Entry}
use Rattle.frame.specs.declared.entry.Frame.{Frame}
use Rattle.frame.specs.Entries.{id_of}
use Rattle.frame.specs.Frames.{framed, frame_ok, frame_words}
use Rattle.frame.specs.Tokens.{rows_of}
use Rattle.frame.specs.Sessions.{leave_out}
use Rattle.frame.proofs.Frames.{length_frame}
use Rattle.frame.proofs.Tokens.{reads_le}
use Rattle.store.specs.Offices.{Office}
use Rattle.office.specs.Calls.{missing}
use Rattle.writing.specs.Writes.{started, frame_if, frames_in, all_frames}

-- ---- one own write

module _ (held : List ℕ) (n : ℕ) (e : Entry) (r : Bool) (k : ℕ) (p : k ≡ id_of e) (q : r ≡ is_in held k) where
  -- what is held sends nothing, and what is not sends its frame
  pub skipped : r ≡ true → [] ≡ frame_if (is_in held (id_of e)) n e
  skipped t = ap (λ (b : Bool). frame_if b n e) (sym t ∙ q ∙ ap (is_in held) p)

  pub sent : r ≡ false → frame_words (started n e) ≡ frame_if (is_in held (id_of e)) n e
  sent t = ap (λ (b : Bool). frame_if b n e) (sym t ∙ q ∙ ap (is_in held) p)

  pub skip_turn : (at : ℕ) (o : List ℕ) → r ≡ true
      → (at ≡ at + length (frame_if (is_in held (id_of e)) n e)) × (o ≡ sets o at (frame_if (is_in held (id_of e)) n e))
  skip_turn at o t =
      let z = skipped t in (sym (add-zero at) ∙ ap (λ (l : List ℕ). at + length l) z, ap (λ (l : List ℕ). sets o at l) z)

  pub send_fits : (f : Frame) (at m : ℕ) → r ≡ false → f ≡ started n e → frame_ok n 64 (started n e) ≡ true
      → at + length (frame_if (is_in held (id_of e)) n e) ≤ m → (frame_ok f.offices 64 f ≡ true) × (at + length (frame_words f) ≤ m)
  send_fits f at m t g v h =
      let z = sent t in (
        subst (λ (x : Frame). frame_ok x.offices 64 x ≡ true) (sym g) v,
        subst (λ (x : Frame). at + length (frame_words x) ≤ m) (sym g) (subst (λ (l : List ℕ). at + length l ≤ m) (sym z) h),
      )

  pub send_turn : (f : Frame) (at x : ℕ) (o y : List ℕ) → r ≡ false → f ≡ started n e → x ≡ at + length (frame_words f) → y ≡ sets o at (frame_words f)
      → (x ≡ at + length (frame_if (is_in held (id_of e)) n e)) × (y ≡ sets o at (frame_if (is_in held (id_of e)) n e))
  send_turn f at x o y t g a b =
      let z = ap frame_words g ∙ sent t in (a ∙ ap (λ (l : List ℕ). at + length l) z, b ∙ ap (λ (l : List ℕ). sets o at l) z)

-- ---- all of them: what is still to send at a turn of a loop

module _ (held : List ℕ) (n : ℕ) (e : Entry) where
  left_cons : (x : Entry) (own : List Entry) → all_frames held n (x ∷ own) e ≡ frame_if (is_in held (id_of x)) n x ++ all_frames held n own e
  unfolding all_frames frames_in
  left_cons x own = append_assoc (frame_if (is_in held (id_of x)) n x) (frames_in held n own) (frame_words (started n e))

  pub left_more : (own : List Entry) (i : ℕ) (d : Entry) → i < length own
      → all_frames held n (drop i own) e ≡ frame_if (is_in held (id_of (get_or own i d))) n (get_or own i d) ++ all_frames held n (drop (i + 1) own) e
  left_more own i d h = ap (λ (es : List Entry). all_frames held n es e) (drop_more own i d h) ∙ left_cons (get_or own i d) (drop (i + 1) own)

  pub left_length : (own : List Entry) (i : ℕ) (d : Entry) → i < length own → length (all_frames held n (drop i own) e)
      ≡ length (frame_if (is_in held (id_of (get_or own i d))) n (get_or own i d)) + length (all_frames held n (drop (i + 1) own) e)
  left_length own i d h =
      ap length (left_more own i d h)
      ∙ length-append (frame_if (is_in held (id_of (get_or own i d))) n (get_or own i d)) (all_frames held n (drop (i + 1) own) e)

  pub put_more : (own : List Entry) (i : ℕ) (d : Entry) → i < length own → (o o' : List ℕ) (at at' : ℕ)
      → at' ≡ at + length (frame_if (is_in held (id_of (get_or own i d))) n (get_or own i d)) → o' ≡ sets o at (frame_if (is_in held (id_of (get_or own i d))) n (get_or own i d))
      → sets o' at' (all_frames held n (drop (i + 1) own) e) ≡ sets o at (all_frames held n (drop i own) e)
  put_more own i d h o o' at at' p q =
      rw (p, q)
      (sym (sets_append o at (frame_if (is_in held (id_of (get_or own i d))) n (get_or own i d)) (all_frames held n (drop (i + 1) own) e))
      ∙ ap (sets o at) (sym (left_more own i d h)))

  pub left_end : (own : List Entry) (i : ℕ) → length own ≤ i → all_frames held n (drop i own) e ≡ frame_words (started n e)
  unfolding all_frames frames_in
  left_end own i h = ap (λ (es : List Entry). all_frames held n es e) (drop_of_length-le own h)

frame_le : (b : Bool) (n : ℕ) (e : Entry) → n ≤ 8 → length (frame_if b n e) ≤ 268
frame_le true n e h = omega arith
frame_le false n e h = omega (arith, length_frame (started n e), reads_le e.deps)

frames_le : (held : List ℕ) (n : ℕ) (own : List Entry) → n ≤ 8 → length (frames_in held n own) ≤ 268 * length own
unfolding frames_in
frames_le held n [] h = omega arith
frames_le held n (e ∷ own) h =
    omega (
      arith,
      frames_le held n own h,
      frame_le (is_in held (id_of e)) n e h,
      length-append (frame_if (is_in held (id_of e)) n e) (frames_in held n own),
    )

pub all_le : (held : List ℕ) (n : ℕ) (own : List Entry) (e : Entry) → n ≤ 8 → length (all_frames held n own e) ≤ 268 * length own + 268
unfolding all_frames
all_le held n own e h =
    omega (arith, frames_le held n own h, frame_le false n e h, length-append (frames_in held n own) (frame_words (started n e)))

-- ---- they are the frames that Calls says

frames_missing : (O : Office) (n : ℕ) (es : List Entry) (e : Entry)
    → frames_in O.held n es ++ frame_words (started n e) ≡ rows_of (map (framed n (n - 2)) (missing O es ++ (e ∷ [])))
unfolding frames_in rows_of leave_out
frames_missing O n [] e = sym (append-nil (frame_words (started n e)))
frames_missing O n (x ∷ es) e = go (is_in O.held (id_of x)) (frames_missing O n es e)
  where
    go : (t : Bool) → frames_in O.held n es ++ frame_words (started n e) ≡ rows_of (map (framed n (n - 2)) (missing O es ++ (e ∷ [])))
        → (frame_if t n x ++ frames_in O.held n es) ++ frame_words (started n e)
        ≡ rows_of (map (framed n (n - 2)) (cond t (missing O es) (x ∷ missing O es) ++ (e ∷ [])))
    go true ih = ih
    go false ih =
        append_assoc (frame_words (started n x)) (frames_in O.held n es) (frame_words (started n e))
        ∙ ap (λ (l : List ℕ). frame_words (started n x) ++ l) ih

pub all_frames_lem : (O : Office) (n : ℕ) (es : List Entry) (e : Entry)
    → all_frames O.held n es e ≡ rows_of (map (framed n (n - 2)) (missing O es ++ (e ∷ [])))
unfolding all_frames
all_frames_lem O n es e = frames_missing O n es e
