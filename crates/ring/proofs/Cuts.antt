-- What is read off a row is what was laid in it: frames by their heads, what a joint reading handed back by its names. Assumes nothing.
use Rattle.std.proofs.Common.{None, Some}
use Prim.Native.Nat.{ℕ, ◌+◌, ◌≤◌, suc, zero}
use mathlib.Core.Bool.{true}
use mathlib.Core.List.Memᴰ
use mathlib.Core.List.{List, Memᴰ, [], ◌++◌, ◌∷◌, map}
use mathlib.Core.Logic.{⊎_elim}
use mathlib.Core.Path.{◌∙◌, ◌≡◌, ap, ap₂, refl, sym}
use native.Mathlib.Omega.{arith}
use lib.ListN.{drop, length, length-append, take}
use lib.Seq.{drop_at, take_at}
use borrow.Author.Tests.{eq-eqb, ne_eqb}
use Rattle.causal.proofs.Tests.{eq_or_ne}
use Rattle.frame.specs.Calls.{laid}
use Rattle.frame.specs.Entries.{name_of}
use Rattle.frame.specs.Frames.{accepts, body_words, count_in, frame_of, frame_ok, frame_words, offices_in}
use Rattle.frame.specs.Words.{summed}
use Rattle.frame.specs.declared.entry.Entry.{Entry}
use Rattle.frame.specs.declared.entry.Frame.{Frame}
use Rattle.frame.proofs.Back.{accepted_ok, accepted_written, count_back, offices_back}
use Rattle.frame.proofs.Frames.{length_frame}
use Rattle.store.specs.Offices.{Found}
use Rattle.office.specs.Calls.{three_words}
use Rattle.ring.specs.Answers.{cut_to, first_words, found_as, found_in, frames_in, named_in}
use Rattle.ring.proofs.Promises.{joined}
use Rattle.ring.specs.Run.{Made}

-- ---- frames

head_stays : (f : Frame) (Y : List ℕ) → (offices_in (frame_words f ++ Y) ≡ offices_in (frame_words f)) × (count_in (frame_words f ++ Y) ≡ count_in (frame_words f))
unfolding frame_words summed body_words
head_stays f Y = (refl, refl)

-- a frame is as long as its head says, whatever stands behind it
first_of : (n p : ℕ) (f : Frame) (Y : List ℕ) → p ≤ 64 → frame_ok n p f ≡ true → first_words (frame_words f ++ Y) ≡ length (frame_words f)
first_of n p f Y p64 ok =
    ap₂ (λ (a b : ℕ). a + b + 4) ((head_stays f Y).0 ∙ offices_back n p f p64 ok) ((head_stays f Y).1 ∙ count_back n p f p64 ok)
    ∙ sym (length_frame f)

pub first_words_lem : (n p : ℕ) (w Y : List ℕ) → p ≤ 64 → accepts n p w ≡ true → first_words (w ++ Y) ≡ length w
first_words_lem n p w Y p64 a =
    ap (λ (l : List ℕ). first_words (l ++ Y)) (accepted_written n p w a)
    ∙ first_of n p (frame_of w) Y p64 (accepted_ok n p w a)
    ∙ ap length (sym (accepted_written n p w a))

four : (n p : ℕ) (w : List ℕ) → accepts n p w ≡ true → 4 ≤ length w
four n p w a = omega (arith, ap length (accepted_written n p w a), length_frame (frame_of w))

cut_one : (k : ℕ) (l : List ℕ) → 1 ≤ length l → cut_to (suc k) l ≡ take (first_words l) l ∷ cut_to k (drop (first_words l) l)
unfolding cut_to
cut_one k [] h = absurd (omega arith)
cut_one k (w ∷ l) h = refl

cut_none : (k : ℕ) → cut_to k [] ≡ []
unfolding cut_to
cut_none zero = refl
cut_none (suc k) = refl

cut_joined : (n p : ℕ) → p ≤ 64 → (fs : List (List ℕ)) → ((w : List ℕ) → Memᴰ w fs → accepts n p w ≡ true) → (k : ℕ)
    → length (joined fs) ≤ k → cut_to k (joined fs) ≡ fs
unfolding joined
cut_joined n p p64 [] h k le = cut_none k
cut_joined n p p64 (w ∷ fs) h zero le =
    absurd (omega (arith, four n p w (h w (Memᴰ.head refl)), length-append w (joined fs)))
cut_joined n p p64 (w ∷ fs) h (suc k) le =
    let a = h w (Memᴰ.head refl) in
    let len : length w ≡ first_words (w ++ joined fs) = sym (first_words_lem n p w (joined fs) p64 a) in
    let l = length-append w (joined fs) in
    let f = four n p w a in
    cut_one k (w ++ joined fs) (omega (arith, l, f))
    ∙ ap₂ (λ (x : List ℕ) (y : List ℕ). x ∷ cut_to k y) (take_at w (joined fs) (first_words (w ++ joined fs)) len)
    (drop_at w (joined fs) (first_words (w ++ joined fs)) len)
    ∙ ap (λ (x : List (List ℕ)). w ∷ x) (cut_joined n p p64 fs (λ v m. h v (Memᴰ.tail m)) k (omega (arith, l, f, le)))

-- so the frames cut from the words written are the ones that were written
pub cut_row : (n p : ℕ) → p ≤ 64 → (fs : List (List ℕ)) → ((w : List ℕ) → Memᴰ w fs → accepts n p w ≡ true) → (row row' : List ℕ) (k : ℕ)
    → row' ≡ laid (joined fs) row → k ≡ length (joined fs) → frames_in (take k row') ≡ fs
unfolding frames_in laid
cut_row n p p64 fs h row row' k e q =
    ap frames_in (ap (take k) e ∙ take_at (joined fs) (drop (length (joined fs)) row) k (sym q))
    ∙ cut_joined n p p64 fs h (length (joined fs)) (omega arith)

-- ---- what a joint reading handed back

-- where the log has an entry, and none of another content under its name
pub named_is : (log : List Made) (e : Entry) (m : Made) → Memᴰ m log → m.entry ≡ e
    → ((x : Made) → Memᴰ x log → name_of x.entry ≡ name_of e → x.entry ≡ e) → named_in log (name_of e) ≡ e
unfolding named_in
named_is [] e m i q h = absurd (Memᴰ.not-nil i)
named_is (x ∷ log) e m i q h =
    ⊎_elim
    (λ (t : name_of x.entry ≡ name_of e). rw (eq-eqb (name_of x.entry) (name_of e) t) (h x (Memᴰ.head refl) t))
    (λ (t : name_of x.entry ≡ name_of e → ⊥).
    rw (ne_eqb (name_of x.entry) (name_of e) t)
    (named_is log e m (⊎_elim (λ (u : m ≡ x). absurd (t (ap (λ (y : Made). name_of y.entry) (sym u) ∙ ap name_of q))) (λ j. j) (Memᴰ.cases_cons i)) q
    (λ y j. h y (Memᴰ.tail j))))
    (eq_or_ne (name_of x.entry) (name_of e))

pub found_row : (log : List Made) (h : ℕ → Found) (plots rest : List ℕ) → ((q : ℕ) (e : Entry) → Memᴰ q plots → h q ≡ Some e → named_in log (name_of e) ≡ e)
    → found_in log plots (joined (map three_words (map h plots)) ++ rest) ≡ map h plots
unfolding found_in found_as joined three_words
found_row log h [] rest ok = refl
found_row log h (q ∷ qs) rest ok = one (h q) refl (found_row log h qs rest (λ x e m. ok x e (Memᴰ.tail m)))
  where
    below : List ℕ
    below = joined (map three_words (map h qs))

    one : (f : Found) → h q ≡ f → found_in log qs (below ++ rest) ≡ map h qs → found_in log (q ∷ qs) ((three_words f ++ below) ++ rest) ≡ f ∷ map h qs
    one None e ih = ap (λ (l : List Found). None ∷ l) ih
    one (Some x) e ih = ap₂ (λ (y : Entry) (l : List Found). Some y ∷ l) (ok q x (Memᴰ.head refl) e) ih
