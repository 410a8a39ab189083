-- Laws of a line whose end has not come yet: bytes more, and what the line is, for bytes of any number. Assumes nothing.
use Prim.Native.Nat.{ℕ, suc, ◌+◌, ◌-◌, ◌<◌, ◌≤◌, min}
use mathlib.Core.Path.{◌≡◌, refl, sym, ap, ◌∙◌}
use mathlib.Core.Bool.{Bool, cond, false, true}
use mathlib.Core.List.{List, [], ◌∷◌, ◌++◌, append_assoc, append-nil}
use mathlib.Core.Logic.{⊎_elim}
use native.Mathlib.Numerals.{add-one}
use native.Mathlib.Omega.{arith}
use lib.Dec.{eqb, leb}
use lib.ListN.{drop, drop_of_length-le, get_or, length, take, set, replicate, length-append, length-replicate}
use Rattle.std.proofs.lemmas.List.Edits.{get_or-between, length-between}
use lib.Seq.{drop-cons, sets, length-sets, set_out}
use borrow.Author.Tests.{eq-eqb, eqb-true, le-leb, lt-leb, ne_eqb}
use Rattle.causal.proofs.Tests.{lt_or_le}
use Rattle.causal.proofs.Lists.{sets_append, take_front}
use Rattle.script.specs.Lines.{line_of}
use Rattle.script.specs.Pendings.{Takes, first_line, has_end, is_empty, line_size, parsed, pending_of, pushed}
use Rattle.script.specs.declared.line.Line.TheVariants.{Other}
use Rattle.script.specs.declared.pending.Pending.{Pending}
use Rattle.script.proofs.Lengths.{long_line}

row : List ℕ → List ℕ
row l = sets (replicate 32 0) 0 l

store : (l : List ℕ) (b : ℕ) → set (row l) (min (length l) 33) b ≡ row (l ++ (b ∷ []))
unfolding row
store l b = ⊎_elim short long (lt_or_le (length l) 33) ∙ sym (sets_append (replicate 32 0) 0 l (b ∷ []))
  where
    short : length l < 33 → set (sets (replicate 32 0) 0 l) (min (length l) 33) b ≡ set (sets (replicate 32 0) 0 l) (0 + length l) b
    short h = let e : min (length l) 33 ≡ 0 + length l = omega arith in ap (λ (n : ℕ). set (sets (replicate 32 0) 0 l) n b) e

    long : 33 ≤ length l → set (sets (replicate 32 0) 0 l) (min (length l) 33) b ≡ set (sets (replicate 32 0) 0 l) (0 + length l) b
    long h =
        set_out (sets (replicate 32 0) 0 l) (min (length l) 33) b (omega (arith, length-sets (replicate 32 0) 0 l))
        ∙ sym (set_out (sets (replicate 32 0) 0 l) (0 + length l) b (omega (arith, length-sets (replicate 32 0) 0 l)))

push_more : (l : List ℕ) (b : ℕ) → pushed (pending_of l) b ≡ pending_of (l ++ (b ∷ []))
unfolding pushed pending_of row
push_more l b = λ i. record { bytes = store l b i; len = count i }
  where
    count : min (min (length l) 33 + 1) 33 ≡ min (length (l ++ (b ∷ []))) 33
    count = simp length-append (omega arith)

-- ---- bytes taken up to a newline

-- the row and the length of a pending line with one byte more, in the two ways that it may come
pub push_short : (row : List ℕ) (len b : ℕ) → len < 32 → ◌≡◌ {A = Pending} (record { bytes = set row len b; len = len + 1 }) (pushed (record { bytes = row; len = len }) b)
unfolding pushed
push_short row len b h = let n : len + 1 ≡ min (len + 1) 33 = omega arith in λ i. record { bytes = set row len b; len = n i }

pub push_long : (row : List ℕ) (len b : ℕ) → length row ≡ 32 → 32 ≤ len → ◌≡◌ {A = Pending} (record { bytes = row; len = 33 }) (pushed (record { bytes = row; len = len }) b)
unfolding pushed
push_long row len b e h = let n : 33 ≡ min (len + 1) 33 = omega arith in λ i. record { bytes = sym (set_out row len b (omega arith)) i; len = n i }

-- from byte i on, what is pending is q: what is taken from there on is what is taken from `from` on
pub record Taking (p : Pending) (bytes : List ℕ) (from i : ℕ) (q : Pending) : Type 0 where
  pub within : i ≤ length bytes
  pub size : from + line_size (drop from bytes) ≡ i + line_size (drop i bytes)
  pub ends : has_end (drop from bytes) ≡ has_end (drop i bytes)
  pub pending : (l : List ℕ) → p ≡ pending_of l → (m : List ℕ) × (q ≡ pending_of m) × (l ++ first_line (drop from bytes) ≡ m ++ first_line (drop i bytes))

pub taking : (p : Pending) (bytes : List ℕ) (from : ℕ) → from ≤ length bytes → Taking p bytes from from p
taking p bytes from h = record { within = h; size = refl; ends = refl; pending = λ l e. (l, e, refl) }

module _ (p : Pending) (bytes : List ℕ) (from i : ℕ) (q : Pending) (T : Taking p bytes from i q) where
  -- a byte that is no newline
  module _ (h : i < length bytes) (n : get_or bytes i 0 ≡ 10 → ⊥) where
    line_more : first_line (drop i bytes) ≡ get_or bytes i 0 ∷ first_line (drop (i + 1) bytes)
    unfolding first_line
    line_more = rw (drop-cons bytes i 0 h, ne_eqb (get_or bytes i 0) 10 n, add-one i) refl

    end_more : has_end (drop i bytes) ≡ has_end (drop (i + 1) bytes)
    unfolding has_end
    end_more = rw (drop-cons bytes i 0 h, ne_eqb (get_or bytes i 0) 10 n, add-one i) refl

    pub taking_more : (j : ℕ) (q' : Pending) → j ≡ i + 1 → q' ≡ pushed q (get_or bytes i 0) → Taking p bytes from j q'
    taking_more j q' k e = rw k
        (record {
          within = omega arith;
          size = T.size ∙ (let a = ap length line_more in let b = ap (λ (t : Bool). cond {A = ℕ} t 1 0) end_more in omega arith);
          ends = T.ends ∙ end_more;
          pending = λ l s. let t = T.pending l s in (
            t.0 ++ (get_or bytes i 0 ∷ []),
            e ∙ ap (λ (x : Pending). pushed x (get_or bytes i 0)) t.1 ∙ push_more t.0 (get_or bytes i 0),
            t.2 ∙ ap (λ (x : List ℕ). t.0 ++ x) line_more ∙ sym (append_assoc t.0 (get_or bytes i 0 ∷ []) (first_line (drop (i + 1) bytes))),
          );
        })

  taken : first_line (drop i bytes) ≡ [] → (t : Bool) (next : ℕ) → has_end (drop i bytes) ≡ t → next ≡ i + cond t 1 0 → next ≤ length bytes → Takes p bytes from (record { pending = q; next = next; ended = t })
  taken none t next e k le =
      record {
        next = k ∙ (let a = ap length none in let b = ap (λ (x : Bool). cond {A = ℕ} x 1 0) e in omega (arith, T.size));
        within = le;
        ended = sym (T.ends ∙ e);
        pending = λ l s. let x = T.pending l s in x.1 ∙ ap pending_of (sym (x.2 ∙ ap (λ (y : List ℕ). x.0 ++ y) none ∙ append-nil x.0));
      }

  -- a newline
  pub taken_line : i < length bytes → get_or bytes i 0 ≡ 10 → Takes p bytes from (record { pending = q; next = i + 1; ended = true })
  unfolding first_line has_end
  taken_line h n =
      taken (rw (drop-cons bytes i 0 h, eq-eqb (get_or bytes i 0) 10 n) refl) true (i + 1) (rw (drop-cons bytes i 0 h, eq-eqb (get_or bytes i 0) 10 n) refl) refl (omega arith)

  -- no byte more
  pub taken_all : length bytes ≤ i → Takes p bytes from (record { pending = q; next = length bytes; ended = false })
  unfolding first_line has_end
  taken_all h = taken (rw (drop_of_length-le bytes h) refl) false (length bytes) (rw (drop_of_length-le bytes h) refl) (omega (arith, T.within)) (omega arith)

-- byte i of the bytes from `from` on
pub at_rest : (l : List ℕ) (from i : ℕ) → from ≤ length l → i < length (take (length l - from) (drop from l))
    → (from + i < length l) × (get_or (take (length l - from) (drop from l)) i 0 ≡ get_or l (from + i) 0)
at_rest l from i h n =
    let b : from + i < length l = omega (arith, length-between l from (length l)) in
    (b, get_or-between l from (length l) i 0 b)

-- what was taken, among the bytes
pub line_part : (bs : List ℕ) → take (line_size bs) bs ≡ first_line bs ++ cond (has_end bs) (10 ∷ []) []
unfolding first_line has_end
line_part [] = refl
line_part (b ∷ bs) = go (eqb b 10) refl (line_part bs)
  where
    go : (t : Bool) → eqb b 10 ≡ t → take (line_size bs) bs ≡ first_line bs ++ cond (has_end bs) (10 ∷ []) []
        → take (length (cond t [] (b ∷ first_line bs)) + cond (cond t true (has_end bs)) 1 0) (b ∷ bs) ≡ cond t [] (b ∷ first_line bs) ++ cond (cond t true (has_end bs)) (10 ∷ []) []
    go true e h = ap (λ (x : ℕ). x ∷ []) (eqb-true b 10 e)
    go false e h =
        let n : suc (length (first_line bs)) + cond (has_end bs) 1 0 ≡ suc (line_size bs) = omega arith in
        ap (λ (k : ℕ). take k (b ∷ bs)) n ∙ ap (λ (l : List ℕ). b ∷ l) h

-- ---- the line that it is

pub parse_whole : (l : List ℕ) → parsed (pending_of l) ≡ line_of l
unfolding parsed pending_of
parse_whole l = ⊎_elim short long (lt_or_le (length l) 33)
  where
    short : length l < 33 → cond (leb (min (length l) 33) 32) (line_of (take (min (length l) 33) (sets (replicate 32 0) 0 l))) Other ≡ line_of l
    short h =
        rw (le-leb (min (length l) 33) 32 (omega arith))
        (ap line_of (take_front (replicate 32 0) l (min (length l) 33) (omega arith) (omega (arith, length-replicate {A = ℕ} 32 0))))

    long : 33 ≤ length l → cond (leb (min (length l) 33) 32) (line_of (take (min (length l) 33) (sets (replicate 32 0) 0 l))) Other ≡ line_of l
    long h = rw (lt-leb (min (length l) 33) 32 (omega arith)) (sym (long_line l (omega arith)))

pub empty_is : (l : List ℕ) → is_empty (pending_of l) ≡ eqb (length l) 0
unfolding is_empty pending_of
empty_is [] = refl
empty_is (b ∷ l) = ne_eqb (min (suc (length l)) 33) 0 (λ (e : min (suc (length l)) 33 ≡ 0). omega arith) ∙ sym (ne_eqb (suc (length l)) 0 (λ (e : suc (length l) ≡ 0). omega arith))
