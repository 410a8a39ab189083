-- Parts of a store, as code reads, compares and stores them. Assumes nothing.
use Rattle.std.proofs.Common.{◌≡◌, ℕ, zero, suc, ◌+◌, ◌<◌, ◌≤◌, eqb, List, [], ◌∷◌, length, get_or, set, take, drop, sym, ap, ◌∙◌, add-zero, add-one, arith, length-append, ext_get_or}
use lib.Pointwise.{pointwise}
use lib.Seq.{sets}
use Rattle.causal.specs.Lists.{part, eq_words}
use Rattle.causal.proofs.Equal.{pointwise_words}
use Rattle.causal.proofs.Lists.{part_at, part_length, sets_append}
use Rattle.frame.specs.declared.entry.Entry.{Entry}
use Rattle.store.specs.Offices.{entry_words}

-- the eight words, one by one
pub part_eight : (ws : List ℕ) (a : ℕ) → a + 8 ≤ length ws
    → get_or ws a 0 ∷ get_or ws (a + 1) 0 ∷ get_or ws (a + 2) 0 ∷ get_or ws (a + 3) 0 ∷ get_or ws (a + 4) 0 ∷ get_or ws (a + 5) 0 ∷ get_or ws (a + 6) 0 ∷ get_or ws (a + 7) 0 ∷ []
    ≡ part ws a 8
part_eight ws a h = ext_get_or 0 _ (part ws a 8) (sym (part_length ws a 8 h)) each
  where
    each : (i : ℕ) → i < 8 → get_or (get_or ws a 0 ∷ get_or ws (a + 1) 0 ∷ get_or ws (a + 2) 0 ∷ get_or ws (a + 3) 0 ∷ get_or ws (a + 4) 0 ∷ get_or ws (a + 5) 0 ∷ get_or ws (a + 6) 0 ∷ get_or ws (a + 7) 0 ∷ []) i 0 ≡ get_or (part ws a 8) i 0
    each zero l = ap (λ (j : ℕ). get_or ws j 0) (sym (add-zero a)) ∙ sym (part_at ws a 8 0 l)
    each (suc zero) l = sym (part_at ws a 8 1 l)
    each (suc (suc zero)) l = sym (part_at ws a 8 2 l)
    each (suc (suc (suc zero))) l = sym (part_at ws a 8 3 l)
    each (suc (suc (suc (suc zero)))) l = sym (part_at ws a 8 4 l)
    each (suc (suc (suc (suc (suc zero))))) l = sym (part_at ws a 8 5 l)
    each (suc (suc (suc (suc (suc (suc zero)))))) l = sym (part_at ws a 8 6 l)
    each (suc (suc (suc (suc (suc (suc (suc zero))))))) l = sym (part_at ws a 8 7 l)
    each (suc (suc (suc (suc (suc (suc (suc (suc i)))))))) l = absurd (omega arith)

-- `xs == ws[a..b]`, where k is b - a
pub part_words : (xs ws : List ℕ) (a k : ℕ) → pointwise eqb xs (take k (drop a ws)) ≡ eq_words xs (part ws a k)
unfolding part
part_words xs ws a k = pointwise_words xs (take k (drop a ws))

-- the stores of an entry, one after the other
pub entry_run : (ws : List ℕ) (at : ℕ) (e : Entry) → length e.clock ≡ 8
    → sets (sets (set (set ws at e.plot) (at + 1) e.value) (at + 2) e.clock) (at + 10) e.deps ≡ sets ws at (entry_words e)
entry_run ws at e h =
    let l : at + 10 ≡ at + 2 + length e.clock = omega arith in
    let one : at + 1 ≡ suc at = add-one at in
    let two : at + 2 ≡ suc (suc at) = omega arith in
    ap (λ (i : ℕ). sets (sets (set (set ws at e.plot) (at + 1) e.value) (at + 2) e.clock) i e.deps) l
    ∙ sym (sets_append (set (set ws at e.plot) (at + 1) e.value) (at + 2) e.clock e.deps)
    ∙ rw (one, two)

pub entry_eighteen : (e : Entry) → length e.clock ≡ 8 → length e.deps ≡ 8 → length (entry_words e) ≡ 18
entry_eighteen e c d = omega (arith, length-append e.clock e.deps)
