-- Ids in range, by members; what an entry's id says; the join of clocks in range. Assumes nothing.
use Rattle.std.proofs.Common.{◌≡◌, ℕ, ◌+◌, ◌*◌, ◌/◌, ◌%◌, ◌<◌, ◌≤◌, true, not, List, length, get_or, sym, refl, ap, ◌∙◌, ⊎_elim, arith}
use borrow.Author.Tests.{not-true}
use Rattle.causal.specs.Clocks.{join}
use Rattle.causal.specs.Sets.{IdSet, bit, has, inserted, is_in}
use Rattle.causal.proofs.Bits.{bit_zero_word, bits_ext, same_eq}
use Rattle.causal.proofs.Clocks.{join_at}
use Rattle.causal.proofs.Sets.{has_in, has_inserted, has_lt, in_or_out, inserted_past, out_is}
use Rattle.causal.proofs.Tests.{lt_or_le}
use Rattle.causal.proofs.Walk.{has_word}
use Rattle.frame.specs.Entries.{clock_ok, id_of, ids_ok}
use Rattle.frame.specs.declared.entry.Entry.{Entry}
use Rattle.frame.proofs.Entries.{EntryFacts, clock_facts, facts_clock, facts_ids, ids_facts}

pub not_in : (s : List ℕ) (k : ℕ) → not (is_in s k) ≡ true → has s k ≡ 0
not_in s k h = out_is s k (not-true (is_in s k) h)

pub inserted_new : (s : List ℕ) (k : ℕ) → k < 256 → IdSet s → has (inserted s k) k ≡ 1
inserted_new s k l w = omega (arith, has_inserted s k k (omega (arith, w.eight)), same_eq k k refl, has_lt s k)

-- nothing is lost, whatever is inserted
pub inserted_keeps : (s : List ℕ) (k j : ℕ) → has s j ≡ 1 → has (inserted s k) j ≡ 1
inserted_keeps s k j h =
    ⊎_elim (λ (l : k < 32 * length s). omega (arith, has_inserted s k j l, has_lt (inserted s k) j))
    (λ (l : 32 * length s ≤ k). ap (λ (t : List ℕ). has t j) (inserted_past s k l) ∙ h) (lt_or_le k (32 * length s))

-- ---- ids in range

-- a set whose members are below 32 * n has no bit in the words from n on
word_none : (s : List ℕ) (n j : ℕ) → IdSet s → ((d : ℕ) → has s d ≡ 1 → d < 32 * n) → n ≤ j → get_or s j 0 ≡ 0
word_none s n j w b l = bits_ext 32 (get_or s j 0) 0 (w.fits j) (omega (arith, w.fits j)) clear
  where
    clear : (i : ℕ) → i < 32 → bit (get_or s j 0) i ≡ bit 0 i
    clear i li =
        ⊎_elim (λ (h : has s (32 * j + i) ≡ 1). absurd (omega (arith, b (32 * j + i) h)))
        (λ (h : has s (32 * j + i) ≡ 0). sym (has_word s j i li) ∙ h ∙ sym (bit_zero_word i)) (in_or_out s (32 * j + i))

pub ids_of_lem : (n : ℕ) (s : List ℕ) → IdSet s → ((d : ℕ) → has s d ≡ 1 → d < 32 * n) → ids_ok n s ≡ true
ids_of_lem n s w h = facts_ids n s (λ j l g. word_none s n j w h g)

pub ids_range : (n : ℕ) (s : List ℕ) → IdSet s → ids_ok n s ≡ true → (d : ℕ) → has s d ≡ 1 → d < 32 * n
unfolding has
ids_range n s w ok d h = ⊎_elim (λ l. l) (λ g. absurd (none g)) (lt_or_le d (32 * n))
  where
    small : d < 256
    small = has_in s d (omega (arith, w.eight)) h

    none : 32 * n ≤ d → ⊥
    none g =
        let b : bit 0 (d % 32) ≡ 1 = rw (ids_facts n s ok (d / 32) (omega (arith, small)) (omega arith)) at h in
        omega (arith, bit_zero_word (d % 32))

-- ---- an entry's id says its office and its serial

module _ (n p : ℕ) (e : Entry) (F : EntryFacts n p e) where
  pub id_office : id_of e / 32 ≡ e.office
  id_office = let B = F.bounds in omega arith

  pub id_serial : id_of e % 32 + 1 ≡ e.serial
  id_serial = let B = F.bounds in omega arith

  pub id_range : id_of e < 32 * n
  id_range = let B = F.bounds in omega arith

-- ---- clocks

pub join_ok : (n : ℕ) (a b : List ℕ) → clock_ok n a ≡ true → clock_ok n b ≡ true → clock_ok n (join a b) ≡ true
join_ok n a b p q =
    facts_clock n (join a b)
    (λ j l.
    let A = clock_facts n a p j l in
    let B = clock_facts n b q j l in
    record { small = omega (arith, join_at a b j l, A.small, B.small); none = λ g. omega (arith, join_at a b j l, A.none g, B.none g) })
