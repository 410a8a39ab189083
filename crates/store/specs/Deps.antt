-- Held slots as code asks them: the rules that the words of a slot say by themselves, and the deps of a set of ids, gathered. Assumes nothing.
use Rattle.std.specs.Prelude.{◌≡◌, ℕ, zero, suc, ◌+◌, ◌*◌, Bool, true, false, cond, List, Option, MatchOption, ◌==◌, nat_lt, slice_index}
use Rattle.causal.specs.Tests.{both, implies, all_below}
use Rattle.causal.specs.Lists.{zeros}
use Rattle.causal.specs.Sets.{bit, is_empty, is_in, subset_of, unite}
use Rattle.frame.specs.Entries.{clock_ok}
use Rattle.store.specs.Offices.{slot_at, entry_at}
use Rattle.store.specs.declared.sound.Looked.{Looked}

-- the slot of serial b + 1 of office i: plot, value, the clock's own place, not itself among its deps
unfoldable pub lone_ok : List ℕ → ℕ → ℕ → ℕ → Bool
lone_ok ws p i b =
    both (nat_lt (slice_index ws (slot_at (32 * i + b))) p)
    (both (nat_lt (slice_index ws (slot_at (32 * i + b) + 1)) 268435456)
    (both (slice_index ws (slot_at (32 * i + b) + 2 + i) == b + 1) (bit (slice_index ws (slot_at (32 * i + b) + 10 + i)) b == 0)))

-- a test of its clock
abbrev pub clock_at : List ℕ → (List ℕ → Bool) → ℕ → ℕ → Bool
clock_at ws may i b = may (entry_at ws (32 * i + b)).clock

-- a test of each bit that a word has, and of each id that the first n words of a set have
unfoldable pub of_word : ℕ → (ℕ → Bool) → Bool
of_word w f = all_below 32 (λ b. implies (bit w b == 1) (f b))

unfoldable pub of_words : ℕ → List ℕ → (ℕ → ℕ → Bool) → Bool
of_words n ids f = all_below n (λ i. of_word (slice_index ids i) (f i))

-- the deps of the ids below k of a set
unfoldable pub gathered_to : List ℕ → List ℕ → ℕ → List ℕ
gathered_to ws ids zero = zeros
gathered_to ws ids (suc k) = cond (is_in ids k) (unite (gathered_to ws ids k) (entry_at ws k).deps) (gathered_to ws ids k)

-- of those that word i of a set has below bit b, w, and the deps before
unfoldable pub gathered_in : List ℕ → ℕ → ℕ → ℕ → List ℕ → List ℕ
gathered_in ws i w zero before = before
gathered_in ws i w (suc b) before = cond (bit w b == 1) (unite (gathered_in ws i w b before) (entry_at ws (32 * i + b)).deps) (gathered_in ws i w b before)

-- what the slots of word i of a set say, and those before: each keeps the rules of single words; no bit of `bad` is set where all clocks
-- may be so (`may`); `deps` has the deps of all. None where a slot breaks those rules
pub record Look (ws : List ℕ) (may : List ℕ → Bool) (p i w : ℕ) (bad deps : List ℕ) (x : Looked) : Type 0 where
  pub lone : of_word w (lone_ok ws p i) ≡ true
  pub clocks : is_empty x.bad ≡ both (is_empty bad) (of_word w (clock_at ws may i))
  pub gathered : x.deps ≡ gathered_in ws i w 32 deps

abbrev pub Looks : List ℕ → (List ℕ → Bool) → ℕ → ℕ → ℕ → List ℕ → List ℕ → Option Looked → Type 0
Looks ws may p i w bad deps r = MatchOption r (of_word w (lone_ok ws p i) ≡ false) (Look ws may p i w bad deps)

-- the same of all words of a set that are of the ring
pub record LookAll (ws : List ℕ) (may : List ℕ → Bool) (n p : ℕ) (ids : List ℕ) (x : Looked) : Type 0 where
  pub lone : of_words n ids (lone_ok ws p) ≡ true
  pub clocks : is_empty x.bad ≡ of_words n ids (clock_at ws may)
  pub gathered : x.deps ≡ gathered_to ws ids (32 * n)

abbrev pub LooksAll : List ℕ → (List ℕ → Bool) → ℕ → ℕ → List ℕ → Option Looked → Type 0
LooksAll ws may n p ids r = MatchOption r (of_words n ids (lone_ok ws p) ≡ false) (LookAll ws may n p ids)

-- the slots of a set of ids keep the rules, and their deps are in another set
unfoldable pub ids_fine : List ℕ → ℕ → ℕ → List ℕ → List ℕ → Bool
ids_fine ws n p ids all = both (of_words n ids (lone_ok ws p)) (both (of_words n ids (clock_at ws (clock_ok n))) (subset_of (gathered_to ws ids (32 * n)) all))
