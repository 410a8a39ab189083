-- Entries: ids, content, the rules each entry keeps, rank. Paper 01, "Entries and rank". Assumes nothing.
use Rattle.std.specs.Prelude.{ℕ, ◌+◌, ◌-◌, ◌*◌, Bool, cond, not, leb, List, ◌==◌, nat_le, nat_lt, slice_index}
use Rattle.causal.specs.Tests.{both, either, all_below}
use Rattle.causal.specs.Lists.{zeros, eq_words}
use Rattle.causal.specs.Sets.{is_in}
use Rattle.causal.specs.Rank.{ranks_above}
use Rattle.frame.specs.declared.entry.Entry.{Entry}

-- "An entry has a name (office, serial)": its id, 32 to an office
abbrev pub id_of : Entry → ℕ
id_of e = 32 * e.office + (e.serial - 1)

-- its name as a payload, 256 × office + serial
abbrev pub name_of : Entry → ℕ
name_of e = 256 * e.office + e.serial

-- "a row of eight numbers, unused offices zero, each 0 to 32", in a ring of n offices
unfoldable pub clock_place_ok : ℕ → List ℕ → ℕ → Bool
clock_place_ok n c j = cond (nat_lt j n) (nat_le (slice_index c j) 32) (slice_index c j == 0)

unfoldable pub clock_ok : ℕ → List ℕ → Bool
clock_ok n c = all_below 8 (clock_place_ok n c)

-- no number of a clock is over its bound
unfoldable pub under_ok : List ℕ → List ℕ → Bool
under_ok most c = all_below 8 (λ j. leb (slice_index c j) (slice_index most j))

-- names in range: none of an office that the ring has not
unfoldable pub ids_place_ok : ℕ → List ℕ → ℕ → Bool
ids_place_ok n s j = either (nat_lt j n) (slice_index s j == 0)

unfoldable pub ids_ok : ℕ → List ℕ → Bool
ids_ok n s = all_below 8 (ids_place_ok n s)

-- the bounds of the table, in a ring of n offices with p plots: office, serial, plot, value
unfoldable pub bounds_ok : ℕ → ℕ → ℕ → ℕ → ℕ → ℕ → Bool
bounds_ok n p office serial plot value =
    both (nat_lt office n) (both (nat_le 1 serial) (both (nat_le serial 32) (both (nat_lt plot p) (nat_lt value 268435456))))

-- the entry rules: bounds, "its own office's number equals its serial", "No entry depends on itself", clock and dependencies in range
unfoldable pub entry_ok : ℕ → ℕ → Entry → Bool
entry_ok n p e =
    both (bounds_ok n p e.office e.serial e.plot e.value)
    (both (slice_index e.clock e.office == e.serial)
    (both (not (is_in e.deps (id_of e))) (both (clock_ok n e.clock) (ids_ok n e.deps))))

-- "An entry outranks another if its clock is greater at the first office where they differ. Equal clocks: the greater office outranks."
unfoldable pub outranks : Entry → Entry → Bool
outranks e f = ranks_above e.clock e.office f.clock f.office

-- the same content: "a plot, a value, a clock and a set of names it depends on"
unfoldable pub same_content : Entry → Entry → Bool
same_content e f =
    both (e.plot == f.plot)
    (both (e.value == f.value) (both (eq_words e.clock f.clock) (eq_words e.deps f.deps)))

-- what stands where there is no entry
abbrev pub blank_entry : Entry
blank_entry = record { office = 0; serial = 0; plot = 0; value = 0; clock = zeros; deps = zeros }
