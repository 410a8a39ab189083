-- What the reader of a frame checks, word by word. `checks_accept` of proofs/Frames.antt: these checks accept a row just where it is the
-- writing of what a frame may say (`accepts`). Assumes nothing.
use Rattle.std.specs.Prelude.{ℕ, ◌+◌, ◌-◌, ◌/◌, ◌%◌, ◌^◌, Bool, true, List, [], ◌∷◌, length, take, ◌==◌, bit_or, nat_le, nat_lt, slice_index}
use Rattle.causal.specs.Tests.{both, all_below}
use Rattle.causal.specs.Lists.{part}
use Rattle.frame.specs.declared.entry.Frame.{Frame}
use Rattle.frame.specs.Entries.{entry_ok}
use Rattle.frame.specs.Words.{payload, pay_at, kind_is, clock_from, total}
use Rattle.frame.specs.Frames.{offices_in, count_in, frame_of}

-- the head is one, for n offices, and "The length is exact"
unfoldable pub shape_ok : ℕ → List ℕ → Bool
shape_ok n ws =
    both (nat_lt 0 (length ws))
    (both (kind_is 1 (slice_index ws 0)) (both (offices_in ws == n) (length ws == n + count_in ws + 4)))

-- n clock words from i on
unfoldable pub clock_kinds : List ℕ → ℕ → ℕ → Bool
clock_kinds ws i n = all_below n (λ j. kind_is 5 (slice_index ws (i + j)))

-- the same, and their numbers are up to 32
unfoldable pub clocks_in : List ℕ → ℕ → ℕ → Bool
clocks_in ws i n = all_below n (λ j. both (kind_is 5 (slice_index ws (i + j))) (nat_le (pay_at ws (i + j)) 32))

-- a word of kind 6 that names an office below n and a serial of 1 to 32, above the payload before it
unfoldable pub id_ok : ℕ → ℕ → ℕ → Bool
id_ok n last w =
    both (kind_is 6 w)
    (both (nat_lt last (payload w))
    (both (nat_lt (payload w / 256) n) (both (nat_le 1 (payload w % 256)) (nat_le (payload w % 256) 32))))

-- "strictly ascending"
unfoldable pub ascends : ℕ → ℕ → List ℕ → Bool
ascends n last [] = true
ascends n last (w ∷ ws) = both (id_ok n last w) (ascends n (payload w) ws)

-- w may stand right behind a word of an id: it is above it, and its serial is one of 1 to 32. How a reader asks `ascends`
unfoldable pub next_ok : ℕ → ℕ → Bool
next_ok before w = both (nat_lt before w) ((w - 1) / 32 % 8 == 0)

-- a word of a set with the eight bits from b on
unfoldable pub eight_bits : ℕ → ℕ → ℕ
eight_bits w b =
    bit_or
    (bit_or (bit_or (bit_or (bit_or (bit_or (bit_or (bit_or w (2 ^ b)) (2 ^ (b + 1))) (2 ^ (b + 2))) (2 ^ (b + 3))) (2 ^ (b + 4))) (2 ^ (b + 5))) (2 ^ (b + 6)))
    (2 ^ (b + 7))

-- the bit of an id in the word of its office
abbrev pub bit_in : ℕ → ℕ
bit_in w = 2 ^ ((w - 1) % 32)

-- a word of a set with the four ids of a row from i on
unfoldable pub four_bits : ℕ → List ℕ → ℕ → ℕ
four_bits w ws i =
    bit_or (bit_or (bit_or (bit_or w (bit_in (slice_index ws i))) (bit_in (slice_index ws (i + 1)))) (bit_in (slice_index ws (i + 2)))) (bit_in (slice_index ws (i + 3)))

-- the last word is of kind 15 and has the sum
unfoldable pub sum_ok : List ℕ → Bool
sum_ok ws =
    both (kind_is 15 (slice_index ws (length ws - 1))) (pay_at ws (length ws - 1) == total (take (length ws - 1) ws) % 268435456)

-- plot, value and clock words have their kinds
unfoldable pub kinds_ok : ℕ → List ℕ → Bool
kinds_ok n ws = both (kind_is 3 (slice_index ws 1)) (both (kind_is 4 (slice_index ws 2)) (clock_kinds ws 3 n))

unfoldable pub checked : ℕ → ℕ → List ℕ → Bool
checked n p ws =
    both (shape_ok n ws)
    (both (kinds_ok n ws)
    (both (ascends n 0 (part ws (3 + n) (count_in ws)))
    (both (nat_le (frame_of ws).hops (n - 2)) (both (entry_ok n p (frame_of ws).entry) (sum_ok ws)))))

-- the fields of a row for n offices, with the dependencies that were read
unfoldable pub frame_at : ℕ → List ℕ → List ℕ → Frame
frame_at n ws deps =
    record {
      offices = n;
      hops = pay_at ws 0 / 4096 % 16;
      entry =
          record {
            office = pay_at ws 0 / 16777216;
            serial = pay_at ws 0 / 65536 % 256;
            plot = pay_at ws 1;
            value = pay_at ws 2;
            clock = clock_from ws 3 n;
            deps = deps;
          };
    }
