-- Frames as rows of words: the writing, what content a frame has, the fields of a row, and which rows are accepted.
-- Paper 01, "Frames and slips, in words". Assumes nothing.
use Rattle.std.specs.Prelude.{ℕ, ◌+◌, ◌-◌, ◌*◌, ◌/◌, ◌%◌, Bool, List, ◌∷◌, ◌++◌, length, ◌==◌, nat_le}
use Rattle.causal.specs.Tests.{both}
use Rattle.causal.specs.Lists.{part, eq_words}
use Rattle.frame.specs.declared.entry.Entry.{Entry}
use Rattle.frame.specs.declared.entry.Frame.{Frame}
use Rattle.frame.specs.Entries.{entry_ok, blank_entry}
use Rattle.frame.specs.Words.{pay_at, clock_words, clock_from, id_words, ids_from, summed}

-- the settings of a ring: 2 to 8 offices, 1 to 64 plots
unfoldable pub ring_ok : ℕ → ℕ → Bool
ring_ok n p = both (nat_le 2 n) (both (nat_le n 8) (both (nat_le 1 p) (nat_le p 64)))

-- an entry on its way in a ring of n offices, with t still to hear
abbrev pub framed : ℕ → ℕ → Entry → Frame
framed n t e = record { offices = n; hops = t; entry = e }

-- ---- the writing

-- "kind 1 head (bits 27–24 office, 23–16 serial, 15–12 offices still to hear after the receiver, 11–8 offices in the ring, 7–0 dependency
-- count)"
abbrev pub head_word : ℕ → ℕ → ℕ → ℕ → ℕ → ℕ
head_word office serial hops offices count =
    268435456 + (office * 16777216 + (serial * 65536 + (hops * 4096 + (offices * 256 + count))))

-- all words but the check: head, "kind 3 plot; kind 4 value; one kind 5 word per office, its clock; kind 6 words, one per dependency"
unfoldable pub body_words : Frame → List ℕ
body_words f =
    head_word f.entry.office f.entry.serial f.hops f.offices (length (id_words f.entry.deps))
    ∷ (805306368 + f.entry.plot)
    ∷ (1073741824 + f.entry.value)
    ∷ (clock_words f.offices f.entry.clock ++ id_words f.entry.deps)

unfoldable pub frame_words : Frame → List ℕ
frame_words f = summed (body_words f)

-- ---- content

-- what a frame of a ring of n offices with p plots may say: "The "still to hear" count is at most offices − 2", and the entry rules
unfoldable pub frame_ok : ℕ → ℕ → Frame → Bool
frame_ok n p f =
    both (f.offices == n) (both (nat_le 2 n) (both (nat_le n 8) (both (nat_le f.hops (n - 2)) (entry_ok n p f.entry))))

-- ---- the reading

-- the offices of the ring, and how many dependencies, by the head of a row
abbrev pub offices_in : List ℕ → ℕ
offices_in ws = pay_at ws 0 / 256 % 16

abbrev pub count_in : List ℕ → ℕ
count_in ws = pay_at ws 0 % 256

-- the fields of a row; whether it is a frame is said by `accepts`
unfoldable pub frame_of : List ℕ → Frame
frame_of ws =
    record {
      offices = offices_in ws;
      hops = pay_at ws 0 / 4096 % 16;
      entry =
          record {
            office = pay_at ws 0 / 16777216;
            serial = pay_at ws 0 / 65536 % 256;
            plot = pay_at ws 1;
            value = pay_at ws 2;
            clock = clock_from ws 3 (offices_in ws);
            deps = ids_from (part ws (3 + offices_in ws) (count_in ws));
          };
    }

-- a row is accepted where it is the writing of what a frame may say: so its length is exact, its words have their kinds, its dependencies
-- ascend and its check is right
unfoldable pub accepts : ℕ → ℕ → List ℕ → Bool
accepts n p ws = both (frame_ok n p (frame_of ws)) (eq_words ws (frame_words (frame_of ws)))

-- what stands where there is no frame
abbrev pub blank_frame : Frame
blank_frame = record { offices = 0; hops = 0; entry = blank_entry }
