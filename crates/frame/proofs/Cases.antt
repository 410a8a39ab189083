-- The paper's own frames, A and B, by computing. Assumes nothing.
use Rattle.std.proofs.Common.{◌≡◌, ℕ, true, false, List, [], ◌∷◌, refl}
use Rattle.causal.specs.Lists.{eq_words, part, tab, zeros}
use Rattle.causal.specs.Sets.{bit, has, inserted, is_in}
use Rattle.causal.specs.Tests.{all_below, both, either}
use Rattle.frame.specs.Entries.{bounds_ok, clock_ok, clock_place_ok, entry_ok, ids_ok, ids_place_ok}
use Rattle.frame.specs.Frames.{accepts, body_words, frame_of, frame_ok, frame_words, framed}
use Rattle.frame.specs.Words.{clock_from, clock_words, id_word_if, id_words, id_words_to, ids_from, summed, total}
use Rattle.frame.specs.declared.entry.Entry.{Entry}

abbrev pub entry_a : Entry
entry_a = record { office = 0; serial = 1; plot = 5; value = 709; clock = 1 ∷ 0 ∷ 0 ∷ 0 ∷ 0 ∷ 0 ∷ 0 ∷ 0 ∷ []; deps = zeros }

abbrev pub entry_b : Entry
entry_b =
    record { office = 1; serial = 1; plot = 6; value = 1; clock = 1 ∷ 1 ∷ 0 ∷ 0 ∷ 0 ∷ 0 ∷ 0 ∷ 0 ∷ []; deps = 1 ∷ 0 ∷ 0 ∷ 0 ∷ 0 ∷ 0 ∷ 0 ∷ 0 ∷ [] }

abbrev pub row_a : List ℕ
row_a = 0x10011300 ∷ 0x30000005 ∷ 0x400002C5 ∷ 0x50000001 ∷ 0x50000000 ∷ 0x50000000 ∷ 0xF00115CB ∷ []

abbrev pub row_b : List ℕ
row_b = 0x11011301 ∷ 0x30000006 ∷ 0x40000001 ∷ 0x50000001 ∷ 0x50000001 ∷ 0x50000000 ∷ 0x60000001 ∷ 0xF101130B ∷ []

pub record Cases : Type 0 where
  pub case_A : frame_words (framed 3 1 entry_a) ≡ row_a
  pub case_B : frame_words (framed 3 1 entry_b) ≡ row_b
  pub read_A : frame_of row_a ≡ framed 3 1 entry_a
  pub read_B : frame_of row_b ≡ framed 3 1 entry_b
  pub accepts_A : accepts 3 64 row_a ≡ true
  pub accepts_B : accepts 3 64 row_b ≡ true
  -- the last words are in the check
  pub sum_short : accepts 3 64 (0x10011300 ∷ 0x30000005 ∷ 0x400002C5 ∷ 0x50000001 ∷ 0x50000000 ∷ 0x50000000 ∷ 0xF00115CA ∷ []) ≡ false

pub cases : Cases
unfolding both either all_below eq_words part tab bit has is_in inserted clock_words clock_from id_word_if id_words_to id_words ids_from total summed clock_place_ok clock_ok ids_place_ok ids_ok bounds_ok entry_ok body_words frame_words frame_ok frame_of accepts
cases =
    record {
      case_A = refl;
      case_B = refl;
      read_A = refl;
      read_B = refl;
      accepts_A = refl;
      accepts_B = refl;
      sum_short = refl;
    }
