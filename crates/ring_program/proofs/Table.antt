-- THE TABLE of paper 01: "A, B, the eleven script replies and the three-clock example stand as a table with a common theorem". Assumes nothing.
use Rattle.std.proofs.Common.{Some}
use Prim.Native.Nat.{ℕ}
use mathlib.Core.Bool.{true}
use mathlib.Core.List.{List, [], ◌++◌, ◌∷◌, map}
use mathlib.Core.Path.{◌∙◌, ◌≡◌, ap, refl}
use lib.ListN.{drop, take}
use Rattle.causal.specs.Lists.{eq_words}
use Rattle.causal.specs.Tests.{both}
use Rattle.frame.specs.Entries.{entry_ok}
use Rattle.frame.specs.Frames.{accepts, frame_of, frame_words, framed}
use Rattle.frame.proofs.Cases.{cases, entry_a, entry_b, row_a, row_b}
use Rattle.store.specs.Offices.{current}
use Rattle.office.proofs.Three.{clock_0_3, clock_2_0, clock_2_1, codes_of, hearer, hears, three_clocks}
use Rattle.script.specs.Fields.{all_digits, fields, in_front, is_below, is_digit, proper, value_of}
use Rattle.script.specs.Lines.{line_in, line_of}
use Rattle.script.specs.Replies.{decimal, digits_in, name_bytes, numbered, reply_bytes}
use Rattle.script.specs.declared.line.Line.{Line}
use Rattle.script.proofs.Cases.{table_input, table_lines, table_output, table_replies}
use Rattle.player.specs.Play.{Scene, opening, play_all}
use Rattle.player.proofs.Table.{table_plays, zero_rows}
use Rattle.ring_program.specs.Fed.{fed, lines_in, lines_of, rowed, text_of, whole_fed}
use Rattle.ring_program.proofs.Whole.{fed_plays, whole_plays}

-- rows of bytes one behind the other
unfoldable pub joined : List (List ℕ) → List ℕ
joined [] = []
joined (l ∷ ls) = l ++ joined ls

-- lines of the table's input, each ended by a newline
abbrev pub ended : List (List ℕ) → List ℕ
ended ls = joined (map (λ (l : List ℕ). l ++ (10 ∷ [])) ls)

abbrev pub script : List ℕ
script = ended table_input

-- the same without the last newline: "a line ends at a newline or the input's end"
abbrev pub unended : List ℕ
unended = ended (take 10 table_input) ++ joined (drop 10 table_input)

abbrev pub printed : List ℕ
printed = joined table_output

-- what the program's stores are opened over
abbrev pub start : Scene
start = opening zero_rows

pub record Table : Type 0 where
  -- "The first line's frame (case A)"; B: written, accepted and read back
  pub write_A : frame_words (framed 3 1 entry_a) ≡ row_a
  pub write_B : frame_words (framed 3 1 entry_b) ≡ row_b
  pub accepts_A : accepts 3 64 row_a ≡ true
  pub accepts_B : accepts 3 64 row_b ≡ true
  pub read_A : frame_of row_a ≡ framed 3 1 entry_a
  pub read_B : frame_of row_b ≡ framed 3 1 entry_b
  -- what waits after the first line; "The third line sends A again, then B"
  pub first_sends : (fed start [] (ended (take 1 table_input))).scene.ring.lines 1 ≡ row_a ∷ []
  pub third_sends : (fed start [] (ended (take 3 table_input))).scene.ring.lines 2 ≡ row_a ∷ row_b ∷ []
  -- the eleven replies, from the bytes of the script to the bytes printed; the last line with a newline, and without
  pub replies : (fed start [] script).text ≡ printed
  pub replies_unended : (whole_fed start [] unended).text ≡ printed
  -- "With [2,0], [0,3], [2,1] met in that order .., while [2,0], [2,1], [0,3] .. Here one entry is kept whole": entries 0.2, 1.3 and 1.1 on plot 7
  pub entry_2_0 : entry_ok 3 64 clock_2_0 ≡ true
  pub entry_0_3 : entry_ok 3 64 clock_0_3 ≡ true
  pub entry_2_1 : entry_ok 3 64 clock_2_1 ≡ true
  pub one_heard : codes_of clock_2_0 clock_0_3 clock_2_1 ≡ 0 ∷ 0 ∷ 0 ∷ []
  pub other_heard : codes_of clock_2_0 clock_2_1 clock_0_3 ≡ 0 ∷ 0 ∷ 0 ∷ []
  pub one_order : current (hears (hears (hears hearer clock_2_0) clock_0_3) clock_2_1) 7 ≡ Some clock_2_1
  pub other_order : current (hears (hears (hears hearer clock_2_0) clock_2_1) clock_0_3) 7 ≡ Some clock_2_1

-- ---- the lines of the bytes, and the bytes of the replies

record Bytes : Type 0 where
  whole : lines_in [] script ≡ table_lines
  whole_unended : lines_of [] unended ≡ table_lines
  first : lines_in [] (ended (take 1 table_input)) ≡ take 1 table_lines
  three : lines_in [] (ended (take 3 table_input)) ≡ take 3 table_lines
  text : text_of table_replies ≡ printed

bytes : Bytes
unfolding joined lines_in lines_of line_of line_in fields in_front is_digit all_digits proper value_of is_below both eq_words text_of reply_bytes name_bytes numbered decimal digits_in
bytes = record { whole = refl; whole_unended = refl; first = refl; three = refl; text = refl }

sent : (bs : List ℕ) (ls : List Line) (o : ℕ) → lines_in [] bs ≡ ls
    → (fed start [] bs).scene.ring.lines o ≡ (play_all start (rowed ls)).0.ring.lines o
sent bs ls o e =
    ap (λ (g : Scene). g.ring.lines o) (fed_plays start [] bs).scene ∙ ap (λ (x : List Line). (play_all start (rowed x)).0.ring.lines o) e

pub table : Table
table =
    record {
      write_A = cases.case_A;
      write_B = cases.case_B;
      accepts_A = cases.accepts_A;
      accepts_B = cases.accepts_B;
      read_A = cases.read_A;
      read_B = cases.read_B;
      first_sends = sent (ended (take 1 table_input)) (take 1 table_lines) 1 bytes.first ∙ table_plays.first_sends;
      third_sends = sent (ended (take 3 table_input)) (take 3 table_lines) 2 bytes.three ∙ table_plays.third_sends;
      replies =
          (fed_plays start [] script).text
          ∙ ap (λ (ls : List Line). text_of (play_all start (rowed ls)).1) bytes.whole
          ∙ ap text_of table_plays.replies
          ∙ bytes.text;
      replies_unended =
          (whole_plays start [] unended).text
          ∙ ap (λ (ls : List Line). text_of (play_all start (rowed ls)).1) bytes.whole_unended ∙ ap text_of table_plays.replies ∙ bytes.text;
      entry_2_0 = three_clocks.keeps_2_0;
      entry_0_3 = three_clocks.keeps_0_3;
      entry_2_1 = three_clocks.keeps_2_1;
      one_heard = three_clocks.one_heard;
      other_heard = three_clocks.other_heard;
      one_order = three_clocks.kept_one;
      other_order = three_clocks.kept_other;
    }
