-- "What was written reads back": the frame that was written to a row. Assumes nothing.
use Rattle.std.proofs.Common.{◌≡◌, ℕ, ◌+◌, ◌*◌, ◌/◌, ◌%◌, ◌<◌, ◌≤◌, true, List, length, get_or, sym, ap, ◌∙◌, ⊎_elim, arith, ext_get_or, le-ltb, lt-ltb}
use Rattle.causal.specs.Lists.{eq_words, part}
use Rattle.causal.specs.Sets.{IdSet}
use Rattle.causal.specs.Tests.{both}
use Rattle.causal.proofs.Lists.{eq_words_eq, eq_words_refl}
use Rattle.causal.proofs.Tests.{both_true, lt_or_le, both_one}
use Rattle.frame.specs.Entries.{clock_ok}
use Rattle.frame.specs.Frames.{accepts, body_words, count_in, frame_of, frame_ok, frame_words, offices_in}
use Rattle.frame.specs.Sessions.{SaneEntry}
use Rattle.frame.specs.Words.{clock_from, clock_place, clock_word, id_words, ids_from, pay_at, payload, summed}
use Rattle.frame.specs.declared.entry.Frame.{Frame}
use Rattle.frame.proofs.Entries.{BoundsFacts, FrameFacts, clock_facts, entry_facts, frame_facts}
use Rattle.frame.proofs.Frames.{HeadFits, clock_word_lem, deps_part, head_count, head_fits, head_hops, head_office, head_offices, head_pay, head_serial}
use Rattle.frame.proofs.Words.{clock_from_at, clock_from_eight, ids_back}

-- clock words from i on give the clock
pub clock_back : (ws : List ℕ) (i n : ℕ) (c : List ℕ) → n ≤ 8 → clock_ok n c ≡ true → length c ≡ 8
    → ((j : ℕ) → j < n → get_or ws (i + j) 0 ≡ clock_word c j) → clock_from ws i n ≡ c
clock_back ws i n c high ok eight is =
    ext_get_or 0 (clock_from ws i n) c (clock_from_eight ws i n ∙ sym eight)
    (λ j l.
    let j8 : j < 8 = omega (arith, clock_from_eight ws i n) in
    let F = clock_facts n c ok j j8 in
    clock_from_at ws i n j j8 ∙ ⊎_elim (λ (h : j < n). within j h F.small) (λ (h : n ≤ j). rw (le-ltb j n h) (sym (F.none h))) (lt_or_le j n))
  where
    within : (j : ℕ) → j < n → get_or c j 0 ≤ 32 → clock_place ws i n j ≡ get_or c j 0
    within j h s = rw (lt-ltb j n h) (ap payload (is j h) ∙ omega arith)

module _ (n p : ℕ) (f : Frame) (most : p ≤ 64) (ok : frame_ok n p f ≡ true) where
  fits : HeadFits f.entry.office f.entry.serial f.hops f.offices (length (id_words f.entry.deps))
  fits = head_fits n p f ok

  facts : FrameFacts n p f
  facts = frame_facts n p f ok

  head : pay_at (frame_words f) 0 ≡ f.entry.office * 16777216 + (f.entry.serial * 65536 + (f.hops * 4096 + (f.offices * 256 + length (id_words f.entry.deps))))
  unfolding frame_words summed body_words
  head = head_pay f.entry.office f.entry.serial f.hops f.offices (length (id_words f.entry.deps)) fits

  pub offices_back : offices_in (frame_words f) ≡ f.offices
  offices_back =
      ap (λ (x : ℕ). x / 256 % 16) head
      ∙ head_offices f.entry.office f.entry.serial f.hops f.offices (length (id_words f.entry.deps)) fits

  pub count_back : count_in (frame_words f) ≡ length (id_words f.entry.deps)
  count_back =
      ap (λ (x : ℕ). x % 256) head
      ∙ head_count f.entry.office f.entry.serial f.hops f.offices (length (id_words f.entry.deps)) fits

  bounds : BoundsFacts n p f.entry.office f.entry.serial f.entry.plot f.entry.value
  bounds = (entry_facts n p f.entry facts.entry).bounds

  plot_back : pay_at (frame_words f) 1 ≡ f.entry.plot
  unfolding frame_words summed body_words
  plot_back = let l = bounds.plot_ok in omega arith

  value_back : pay_at (frame_words f) 2 ≡ f.entry.value
  unfolding frame_words summed body_words
  value_back = let l = bounds.value_ok in omega arith

  deps_back : IdSet f.entry.deps → ids_from (part (frame_words f) (3 + offices_in (frame_words f)) (count_in (frame_words f))) ≡ f.entry.deps
  deps_back w =
      ap (λ (x : ℕ). ids_from (part (frame_words f) (3 + x) (count_in (frame_words f)))) offices_back
      ∙ ap (λ (x : ℕ). ids_from (part (frame_words f) (3 + f.offices) x)) count_back
      ∙ ap ids_from (deps_part f)
      ∙ ids_back f.entry.deps w

  pub frame_back : SaneEntry f.entry → frame_of (frame_words f) ≡ f
  unfolding frame_of
  frame_back s =
      let H = head in
      let clock_ok_lem : clock_ok f.offices f.entry.clock ≡ true =
      ap (λ (x : ℕ). clock_ok x f.entry.clock) facts.ring ∙ (entry_facts n p f.entry facts.entry).clock
      in
      let eight : f.offices ≤ 8 = omega (arith, facts.ring, facts.high) in
      let clock : clock_from (frame_words f) 3 (offices_in (frame_words f)) ≡ f.entry.clock =
      ap (clock_from (frame_words f) 3) offices_back
      ∙ clock_back (frame_words f) 3 f.offices f.entry.clock eight clock_ok_lem s.clock8 (clock_word_lem f)
      in
      let office =
      ap (λ (x : ℕ). x / 16777216) head
      ∙ head_office f.entry.office f.entry.serial f.hops f.offices (length (id_words f.entry.deps)) fits
      in
      let serial =
      ap (λ (x : ℕ). x / 65536 % 256) head
      ∙ head_serial f.entry.office f.entry.serial f.hops f.offices (length (id_words f.entry.deps)) fits
      in
      let hops =
      ap (λ (x : ℕ). x / 4096 % 16) head
      ∙ head_hops f.entry.office f.entry.serial f.hops f.offices (length (id_words f.entry.deps)) fits
      in
      λ i.
      record {
        offices = offices_back i;
        hops = hops i;
        entry =
            record {
              office = office i;
              serial = serial i;
              plot = plot_back i;
              value = value_back i;
              clock = clock i;
              deps = deps_back s.deps_set i;
            };
      }

-- a row that is the writing of a frame is accepted just where the frame is one for the ring and the plots
pub frame_accepted : (n p q m : ℕ) (f : Frame) → q ≤ 64 → frame_ok m q f ≡ true → SaneEntry f.entry
    → accepts n p (frame_words f) ≡ frame_ok n p f
unfolding accepts both
frame_accepted n p q m f l ok s =
    ap (λ (x : Frame). both (frame_ok n p x) (eq_words (frame_words f) (frame_words x))) (frame_back m q f l ok s)
    ∙ ap (both (frame_ok n p f)) (eq_words_refl (frame_words f)) ∙ both_one (frame_ok n p f)

-- an accepted row is the writing of what is read
pub accepted_ok : (n p : ℕ) (ws : List ℕ) → accepts n p ws ≡ true → frame_ok n p (frame_of ws) ≡ true
unfolding accepts
accepted_ok n p ws h = (both_true (frame_ok n p (frame_of ws)) _ h).0

pub accepted_written : (n p : ℕ) (ws : List ℕ) → accepts n p ws ≡ true → ws ≡ frame_words (frame_of ws)
unfolding accepts
accepted_written n p ws h = eq_words_eq ws (frame_words (frame_of ws)) (both_true (frame_ok n p (frame_of ws)) _ h).1
