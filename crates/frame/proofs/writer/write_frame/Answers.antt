use Rattle.std.proofs.Common.{◌≡◌, true, length, sym, ◌∙◌, leb-true}
use borrow.Author.Tests.{not-true, not-false}
use Rattle.frame.specs.Refusals.{number_of, reply_of}
use Rattle.frame.specs.Frames.{frame_ok, frame_words}
use Rattle.frame.proofs.Entries.{frame_facts}
use Rattle.frame.proofs.Turns.{write_refused, write_accepted, write_code_3, write_code_8, write_code_0}
use Rattle.frame.proofs.writer.write_frame.Goals as goal

pub returns-then-not-frame_ok : goal.returns-then-not-frame_ok
unfolding reply_of number_of
returns-then-not-frame_ok c = let z = c.args in let f = z.f in let o = z.out.now in write_refused f o 2 (write_code_3 f o (sym c.frame_ok.ensures ∙ not-true _ c.if-not-frame_ok.true-raw))

pub has_room-requires : goal.has_room-requires
has_room-requires c =
    let may : frame_ok c.args.f.offices 64 c.args.f ≡ true = sym c.frame_ok.ensures ∙ not-false _ c.if-not-frame_ok.false-raw in
    let z = c.args in let f = z.f in let o = z.out.now in (frame_facts f.offices 64 f (may)).high

pub returns-then-not-has_room : goal.returns-then-not-has_room
unfolding reply_of number_of
returns-then-not-has_room c =
    let may : frame_ok c.args.f.offices 64 c.args.f ≡ true = sym c.frame_ok.ensures ∙ not-false _ c.if-not-frame_ok.false-raw in
    let z = c.args in let f = z.f in let o = z.out.now in write_refused f o 7 (write_code_8 f o (may) (sym c.has_room.ensures ∙ not-true _ c.if-not-has_room.true-raw))

pub put-requires : goal.put-requires
put-requires c =
    let may : frame_ok c.args.f.offices 64 c.args.f ≡ true = sym c.frame_ok.ensures ∙ not-false _ c.if-not-frame_ok.false-raw in
    let z = c.args in let f = z.f in let o = z.out.now in (may, leb-true (length (frame_words f)) (length o) (sym c.has_room.ensures ∙ not-false _ c.if-not-has_room.false-raw))

pub returns : goal.returns
unfolding reply_of
returns c =
    let may : frame_ok c.args.f.offices 64 c.args.f ≡ true = sym c.frame_ok.ensures ∙ not-false _ c.if-not-frame_ok.false-raw in
    let z = c.args in let f = z.f in let o = z.out.now in
    let l = leb-true (length (frame_words f)) (length o) (sym c.has_room.ensures ∙ not-false _ c.if-not-has_room.false-raw) in
    write_accepted f o c.put.result c.put.new.out (write_code_0 f o (may) l) c.put.ensures.0 c.put.ensures.1
