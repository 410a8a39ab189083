use Rattle.std.proofs.Common.{◌≡◌, ◌-◌, length, set, ap, ◌∙◌, arith, length-set}
use Rattle.frame.specs.Words.{id_words}
use Rattle.frame.specs.Frames.{head_word}
use Rattle.frame.proofs.Entries.{FrameFacts, frame_facts, EntryFacts, entry_facts, clock_facts}
use Rattle.frame.proofs.Frames.{HeadFits, head_fits, length_frame}
use Rattle.frame.proofs.Turns.{head_last, body_sum, frame_most}
use Rattle.frame.proofs.writer.put.Goals as goal

pub put_clock-clocks-requires : goal.put_clock-clocks-requires
put_clock-clocks-requires c =
    let facts : FrameFacts c.args.f.now.offices 64 c.args.f.now = frame_facts c.args.f.now.offices 64 c.args.f.now c.requires.0 in
    let rules : EntryFacts c.args.f.now.offices 64 c.args.f.now.entry = entry_facts c.args.f.now.offices 64 c.args.f.now.entry (facts).entry in
    let f = c.args.f.now in ((facts).high, omega (arith, c.requires.1, length_frame f), λ j k. (clock_facts f.offices f.entry.clock (rules).clock j k).small)

pub put_ids-put-requires : goal.put_ids-put-requires
put_ids-put-requires c = let f = c.args.f.now in omega (arith, c.requires.1, length_frame f, c.put_clock-clocks.auto.out)

pub overflow_sub-count : goal.overflow_sub-count
overflow_sub-count c = omega (arith, c.put_ids-put.ensures.0)

pub overflow_sub-count-2 : goal.overflow_sub-count-2
overflow_sub-count-2 c = omega (arith, c.put_ids-put.ensures.0)

pub overflow_cast-count-2 : goal.overflow_cast-count-2
overflow_cast-count-2 c =
    let fits : HeadFits c.args.f.now.entry.office c.args.f.now.entry.serial c.args.f.now.hops c.args.f.now.offices (length (id_words c.args.f.now.entry.deps)) = head_fits c.args.f.now.offices 64 c.args.f.now c.requires.0 in
    let f = c.args.f.now in omega (arith, c.put_ids-put.ensures.0, (fits).count)

pub head_word-head-requires : goal.head_word-head-requires
head_word-head-requires c =
    let fits : HeadFits c.args.f.now.entry.office c.args.f.now.entry.serial c.args.f.now.hops c.args.f.now.offices (length (id_words c.args.f.now.entry.deps)) = head_fits c.args.f.now.offices 64 c.args.f.now c.requires.0 in
    let f = c.args.f.now in let h = fits in (h.office, h.serial, h.hops, h.offices, omega (arith, c.put_ids-put.ensures.0, h.count))

pub put_head-requires : goal.put_head-requires
put_head-requires c =
    let facts : FrameFacts c.args.f.now.offices 64 c.args.f.now = frame_facts c.args.f.now.offices 64 c.args.f.now c.requires.0 in
    let rules : EntryFacts c.args.f.now.offices 64 c.args.f.now.entry = entry_facts c.args.f.now.offices 64 c.args.f.now.entry (facts).entry in
    let f = c.args.f.now in (omega (arith, c.requires.1, length_frame f, c.put_ids-put.auto.out, c.put_clock-clocks.auto.out), omega (arith, (rules).bounds), (rules).bounds.value_ok)

pub overflow_add-e : goal.overflow_add-e
overflow_add-e c =
    let facts : FrameFacts c.args.f.now.offices 64 c.args.f.now = frame_facts c.args.f.now.offices 64 c.args.f.now c.requires.0 in
    let rules : EntryFacts c.args.f.now.offices 64 c.args.f.now.entry = entry_facts c.args.f.now.offices 64 c.args.f.now.entry (facts).entry in
    let f = c.args.f.now in omega (arith, (rules).bounds)

pub bounds-out-end : goal.bounds-out-end
bounds-out-end c = let f = c.args.f.now in omega (arith, c.requires.1, length_frame f, c.put_ids-put.ensures.0, c.put_head.auto.out, c.put_ids-put.auto.out, c.put_clock-clocks.auto.out)

pub overflow_add-result : goal.overflow_add-result
overflow_add-result c =
    let facts : FrameFacts c.args.f.now.offices 64 c.args.f.now = frame_facts c.args.f.now.offices 64 c.args.f.now c.requires.0 in
    let f = c.args.f.now in omega (arith, c.put_ids-put.ensures.0, length_frame f, frame_most f (facts).high)

pub shape_of-out : goal.shape_of-out
shape_of-out c = length-set c.put_head.new.out c.put_ids-put.result.to c.check_word.result ∙ c.put_head.auto.out ∙ c.put_ids-put.auto.out ∙ c.put_clock-clocks.auto.out

pub returns : goal.returns
returns c = let f = c.args.f.now in
    let i = c.put_ids-put.ensures in
    let k = c.put_clock-clocks.ensures in
    let e : c.put_ids-put.result.to - 3 - f.offices ≡ length (id_words f.entry.deps) = omega (arith, i.0) in
    let h = c.head_word-head.ensures ∙ ap (head_word f.entry.office f.entry.serial f.hops f.offices) e in
    let s = c.check_word.ensures ∙ body_sum f c.head_word-head.result c.put_clock-clocks.result c.put_ids-put.result.sum h k.0 i.1 in (
      omega (arith, i.0, length_frame f),
      head_last f c.args.out.now _ _ _ _ _ _ h k.1 i.2 c.put_head.ensures i.0 (ap (set c.put_head.new.out c.put_ids-put.result.to) s) c.requires.1,
    )
