use Rattle.std.proofs.Common.{ℕ, ◌/◌, ◌%◌, length, get_or, take, set, refl, ap, ◌∙◌, arith, take_all}
use lib.Bits.{bit_or}
use Rattle.frame.proofs.Words.{ids_from_set}
use Rattle.frame.proofs.Ascents.{ascends_at, eight_fit, ids_four, ids_next, ids_run}
use borrow.Author.Tests.{not-false}
use Rattle.frame.specs.Words.{ids_from}
use Rattle.frame.proofs.word.ids_from.Goals as goal

-- z: at the start; l: at the loop's head; f: it is known whether four of one office begin here, r: whether a run does

pub loop-i-init : goal.loop-i-init
unfolding ids_from
loop-i-init c = (omega arith, refl)

pub bit_of-requires : goal.bit_of-requires
bit_of-requires c = let f = (ascends_at 8 0 c.args.ws.now c.requires c.loop-i.i (omega arith)).2 in
    omega (arith, f.from)

pub loop-i-preserved-then-not-is_four : goal.loop-i-preserved-then-not-is_four
loop-i-preserved-then-not-is_four c = let ws = c.args.ws.now in
    let up = c.requires in
    let ids = c.loop-i.ids in
    let i = c.loop-i.i in
    let is = c.loop-i.invariant.1 in
    let eight = ap length is ∙ (ids_from_set (take i ws)).eight in
    let j = get_or ws i 0 / 256 % 8 in
    let put = ap (λ (x : ℕ). set ids j (bit_or (get_or ids j 0) x)) c.bit_of.ensures in
    (omega arith, put ∙ ids_next ws up ids eight i (omega arith) is)

pub is_run-requires : goal.is_run-requires
is_run-requires c = (omega arith, c.requires)

pub overflow_sub-w : goal.overflow_sub-w
overflow_sub-w c = let f = (ascends_at 8 0 c.args.ws.now c.requires c.loop-i.i (omega arith)).2 in
    omega (arith, f.from)

pub with_eight-requires : goal.with_eight-requires
with_eight-requires c = let ws = c.args.ws.now in
    let up = c.requires in
    let ids = c.loop-i.ids in
    let i = c.loop-i.i in
    let is = c.loop-i.invariant.1 in
    let eight = ap length is ∙ (ids_from_set (take i ws)).eight in
    let run = c.is_run.ensures c.if-is_run.true in
    eight_fit ws up ids eight i (omega arith) is run.0 run.1

pub loop-i-preserved-then-is_run : goal.loop-i-preserved-then-is_run
loop-i-preserved-then-is_run c = let ws = c.args.ws.now in
    let up = c.requires in
    let ids = c.loop-i.ids in
    let i = c.loop-i.i in
    let is = c.loop-i.invariant.1 in
    let eight = ap length is ∙ (ids_from_set (take i ws)).eight in
    let run = c.is_run.ensures c.if-is_run.true in
    let put = ap (λ (x : ℕ). set ids (get_or ws i 0 / 256 % 8) x) c.with_eight.ensures in
    (omega (arith, run.0), put ∙ ids_run ws up ids eight i (omega arith) is run.0 run.1)

pub with_four-requires : goal.with_four-requires
with_four-requires c = ((c.is_four.ensures (not-false _ c.if-not-is_four.false-raw)).0, c.requires)

pub loop-i-preserved : goal.loop-i-preserved
loop-i-preserved c = let ws = c.args.ws.now in
    let up = c.requires in
    let ids = c.loop-i.ids in
    let i = c.loop-i.i in
    let is = c.loop-i.invariant.1 in
    let eight = ap length is ∙ (ids_from_set (take i ws)).eight in
    let four = c.is_four.ensures (not-false _ c.if-not-is_four.false-raw) in
    let put = ap (λ (x : ℕ). set ids (get_or ws i 0 / 256 % 8) x) c.with_four.ensures in
    (omega (arith, four.0), put ∙ ids_four ws up ids eight i (omega arith) is four.0 four.1)

pub returns : goal.returns
returns c = c.loop-i.invariant.1 ∙ ap ids_from (take_all c.loop-i.i c.args.ws.now (omega arith))
