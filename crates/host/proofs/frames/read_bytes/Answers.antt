use borrow.Author.Tests.{not-true, not-false}
use Rattle.frame.specs.Refusals.{code_of, number_of}
use Rattle.host.proofs.Bytes.{bytes_1, bytes_odd, bytes_long, bytes_words}
use native.Mathlib.Omega.{arith}
use mathlib.Core.Path.{sym, ◌∙◌}
use Rattle.host.proofs.frames.read_bytes.Goals as goal

pub returns-then-not-ring_ok : goal.returns-then-not-ring_ok
unfolding code_of number_of
returns-then-not-ring_ok c = let z = c.args in
    bytes_1 z.offices z.plots z.bytes.now (sym c.ring_ok.ensures ∙ not-true _ c.if-not-ring_ok.true-raw)

pub returns-then-count-ne0 : goal.returns-then-count-ne0
unfolding code_of number_of
returns-then-count-ne0 c = let z = c.args in
    bytes_odd z.offices z.plots z.bytes.now (sym c.ring_ok.ensures ∙ not-false _ c.if-not-ring_ok.false-raw) c.if-count-ne0.true

pub returns-then-count-gt-MOST : goal.returns-then-count-gt-MOST
unfolding code_of number_of
returns-then-count-gt-MOST c = let z = c.args in
    bytes_long z.offices z.plots z.bytes.now (sym c.ring_ok.ensures ∙ not-false _ c.if-not-ring_ok.false-raw) c.if-count-ne0.false c.if-count-gt-MOST.true

pub read_words-requires : goal.read_words-requires
read_words-requires c = (omega arith, omega arith)

pub returns : goal.returns
returns c = let z = c.args in
    bytes_words z.offices z.plots z.bytes.now (sym c.ring_ok.ensures ∙ not-false _ c.if-not-ring_ok.false-raw) c.if-count-ne0.false _ c.read_words.ensures
