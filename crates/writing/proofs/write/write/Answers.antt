use Rattle.writing.proofs.Writes.{wrote_few, wrote_more, wrote_not}
use Rattle.writing.specs.Answers.{session_by, wrote_by}
use Rattle.writing.proofs.write.write.Goals as goal

pub returns-in_err-words : goal.returns-in_err-words
returns-in_err-words c = let z = c.args in
    wrote_not z.store.now z.s z.plot z.value z.out.now c.from_residual.result _ _ _ c.from_residual.ensures.1 c.in_err-words.ensures

pub extend-requires : goal.extend-requires
extend-requires c = let z = c.args in
    wrote_few z.store.now z.s z.plot z.value z.out.now c.in_ok-words.field-0 _ _ c.in_ok-words.ensures

pub returns : goal.returns
unfolding session_by wrote_by
returns c = let z = c.args in
    wrote_more z.store.now z.s z.plot z.value z.out.now c.in_ok-words.field-0 _ _ _ c.extend.ensures c.in_ok-words.ensures
