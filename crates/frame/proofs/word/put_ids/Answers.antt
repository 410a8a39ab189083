use Rattle.std.proofs.Common.{◌≡◌, ℕ, ◌*◌, ◌%◌, List, length, get_or, sym, refl, ap, ◌∙◌, add-zero, arith, length-append}
use Rattle.causal.proofs.Lists.{sets_append}
use Rattle.frame.proofs.Turns.{ids_word, words_room}
use lib.Seq.{sets}
use Rattle.frame.specs.Words.{id_words_to, id_words, id_words_in, total}
use Rattle.frame.proofs.Words.{sum_added}
use Rattle.frame.proofs.word.put_ids.Goals as goal

pub loop-j-init : goal.loop-j-init
unfolding id_words_to total
loop-j-init c = (sym (add-zero c.args.at), refl, refl)

pub put_ids_of-put-requires : goal.put_ids_of-put-requires
put_ids_of-put-requires c =
    let i = c.loop-j.invariant in
    (omega arith, omega (arith, i.0, words_room c.args.ids c.loop-j.j (omega arith), c.requires))

pub loop-j-preserved : goal.loop-j-preserved
loop-j-preserved c =
    let z = c.args in
    let l = c.loop-j in
    let i = l.invariant in
    let e = c.put_ids_of-put.ensures in
    let w = ids_word z.ids l.j in
    let I : List ℕ = id_words_in l.j (get_or z.ids l.j 0) 32 in
    let before : List ℕ = id_words_to z.ids (32 * l.j) in (
      e.0 ∙ omega (arith, i.0, ap length w, length-append before I),
      sum_added l.sum c.put_ids_of-put.result.sum before I i.1 e.1 ∙ ap (λ (o : List ℕ). total o % 268435456) (sym w),
      e.2 ∙ ap (λ (o : List ℕ). sets o l.to I) i.2
          ∙ ap (λ (k : ℕ). sets (sets z.out.now z.at before) k I) i.0
          ∙ sym (sets_append z.out.now z.at before I)
          ∙ ap (sets z.out.now z.at) (sym w),
    )

pub returns : goal.returns
unfolding id_words
returns c =
    let e : c.loop-j.j ≡ 8 = omega arith in
    let i = c.loop-j.invariant in
    (rw e at i.0, rw e at i.1, rw e at i.2)
