use Rattle.std.proofs.Common.{◌≡◌, ℕ, ◌+◌, ◌*◌, ◌%◌, List, [], ◌∷◌, length, set, sym, refl, ap, ◌∙◌, add-zero, arith, length-append, length-set}
use lib.Seq.{sets}
use lib.Count.{count_trailing_zeros}
use Rattle.causal.proofs.Lists.{sets_append}
use Rattle.frame.proofs.Turns.{ids_step, ids_room, ids_end}
use Rattle.causal.proofs.Walk.{next, passed_none}
use Rattle.frame.specs.Words.{id_words_in, total}
use Rattle.frame.proofs.Words.{sum_more}
use Rattle.frame.proofs.word.put_each.Goals as goal

pub loop-rest-init : goal.loop-rest-init
unfolding id_words_in total
loop-rest-init c = (refl, refl, (0, passed_none c.args.w (omega arith), sym (add-zero c.args.at), refl, refl))

pub overflow_add-word : goal.overflow_add-word
overflow_add-word c = let z = c.args in
    let i = c.loop-rest.invariant.2 in
    let rest = c.loop-rest.rest in
    let x = next z.w i.0 rest i.1 c.loop-rest-test.true in
    let y = ids_step z.j z.w i.0 rest i.1 c.loop-rest-test.true in
    let r = ids_room z.j z.w (count_trailing_zeros 32 rest + 1) (omega (arith, x.below)) in
    let l : length (id_words_in z.j z.w (count_trailing_zeros 32 rest + 1)) ≡ length (id_words_in z.j z.w i.0) + 1 = ap length y ∙ length-append (id_words_in z.j z.w i.0) _ in
    omega (arith, x.below, c.requires.0)

pub offset_bounds-out-to : goal.offset_bounds-out-to
offset_bounds-out-to c = let z = c.args in
    let i = c.loop-rest.invariant.2 in
    let rest = c.loop-rest.rest in
    let x = next z.w i.0 rest i.1 c.loop-rest-test.true in
    let y = ids_step z.j z.w i.0 rest i.1 c.loop-rest-test.true in
    let r = ids_room z.j z.w (count_trailing_zeros 32 rest + 1) (omega (arith, x.below)) in
    let l : length (id_words_in z.j z.w (count_trailing_zeros 32 rest + 1)) ≡ length (id_words_in z.j z.w i.0) + 1 = ap length y ∙ length-append (id_words_in z.j z.w i.0) _ in
    omega (arith, r, l, i.2, c.requires.1, c.loop-rest.invariant.1)

pub bounds-out-to : goal.bounds-out-to
bounds-out-to c = let z = c.args in
    let i = c.loop-rest.invariant.2 in
    let rest = c.loop-rest.rest in
    let x = next z.w i.0 rest i.1 c.loop-rest-test.true in
    let y = ids_step z.j z.w i.0 rest i.1 c.loop-rest-test.true in
    let r = ids_room z.j z.w (count_trailing_zeros 32 rest + 1) (omega (arith, x.below)) in
    let l : length (id_words_in z.j z.w (count_trailing_zeros 32 rest + 1)) ≡ length (id_words_in z.j z.w i.0) + 1 = ap length y ∙ length-append (id_words_in z.j z.w i.0) _ in
    omega (arith, r, l, i.2, c.requires.1, c.loop-rest.invariant.1)

pub overflow_add-to : goal.overflow_add-to
overflow_add-to c = let z = c.args in
    let i = c.loop-rest.invariant.2 in
    let rest = c.loop-rest.rest in
    let x = next z.w i.0 rest i.1 c.loop-rest-test.true in
    let y = ids_step z.j z.w i.0 rest i.1 c.loop-rest-test.true in
    let r = ids_room z.j z.w (count_trailing_zeros 32 rest + 1) (omega (arith, x.below)) in
    let l : length (id_words_in z.j z.w (count_trailing_zeros 32 rest + 1)) ≡ length (id_words_in z.j z.w i.0) + 1 = ap length y ∙ length-append (id_words_in z.j z.w i.0) _ in
    omega (arith, r, l, i.2, c.requires.1, c.loop-rest.invariant.1)

pub loop-rest-smaller : goal.loop-rest-smaller
loop-rest-smaller c = let z = c.args in
    let i = c.loop-rest.invariant.2 in
    let rest = c.loop-rest.rest in
    let x = next z.w i.0 rest i.1 c.loop-rest-test.true in
    let y = ids_step z.j z.w i.0 rest i.1 c.loop-rest-test.true in
    let r = ids_room z.j z.w (count_trailing_zeros 32 rest + 1) (omega (arith, x.below)) in
    let l : length (id_words_in z.j z.w (count_trailing_zeros 32 rest + 1)) ≡ length (id_words_in z.j z.w i.0) + 1 = ap length y ∙ length-append (id_words_in z.j z.w i.0) _ in
    x.falls

pub loop-rest-preserved : goal.loop-rest-preserved
loop-rest-preserved c = let z = c.args in
    let i = c.loop-rest.invariant.2 in
    let rest = c.loop-rest.rest in
    let x = next z.w i.0 rest i.1 c.loop-rest-test.true in
    let y = ids_step z.j z.w i.0 rest i.1 c.loop-rest-test.true in
    let r = ids_room z.j z.w (count_trailing_zeros 32 rest + 1) (omega (arith, x.below)) in
    let l : length (id_words_in z.j z.w (count_trailing_zeros 32 rest + 1)) ≡ length (id_words_in z.j z.w i.0) + 1 = ap length y ∙ length-append (id_words_in z.j z.w i.0) _ in
    let v : ℕ = 1610612737 + 256 * z.j + count_trailing_zeros 32 rest in (
      c.loop-rest.invariant.0,
      simp length-set c.loop-rest.invariant.1,
      (
        count_trailing_zeros 32 rest + 1,
        x.then,
        omega (arith, l, i.2),
        ap (λ (o : List ℕ). set o c.loop-rest.to v) i.3
            ∙ ap (λ (k : ℕ). set (sets z.out.now z.at (id_words_in z.j z.w i.0)) k v) i.2
            ∙ sym (sets_append z.out.now z.at (id_words_in z.j z.w i.0) (v ∷ []))
            ∙ ap (sets z.out.now z.at) (sym y),
        sum_more c.loop-rest.sum v (id_words_in z.j z.w i.0) i.4 ∙ ap (λ (o : List ℕ). total o % 268435456) (sym y),
      ),
    )

pub shape_of-out : goal.shape_of-out
shape_of-out c = c.loop-rest.invariant.1

pub returns : goal.returns
returns c = let z = c.args in
    let i = c.loop-rest.invariant.2 in
    let e = ids_end z.j z.w i.0 c.loop-rest.rest i.1 c.loop-rest-test.false in
    (i.2 ∙ ap (λ (l : List ℕ). z.at + length l) (sym e), i.4 ∙ ap (λ (l : List ℕ). total l % 268435456) (sym e), i.3 ∙ ap (sets z.out.now z.at) (sym e))
