use Rattle.std.proofs.Common.{None}
use Prim.Native.Nat.{ℕ, ◌+◌, ◌*◌}
use mathlib.Core.List.{[], ◌++◌, ◌∷◌}
use mathlib.Core.Path.{◌≡◌, refl, ap, ap₂, sym, subst, ◌∙◌}
use lib.ListN.{length, length-append}
use lib.Seq.{sets, length-sets}
use native.Mathlib.Omega.{arith}
use Rattle.std.proofs.lemmas.Slice.Zip.{zip_turn}
use Rattle.office.specs.Calls.{three_words}
use Rattle.store.specs.Offices.{best_own, Found}
use Rattle.store.specs.Current.{InSlots, found_at}
use Rattle.reading.specs.Readings.{found_among, handed_among, words_to}
use Rattle.reading.proofs.JointReads.{words_more}
use Rattle.reading.proofs.answer.put_answers.Goals as goal

pub loop-plot-init : goal.loop-plot-init
unfolding words_to
loop-plot-init c = (refl, refl, refl)

pub handed_words-three-requires : goal.handed_words-three-requires
handed_words-three-requires c = let ws = c.args.store.now in
    let i = length c.loop-plot.yielded in
    let z =
    zip_turn c.args.plots.now c.args.places.now c.loop-plot.yielded c.into_iter-plot-iterator.result c.loop-plot.plot-iterator c.next.new.self c.next.result (cc) (cc) c.loop-plot.yielded_by
    (c.in-Some.plot, c.in-Some.place) c.in-Some.is c.next.ensures.steps
    in
    (subst (InSlots (length ws)) (sym (z.3 None)) (c.requires.4 i z.1), c.requires.0)

pub put_three-requires : goal.put_three-requires
put_three-requires c = let z =
    zip_turn c.args.plots.now c.args.places.now c.loop-plot.yielded c.into_iter-plot-iterator.result c.loop-plot.plot-iterator c.next.new.self c.next.result (cc) (cc) c.loop-plot.yielded_by
    (c.in-Some.plot, c.in-Some.place) c.in-Some.is c.next.ensures.steps
    in
    omega (arith, c.loop-plot.invariant.0, c.loop-plot.invariant.1, c.requires.3, z.0)

pub loop-plot-preserved : goal.loop-plot-preserved
unfolding handed_among found_among
loop-plot-preserved c = let ws = c.args.store.now in
    let own = c.args.own.now in
    let plots = c.args.plots.now in
    let places = c.args.places.now in
    let i = length c.loop-plot.yielded in
    let l = c.loop-plot.answer in
    let at = c.loop-plot.at in
    let z =
    zip_turn plots places c.loop-plot.yielded c.into_iter-plot-iterator.result c.loop-plot.plot-iterator c.next.new.self c.next.result (cc) (cc) c.loop-plot.yielded_by
    (c.in-Some.plot, c.in-Some.place) c.in-Some.is c.next.ensures.steps
    in
    let g = handed_among ws own plots places in
    let n : length (c.loop-plot.yielded ++ ((c.in-Some.plot, c.in-Some.place) ∷ [])) ≡ i + 1 = length-append c.loop-plot.yielded ((c.in-Some.plot, c.in-Some.place) ∷ []) in
    let words : c.handed_words-three.result ≡ three_words (g i) =
    c.handed_words-three.ensures ∙ ap₂ (λ (p : ℕ) (f : Found). three_words (best_own p f own)) (z.2 0) (ap (found_at ws) (z.3 None))
    in
    let put : c.put_three.new.answer ≡ sets l at (three_words (g i)) = c.put_three.ensures ∙ ap (sets l at) words in
    let turn = words_more g c.args.answer.now l (sets l (3 * i) (three_words (g i))) i c.loop-plot.invariant.2 refl in (
      ap length put ∙ length-sets l at (three_words (g i)) ∙ c.loop-plot.invariant.0,
      omega (arith, n, c.loop-plot.invariant.1),
      put ∙ ap (λ (j : ℕ). sets l j (three_words (g i))) c.loop-plot.invariant.1 ∙ turn ∙ ap (λ (j : ℕ). sets c.args.answer.now 0 (words_to g j)) (sym n),
    )
