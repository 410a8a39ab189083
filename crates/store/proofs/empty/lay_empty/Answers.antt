use Rattle.std.proofs.Common.{◌≡◌, ℕ, ◌≤◌, length, take, drop, replicate, set, refl, ap, ◌∙◌, arith, length-set, length-drop}
use Rattle.std.proofs.lemmas.List.{length-take}
use Rattle.causal.proofs.Copies.{stored}
use Rattle.store.specs.Slots.{empty_words}
use Rattle.store.proofs.empty.lay_empty.Goals as goal

pub returns : goal.returns
unfolding empty_words
returns c =
    let s = set (set (set c.args.store.now 0 c.args.offices) 1 c.args.own) 2 c.args.plots in
    let long : 19 ≤ length s = simp length-set c.requires in
    let zeros : length (take 16 (drop 3 s)) ≡ 16 = simp (length-take, length-drop) (omega arith) in
    let none : c.fill.new.self ≡ replicate 16 0 = c.fill.ensures.after (λ y h. h) ∙ ap (λ (n : ℕ). replicate n 0) zeros in
    rw none (stored s 3 16 (replicate 16 0) refl long)
