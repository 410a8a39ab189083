use Rattle.std.proofs.Common.{ℕ, ltb, [], ◌∷◌, drop, length, refl, sym, ap, ap₂, ◌∙◌, arith, length-append}
use Rattle.std.proofs.lemmas.Slice.Zip.{zip_turn, zip_end}
use Rattle.causal.specs.Rank.{higher, rank_of, ranks_above}
use Rattle.causal.proofs.Array.{id_set}
use Rattle.causal.proofs.Ranks.{rank_same, rank_differs, rank_end}
use Rattle.causal.proofs.rank.outranks.Goals as goal

pub loop-x-init : goal.loop-x-init
unfolding ranks_above
loop-x-init x = refl

pub returns-then-x-y : goal.returns-then-x-y
returns-then-x-y x =
    let z = x.args in
    let t =
    zip_turn z.c z.d x.loop-x.yielded x.into_iter-x-iterator.result x.loop-x.x-iterator x.next.new.self x.next.result (cc) (cc) x.loop-x.yielded_by
    (x.in-Some.x, x.in-Some.y) x.in-Some.is x.next.ensures.steps
    in
    ap₂ ltb (t.3 0) (t.2 0)
    ∙ rank_differs z.c z.d z.o z.p (length x.loop-x.yielded) t.0 t.1 (λ e. x.if-x-y.true (t.2 0 ∙ e ∙ sym (t.3 0)))
    ∙ sym x.loop-x.invariant

pub loop-x-preserved : goal.loop-x-preserved
loop-x-preserved x =
    let z = x.args in
    let t =
    zip_turn z.c z.d x.loop-x.yielded x.into_iter-x-iterator.result x.loop-x.x-iterator x.next.new.self x.next.result (cc) (cc) x.loop-x.yielded_by
    (x.in-Some.x, x.in-Some.y) x.in-Some.is x.next.ensures.steps
    in
    x.loop-x.invariant
    ∙ rank_same z.c z.d z.o z.p (length x.loop-x.yielded) t.0 t.1 (sym (t.2 0) ∙ x.if-x-y.false ∙ t.3 0)
    ∙ ap (λ (n : ℕ). higher (rank_of (drop n z.c) z.o) (rank_of (drop n z.d) z.p)) (sym (length-append x.loop-x.yielded ((x.in-Some.x, x.in-Some.y) ∷ [])))

pub returns : goal.returns
returns x =
    let z = x.args in
    let l = (id_set z.c x.well_formed.0).eight in
    let m = (id_set z.d x.well_formed.1.1.0).eight in
    let n =
    zip_end z.c z.d x.loop-x.yielded x.into_iter-x-iterator.result x.loop-x.x-iterator x.next.new.self x.next.result (cc) (cc) x.loop-x.yielded_by
    x.in-None.is x.next.ensures.steps
    in
    rank_end z.c z.d z.o z.p (length x.loop-x.yielded) (omega arith) (omega arith) ∙ sym x.loop-x.invariant
