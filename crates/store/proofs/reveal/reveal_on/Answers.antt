use Rattle.std.proofs.Common.{◌≡◌, ℕ, suc, ◌+◌, ◌-◌, ◌*◌, get_or, sym, refl, ap, ◌∙◌, arith}
use native.Mathlib.Nat.{sub-zero}
use Rattle.causal.specs.Lists.{part}
use Rattle.causal.specs.Sets.{lowest_of, minus, unite, inserted}
use Rattle.causal.proofs.Array.{id_set}
use Rattle.frame.specs.declared.entry.Entry.{Entry}
use Rattle.store.specs.Offices.{entry_at}
use Rattle.store.specs.Reveal.{revealed, steps as stepsFrom}
use Rattle.store.proofs.Rules.{rules_of}
use Rattle.store.proofs.Reached.{Ready, Step, start, step, step_at, step_end, picked}
use Rattle.store.proofs.Ready.{deps_in, ready, entry_held}
use Rattle.store.proofs.reveal.reveal_on.Goals as goal

pub set_at-visible-requires : goal.set_at-visible-requires
set_at-visible-requires c = let r = rules_of c.args.store.now c.requires.0 in
    omega (arith, r.laid.long)

pub loop-k-init : goal.loop-k-init
unfolding revealed
loop-k-init c =
    let start_ready : Ready (deps_in c.args.store.now) (part c.args.store.now 3 8) (part c.args.store.now 11 8) (get_or c.args.store.now 0 0) c.args.seeds = ready c.args.store.now (λ i. (c.type_inv.store i).fits) c.requires.0 c.args.seeds (id_set c.args.seeds c.well_formed.1.0) c.requires.1 in
    rw (c.set_at-visible.ensures, sub-zero) (start (deps_in c.args.store.now) (part c.args.store.now 3 8) (part c.args.store.now 11 8) (get_or c.args.store.now 0 0) c.args.seeds (start_ready) (id_set c.args.seeds c.well_formed.1.0), refl)

pub returns-in_default : goal.returns-in_default
returns-in_default c =
    let asked : c.lowest_of-next.result ≡ lowest_of (minus c.loop-k.pending c.loop-k.visible) = c.lowest_of-next.ensures ∙ ap lowest_of c.without-left.ensures in
    sym (c.loop-k.invariant.1 ∙ step_end _ _ _ _ _ (sym (asked) ∙ c.in_default.is))

pub deps_at-deps-requires : goal.deps_at-deps-requires
deps_at-deps-requires c =
    let start_ready : Ready (deps_in c.args.store.now) (part c.args.store.now 3 8) (part c.args.store.now 11 8) (get_or c.args.store.now 0 0) c.args.seeds = ready c.args.store.now (λ i. (c.type_inv.store i).fits) c.requires.0 c.args.seeds (id_set c.args.seeds c.well_formed.1.0) c.requires.1 in
    let asked : c.lowest_of-next.result ≡ lowest_of (minus c.loop-k.pending c.loop-k.visible) = c.lowest_of-next.ensures ∙ ap lowest_of c.without-left.ensures in
    let found : Step (deps_in c.args.store.now) (part c.args.store.now 3 8) (part c.args.store.now 11 8) (get_or c.args.store.now 0 0) c.args.seeds c.loop-k.pending c.loop-k.visible c.loop-k.steps c.in-Some.k = step (deps_in c.args.store.now) (part c.args.store.now 3 8) (part c.args.store.now 11 8) (get_or c.args.store.now 0 0) c.args.seeds (start_ready) c.loop-k.pending c.loop-k.visible c.loop-k.steps c.in-Some.k c.loop-k.invariant.0
    (sym (asked) ∙ c.in-Some.is) in
    let r = rules_of c.args.store.now c.requires.0 in
    omega (arith, (found).id, r.laid.long)

pub overflow_add-steps : goal.overflow_add-steps
overflow_add-steps c =
    let start_ready : Ready (deps_in c.args.store.now) (part c.args.store.now 3 8) (part c.args.store.now 11 8) (get_or c.args.store.now 0 0) c.args.seeds = ready c.args.store.now (λ i. (c.type_inv.store i).fits) c.requires.0 c.args.seeds (id_set c.args.seeds c.well_formed.1.0) c.requires.1 in
    let asked : c.lowest_of-next.result ≡ lowest_of (minus c.loop-k.pending c.loop-k.visible) = c.lowest_of-next.ensures ∙ ap lowest_of c.without-left.ensures in
    let found : Step (deps_in c.args.store.now) (part c.args.store.now 3 8) (part c.args.store.now 11 8) (get_or c.args.store.now 0 0) c.args.seeds c.loop-k.pending c.loop-k.visible c.loop-k.steps c.in-Some.k = step (deps_in c.args.store.now) (part c.args.store.now 3 8) (part c.args.store.now 11 8) (get_or c.args.store.now 0 0) c.args.seeds (start_ready) c.loop-k.pending c.loop-k.visible c.loop-k.steps c.in-Some.k c.loop-k.invariant.0
    (sym (asked) ∙ c.in-Some.is) in
    let r = rules_of c.args.store.now c.requires.0 in
    omega (arith, (found).fresh, r.laid.few)

pub loop-k-smaller : goal.loop-k-smaller
loop-k-smaller c =
    let start_ready : Ready (deps_in c.args.store.now) (part c.args.store.now 3 8) (part c.args.store.now 11 8) (get_or c.args.store.now 0 0) c.args.seeds = ready c.args.store.now (λ i. (c.type_inv.store i).fits) c.requires.0 c.args.seeds (id_set c.args.seeds c.well_formed.1.0) c.requires.1 in
    let asked : c.lowest_of-next.result ≡ lowest_of (minus c.loop-k.pending c.loop-k.visible) = c.lowest_of-next.ensures ∙ ap lowest_of c.without-left.ensures in
    let found : Step (deps_in c.args.store.now) (part c.args.store.now 3 8) (part c.args.store.now 11 8) (get_or c.args.store.now 0 0) c.args.seeds c.loop-k.pending c.loop-k.visible c.loop-k.steps c.in-Some.k = step (deps_in c.args.store.now) (part c.args.store.now 3 8) (part c.args.store.now 11 8) (get_or c.args.store.now 0 0) c.args.seeds (start_ready) c.loop-k.pending c.loop-k.visible c.loop-k.steps c.in-Some.k c.loop-k.invariant.0
    (sym (asked) ∙ c.in-Some.is) in
    omega (arith, (found).fresh)

pub loop-k-preserved : goal.loop-k-preserved
loop-k-preserved c =
    let asked : c.lowest_of-next.result ≡ lowest_of (minus c.loop-k.pending c.loop-k.visible) = c.lowest_of-next.ensures ∙ ap lowest_of c.without-left.ensures in
    let of_slot : deps_in c.args.store.now c.in-Some.k ≡ (entry_at c.args.store.now c.in-Some.k).deps = let i = c.loop-k.invariant.0 in
    let q = picked c.loop-k.pending c.loop-k.visible c.in-Some.k i.wp i.wv (sym (asked) ∙ c.in-Some.is) in
    ap (λ (e : Entry). e.deps) (entry_held c.args.store.now c.in-Some.k (i.held c.in-Some.k q.pending)) in
    let start_ready : Ready (deps_in c.args.store.now) (part c.args.store.now 3 8) (part c.args.store.now 11 8) (get_or c.args.store.now 0 0) c.args.seeds = ready c.args.store.now (λ i. (c.type_inv.store i).fits) c.requires.0 c.args.seeds (id_set c.args.seeds c.well_formed.1.0) c.requires.1 in
    let found : Step (deps_in c.args.store.now) (part c.args.store.now 3 8) (part c.args.store.now 11 8) (get_or c.args.store.now 0 0) c.args.seeds c.loop-k.pending c.loop-k.visible c.loop-k.steps c.in-Some.k = step (deps_in c.args.store.now) (part c.args.store.now 3 8) (part c.args.store.now 11 8) (get_or c.args.store.now 0 0) c.args.seeds (start_ready) c.loop-k.pending c.loop-k.visible c.loop-k.steps c.in-Some.k c.loop-k.invariant.0
    (sym (asked) ∙ c.in-Some.is) in
    let st = c.args.store.now in
    let n = get_or st 0 0 in
    let k = c.in-Some.k in
    let p = c.loop-k.pending in
    let v = c.loop-k.visible in
    let s = c.loop-k.steps in
    let ev : c.insert-more.result ≡ inserted v k = c.insert-more.ensures in
    let ep : c.union-all.result ≡ unite p (deps_in st k) = c.union-all.ensures ∙ ap (unite p) (c.deps_at-deps.ensures ∙ sym (of_slot)) in
    let fuel : 32 * n - s ≡ suc (32 * n - (s + 1)) = omega (arith, (found).fresh) in
    rw (ep, ev) (
      (found).next,
      c.loop-k.invariant.1 ∙ ap (λ (f : ℕ). stepsFrom f (deps_in st) p v s) fuel
          ∙ step_at (32 * n - (s + 1)) (deps_in st) p v s k (sym (asked) ∙ c.in-Some.is),
    )
