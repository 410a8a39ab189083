use mathlib.Core.List.{List}
use native.Mathlib.Nat.{zero-add}
use lib.ListN.{set, replicate, length-set}
use lib.Seq.{sets, length-take-le}
use Rattle.causal.proofs.Lists.{sets_tab}
use Rattle.frame.specs.Calls.{read_frame_code}
use Rattle.host.proofs.Bytes.{filled}
use native.Mathlib.Omega.{arith}
use Prim.Native.Nat.{ℕ}
use mathlib.Core.Path.{◌≡◌, refl, sym, ap, ◌∙◌}
use Rattle.causal.specs.Lists.{tab}
use Rattle.host.specs.Bytes.{word_at}
use Rattle.host.proofs.frames.read_words.Goals as goal

pub loop-i-init : goal.loop-i-init
unfolding tab
loop-i-init c = (omega arith, refl, refl)

pub loop-i-preserved : goal.loop-i-preserved
loop-i-preserved c = let l = c.loop-i in
    let bs = c.args.bytes.now in (
      omega arith,
      simp length-set l.invariant.1,
      ap (λ (r : List ℕ). set r l.i c.word_at.result) l.invariant.2
          ∙ ap (set (sets (replicate {A = ℕ} 267 0) 0 (tab l.i (word_at bs))) l.i) c.word_at.ensures
          ∙ ap (λ (k : ℕ). set (sets (replicate {A = ℕ} 267 0) 0 (tab l.i (word_at bs))) k (word_at bs l.i)) (sym (zero-add l.i))
          ∙ sets_tab (replicate {A = ℕ} 267 0) 0 (word_at bs) l.i,
    )

pub slice_bounds-row-end : goal.slice_bounds-row-end
slice_bounds-row-end c = omega (arith, c.loop-i.invariant.1)

pub slice_bounds-read_frame-end : goal.slice_bounds-read_frame-end
slice_bounds-read_frame-end c = sym (length-take-le c.args.n c.loop-i.row (omega (arith, c.loop-i.invariant.1, c.requires.0)))

pub returns : goal.returns
returns c = let l = c.loop-i in
    let e : l.i ≡ c.args.n = omega arith in
    let f : l.row ≡ sets (replicate 267 0) 0 (tab c.args.n (word_at c.args.bytes.now)) = rw e at l.invariant.2 in
    c.read_frame.ensures.0 ∙ ap (read_frame_code c.args.offices c.args.plots) (filled c.args.bytes.now l.row c.args.n c.requires.0 f)
