use Rattle.std.proofs.Common.{◌≡◌, ℕ, ◌+◌, ◌-◌, ◌%◌, List, ◌∷◌, ◌++◌, length, set, ap, ◌∙◌, arith}
use lib.Seq.{sets}
use Rattle.causal.proofs.Sets.{size_le}
use Rattle.frame.specs.Words.{clock_words, id_words, total}
use Rattle.frame.specs.Tokens.{token_head}
use Rattle.frame.proofs.Words.{ids_size, sum_added, sum_first}
use Rattle.frame.proofs.Turns.{set_sets}
use Rattle.frame.proofs.token.put_start.Goals as goal

pub put_clock-clocks-requires : goal.put_clock-clocks-requires
put_clock-clocks-requires c = (c.requires.0, omega (arith, c.requires.3), c.requires.2)

pub put_ids-put-requires : goal.put_ids-put-requires
put_ids-put-requires c = omega (arith, c.requires.3, c.put_clock-clocks.auto.out)

pub overflow_sub-reads : goal.overflow_sub-reads
overflow_sub-reads c = omega (arith, c.put_ids-put.ensures.0)

pub overflow_sub-reads-2 : goal.overflow_sub-reads-2
overflow_sub-reads-2 c = omega (arith, c.put_ids-put.ensures.0)

pub overflow_cast-reads-2 : goal.overflow_cast-reads-2
overflow_cast-reads-2 c = let r = c.args.s.now.read in omega (arith, c.put_ids-put.ensures.0, ids_size r, size_le r)

pub head_word-head-requires : goal.head_word-head-requires
head_word-head-requires c = let r = c.args.s.now.read in (c.requires.0, c.requires.1, omega (arith, c.put_ids-put.ensures.0, ids_size r, size_le r))

pub bounds-out-0 : goal.bounds-out-0
bounds-out-0 c = omega (arith, c.requires.3, c.put_ids-put.auto.out, c.put_clock-clocks.auto.out)

pub returns : goal.returns
returns c = let z = c.args.s.now in
    let i = c.put_ids-put.ensures in
    let k = c.put_clock-clocks.ensures in
    let w = c.head_word-head.result in
    let U : List ℕ = clock_words z.offices z.clock in
    let D : List ℕ = id_words z.read in
    let e : c.put_ids-put.result.to - 1 - z.offices ≡ length D = omega (arith, i.0) in
    let h = c.head_word-head.ensures ∙ ap (token_head z.offices z.count) e in
    let s = sum_added c.put_clock-clocks.result c.put_ids-put.result.sum U D k.0 i.1 in (
      i.0,
      sum_first _ w (U ++ D) s ∙ ap (λ (x : ℕ). total (x ∷ (U ++ D)) % 268435456) h,
      ap (λ (l : List ℕ). set l 0 w) (i.2 ∙ ap (λ (l : List ℕ). sets l (1 + z.offices) D) k.1) ∙ set_sets (sets c.args.out.now 1 U) (1 + z.offices) D 0 w (omega arith)
          ∙ ap (λ (l : List ℕ). sets l (1 + z.offices) D) (set_sets c.args.out.now 1 U 0 w (omega arith)) ∙ ap (λ (x : ℕ). sets (sets (set c.args.out.now 0 x) 1 U) (1 + z.offices) D) h,
    )
