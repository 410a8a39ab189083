use native.Mathlib.Omega.{arith}
use Prim.Native.Nat.{ℕ, ◌+◌, ◌-◌, ◌%◌, ◌<◌, ◌≤◌}
use mathlib.Core.Path.{ap, ◌∙◌}
use mathlib.Core.List.{List}
use lib.ListN.{length, get_or, set, length-set}
use Rattle.hearing.proofs.Forwards.{long, head_large, check_large, onward_laid}
use borrow.Author.Rules.{rules}
use Rattle.hearing.proofs.forward.put_onward.Goals as goal

pub overflow_sub-end : goal.overflow_sub-end
overflow_sub-end c = let fr = c.args.frame.now in
    let h : 1 ≤ length fr = omega (arith, long fr c.requires.0) in h

pub bounds-frame-0 : goal.bounds-frame-0
bounds-frame-0 c = let fr = c.args.frame.now in
    let h : 0 < length fr = omega (arith, long fr c.requires.0) in h

pub overflow_sub-out : goal.overflow_sub-out
overflow_sub-out c = let fr = c.args.frame.now in
    let h : 4096 ≤ get_or fr 0 0 = head_large fr c.requires.0 in search rules

pub bounds-out-0 : goal.bounds-out-0
bounds-out-0 c = let fr = c.args.frame.now in
    let l = long fr c.requires.0 in
    search rules

pub bounds-frame-end : goal.bounds-frame-end
bounds-frame-end c = let fr = c.args.frame.now in
    let h : length fr - 1 < length fr = omega (arith, long fr c.requires.0) in h

pub overflow_sub-out-2 : goal.overflow_sub-out-2
overflow_sub-out-2 c = let fr = c.args.frame.now in
    let h : 4096 ≤ get_or fr (length fr - 1) 0 = check_large fr c.requires.0 in search rules

pub bounds-out-end : goal.bounds-out-end
bounds-out-end c = let fr = c.args.frame.now in
    let l = long fr c.requires.0 in
    simp length-set (omega (arith, l, c.requires.2, c.copy_words.auto.to))

pub returns : goal.returns
returns c = let fr = c.args.frame.now in
    let out = c.args.out.now in
    ap (λ (l : List ℕ). set (set l 0 (get_or fr 0 0 - 4096)) (length fr - 1) (4026531840 + (get_or fr (length fr - 1) 0 - 4096) % 268435456)) c.copy_words.ensures
    ∙ onward_laid fr out c.requires.0 c.requires.1 c.requires.2
