use Rattle.std.proofs.Common.{ℕ, ◌+◌, ◌%◌, ◌<◌, List, length, set, sym, refl, ap, ◌∙◌, add-zero, arith}
use lib.Seq.{sets}
use Rattle.frame.specs.declared.entry.Entry.{Entry}
use Rattle.frame.specs.Words.{clock_words, id_words, total}
use Rattle.frame.specs.Sessions.{content_of}
use Rattle.frame.specs.Tokens.{own_rows, token_head}
use Rattle.frame.proofs.Words.{length_clock}
use Rattle.frame.proofs.TokenTurns as T
use Rattle.frame.proofs.token.fill.Goals as goal

pub put_start-put-requires : goal.put_start-put-requires
put_start-put-requires c =
    let W : T.Writable c.args.s.now = T.writable c.args.s.now c.requires.0 c.requires.1 in
    (W.high, W.few, W.clock, omega (arith, W.size, c.requires.2))

pub offset_bounds-out-put : goal.offset_bounds-out-put
offset_bounds-out-put c =
    let W : T.Writable c.args.s.now = T.writable c.args.s.now c.requires.0 c.requires.1 in
    omega (arith, W.high, W.reads, c.put_start-put.ensures.0)

pub bounds-out-put : goal.bounds-out-put
bounds-out-put c =
    let W : T.Writable c.args.s.now = T.writable c.args.s.now c.requires.0 c.requires.1 in
    let h : c.put_start-put.result.to < length c.put_start-put.new.out = omega (arith, W.size, c.requires.2, c.put_start-put.ensures.0, c.put_start-put.auto.out) in h

pub returns-then-s-eq0 : goal.returns-then-s-eq0
unfolding content_of
returns-then-s-eq0 c =
    let x = c.args.s.now in let o = c.args.out.now in
    let W : T.Writable x = T.writable x c.requires.0 c.requires.1 in
    let none = T.rows_none x c.if-s-eq0.true in
    let U : List ℕ = clock_words x.offices x.clock in
    let D : List ℕ = id_words x.read in
    let h : ℕ = token_head x.offices x.count (length D) in
    let p = c.put_start-put.ensures in
    let to = c.put_start-put.result.to in
    let a = c.put_start-put.new.out in
    let t = T.start_taken x.offices h to o a U D (length_clock x.offices x.clock) p.0 p.2 (omega (arith, W.size, c.requires.2, p.0)) in
    let s = ap (λ (y : ℕ). 4026531840 + y) (p.1 ∙ ap (λ (l : List ℕ). total l % 268435456) (sym t)) in
    T.token_filled (content_of x) o (set o 0 h) (sets (set o 0 h) 1 U) a a _ h to to
    (ap (λ (k : ℕ). token_head x.offices k (length D)) (sym W.count)) refl refl p.0 p.2
    (sym (add-zero to) ∙ ap (λ (l : List ℕ). to + length l) (sym none)) (ap (sets a to) (sym none)) (ap (set a to) s) c.requires.2

pub own_writes-requires : goal.own_writes-requires
own_writes-requires c = (T.writable c.args.s.now c.requires.0 c.requires.1).few

pub put_owns-end-requires : goal.put_owns-end-requires
put_owns-end-requires c =
    let x = c.args.s.now in
    let W : T.Writable x = T.writable x c.requires.0 c.requires.1 in
    rw c.own_writes.ensures (W.frames, omega (arith, W.size, c.requires.2, c.put_start-put.ensures.0, c.put_start-put.auto.out))

pub put_sum-requires : goal.put_sum-requires
put_sum-requires c =
    let x = c.args.s.now in
    let W : T.Writable x = T.writable x c.requires.0 c.requires.1 in
    let rows = ap (λ (es : List Entry). length (own_rows x.offices es)) c.own_writes.ensures in
    let h : c.put_owns-end.result < length c.put_owns-end.new.out =
    omega (arith, W.size, rows, c.requires.2, c.put_start-put.ensures.0, c.put_start-put.auto.out, c.put_owns-end.ensures.0, c.put_owns-end.auto.out)
    in
    h

pub returns : goal.returns
unfolding content_of
returns c =
    let x = c.args.s.now in let o = c.args.out.now in
    let W : T.Writable x = T.writable x c.requires.0 c.requires.1 in
    let h : ℕ = token_head x.offices x.count (length (id_words x.read)) in
    let p = c.put_start-put.ensures in
    let q = c.put_owns-end.ensures in
    let to = c.put_start-put.result.to in
    let own = c.own_writes.ensures in
    T.token_filled (content_of x) o (set o 0 h) (sets (set o 0 h) 1 (clock_words x.offices x.clock)) _ _ _ h _ _
    (ap (λ (k : ℕ). token_head x.offices k (length (id_words x.read))) (sym W.count)) refl refl p.0 p.2
    (q.0 ∙ ap (λ (es : List Entry). to + length (own_rows x.offices es)) own)
    (q.1 ∙ ap (λ (es : List Entry). sets c.put_start-put.new.out to (own_rows x.offices es)) own) c.put_sum.ensures c.requires.2
