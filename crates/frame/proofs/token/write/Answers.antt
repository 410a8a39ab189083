use Rattle.std.proofs.Common.{sym, arith}
use Rattle.frame.specs.Refusals.{number_of, reply_of}
use Rattle.frame.specs.Sessions.{content_of}
use Rattle.frame.proofs.TokenTurns as T
use Rattle.frame.proofs.token.write.Goals as goal
use Rattle.frame.proofs.token.write.Goals.{then-not-ring_ok-via-then-not-ring_ok, then-not-ring_ok-via-else-not-ring_ok+then-not-session_ok}

pub returns-then-not-ring_ok : goal.returns-then-not-ring_ok
unfolding reply_of number_of content_of
returns-then-not-ring_ok c = let x = c.args.s.now in let o = c.args.out.now in
    elim c.then-not-ring_ok.branch [
      | then-not-ring_ok-via-then-not-ring_ok w ↦ T.write_refused (content_of x) o 2 (T.write_no_ring (content_of x) o (sym w.if-not-ring_ok.ensures))
      | then-not-ring_ok-via-else-not-ring_ok+then-not-session_ok w ↦
          T.write_refused (content_of x) o 2 (T.write_unsound (content_of x) o (sym w.if-not-ring_ok.ensures) (sym w.if-not-session_ok.ensures))
    ]

pub words_of-words-requires : goal.words_of-words-requires
words_of-words-requires c = let W = T.writable c.args.s.now (sym c.if-not-ring_ok.ensures) (sym c.if-not-session_ok.ensures) in (W.high, W.few)

pub returns-then-words-out : goal.returns-then-words-out
unfolding reply_of number_of content_of
returns-then-words-out c = let x = c.args.s.now in let o = c.args.out.now in
    T.write_refused (content_of x) o 7 (T.write_no_room (content_of x) o (sym c.if-not-ring_ok.ensures) (sym c.if-not-session_ok.ensures) (omega (arith, c.words_of-words.ensures)))

pub returns : goal.returns
unfolding reply_of content_of
returns c = let x = c.args.s.now in let o = c.args.out.now in
    T.write_accepted (content_of x) o c.words_of-words.result c.fill.new.out
    (T.write_may (content_of x) o (sym c.if-not-ring_ok.ensures) (sym c.if-not-session_ok.ensures) (omega (arith, c.words_of-words.ensures))) c.words_of-words.ensures c.fill.ensures
