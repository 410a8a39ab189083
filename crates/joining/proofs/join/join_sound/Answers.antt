use Rattle.std.proofs.Common.{length, refl, sym, ap, ◌∙◌, arith}
use Rattle.frame.specs.Refusals.{code_of, number_of}
use Rattle.frame.specs.Sessions.{filled, ids_of}
use Rattle.frame.proofs.OwnTurns.{count_is}
use Rattle.joining.proofs.Codes as C
use Rattle.joining.proofs.Front as F
use Rattle.joining.proofs.join.join_sound.Goals as goal

pub own_writes-first_own-requires : goal.own_writes-first_own-requires
own_writes-first_own-requires c = let q = c.requires in C.few c.args.offices c.args.plots c.args.first.now q.0 q.1

pub own_writes-second_own-requires : goal.own_writes-second_own-requires
own_writes-second_own-requires c = let q = c.requires in C.few c.args.offices c.args.plots c.args.second.now q.0 q.2

pub with_blanks-requires : goal.with_blanks-requires
with_blanks-requires c =
    let q = c.requires in
    omega (arith, ap length c.own_writes-first_own.ensures, count_is c.args.first.now, C.few c.args.offices c.args.plots c.args.first.now q.0 q.1)

pub returns-then-front-second : goal.returns-then-front-second
unfolding code_of
returns-then-front-second c =
    let q = c.requires in
    let s = rw (c.own_writes-first_own.ensures, c.own_writes-second_own.ensures) at c.same_front-front.ensures in
    let r = c.joined.ensures in
    F.nothing_new c.args.offices c.args.plots c.args.first.now q.0 q.1 c.args.second.now _ s.0 s.1 s.2 q.2 c.if-front-second.true _ _ refl r.0 r.1 r.2 r.3
    (r.4 ∙ c.with_blanks.ensures ∙ ap filled c.own_writes-first_own.ensures)

pub all_alike-requires : goal.all_alike-requires
all_alike-requires c =
    let q = c.requires in
    let s = rw (c.own_writes-first_own.ensures, c.own_writes-second_own.ensures) at c.same_front-front.ensures in
    let ids = c.ids_of-ids.ensures ∙ ap ids_of c.own_writes-first_own.ensures in
    rw (c.own_writes-first_own.ensures, c.own_writes-second_own.ensures)
    (s.1, C.small c.args.offices c.args.plots c.args.first.now q.0 q.1, ids, F.front_alike c.args.offices c.args.plots c.args.first.now q.0 q.1 c.args.second.now _ s.0 s.1 s.2)

pub returns-then-not-all_alike : goal.returns-then-not-all_alike
unfolding code_of number_of
returns-then-not-all_alike c =
    let q = c.requires in
    let r = rw (c.own_writes-first_own.ensures, c.own_writes-second_own.ensures) at c.all_alike.ensures in
    C.refused c.args.offices c.args.plots c.args.first.now c.args.second.now 10 _ _ (C.two_contents c.args.offices c.args.plots c.args.first.now c.args.second.now q.0 q.1 q.2 (sym r ∙ c.if-not-all_alike.true)) refl refl

pub both_own-both-requires : goal.both_own-both-requires
both_own-both-requires c =
    let q = c.requires in
    let s = rw (c.own_writes-first_own.ensures, c.own_writes-second_own.ensures) at c.same_front-front.ensures in
    let ids = c.ids_of-ids.ensures ∙ ap ids_of c.own_writes-first_own.ensures in
    rw (c.own_writes-first_own.ensures, c.own_writes-second_own.ensures) (
      omega (arith, count_is c.args.first.now, C.few c.args.offices c.args.plots c.args.first.now q.0 q.1),
      s.1,
      omega (arith, count_is c.args.second.now, C.few c.args.offices c.args.plots c.args.second.now q.0 q.2),
      F.front_out c.args.offices c.args.plots c.args.first.now q.0 q.1 c.args.second.now _ s.0 s.1 s.2 _ ids,
    )

pub returns-then-both-gt16 : goal.returns-then-both-gt16
unfolding code_of number_of
returns-then-both-gt16 c =
    let q = c.requires in
    let r = rw (c.own_writes-first_own.ensures, c.own_writes-second_own.ensures) at c.all_alike.ensures in
    let new = rw (c.own_writes-first_own.ensures, c.own_writes-second_own.ensures) at c.both_own-both.ensures in
    let ids = c.ids_of-ids.ensures ∙ ap ids_of c.own_writes-first_own.ensures in
    C.refused c.args.offices c.args.plots c.args.first.now c.args.second.now 6 _ _
    (C.too_many c.args.offices c.args.plots c.args.first.now c.args.second.now q.0 q.1 q.2 (sym r ∙ c.if-not-all_alike.false)
    (omega (arith, c.if-both-gt16.true, new.0, count_is c.args.first.now, C.more_is c.args.offices c.args.plots c.args.first.now c.args.second.now q.0 q.1 q.2 _ ids))) refl refl

pub returns : goal.returns
unfolding code_of
returns c =
    let q = c.requires in
    let r = rw (c.own_writes-first_own.ensures, c.own_writes-second_own.ensures) at c.all_alike.ensures in
    let new = rw (c.own_writes-first_own.ensures, c.own_writes-second_own.ensures) at c.both_own-both.ensures in
    let ids = c.ids_of-ids.ensures ∙ ap ids_of c.own_writes-first_own.ensures in
    let j = c.joined-2.ensures in
    let more = C.more_is c.args.offices c.args.plots c.args.first.now c.args.second.now q.0 q.1 q.2 _ ids in
    let count = count_is c.args.first.now in
    C.accepted c.args.offices c.args.plots c.args.first.now c.args.second.now _ _
    (C.no_refusal c.args.offices c.args.plots c.args.first.now c.args.second.now q.0 q.1 q.2 (sym r ∙ c.if-not-all_alike.false) (omega (arith, c.if-both-gt16.false, new.0, count, more))) refl
    (C.made c.args.offices c.args.plots c.args.first.now c.args.second.now q.0 q.1 q.2 _ ids _ j.0 j.1 j.2 (omega (arith, j.3, new.0, count)) (j.4 ∙ new.1 c.if-both-gt16.false))
