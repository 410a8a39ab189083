use mathlib.Core.List.{List}
use mathlib.Core.Path.{◌∙◌, ap, refl, sym}
use lib.ListN.{get_or}
use Rattle.std.specs.Prelude.{Some}
use Rattle.frame.specs.declared.session.Session.{Session}
use Rattle.player.specs.Desks.{desk, no_session}
use Rattle.player.specs.Steps.{Plays, after_read, after_write}
use Rattle.script.specs.declared.line.Line.TheVariants.{Read, Write}
use Rattle.ring_program.proofs.Feeding as fd
use Rattle.ring_program.proofs.feed.play.Goals as goal

pub returns-in-Some : goal.returns-in-Some
returns-in-Some c = let a = c.args in
    let w = c.in-Write in
    let q = c.write_line-turn in
    let ss = a.stage.now.sessions in (
      refl,
      refl,
      refl,
      λ g S.
          rw w.is
          (fd.put_lent (λ (l : List Session). Plays a.out.now g (Write w.who w.plot w.value) (record { desk = desk l q.result.board; reply = q.result.reply }) q.new.stores q.new.lines) ss w.who _ _
          (ap (after_write (get_or ss w.who no_session)) c.in-Some.is
          ∙ ap (λ (l : List Session). after_write (get_or l w.who no_session) (Some c.in-Some.entry)) (sym (fd.lent ss w.who))
          ∙ sym c.extend.ensures) (q.ensures.1 ss g refl S)),
    )

pub returns-in_default-entry : goal.returns-in_default-entry
returns-in_default-entry c = let a = c.args in
    let w = c.in-Write in
    let q = c.write_line-turn in
    let ss = a.stage.now.sessions in (
      refl,
      refl,
      refl,
      λ g S.
          rw w.is
          (fd.put_back (λ (l : List Session). Plays a.out.now g (Write w.who w.plot w.value) (record { desk = desk l q.result.board; reply = q.result.reply }) q.new.stores q.new.lines) ss w.who _ _
          (ap (after_write (get_or ss w.who no_session)) (fd.none_of q.result.entry c.in_default-entry.not-Some)) (q.ensures.1 ss g refl S)),
    )

pub returns-in-Some-seen : goal.returns-in-Some-seen
returns-in-Some-seen c = let a = c.args in
    let w = c.in-Read in
    let q = c.read_line-turn in
    let ss = a.stage.now.sessions in (
      refl,
      refl,
      refl,
      λ g S.
          rw w.is
          (fd.put_lent (λ (l : List Session). Plays a.out.now g (Read w.who w.plot) (record { desk = desk l a.stage.now.board; reply = q.result.reply }) q.new.stores a.lines.now) ss w.who _ _
          (ap (after_read (get_or ss w.who no_session)) c.in-Some-seen.is
          ∙ ap (λ (l : List Session). after_read (get_or l w.who no_session) (Some c.in-Some-seen.seen)) (sym (fd.lent ss w.who))
          ∙ sym c.set_seen.ensures) (q.ensures ss a.out.now a.lines.now g refl S)),
    )

pub returns-in_default-seen : goal.returns-in_default-seen
returns-in_default-seen c = let a = c.args in
    let w = c.in-Read in
    let q = c.read_line-turn in
    let ss = a.stage.now.sessions in (
      refl,
      refl,
      refl,
      λ g S.
          rw w.is
          (fd.put_back (λ (l : List Session). Plays a.out.now g (Read w.who w.plot) (record { desk = desk l a.stage.now.board; reply = q.result.reply }) q.new.stores a.lines.now) ss w.who _ _
          (ap (after_read (get_or ss w.who no_session)) (fd.none_of q.result.seen c.in_default-seen.not-Some)) (q.ensures ss a.out.now a.lines.now g refl S)),
    )

pub returns-in_default : goal.returns-in_default
returns-in_default c = let a = c.args in
    let q = c.play_other-turn in (
      refl,
      refl,
      refl,
      λ g S. rw (fd.other_line a.line c.in_default.not-Write c.in_default.not-Read) at (q.ensures a.stage.now.sessions g S),
    )
