use Rattle.std.proofs.Common.{refl, sym, ◌∙◌}
use Rattle.frame.specs.Refusals.{code_of, number_of}
use Rattle.joining.proofs.Codes as C
use Rattle.joining.proofs.join.join_sessions.Goals as goal
use Rattle.joining.proofs.join.join_sessions.Goals.{then-not-session_ok-via-then-not-session_ok, then-not-session_ok-via-else-not-session_ok+then-not-session_ok-2}

pub returns-then-not-ring_ok : goal.returns-then-not-ring_ok
unfolding code_of number_of
returns-then-not-ring_ok c = C.refused c.args.offices c.args.plots c.args.first c.args.second 0 _ _ (C.no_ring c.args.offices c.args.plots c.args.first c.args.second (sym c.ring_ok.ensures ∙ c.if-not-ring_ok.true)) refl refl

pub returns-then-not-session_ok : goal.returns-then-not-session_ok
unfolding code_of number_of
returns-then-not-session_ok c =
    let ring = sym c.ring_ok.ensures ∙ c.if-not-ring_ok.false in
    elim c.then-not-session_ok.branch [
      | then-not-session_ok-via-then-not-session_ok w ↦
          C.refused c.args.offices c.args.plots c.args.first c.args.second 2 _ _
          (C.first_unsound c.args.offices c.args.plots c.args.first c.args.second ring (sym c.session_ok.ensures ∙ w.if-not-session_ok.true)) refl refl
      | then-not-session_ok-via-else-not-session_ok+then-not-session_ok-2 w ↦
          C.refused c.args.offices c.args.plots c.args.first c.args.second 2 _ _
          (C.second_unsound c.args.offices c.args.plots c.args.first c.args.second ring (sym c.session_ok.ensures ∙ w.if-not-session_ok.false)
          (sym w.session_ok-else-not-session_ok.ensures ∙ w.if-not-session_ok-2.true)) refl refl
    ]
