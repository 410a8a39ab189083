-- The content of the session that a reading leaves is the one that Calls says. Assumes nothing.
use Rattle.std.proofs.Common.{None, Some}
use Prim.Native.Nat.{ℕ, zero, suc}
use mathlib.Core.Path.{◌≡◌, refl, sym, ap, ◌∙◌}
use mathlib.Core.List.{List, [], ◌∷◌}
use lib.ListN.{length}
use Rattle.frame.specs.declared.session.Session.{Session}
use Rattle.frame.specs.Sessions.{content_of}
use Rattle.store.specs.Offices.{Office, office_of, reveal, current, Found}
use Rattle.office.specs.Calls.{noted, noted_all, read_plot, read_joint}
use Rattle.office.specs.Answers.{session_if, noted_in, noted_all_in, read_plot_session, read_joint_session}
use Rattle.reading.specs.Readings.{read_refusal, joint_refusal}
use Rattle.reading.proofs.Readings.{Res, read_result, read_is}
use Rattle.reading.proofs.JointReads.{answered, joint_is}

pub content_noted : (f : Found) (s : Session) → content_of (noted_in f s) ≡ noted f (content_of s)
unfolding content_of noted_in noted
content_noted None s = refl
content_noted (Some e) s = refl

content_all : (O : Office) (qs : List ℕ) (s : Session) → content_of (noted_all_in O qs s) ≡ noted_all O qs (content_of s)
unfolding noted_all_in noted_all
content_all O [] s = refl
content_all O (q ∷ qs) s = content_all O qs (noted_in (current O q) s) ∙ ap (noted_all O qs) (content_noted (current O q) s)

pub read_content : (ws : List ℕ) (s : Session) (plot : ℕ) → content_of (read_plot_session ws s plot) ≡ (read_plot ws (content_of s) plot).session
unfolding read_plot_session session_if content_of noted_all
read_content ws s plot = go (read_refusal ws (content_of s) plot) (read_is ws (content_of s) plot)
  where
    go : (c : ℕ) → read_plot ws (content_of s) plot ≡ read_result ws (content_of s) (plot ∷ []) [] [] c
        → content_of (session_if (read_plot ws (content_of s) plot).code s (noted_in (current (reveal (office_of ws) s.read) plot) s)) ≡ (read_plot ws (content_of s) plot).session
    go zero r =
        ap (λ (x : Res). content_of (session_if x.code s (noted_in (current (reveal (office_of ws) s.read) plot) s))) r
        ∙ content_noted (current (reveal (office_of ws) s.read) plot) s ∙ sym (ap (λ (x : Res). x.session) r)
    go (suc c) r =
        ap (λ (x : Res). content_of (session_if x.code s (noted_in (current (reveal (office_of ws) s.read) plot) s))) r ∙ sym (ap (λ (x : Res). x.session) r)

pub joint_content : (ws : List ℕ) (s : Session) (plots row : List ℕ) → content_of (read_joint_session ws s plots row) ≡ (read_joint ws (content_of s) plots row).session
unfolding read_joint_session session_if content_of
joint_content ws s plots row = go (joint_refusal ws (content_of s) plots (length row)) (joint_is ws (content_of s) plots row)
  where
    go : (c : ℕ) → read_joint ws (content_of s) plots row ≡ read_result ws (content_of s) plots row (answered ws (content_of s) plots row) c
        → content_of (session_if (read_joint ws (content_of s) plots row).code s (noted_all_in (reveal (office_of ws) s.read) plots s)) ≡ (read_joint ws (content_of s) plots row).session
    go zero r =
        ap (λ (x : Res). content_of (session_if x.code s (noted_all_in (reveal (office_of ws) s.read) plots s))) r
        ∙ content_all (reveal (office_of ws) s.read) plots s ∙ sym (ap (λ (x : Res). x.session) r)
    go (suc c) r =
        ap (λ (x : Res). content_of (session_if x.code s (noted_all_in (reveal (office_of ws) s.read) plots s))) r ∙ sym (ap (λ (x : Res). x.session) r)
