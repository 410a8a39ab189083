-- What a reading promises of a session that carries nothing is the same whatever stands in its row of entries. Assumes nothing.
use Rattle.std.proofs.Common.{Err, None, Ok, Result, Some}
use Rattle.std.specs.Result.{result_unwrap_or}
use Prim.Native.Nat.{ℕ, zero, suc}
use mathlib.Core.Path.{◌≡◌, refl, sym, ap, ◌∙◌}
use mathlib.Core.Bool.{Bool}
use mathlib.Core.List.{List, [], ◌∷◌}
use Rattle.causal.specs.Lists.{tab}
use Rattle.frame.specs.declared.entry.Entry.{Entry}
use Rattle.frame.specs.declared.refusal.Refusal.{Refusal}
use Rattle.frame.specs.declared.session.Session.{Session}
use Rattle.frame.specs.Sessions.{content_of}
use Rattle.store.specs.Offices.{Office, Found, current, office_of, reveal}
use Rattle.office.specs.Answers.{noted_all_in, noted_in, read_joint_session, read_plot_session, session_if}
use Rattle.office.specs.Calls.{read_joint, read_plot}
use Rattle.office.specs.Decide.{alone, seen_of, with_seen}
use Rattle.office.specs.Promises.{JointPromise, ReadPromise}
use Rattle.office.specs.declared.note.Seen.{Seen}
use Rattle.reading.specs.Answers.{seen_session}
use Rattle.reading.specs.declared.read.PlotSeen.{PlotSeen}

-- a session with another row of entries
abbrev with_row : List Entry → Session → Session
with_row own s = record { offices = s.offices; clock = s.clock; read = s.read; count = s.count; own = own }

row_noted : (own : List Entry) (f : Found) (s : Session) → with_row own (noted_in f s) ≡ noted_in f (with_row own s)
unfolding noted_in
row_noted own None s = refl
row_noted own (Some e) s = refl

row_noted_all : (own : List Entry) (O : Office) (qs : List ℕ) (s : Session) → with_row own (noted_all_in O qs s) ≡ noted_all_in O qs (with_row own s)
unfolding noted_all_in
row_noted_all own O [] s = refl
row_noted_all own O (q ∷ qs) s = row_noted_all own O qs (noted_in (current O q) s) ∙ ap (noted_all_in O qs) (row_noted own (current O q) s)

row_if : (own : List Entry) (c : ℕ) (s t : Session) → with_row own (session_if c s t) ≡ session_if c (with_row own s) (with_row own t)
unfolding session_if
row_if own zero s t = refl
row_if own (suc c) s t = refl

row_seen : (own : List Entry) (s : Session) (x : Seen) → with_row own (with_seen s x) ≡ with_seen (with_row own s) x
unfolding with_seen
row_seen own s x = refl

row_read : (own : List Entry) (s : Session) (r : Result PlotSeen Refusal) → with_row own (seen_session s r) ≡ seen_session (with_row own s) r
unfolding seen_session
row_read own s (Ok x) = row_seen own s x.seen
row_read own s (Err e) = refl

module _ (n : ℕ) (clock read : List ℕ) (own own' : List Entry) where
  abbrev S : Session
  S = alone n clock read own

  abbrev S' : Session
  S' = alone n clock read own'

  -- its content has no entries at all, so the two promises differ in the session that is left alone
  pub alone_read : (ws : List ℕ) (plot code : ℕ) (found : Bool) (e : Entry) (r : Result PlotSeen Refusal) (left : List ℕ)
      → ReadPromise ws S plot code found e (seen_session S r) left → ReadPromise ws S' plot code found e (seen_session S' r) left
  unfolding content_of tab read_plot_session
  alone_read ws plot code found e r left p =
      let c = (read_plot ws (content_of S) plot).code in
      let f = current (reveal (office_of ws) read) plot in
      let session : seen_session S' r ≡ read_plot_session ws S' plot =
      sym (row_read own' S r) ∙ ap (with_row own') p.3 ∙ row_if own' c S (noted_in f S) ∙ ap (session_if c S') (row_noted own' f S)
      in
      (p.0, p.1, p.2, session, p.4)

  pub alone_joint : (ws plots row : List ℕ) (code : ℕ) (r : Result Seen Refusal) (left out : List ℕ)
      → JointPromise ws S plots row code (with_seen S (result_unwrap_or r (seen_of S))) left out
      → JointPromise ws S' plots row code (with_seen S' (result_unwrap_or r (seen_of S'))) left out
  unfolding content_of tab read_joint_session
  alone_joint ws plots row code r left out p =
      let c = (read_joint ws (content_of S) plots row).code in
      let O = reveal (office_of ws) read in
      let session : with_seen S' (result_unwrap_or r (seen_of S')) ≡ read_joint_session ws S' plots row =
      sym (row_seen own' S (result_unwrap_or r (seen_of S))) ∙ ap (with_row own') p.1 ∙ row_if own' c S (noted_all_in O plots S) ∙ ap (session_if c S') (row_noted_all own' O plots S)
      in
      (p.0, session, p.2, p.3)
