-- From what a reading answers to a line played. Assumes nothing.
use Rattle.std.proofs.Common.{Err, Ok, Result as Answer}
use Rattle.std.specs.Prelude.{Option, is_some}
use Rattle.std.specs.Option.{unwrap_or}
use Prim.Native.Nat.{ℕ, suc, ◌*◌, ◌+◌, ◌<◌, ◌≤◌}
use mathlib.Core.Bool.{Bool, false}
use mathlib.Core.List.{List}
use mathlib.Core.Path.{◌∙◌, ◌≡◌, ap, refl, subst, sym}
use native.Mathlib.Omega.{arith}
use lib.ListN.{get_or, length}
use lib.Seq.{length-sets, set-get_or, sets}
use Rattle.causal.specs.Lists.{part}
use Rattle.causal.proofs.Lists.{part_length}
use Rattle.frame.specs.Entries.{blank_entry}
use Rattle.frame.specs.Refusals.{code_of, number_of}
use Rattle.frame.specs.Sessions.{content_of}
use Rattle.frame.specs.declared.entry.Entry.{Entry}
use Rattle.frame.specs.declared.refusal.Refusal.{Refusal}
use Rattle.frame.specs.declared.session.Session.{Session}
use Rattle.office.specs.Answers.{read_plot_session, session_if}
use Rattle.office.specs.Calls.{Result, read_plot}
use Rattle.office.specs.Promises.{ReadPromise}
use Rattle.office.proofs.Refused.{read_words_refused}
use Rattle.office.specs.Decide.{with_seen}
use Rattle.reading.specs.declared.read.PlotSeen.{PlotSeen}
use Rattle.reading.specs.Answers.{handed_by, seen_entry, seen_found, seen_session}
use Rattle.reading.proofs.Answers.{read_content}
use Rattle.script.specs.declared.line.Line.TheVariants.{Read}
use Rattle.script.specs.declared.reply.Reply.{Reply}
use Rattle.script.specs.declared.reply.Reply.TheVariants.{Refused}
use Rattle.player.specs.Desks.{Desk, no_session, place_at, session_at, with_session}
use Rattle.player.specs.Play.{Scene}
use Rattle.player.specs.Shows.{Shows}
use Rattle.player.specs.Steps.{Plays, entry_reply}
use Rattle.player.proofs.Accepted.{Reads, reads}
use Rattle.player.proofs.Contents.{found_is, read_size}
use Rattle.player.proofs.PlayRead.{read_done, read_refused}
use Rattle.player.proofs.Refusals.{refused_as}
use Rattle.player.proofs.Scenes.{store_same}

refused_session : (ws : List ℕ) (s : Session) (plot c : ℕ) → (read_plot ws (content_of s) plot).code ≡ suc c → read_plot_session ws s plot ≡ s
unfolding read_plot_session session_if
refused_session ws s plot c h = rw h

-- what a promise says of each answer of a reading
pub seen_done : (P : ℕ → Bool → Entry → Session → Type 0) (s : Session) (r : Answer PlotSeen Refusal) (x : PlotSeen) → r ≡ Ok x → P (code_of r) (seen_found r) (seen_entry r) (seen_session s r)
    → P 0 (is_some x.entry) (unwrap_or x.entry blank_entry) (with_seen s x.seen)
unfolding code_of handed_by seen_session
seen_done P s r x e p = subst (λ (y : Answer PlotSeen Refusal). P (code_of y) (seen_found y) (seen_entry y) (seen_session s y)) e p

pub seen_refused : (P : ℕ → Bool → Entry → Session → Type 0) (s : Session) (r : Answer PlotSeen Refusal) (x : Refusal) → r ≡ Err x → P (code_of r) (seen_found r) (seen_entry r) (seen_session s r)
    → P (number_of x) false blank_entry s
unfolding code_of handed_by seen_session
seen_refused P s r x e p = subst (λ (y : Answer PlotSeen Refusal). P (code_of y) (seen_found y) (seen_entry y) (seen_session s y)) e p

-- s' is the session that the reading leaves
module _ (g : Scene) (d : Desk) (stores lines : List ℕ) (S : Shows g d stores lines) (i : ℕ) (il : i < 4) (s : Session) (own : session_at d i ≡ s) (plot : ℕ) (row : List ℕ) (stores' : List ℕ)
    (left : stores' ≡ sets stores (1747 * place_at d i) (part stores' (1747 * place_at d i) 1747)) where
  abbrev ws : List ℕ
  ws = part stores (1747 * place_at d i) 1747

  abbrev pub Promised : ℕ → Bool → Entry → Session → Type 0
  Promised code found entry s' = ReadPromise (part stores (1747 * place_at d i) 1747) s plot code found entry s' (part stores' (1747 * place_at d i) 1747)

  abbrev R : Result (List ℕ) (List ℕ)
  R = read_plot ws (content_of (session_at d i)) plot

  here : 1747 * place_at d i + 1747 ≤ length stores
  here = omega (arith, S.placed i il, S.long_stores)

  module _ (code : ℕ) (found : Bool) (entry : Entry) (s' : Session) (A₀ : Promised code found entry s') where
    A : ReadPromise ws (session_at d i) plot code found entry s' (part stores' (1747 * place_at d i) 1747)
    A = subst (λ (x : Session). ReadPromise ws x plot code found entry s' (part stores' (1747 * place_at d i) 1747)) (sym own) A₀

    left_is : stores' ≡ sets stores (1747 * place_at d i) R.store
    left_is = left ∙ ap (sets stores (1747 * place_at d i)) A.4

  pub line_refused : (x : Refusal) → Promised (number_of x) false blank_entry s → Plays row g (Read i plot) (record { desk = with_session d i s; reply = Refused (number_of x) }) stores' lines
  line_refused x A₀ =
      refused_as (λ n. Plays row g (Read i plot) (record { desk = with_session d i s; reply = Refused n }) stores' lines) R.code
      (λ c q.
      subst (λ (p : Desk × List ℕ). Plays row g (Read i plot) (record { desk = p.0; reply = Refused (suc c) }) p.1 lines)
      (λ j. (
        with_session_same j,
        sym (left_is (number_of x) false blank_entry s A₀ ∙ ap (sets stores (1747 * place_at d i)) (read_words_refused ws (content_of (session_at d i)) plot (λ (z : R.code ≡ 0). omega arith)).store ∙ store_same stores (1747 * place_at d i) 1747 here) j,
      ))
      (read_refused g d stores lines S i il plot row c q))
      (number_of x) x refl (sym (A (number_of x) false blank_entry s A₀).0)
    where
      with_session_same : d ≡ with_session d i s
      with_session_same = ap (λ (l : List Session). record { sessions = l; place = d.place; first = d.first; count = d.count }) (sym (set-get_or d.sessions i no_session)) ∙ ap (with_session d i) own

  pub line_done : (found : Option Entry) (s' : Session) → Promised 0 (is_some found) (unwrap_or found blank_entry) s'
      → Plays row g (Read i plot) (record { desk = with_session d i s'; reply = entry_reply found }) stores' lines
  line_done found s' A₀ =
      subst (λ (x : Desk × (Reply × List ℕ)). Plays row g (Read i plot) (record { desk = x.0; reply = x.1.0 }) x.1.1 lines)
      (λ j. (with_session d i (sym B.3 j), (sym (found_is found R.found B.1 B.2) j, sym (left_is 0 (is_some found) (unwrap_or found blank_entry) s' A₀) j)))
      (read_done g d stores lines S i il plot row code F.offices F.plots (ap length (sym B.4) ∙ size) _
      (sym (read_content ws (session_at d i) plot)) (read_size ws (session_at d i) (S.session i il).size plot code))
    where
      B : ReadPromise ws (session_at d i) plot 0 (is_some found) (unwrap_or found blank_entry) s' (part stores' (1747 * place_at d i) 1747)
      B = A 0 (is_some found) (unwrap_or found blank_entry) s' A₀

      code : R.code ≡ 0
      code = sym B.0

      size : length (part stores' (1747 * place_at d i) 1747) ≡ 1747
      size = part_length stores' (1747 * place_at d i) 1747 (omega (arith, here, ap length left ∙ length-sets stores (1747 * place_at d i) (part stores' (1747 * place_at d i) 1747)))

      F : Reads ws (content_of (session_at d i)) plot
      F =
          reads ws (ap (λ (l : List ℕ). get_or l 0 0) (S.store (place_at d i) (S.placed i il)) ∙ S.offices (place_at d i) (S.placed i il)) (ap (λ (l : List ℕ). get_or l 2 0) (S.store (place_at d i) (S.placed i il)) ∙ S.plots (place_at d i) (S.placed i il))
          (content_of (session_at d i)) plot code
