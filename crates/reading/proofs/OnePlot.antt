-- A joint reading of one plot is the reading of that plot, where the row has room for its three words: it is refused, shows, hands back and
-- leaves the session alike, and its row has what the other hands back. Assumes nothing.
use Prim.Native.Nat.{ℕ, suc, zero, ◌≤◌}
use mathlib.Core.Bool.{Bool, false, true}
use mathlib.Core.List.{List, [], ◌∷◌, map}
use mathlib.Core.Path.{◌≡◌, ◌∙◌, ap, refl}
use lib.Dec.{ltb}
use lib.ListN.{length}
use borrow.Author.Tests.{le-leb}
use Rattle.causal.specs.Codes.{check}
use Rattle.causal.specs.Sets.{subset_of}
use Rattle.causal.specs.Tests.{both}
use Rattle.frame.specs.Calls.{laid}
use Rattle.frame.specs.Frames.{frame_words}
use Rattle.frame.specs.Sessions.{Content, content_of, session_ok}
use Rattle.frame.specs.declared.entry.Frame.{Frame}
use Rattle.frame.specs.declared.session.Session.{Session}
use Rattle.store.specs.Offices.{Office, current, office_of, reveal, sound_store}
use Rattle.office.specs.Answers.{noted_all_in, noted_in, read_joint_session, read_plot_session, session_if}
use Rattle.office.specs.Calls.{Result, answer_words, given, handed_all, joint_code, joint_on, plots_ok, read_all, read_code, read_joint, read_on, read_plot, stored, worded}

-- a: the result of the joint reading, which was lent the row; b: that of the single reading
pub record Alike {A B : Type 0} (row : List ℕ) (a b : Result A B) : Type 0 where
  pub code : a.code ≡ b.code
  pub count : a.count ≡ b.count
  pub found : a.found ≡ b.found
  pub store : a.store ≡ b.store
  pub session : a.session ≡ b.session
  pub words : a.row ≡ laid (answer_words b.found) row
  pub sent : a.sent ≡ b.sent

module _ (O : Office) (s : Content) (plot : ℕ) (row : List ℕ) (room : 3 ≤ length row) where
  one_code : joint_code O s (plot ∷ []) (length row) ≡ read_code O s plot
  unfolding joint_code read_code plots_ok check both
  one_code = rw (le-leb 3 (length row) room) (go (session_ok O.offices O.plots s) (ltb plot O.plots) (subset_of s.read O.held))
    where
      go : (a b c : Bool) → check a 3 (check (both b true) 4 (check c 12 0)) ≡ check a 3 (check b 4 (check c 12 0))
      go true true c = refl
      go true false c = refl
      go false b c = refl

  one_on : Alike row (joint_on O s (plot ∷ []) row) (read_on O s plot)
  unfolding joint_on read_on answer_words laid
  one_on = rw one_code (go (read_code O s plot))
    where
      go : (c : ℕ)
          → Alike row (given c O s row (read_all O s (plot ∷ []) (laid (answer_words (handed_all O s (plot ∷ []))) row))) (given c O s [] (read_all O s (plot ∷ []) []))
      go zero = record { code = refl; count = refl; found = refl; store = refl; session = refl; words = refl; sent = refl }
      go (suc c) = record { code = refl; count = refl; found = refl; store = refl; session = refl; words = refl; sent = refl }

module _ (ws : List ℕ) (plot : ℕ) (row : List ℕ) (room : 3 ≤ length row) where
  pub one_plot : (s : Content) → Alike row (read_joint ws s (plot ∷ []) row) (read_plot ws s plot)
  unfolding read_joint read_plot answer_words laid
  one_plot s = go (sound_store ws) (joint_on (office_of ws) s (plot ∷ []) row) (read_on (office_of ws) s plot) (one_on (office_of ws) s plot row room)
    where
      go : (t : Bool) (a b : Result Office Frame) → Alike row a b → Alike row (worded t ws s row a) (worded t ws s [] b)
      go true a b h =
          record {
            code = h.code;
            count = h.count;
            found = h.found;
            store = ap (λ (c : ℕ). stored c ws a.store) h.code ∙ ap (stored b.code ws) h.store;
            session = h.session;
            words = h.words;
            sent = ap (map frame_words) h.sent;
          }
      go false a b h = record { code = refl; count = refl; found = refl; store = refl; session = refl; words = refl; sent = refl }

  -- the session as the struct that is handed back
  pub one_plot_session : (s : Session) → read_joint_session ws s (plot ∷ []) row ≡ read_plot_session ws s plot
  unfolding read_joint_session read_plot_session noted_all_in
  one_plot_session s = ap (λ (c : ℕ). session_if c s (noted_in (current (reveal (office_of ws) s.read) plot) s)) (one_plot (content_of s)).code
