-- "each store left by a call is sound": on words, for every sound store of 32-bit words and every session that a program has.
-- Assumes nothing.
use Prim.Native.Nat.{ℕ, ◌≤◌, suc, zero}
use mathlib.Core.Bool.{Bool, cond, false, true}
use mathlib.Core.List.{List, [], ◌∷◌}
use mathlib.Core.Path.{◌∙◌, ◌≡◌, ap, refl}
use lib.Dec.{eqb, leb}
use lib.ListN.{get_or, length}
use borrow.Author.Tests.{leb-true}
use Rattle.causal.specs.Lists.{zeros}
use Rattle.causal.specs.Sets.{inserted, is_in}
use Rattle.causal.proofs.Tests.{both_true}
use Rattle.frame.specs.Entries.{id_of}
use Rattle.frame.specs.Frames.{accepts, frame_of}
use Rattle.frame.specs.Sessions.{Content, SaneContent, fresh_content}
use Rattle.frame.specs.declared.entry.Entry.{Entry}
use Rattle.frame.specs.declared.entry.Frame.{Frame}
use Rattle.frame.proofs.Back.{accepted_ok}
use Rattle.frame.proofs.Sane.{frame_sane}
use Rattle.store.specs.Offices.{Office, Words32, hold, need, office_of, reveal, settings_ok, sound_store}
use Rattle.store.proofs.Keep.{Sound, sound_store_lem, store_facts}
use Rattle.office.specs.Calls.{Result, hold_all, hold_new, joint_code, joint_on, parsed, read_code, read_joint, read_on, read_plot, receive, receive_code, receive_on, received_by, refusal, sent_of, stored, worded, write, write_code, write_on}
use Rattle.office.proofs.Grows.{given_by}
use Rattle.office.proofs.KeepCalls.{joint_keeps, read_keeps, receive_keeps}
use Rattle.office.proofs.KeepWrite.{write_keeps}

hold_all_n : (es : List Entry) (O : Office) → (hold_all O es).offices ≡ O.offices
unfolding hold_all hold
hold_all_n [] O = refl
hold_all_n (e ∷ es) O = hold_all_n es (hold O e)

got_n : (O : Office) (f : Frame) → (received_by O f).offices ≡ O.offices
unfolding received_by hold_new hold reveal
got_n O f = go (eqb f.hops 0) (is_in O.held (id_of f.entry))
  where
    go : (t u : Bool)
        → (cond t (reveal (cond u O (hold O f.entry)) (inserted zeros (id_of f.entry))) (cond u O (hold O f.entry))).offices ≡ O.offices
    go true true = refl
    go true false = refl
    go false true = refl
    go false false = refl

read_n : (O : Office) (s : Content) (plot : ℕ) → (read_on O s plot).store.offices ≡ O.offices
unfolding read_on reveal
read_n O s plot = given_by (λ X. X.offices ≡ O.offices) (read_code O s plot) O s [] _ refl refl

joint_n : (O : Office) (s : Content) (plots row : List ℕ) → (joint_on O s plots row).store.offices ≡ O.offices
unfolding joint_on reveal
joint_n O s plots row = given_by (λ X. X.offices ≡ O.offices) (joint_code O s plots (length row)) O s row _ refl refl

write_n : (O : Office) (s : Content) (plot value : ℕ) (row : List ℕ) → (write_on O s plot value row).store.offices ≡ O.offices
unfolding write_on
write_n O s plot value row =
    given_by (λ X. X.offices ≡ O.offices) (write_code O s plot value (length row)) O s row _ refl (hold_all_n (sent_of O s plot value) O)

receive_n : (O : Office) (f : Frame) (row : List ℕ) → (receive_on O f row).store.offices ≡ O.offices
unfolding receive_on
receive_n O f row = given_by (λ X. X.offices ≡ O.offices) (receive_code O f (length row)) O (fresh_content 0) row _ refl (got_n O f)

module _ (ws : List ℕ) (fit : Words32 ws) (sound : sound_store ws ≡ true) where
  abbrev O : Office
  O = office_of ws

  S : Sound (office_of ws)
  S = store_facts ws fit sound

  long : need (office_of ws).offices ≤ length ws
  unfolding sound_store office_of
  long =
      let a = both_true (settings_ok (get_or ws 0 0) (get_or ws 1 0) (get_or ws 2 0)) _ sound in
      leb-true (need (get_or ws 0 0)) (length ws) (both_true (leb (need (get_or ws 0 0)) (length ws)) _ a.1).0

  -- what an accepted call leaves
  left : (R : Result Office Frame) (s : Content) (row : List ℕ) → Sound R.store → R.store.offices ≡ (office_of ws).offices
      → sound_store (worded (sound_store ws) ws s row R).store ≡ true
  left R s row T n = ap (λ (b : Bool). sound_store (worded b ws s row R).store) sound ∙ go R.code
    where
      go : (c : ℕ) → sound_store (stored c ws R.store) ≡ true
      go zero = sound_store_lem ws R.store T (rw n long)
      go (suc c) = sound

  pub read_left : (s : Content) → SaneContent s → (plot : ℕ) → sound_store (read_plot ws s plot).store ≡ true
  unfolding read_plot
  read_left s N plot = left (read_on (office_of ws) s plot) s [] (read_keeps (office_of ws) S s N plot) same
    where
      same : (read_on (office_of ws) s plot).store.offices ≡ (office_of ws).offices
      same = read_n (office_of ws) s plot

  pub joint_left : (s : Content) → SaneContent s → (plots row : List ℕ) → sound_store (read_joint ws s plots row).store ≡ true
  unfolding read_joint
  joint_left s N plots row =
      left (joint_on (office_of ws) s plots row) s row (joint_keeps (office_of ws) S s N plots row) (joint_n (office_of ws) s plots row)

  pub write_left : (s : Content) → SaneContent s → (plot value : ℕ) (row : List ℕ) → sound_store (write ws s plot value row).store ≡ true
  unfolding write
  write_left s N plot value row =
      left (write_on (office_of ws) s plot value row) s row (write_keeps (office_of ws) S s N plot value row)
      (write_n (office_of ws) s plot value row)

  pub receive_left : (frame row : List ℕ) → sound_store (receive ws frame row).store ≡ true
  unfolding receive
  receive_left frame row = go (accepts (office_of ws).offices (office_of ws).plots frame) refl
    where
      go : (t : Bool) → accepts (office_of ws).offices (office_of ws).plots frame ≡ t
          → sound_store (worded (sound_store ws) ws (fresh_content 0) row (parsed t (office_of ws) row (receive_on (office_of ws) (frame_of frame) row))).store ≡ true
      go true t =
          left (receive_on (office_of ws) (frame_of frame) row) (fresh_content 0) row
          (receive_keeps (office_of ws) S (frame_of frame) (accepted_ok (office_of ws).offices (office_of ws).plots frame t) (frame_sane frame) row)
          (receive_n (office_of ws) (frame_of frame) row)
      go false t = left (refusal {B = Frame} 9 (office_of ws) (fresh_content 0) row) (fresh_content 0) row S refl
