-- "a refusal number with nothing else and with every lent store, errand and row unchanged". Assumes nothing.
use Prim.Native.Nat.{ℕ, suc, zero}
use mathlib.Core.Bool.{Bool, false, true}
use mathlib.Core.List.{List, [], map}
use mathlib.Core.Path.{◌≡◌, ap, refl}
use lib.ListN.{length}
use Rattle.frame.specs.Frames.{accepts, frame_of, frame_words}
use Rattle.frame.specs.Sessions.{Content, fresh_content}
use Rattle.frame.specs.declared.entry.Frame.{Frame}
use Rattle.store.specs.Offices.{Office, office_of, sound_store}
use Rattle.office.specs.Calls.{Result, given, joint_code, joint_on, parsed, read_code, read_joint, read_on, read_plot, receive, receive_code, receive_on, refusal, stored, worded, write, write_code, write_on}

-- what a refused call leaves
pub record Left {A B : Type 0} (a : A) (s : Content) (lent : List ℕ) (R : Result A B) : Type 0 where
  pub store : R.store ≡ a
  pub session : R.session ≡ s
  pub row : R.row ≡ lent
  pub count : R.count ≡ 0
  pub found : R.found ≡ []
  pub sent : R.sent ≡ []

left : {A B : Type 0} (c : ℕ) (a : A) (s : Content) (row : List ℕ) → Left a s row (refusal {A = A} {B = B} c a s row)
left c a s row = record { store = refl; session = refl; row = refl; count = refl; found = refl; sent = refl }

given_left : {A B : Type 0} (c : ℕ) (a : A) (s : Content) (row : List ℕ) (R : Result A B) → R.code ≡ 0 → ((given c a s row R).code ≡ 0 → ⊥)
    → Left a s row (given c a s row R)
given_left zero a s row R z h = absurd (h z)
given_left (suc c) a s row R z h = left (suc c) a s row

-- ---- on contents

pub read_refused : (O : Office) (s : Content) (plot : ℕ) → ((read_on O s plot).code ≡ 0 → ⊥) → Left O s [] (read_on O s plot)
unfolding read_on
read_refused O s plot h = given_left (read_code O s plot) O s [] _ refl h

pub joint_refused : (O : Office) (s : Content) (plots row : List ℕ) → ((joint_on O s plots row).code ≡ 0 → ⊥)
    → Left O s row (joint_on O s plots row)
unfolding joint_on
joint_refused O s plots row h = given_left (joint_code O s plots (length row)) O s row _ refl h

pub write_refused : (O : Office) (s : Content) (plot value : ℕ) (row : List ℕ) → ((write_on O s plot value row).code ≡ 0 → ⊥)
    → Left O s row (write_on O s plot value row)
unfolding write_on
write_refused O s plot value row h = given_left (write_code O s plot value (length row)) O s row _ refl h

pub receive_refused : (O : Office) (f : Frame) (row : List ℕ) → ((receive_on O f row).code ≡ 0 → ⊥)
    → Left O (fresh_content 0) row (receive_on O f row)
unfolding receive_on
receive_refused O f row h = given_left (receive_code O f (length row)) O (fresh_content 0) row _ refl h

-- ---- on words

worded_left : (t : Bool) (ws : List ℕ) (s : Content) (row : List ℕ) (O : Office) (R : Result Office Frame) → ((R.code ≡ 0 → ⊥) → Left O s row R)
    → ((worded t ws s row R).code ≡ 0 → ⊥) → Left ws s row (worded t ws s row R)
worded_left true ws s row O R l h =
    let L = l h in
    record {
      store = kept R.code h;
      session = L.session;
      row = L.row;
      count = L.count;
      found = L.found;
      sent = ap (map frame_words) L.sent;
    }
  where
    kept : (c : ℕ) → (c ≡ 0 → ⊥) → stored c ws R.store ≡ ws
    kept zero z = absurd (z refl)
    kept (suc c) z = refl
worded_left false ws s row O R l h = left 2 ws s row

pub read_words_refused : (ws : List ℕ) (s : Content) (plot : ℕ) → ((read_plot ws s plot).code ≡ 0 → ⊥) → Left ws s [] (read_plot ws s plot)
unfolding read_plot
read_words_refused ws s plot h =
    worded_left (sound_store ws) ws s [] (office_of ws) (read_on (office_of ws) s plot) (read_refused (office_of ws) s plot) h

pub joint_words_refused : (ws : List ℕ) (s : Content) (plots row : List ℕ) → ((read_joint ws s plots row).code ≡ 0 → ⊥)
    → Left ws s row (read_joint ws s plots row)
unfolding read_joint
joint_words_refused ws s plots row h =
    worded_left (sound_store ws) ws s row (office_of ws) (joint_on (office_of ws) s plots row) (joint_refused (office_of ws) s plots row) h

pub write_words_refused : (ws : List ℕ) (s : Content) (plot value : ℕ) (row : List ℕ) → ((write ws s plot value row).code ≡ 0 → ⊥)
    → Left ws s row (write ws s plot value row)
unfolding write
write_words_refused ws s plot value row h =
    worded_left (sound_store ws) ws s row (office_of ws) (write_on (office_of ws) s plot value row) (write_refused (office_of ws) s plot value row) h

pub parsed_refused : (t : Bool) (O : Office) (words row : List ℕ) → ((parsed t O row (receive_on O (frame_of words) row)).code ≡ 0 → ⊥)
    → Left O (fresh_content 0) row (parsed t O row (receive_on O (frame_of words) row))
parsed_refused true O words row z = receive_refused O (frame_of words) row z
parsed_refused false O words row z = left 9 O (fresh_content 0) row

pub receive_words_refused : (ws frame row : List ℕ) → ((receive ws frame row).code ≡ 0 → ⊥) → Left ws (fresh_content 0) row (receive ws frame row)
unfolding receive
receive_words_refused ws frame row h =
    worded_left (sound_store ws) ws (fresh_content 0) row (office_of ws)
    (parsed (accepts (office_of ws).offices (office_of ws).plots frame) (office_of ws) row (receive_on (office_of ws) (frame_of frame) row))
    (parsed_refused (accepts (office_of ws).offices (office_of ws).plots frame) (office_of ws) frame row) h
