-- The refusal of a receive, as a number. Assumes nothing.
use Prim.Native.Nat.{ℕ, zero, suc}
use mathlib.Core.Path.{◌≡◌, refl, sym}
use mathlib.Core.Bool.{true}
use mathlib.Core.List.{List}
use lib.ListN.{get_or, length}
use Rattle.frame.specs.declared.entry.Frame.{Frame}
use Rattle.frame.specs.Frames.{frame_of, accepts}
use Rattle.frame.specs.Sessions.{fresh_content}
use Rattle.store.specs.Offices.{Office, office_of, sound_store}
use Rattle.office.specs.Calls.{Result, given, receive_code, receive_on, receive}

-- on a sound store, of a frame that is one
number_on : (O : Office) (f : Frame) (row : List ℕ) → receive_code O f (length row) ≡ (receive_on O f row).code
unfolding receive_on
number_on O f row = go (receive_code O f (length row)) _ refl
  where
    go : (c : ℕ) (X : Result Office Frame) → X.code ≡ 0 → c ≡ (given c O (fresh_content 0) row X).code
    go zero X e = sym e
    go (suc c) X e = refl

pub receive_number : (ws fr row : List ℕ) → sound_store ws ≡ true → accepts (get_or ws 0 0) (get_or ws 2 0) fr ≡ true
    → receive_code (office_of ws) (frame_of fr) (length row) ≡ (receive ws fr row).code
unfolding receive office_of
receive_number ws fr row t a = rw (t, a) (number_on (office_of ws) (frame_of fr) row)
