-- What an accepted call says of its checks, all of them; and the code of each call is its refusal number. Assumes nothing.
use Prim.Native.Nat.{ℕ, suc, zero}
use mathlib.Core.Bool.{true}
use mathlib.Core.List.{List, []}
use mathlib.Core.Path.{◌≡◌, refl}
use native.Mathlib.Omega.{arith}
use lib.Dec.{eqb, leb, ltb}
use lib.ListN.{length}
use Rattle.causal.specs.Sets.{subset_of}
use Rattle.causal.specs.Tests.{either}
use Rattle.causal.proofs.Codes.{check_none, or_both}
use Rattle.frame.specs.Frames.{frame_words}
use Rattle.frame.specs.Sessions.{Content, fresh_content, session_ok}
use Rattle.frame.specs.Tokens.{rows_of}
use Rattle.frame.specs.declared.entry.Frame.{Frame}
use Rattle.store.specs.Offices.{Office, made}
use Rattle.office.specs.Calls.{Result, entry_code, given, joint_code, joint_on, onward, own_code, read_code, read_on, receive_code, receive_on, write_code, write_on, write_sends}

-- ---- the code of a call

given_code : {A B : Type 0} (c : ℕ) (a : A) (s : Content) (row : List ℕ) (R : Result A B) → R.code ≡ 0 → (given c a s row R).code ≡ c
given_code zero a s row R z = z
given_code (suc c) a s row R z = refl

pub read_code_lem : (O : Office) (s : Content) (plot : ℕ) → (read_on O s plot).code ≡ read_code O s plot
unfolding read_on
read_code_lem O s plot = given_code (read_code O s plot) O s [] _ refl

pub joint_code_lem : (O : Office) (s : Content) (plots row : List ℕ) → (joint_on O s plots row).code ≡ joint_code O s plots (length row)
unfolding joint_on
joint_code_lem O s plots row = given_code (joint_code O s plots (length row)) O s row _ refl

pub write_code_lem : (O : Office) (s : Content) (plot value : ℕ) (row : List ℕ)
    → (write_on O s plot value row).code ≡ write_code O s plot value (length row)
unfolding write_on
write_code_lem O s plot value row = given_code (write_code O s plot value (length row)) O s row _ refl

pub receive_code_lem : (O : Office) (f : Frame) (row : List ℕ) → (receive_on O f row).code ≡ receive_code O f (length row)
unfolding receive_on
receive_code_lem O f row = given_code (receive_code O f (length row)) O (fresh_content 0) row _ refl

-- ---- reading

-- ---- writing

pub record WriteReady (O : Office) (s : Content) (plot value room : ℕ) : Type 0 where
  pub session : session_ok O.offices O.plots s ≡ true
  pub plot_ok : ltb plot O.plots ≡ true
  pub value_ok : ltb value 268435456 ≡ true
  pub carries : ltb (length s.own) 16 ≡ true
  pub few : ltb (made O) 32 ≡ true
  pub read_held : subset_of s.read O.held ≡ true
  pub own_code_lem : own_code O s.own ≡ 0
  pub room_ok : leb (length (rows_of (write_sends O s plot value))) room ≡ true

pub write_ready : (O : Office) (s : Content) (plot value room : ℕ) → write_code O s plot value room ≡ 0 → WriteReady O s plot value room
unfolding write_code
write_ready O s plot value room h =
    let a = check_none (session_ok O.offices O.plots s) 3 _ (omega arith) h in
    let b = check_none (ltb plot O.plots) 4 _ (omega arith) a.1 in
    let c = check_none (ltb value 268435456) 5 _ (omega arith) b.1 in
    let d = check_none (ltb (length s.own) 16) 7 _ (omega arith) c.1 in
    let e = check_none (ltb (made O) 32) 6 _ (omega arith) d.1 in
    let f = check_none (subset_of s.read O.held) 12 _ (omega arith) e.1 in
    let g = or_both (own_code O s.own) _ f.1 in
    let r = check_none (leb (length (rows_of (write_sends O s plot value))) room) 8 _ (omega arith) g.1 in
    record {
      session = a.0;
      plot_ok = b.0;
      value_ok = c.0;
      carries = d.0;
      few = e.0;
      read_held = f.0;
      own_code_lem = g.0;
      room_ok = r.0;
    }

-- ---- receiving

pub record ReceiveReady (O : Office) (f : Frame) (room : ℕ) : Type 0 where
  pub entry_code_lem : entry_code O f.entry ≡ 0
  pub deps_held : subset_of f.entry.deps O.held ≡ true
  pub room_ok : either (eqb f.hops 0) (leb (length (frame_words (onward f))) room) ≡ true

pub receive_ready : (O : Office) (f : Frame) (room : ℕ) → receive_code O f room ≡ 0 → ReceiveReady O f room
unfolding receive_code
receive_ready O f room h =
    let a = or_both (entry_code O f.entry) _ h in
    let b = check_none (subset_of f.entry.deps O.held) 12 _ (omega arith) a.1 in
    let c = check_none (either (eqb f.hops 0) (leb (length (frame_words (onward f))) room)) 8 _ (omega arith) b.1 in
    record { entry_code_lem = a.0; deps_held = b.0; room_ok = c.0 }
