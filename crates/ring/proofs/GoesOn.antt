-- A session that reads and writes goes on from what it was. Assumes nothing.
use Rattle.std.proofs.Common.{None, Some}
use Prim.Native.Nat.{ℕ, suc, zero}
use mathlib.Core.Bool.{Bool, false, true}
use mathlib.Core.List.{List, [], ◌∷◌, append-nil}
use mathlib.Core.Path.{refl, sym}
use lib.ListN.{length}
use Rattle.causal.proofs.Clocks.{join_covers}
use Rattle.frame.specs.Entries.{id_of}
use Rattle.frame.specs.Sessions.{Content}
use Rattle.frame.specs.declared.entry.Frame.{Frame}
use Rattle.frame.proofs.Ids.{inserted_keeps}
use Rattle.joining.specs.Orders.{GoneOn}
use Rattle.joining.proofs.Orders.{gone_self, gone_then}
use Rattle.store.specs.Offices.{Found, Office, current, office_of, reveal, sound_store}
use Rattle.office.specs.Calls.{Result, given, joint_code, joint_on, new_entry, noted, noted_all, read_code, read_joint, read_on, read_plot, worded, write, write_code, write_on, wrote_session}
use Rattle.ring.specs.Carrying.{GoesOn}

noted_gone : (f : Found) (s : Content) → GoneOn s (noted f s)
unfolding noted
noted_gone None s = gone_self s
noted_gone (Some e) s =
    record {
      offices = refl;
      clock = (join_covers s.clock e.clock).0;
      read = λ k h. inserted_keeps s.read (id_of e) k h;
      more = [];
      own = sym (append-nil s.own);
    }

all_gone : (O : Office) (qs : List ℕ) (s : Content) → GoneOn s (noted_all O qs s)
unfolding noted_all
all_gone O [] s = gone_self s
all_gone O (q ∷ qs) s =
    gone_then s (noted (current O q) s) (noted_all O qs (noted (current O q) s)) (noted_gone (current O q) s) (all_gone O qs (noted (current O q) s))

wrote_gone : (O : Office) (s : Content) (plot value : ℕ) → GoneOn s (wrote_session O s plot value)
unfolding wrote_session
wrote_gone O s plot value =
    record {
      offices = refl;
      clock = (join_covers s.clock (new_entry O s plot value).clock).0;
      read = λ k h. h;
      more = new_entry O s plot value ∷ [];
      own = refl;
    }

-- whatever is answered
answered_gone : (b : Bool) (c : ℕ) (ws : List ℕ) (s : Content) (row : List ℕ) (O : Office) (R : Result Office Frame) → GoneOn s R.session
    → GoneOn s (worded b ws s row (given c O s row R)).session
answered_gone true zero ws s row O R G = G
answered_gone true (suc c) ws s row O R G = gone_self s
answered_gone false c ws s row O R G = gone_self s

read_gone : (ws : List ℕ) (s : Content) (plot : ℕ) → GoneOn s (read_plot ws s plot).session
unfolding read_plot read_on
read_gone ws s plot =
    answered_gone (sound_store ws) (read_code (office_of ws) s plot) ws s [] (office_of ws) _ (all_gone (reveal (office_of ws) s.read) (plot ∷ []) s)

joint_gone : (ws : List ℕ) (s : Content) (plots row : List ℕ) → GoneOn s (read_joint ws s plots row).session
unfolding read_joint joint_on
joint_gone ws s plots row =
    answered_gone (sound_store ws) (joint_code (office_of ws) s plots (length row)) ws s row (office_of ws) _ (all_gone (reveal (office_of ws) s.read) plots s)

write_gone : (ws : List ℕ) (s : Content) (plot value : ℕ) (row : List ℕ) → GoneOn s (write ws s plot value row).session
unfolding write write_on
write_gone ws s plot value row =
    answered_gone (sound_store ws) (write_code (office_of ws) s plot value (length row)) ws s row (office_of ws) _ (wrote_gone (office_of ws) s plot value)

pub goes_on : GoesOn
goes_on = record { reads = read_gone; reads_jointly = joint_gone; writes = write_gone }
