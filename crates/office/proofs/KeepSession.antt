-- A sound session that has noted one more entry is sound. Assumes nothing.
use Rattle.std.proofs.Common.{None, Some}
use Prim.Native.Nat.{ℕ, ◌<◌, ◌≤◌}
use mathlib.Core.Bool.{true}
use mathlib.Core.List.{Memᴰ}
use mathlib.Core.Logic.{⊎_elim}
use mathlib.Core.Path.{◌≡◌, refl}
use native.Mathlib.Omega.{arith}
use Rattle.causal.specs.Clocks.{join}
use Rattle.causal.specs.Lists.{zeros}
use Rattle.causal.specs.Sets.{IdSet, inserted}
use Rattle.causal.proofs.Sets.{ids_inserted, ids_zeros, in_inserted, inserted_old}
use Rattle.frame.specs.Entries.{entry_ok, id_of}
use Rattle.frame.specs.Sessions.{Content, SaneEntry, session_ok}
use Rattle.frame.specs.declared.entry.Entry.{Entry}
use Rattle.frame.proofs.Entries.{entry_facts}
use Rattle.frame.proofs.Ids.{id_range, ids_of_lem, ids_range, join_ok}
use Rattle.frame.proofs.Sessions.{facts_session, own_more, session_facts}
use Rattle.store.specs.Offices.{Found}
use Rattle.office.specs.Calls.{noted}

pub noted_ok : (n p : ℕ) (f : Found) (s : Content) → n ≤ 8 → IdSet s.read → ((e : Entry) → Memᴰ e s.own → SaneEntry e)
    → ((h : Entry) → f ≡ Some h → entry_ok n p h ≡ true) →
    session_ok n p s ≡ true → session_ok n p (noted f s) ≡ true
unfolding noted
noted_ok n p None s n8 w sane ok h = h
noted_ok n p (Some e) s n8 w sane ok h =
    let F = session_facts n p s h in
    let G = entry_facts n p e (ok e refl) in
    let x = id_range n p e G in
    let x8 : id_of e < 256 = omega arith in
    let w' = ids_inserted s.read (id_of e) w in
    facts_session n p (record { offices = s.offices; clock = join s.clock e.clock; read = inserted s.read (id_of e); own = s.own })
    (record {
      offices = F.offices;
      few = F.few;
      clock = join_ok n s.clock e.clock F.clock G.clock;
      ids =
          ids_of_lem n (inserted s.read (id_of e)) w'
          (λ d m. ⊎_elim (λ (q : d ≡ id_of e). rw q x) (λ i. ids_range n s.read w F.ids d i) (in_inserted s.read (id_of e) d x8 w m));
      own =
          own_more n p s.read (inserted s.read (id_of e)) w w' (λ d m. inserted_old s.read (id_of e) x8 w d m) zeros ids_zeros
          s.own sane F.own;
    })
