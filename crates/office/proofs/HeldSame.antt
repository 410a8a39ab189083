-- What is held and is refused with neither 10 nor 11 is the very entry that is held: refusal 11, "it is held with other content", compares all of
-- the content; and what is held with other content is refused. Assumes nothing.
use mathlib.Core.Bool.{Bool, false, true}
use mathlib.Core.Path.{◌≡◌, refl}
use native.Mathlib.Omega.{arith}
use lib.Dec.{eqb}
use Rattle.causal.specs.Codes.{check}
use Rattle.causal.specs.Sets.{is_in}
use Rattle.causal.specs.Tests.{implies}
use Rattle.causal.proofs.Codes.{check_none}
use Rattle.causal.proofs.Tests.{implies_elim}
use Rattle.frame.specs.Entries.{id_of, same_content}
use Rattle.frame.specs.declared.entry.Entry.{Entry}
use Rattle.frame.proofs.SameContent.{same_content_is}
use Rattle.store.specs.Offices.{Office}
use Rattle.office.specs.Calls.{entry_code}

module _ (O : Office) (e : Entry) (in_held : is_in O.held (id_of e) ≡ true) where
  pub held_same : entry_code O e ≡ 0 → e.office ≡ (O.entry (id_of e)).office → e.serial ≡ (O.entry (id_of e)).serial → e ≡ O.entry (id_of e)
  unfolding entry_code
  held_same h o s =
      let a = check_none (implies (eqb e.office O.own) (is_in O.held (id_of e))) 10 _ (omega arith) h in
      let b = check_none (implies (is_in O.held (id_of e)) (same_content e (O.entry (id_of e)))) 11 0 (omega arith) a.1 in
      same_content_is e (O.entry (id_of e)) (implies_elim (is_in O.held (id_of e)) (same_content e (O.entry (id_of e))) b.0 in_held) o s

  pub held_other : same_content e (O.entry (id_of e)) ≡ false → entry_code O e ≡ 11
  unfolding entry_code check implies
  held_other h = rw (in_held, h) (own (eqb e.office O.own))
    where
      own : (t : Bool) → check (implies t true) 10 11 ≡ 11
      own true = refl
      own false = refl
