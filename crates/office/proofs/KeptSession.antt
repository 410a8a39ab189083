-- The session left by a call is sound for the store, if it was. Assumes nothing.
use Rattle.std.proofs.Common.{None, Some}
use Prim.Native.Nat.{ℕ, ◌*◌, ◌+◌, ◌<◌, suc, zero}
use mathlib.Core.Bool.{Bool, false, true}
use mathlib.Core.List.{List, Memᴰ, [], ◌++◌, ◌∷◌}
use mathlib.Core.Logic.{⊎_elim}
use mathlib.Core.Path.{◌∙◌, ◌≡◌, ap, refl, sym}
use native.Mathlib.Omega.{arith}
use lib.Dec.{leb, ltb}
use lib.ListN.{length, length-append}
use borrow.Author.Tests.{ltb-true}
use Rattle.causal.specs.Clocks.{join}
use Rattle.causal.specs.Codes.{check, or_else}
use Rattle.causal.specs.Lists.{zeros}
use Rattle.causal.specs.Sets.{has, subset_of, unite}
use Rattle.causal.specs.Tests.{both}
use Rattle.causal.proofs.Sets.{ids_inserted, ids_unite, in_or_out, subset_by, subset_within, unite_left, unite_right}
use Rattle.frame.specs.Calls.{laid}
use Rattle.frame.specs.Entries.{entry_ok, id_of}
use Rattle.frame.specs.Sessions.{Content, SaneContent, ids_of, session_ok}
use Rattle.frame.specs.Tokens.{rows_of}
use Rattle.frame.specs.declared.entry.Entry.{Entry}
use Rattle.frame.proofs.Entries.{entry_facts}
use Rattle.frame.proofs.Ids.{id_range, join_ok}
use Rattle.frame.proofs.Sessions.{SessionFacts, facts_session, ids_from, ids_new, ids_set, own_end, own_ok_lem, session_facts}
use Rattle.store.specs.Offices.{Found, Office, current, made, reveal}
use Rattle.store.proofs.Best.{current_from}
use Rattle.store.proofs.Keep.{Sound, reveal_sound}
use Rattle.office.specs.Calls.{answer_words, given, handed_all, joint_code, joint_on, new_entry, noted, noted_all, own_code, plots_ok, read_all, read_code, read_on, write_code, write_on, write_sends, wrote_session}
use Rattle.office.proofs.KeepSession.{noted_ok}
use Rattle.office.proofs.KeepWrite.{R, e_from, e_id, e_ok, e_set, not_own}

-- ---- readings

abbrev Q : Office → Content → Type 0
Q O s = session_ok O.offices O.plots s ≡ true

pub noted_sane : (f : Found) (s : Content) → SaneContent s → SaneContent (noted f s)
unfolding noted join
noted_sane None s N = N
noted_sane (Some e) s N = record { clock8 = refl; read = ids_inserted s.read (id_of e) N.read; own = N.own }

module _ (O : Office) (S : Sound O) where
  -- what is current keeps the rules
  cur_ok : (q : ℕ) (h : Entry) → current O q ≡ Some h → entry_ok O.offices O.plots h ≡ true
  cur_ok q h e = let t = current_from O q h e in ap (entry_ok O.offices O.plots) t.3 ∙ S.ok t.0 (S.visible_held t.0 t.2)

  noted_q : (q : ℕ) (s : Content) → SaneContent s → Q O s → Q O (noted (current O q) s)
  noted_q q s N h = noted_ok O.offices O.plots (current O q) s S.few N.read N.own (cur_ok q) h

  all_q : (qs : List ℕ) (s : Content) → SaneContent s → Q O s → Q O (noted_all O qs s)
  unfolding noted_all
  all_q [] s N h = h
  all_q (q ∷ qs) s N h = all_q qs (noted (current O q) s) (noted_sane (current O q) s N) (noted_q q s N h)

module _ (O : Office) (S : Sound O) (s : Content) (N : SaneContent s) (h : session_ok O.offices O.plots s ≡ true) where
  after : subset_of s.read O.held ≡ true → Sound (reveal O s.read)
  after t = reveal_sound O S s.read N.read (subset_within s.read O.held N.read t)

  shift : (s' : Content) → session_ok (reveal O s.read).offices (reveal O s.read).plots s' ≡ true
      → session_ok O.offices O.plots s' ≡ true
  unfolding reveal
  shift s' q = q

  back : (s' : Content) → session_ok O.offices O.plots s' ≡ true
      → session_ok (reveal O s.read).offices (reveal O s.read).plots s' ≡ true
  unfolding reveal
  back s' q = q

  noted_session : (plots : List ℕ) → subset_of s.read O.held ≡ true → session_ok O.offices O.plots (noted_all (reveal O s.read) plots s) ≡ true
  noted_session plots q = shift (noted_all (reveal O s.read) plots s) (all_q (reveal O s.read) (after q) plots s N (back s h))

  pub read_session : (plot : ℕ) → session_ok O.offices O.plots (read_on O s plot).session ≡ true
  unfolding read_on read_code check
  read_session plot = go (session_ok O.offices O.plots s) (ltb plot O.plots) (subset_of s.read O.held) refl
    where
      go : (a b c : Bool) → subset_of s.read O.held ≡ c
          → session_ok O.offices O.plots (given (check a 3 (check b 4 (check c 12 0))) O s [] (read_all O s (plot ∷ []) [])).session ≡ true
      go true true true q = noted_session (plot ∷ []) q
      go true true false q = h
      go true false c q = h
      go false b c q = h

  pub joint_session : (plots row : List ℕ) → session_ok O.offices O.plots (joint_on O s plots row).session ≡ true
  unfolding joint_on joint_code check
  joint_session plots row =
      go (session_ok O.offices O.plots s) (both (leb (length plots) 16) (plots_ok O.plots plots)) (leb (3 * length plots) (length row))
      (subset_of s.read O.held) refl
    where
      go : (a b d c : Bool) → subset_of s.read O.held ≡ c
          → session_ok O.offices O.plots (given (check a 3 (check b 4 (check d 8 (check c 12 0)))) O s row (read_all O s plots (laid (answer_words (handed_all O s plots)) row))).session ≡ true
      go true true true true q = noted_session plots q
      go true true true false q = h
      go true true false c q = h
      go true false d c q = h
      go false b d c q = h

  -- ---- a write

  module _ (plot value : ℕ) where
    module _ (plot_ok : ltb plot O.plots ≡ true) (value_ok : ltb value 268435456 ≡ true) (room_ok : ltb (length s.own) 16 ≡ true)
        (few-ok : ltb (made O) 32 ≡ true)
        (read_ok : subset_of s.read O.held ≡ true) (own_zero : own_code O s.own ≡ 0) where
      F : SessionFacts O.offices O.plots s
      F = session_facts O.offices O.plots s h

      ok : entry_ok O.offices O.plots (new_entry O s plot value) ≡ true
      ok = e_ok O S s N plot value h plot_ok value_ok few-ok read_ok own_zero

      small : (x : Entry) → Memᴰ x s.own → id_of x < 256
      small x m =
          omega
          (arith, id_range O.offices O.plots x (entry_facts O.offices O.plots x (own_ok_lem O.offices O.plots s F x m)), S.few)

      not_seen : has (ids_of s.own) (id_of (new_entry O s plot value)) ≡ 0
      not_seen =
          ⊎_elim
          (λ (x : has (ids_of s.own) (id_of (new_entry O s plot value)) ≡ 1).
          absurd
          (not_own O S s N plot value h plot_ok value_ok few-ok read_ok own_zero
          (ids_from s.own small (32 * O.own + made O) (ap (has (ids_of s.own)) (sym (e_id O S s N plot value h plot_ok value_ok few-ok read_ok own_zero)) ∙ x))))
          (λ x. x) (in_or_out (ids_of s.own) (id_of (new_entry O s plot value)))

      within : subset_of (new_entry O s plot value).deps (unite s.read (ids_of s.own)) ≡ true
      within =
          subset_by (new_entry O s plot value).deps (unite s.read (ids_of s.own))
          (e_set O S s N plot value h plot_ok value_ok few-ok read_ok own_zero)
          (ids_unite s.read (ids_of s.own) N.read (ids_set s.own small))
          (λ d m.
          ⊎_elim (λ i. unite_left s.read (ids_of s.own) N.read d i)
          (λ i. unite_right s.read (ids_of s.own) (ids_set s.own small) d (ids_new s.own small d i))
          (e_from O S s N plot value h plot_ok value_ok few-ok read_ok own_zero d m))

      wrote_session_lem : session_ok O.offices O.plots (wrote_session O s plot value) ≡ true
      unfolding wrote_session ids_of
      wrote_session_lem =
          let G = entry_facts O.offices O.plots (new_entry O s plot value) ok in
          facts_session O.offices O.plots
          (record {
            offices = s.offices;
            clock = join s.clock (new_entry O s plot value).clock;
            read = s.read;
            own = s.own ++ (new_entry O s plot value ∷ []);
          })
          (record {
            offices = F.offices;
            few = omega (arith, length-append s.own (new_entry O s plot value ∷ []), ltb-true (length s.own) 16 room_ok);
            clock = join_ok O.offices s.clock (new_entry O s plot value).clock F.clock G.clock;
            ids = F.ids;
            own = own_end O.offices O.plots s.read zeros s.own (new_entry O s plot value) F.own ok not_seen within;
          })

    pub write_session : (row : List ℕ) → session_ok O.offices O.plots (write_on O s plot value row).session ≡ true
    unfolding write_on write_code check or_else
    write_session row =
        go (session_ok O.offices O.plots s) (ltb plot O.plots) refl (ltb value 268435456) refl (ltb (length s.own) 16) refl
        (ltb (made O) 32) refl (subset_of s.read O.held) refl (own_code O s.own) refl
        (leb (length (rows_of (write_sends O s plot value))) (length row))
      where
        go : (a b : Bool) → ltb plot O.plots ≡ b → (c : Bool) → ltb value 268435456 ≡ c → (d : Bool) → ltb (length s.own) 16 ≡ d
            → (f : Bool) → ltb (made O) 32 ≡ f → (i : Bool) → subset_of s.read O.held ≡ i → (x : ℕ) → own_code O s.own ≡ x → (y : Bool) →
            session_ok O.offices O.plots
            (given (check a 3 (check b 4 (check c 5 (check d 7 (check f 6 (check i 12 (or_else x (check y 8 0)))))))) O s row (R O S s N plot value row)).session ≡ true
        go true true qb true qc true qd true qf true qi zero qx true = wrote_session_lem qb qc qd qf qi qx
        go true true qb true qc true qd true qf true qi zero qx false = h
        go true true qb true qc true qd true qf true qi (suc x) qx y = h
        go true true qb true qc true qd true qf false qi x qx y = h
        go true true qb true qc true qd false qf i qi x qx y = h
        go true true qb true qc false qd f qf i qi x qx y = h
        go true true qb false qc d qd f qf i qi x qx y = h
        go true false qb c qc d qd f qf i qi x qx y = h
        go false b qb c qc d qd f qf i qi x qx y = h
