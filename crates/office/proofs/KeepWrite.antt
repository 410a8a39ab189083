-- A write on a sound office leaves a sound one, whatever the session. Assumes nothing.
use Prim.Native.Nat.{ℕ, ◌*◌, ◌+◌, ◌/◌, ◌<◌, suc, zero}
use mathlib.Core.Bool.{Bool, false, true}
use mathlib.Core.List.Memᴰ
use mathlib.Core.List.{List, Memᴰ, [], map}
use mathlib.Core.Logic.{◌⊎◌, inl, inr, ⊎_elim}
use mathlib.Core.Path.{◌∙◌, ◌≡◌, ap, refl, sym}
use native.Mathlib.Omega.{arith}
use lib.Dec.{leb, ltb}
use lib.ListN.{length}
use borrow.Author.Tests.{ltb-true}
use Rattle.causal.specs.Codes.{check, or_else}
use Rattle.causal.specs.Lists.{zeros}
use Rattle.causal.specs.Sets.{IdSet, Within, has, subset_of}
use Rattle.causal.proofs.Sets.{in_or_out, subset_within}
use Rattle.frame.specs.Calls.{laid}
use Rattle.frame.specs.Entries.{entry_ok, id_of}
use Rattle.frame.specs.Sessions.{Content, SaneContent, ids_of, session_ok}
use Rattle.frame.specs.Tokens.{rows_of}
use Rattle.frame.specs.declared.entry.Entry.{Entry}
use Rattle.frame.specs.declared.entry.Frame.{Frame}
use Rattle.frame.proofs.Entries.{entry_facts}
use Rattle.frame.proofs.Ids.{id_office, id_range}
use Rattle.frame.proofs.Sessions.{SessionFacts, ids_from, ids_new, own_ok_lem, session_facts}
use Rattle.store.specs.Offices.{Office, made}
use Rattle.store.proofs.Keep.{Sound, Takes, hold_sound}
use Rattle.office.specs.Calls.{Result, given, hold_all, missing, new_entry, own_code, sent_of, write_code, write_on, write_sends, wrote_session}
use Rattle.office.proofs.Along.{Along, along_own, hold_end, start_along}
use Rattle.office.proofs.KeepCalls.{all_known}
use Rattle.office.proofs.New.{Counting, Writable, deps_from, deps_set, id_is, new_clock8, new_next, new_not_held, new_ok}

module _ (O : Office) (S : Sound O) (s : Content) (N : SaneContent s) (plot value : ℕ) where
  module _ (session-ok : session_ok O.offices O.plots s ≡ true) (plot_ok : ltb plot O.plots ≡ true)
      (value_ok : ltb value 268435456 ≡ true) (few-ok : ltb (made O) 32 ≡ true)
      (read_ok : subset_of s.read O.held ≡ true) (own_zero : own_code O s.own ≡ 0) where
    F : SessionFacts O.offices O.plots s
    F = session_facts O.offices O.plots s session-ok

    read_held : Within s.read O.held
    read_held = subset_within s.read O.held N.read read_ok

    own_range : (x : Entry) → Memᴰ x s.own → id_of x < 32 * O.offices
    own_range x m = id_range O.offices O.plots x (entry_facts O.offices O.plots x (own_ok_lem O.offices O.plots s F x m))

    own_small : (x : Entry) → Memᴰ x s.own → id_of x < 256
    own_small x m = omega (arith, own_range x m, S.few)

    counting : Counting O.offices O.own O
    counting = record { in_ring = S.own_low; own_is = refl; offices_is = refl; gap = S.gap; few = ltb-true (made O) 32 few-ok }

    not_held : has O.held (32 * O.own + made O) ≡ 0
    not_held = new_not_held counting

    not_read : has s.read (32 * O.own + made O) ≡ 0
    not_read =
        ⊎_elim (λ (h : has s.read (32 * O.own + made O) ≡ 1). omega (arith, read_held (32 * O.own + made O) h, not_held)) (λ h. h)
        (in_or_out s.read (32 * O.own + made O))

    pub not_own : Memᴰ (32 * O.own + made O) (map id_of s.own) → ⊥
    not_own m =
        let t = Memᴰ.of_map id_of s.own m in
        let G = entry_facts O.offices O.plots t.0 (own_ok_lem O.offices O.plots s F t.0 t.1) in
        let c : id_of t.0 / 32 ≡ O.own = ap (λ (x : ℕ). x / 32) t.2 ∙ omega (arith, counting.few) in
        let h = (all_known O s.own own_zero t.0 t.1).home (sym (id_office O.offices O.plots t.0 G) ∙ c) in
        let h' : has O.held (32 * O.own + made O) ≡ 1 = ap (has O.held) (sym t.2) ∙ h in
        omega (arith, not_held)

    writable : Writable O.offices O.plots O.own O s plot value
    writable =
        record {
          count = counting;
          high = S.few;
          plot_ok = ltb-true plot O.plots plot_ok;
          value_ok = ltb-true value 268435456 value_ok;
          clock8 = N.clock8;
          clock_ok_lem = F.clock;
          read_set = N.read;
          own_range = own_range;
          read_range = λ d h. S.range d (read_held d h);
          not_read = not_read;
          not_own = not_own;
          visible_ok = λ x h. (entry_facts O.offices O.plots (O.entry x) (S.ok x (S.visible_held x h))).clock;
        }

    pub e_ok : entry_ok O.offices O.plots (new_entry O s plot value) ≡ true
    e_ok = new_ok writable

    pub e_set : IdSet (new_entry O s plot value).deps
    e_set = deps_set writable

    pub e_from : (d : ℕ) → has (new_entry O s plot value).deps d ≡ 1 → (has s.read d ≡ 1) ⊎ Memᴰ d (map id_of s.own)
    e_from = deps_from writable

    e_clock8 : length (new_entry O s plot value).clock ≡ 8
    e_clock8 = new_clock8 writable

    pub e_id : id_of (new_entry O s plot value) ≡ 32 * O.own + made O
    e_id = id_is counting s plot value

    pub A : Along O (hold_all O (missing O s.own)) (ids_of s.own)
    unfolding ids_of
    A =
        along_own O S s.read N.read read_held s.own O zeros (start_along O S s.read N.read read_held) F.own
        (λ x m. (N.own x m, all_known O s.own own_zero x m))

    pub takes : Takes (hold_all O (missing O s.own)) (new_entry O s plot value)
    takes =
        record {
          ok =
              ap (λ (x : ℕ). entry_ok x (hold_all O (missing O s.own)).plots (new_entry O s plot value)) A.offices
              ∙ ap (λ (x : ℕ). entry_ok O.offices x (new_entry O s plot value)) A.plots
              ∙ e_ok;
          clock8 = e_clock8;
          deps_set = e_set;
          new =
              ⊎_elim
              (λ (h : has (hold_all O (missing O s.own)).held (id_of (new_entry O s plot value)) ≡ 1). absurd
              (clash (A.from (id_of (new_entry O s plot value)) h)))
              (λ h. h) (in_or_out (hold_all O (missing O s.own)).held (id_of (new_entry O s plot value)));
          deps_held = λ d m. ⊎_elim (λ i. A.to d (read_held d i)) (λ i. A.seen_held d (ids_new s.own own_small d i)) (e_from d m);
          next = λ t l q. next t l (ap (λ (x : ℕ). 32 * x + (t + 1)) (sym A.own) ∙ q ∙ e_id);
        }
      where
        clash : (has O.held (id_of (new_entry O s plot value)) ≡ 1) ⊎ (has (ids_of s.own) (id_of (new_entry O s plot value)) ≡ 1) → ⊥
        clash (inl h) = let h' : has O.held (32 * O.own + made O) ≡ 1 = ap (has O.held) (sym e_id) ∙ h in omega (arith, not_held)
        clash (inr h) = not_own (ids_from s.own own_small (32 * O.own + made O) (ap (has (ids_of s.own)) (sym e_id) ∙ h))

        next : (t : ℕ) → t < 31 → 32 * O.own + (t + 1) ≡ 32 * O.own + made O
            → has (hold_all O (missing O s.own)).held (32 * (hold_all O (missing O s.own)).own + t) ≡ 1
        next t l q =
            ap (λ (x : ℕ). has (hold_all O (missing O s.own)).held (32 * x + t)) A.own
            ∙ A.to (32 * O.own + t) (new_next counting t l q)

    pub wrote_sound : Sound (hold_all O (sent_of O s plot value))
    unfolding sent_of
    wrote_sound =
        rw (hold_end O (missing O s.own) (new_entry O s plot value))
        (hold_sound (hold_all O (missing O s.own)) A.sound (new_entry O s plot value) takes)

  abbrev pub R : List ℕ → Result Office Frame
  R row =
      record {
        code = 0;
        count = length (rows_of (write_sends O s plot value));
        found = [];
        store = hold_all O (sent_of O s plot value);
        session = wrote_session O s plot value;
        row = laid (rows_of (write_sends O s plot value)) row;
        sent = write_sends O s plot value;
      }

  pub write_keeps : (row : List ℕ) → Sound (write_on O s plot value row).store
  unfolding write_on write_code check or_else
  write_keeps row =
      go (session_ok O.offices O.plots s) refl (ltb plot O.plots) refl (ltb value 268435456) refl (ltb (length s.own) 16)
      (ltb (made O) 32) refl (subset_of s.read O.held) refl (own_code O s.own) refl
      (leb (length (rows_of (write_sends O s plot value))) (length row))
    where
      go : (a : Bool) → session_ok O.offices O.plots s ≡ a → (b : Bool) → ltb plot O.plots ≡ b → (c : Bool) → ltb value 268435456 ≡ c
          → (d f : Bool) → ltb (made O) 32 ≡ f → (h : Bool) → subset_of s.read O.held ≡ h → (x : ℕ) → own_code O s.own ≡ x → (y : Bool) →
          Sound (given (check a 3 (check b 4 (check c 5 (check d 7 (check f 6 (check h 12 (or_else x (check y 8 0)))))))) O s row (R row)).store
      go true qa true qb true qc true true qf true qh zero qx true = wrote_sound qa qb qc qf qh qx
      go true qa true qb true qc true true qf true qh zero qx false = S
      go true qa true qb true qc true true qf true qh (suc x) qx y = S
      go true qa true qb true qc true true qf false qh x qx y = S
      go true qa true qb true qc true false qf h qh x qx y = S
      go true qa true qb true qc false f qf h qh x qx y = S
      go true qa true qb false qc d f qf h qh x qx y = S
      go true qa false qb c qc d f qf h qh x qx y = S
      go false qa b qb c qc d f qf h qh x qx y = S
