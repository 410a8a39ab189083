-- The sessions that accepted calls leave, as structs and as contents. Assumes nothing.
use Rattle.std.specs.Prelude.{None, Option, Some, is_some}
use Rattle.std.specs.Option.{unwrap_or}
use Prim.Native.Nat.{ℕ, suc, zero, ◌+◌, ◌<◌}
use mathlib.Core.List.{List, [], ◌++◌, ◌∷◌}
use mathlib.Core.Path.{◌∙◌, ◌≡◌, ap, refl, sym}
use native.Mathlib.Omega.{arith}
use lib.ListN.{get_or, length, length-set, set}
use lib.Seq.{get_or-set_other, get_or-set_same}
use Rattle.causal.specs.Clocks.{join}
use Rattle.causal.specs.Lists.{tab}
use Rattle.causal.proofs.Lists.{tab_more}
use Rattle.frame.specs.Entries.{blank_entry}
use Rattle.frame.specs.Sessions.{Content, content_of, nobody}
use Rattle.frame.specs.declared.entry.Entry.{Entry}
use Rattle.frame.specs.declared.session.Session.{Session}
use Rattle.frame.proofs.OwnTurns.{count_is}
use Rattle.store.specs.Offices.{Found, Office, current, office_of, reveal, sound_store}
use Rattle.office.specs.Answers.{any_found, entry_found, extended_by, noted_in, read_plot_session, session_if}
use Rattle.office.specs.Calls.{new_entry, read_plot, write, write_code, write_on, wrote_session}
use Rattle.ring.proofs.WriteKeeps.{last_snoc}
use Rattle.script.specs.declared.reply.Reply.{Reply}
use Rattle.script.specs.declared.reply.Reply.TheVariants.{Found as FoundEntry, Wrote}
use Rattle.player.specs.Play.{read_reply, wrote_reply}
use Rattle.player.specs.Steps.{entry_reply}
use Rattle.player.proofs.Accepted.{no_refusal}

abbrev pub wrote_name : Entry → Reply
wrote_name e = Wrote e.office e.serial

tab_ext : {A : Type 0} (n : ℕ) (f g : ℕ → A) → ((i : ℕ) → i < n → f i ≡ g i) → tab n f ≡ tab n g
unfolding tab
tab_ext zero f g h = refl
tab_ext (suc n) f g h = λ i. tab_ext n f g (λ k l. h k (omega arith)) i ++ (h n (omega arith) i ∷ [])

-- one own entry more
own_more : (own : List Entry) (n : ℕ) (e : Entry) → n < length own →
    tab (n + 1) (λ i. get_or (set own n e) i nobody) ≡ tab n (λ i. get_or own i nobody) ++ (e ∷ [])
own_more own n e h =
    tab_more n (λ i. get_or (set own n e) i nobody)
    ∙ (λ i. tab_ext n (λ k. get_or (set own n e) k nobody) (λ k. get_or own k nobody) (λ k l. get_or-set_other own n k e nobody (λ (q : k ≡ n). omega arith)) i
    ++ (get_or-set_same own n e nobody h i ∷ []))

extended : (s : Session) (O : Office) (plot value : ℕ) → s.count < length s.own
    → content_of (extended_by s (new_entry O (content_of s) plot value)) ≡ wrote_session O (content_of s) plot value
unfolding content_of extended_by wrote_session
extended s O plot value h =
    λ i.
    record {
      offices = s.offices;
      clock = join s.clock (new_entry O (content_of s) plot value).clock;
      read = s.read;
      own = own_more s.own s.count (new_entry O (content_of s) plot value) h i;
    }

accepted_session : (ws : List ℕ) (s : Content) (plot value : ℕ) (row : List ℕ) → (write ws s plot value row).code ≡ 0
    → (write ws s plot value row).session ≡ wrote_session (office_of ws) s plot value
unfolding write write_on
accepted_session ws s plot value row h =
    let z = no_refusal (sound_store ws) (write_code (office_of ws) s plot value (length row)) ws (office_of ws) s row _ h in rw (z.0, z.1)

noted_size : (s : Session) (f : Found) → length (noted_in f s).own ≡ length s.own
unfolding noted_in
noted_size s None = refl
noted_size s (Some e) = refl

module _ (ws : List ℕ) (s : Session) (size : length s.own ≡ 16) where
  module _ (plot value : ℕ) (row : List ℕ) (z : (write ws (content_of s) plot value row).code ≡ 0) where
    pub write_session : length (content_of s).own < 16 → (write ws (content_of s) plot value row).session ≡ content_of (extended_by s (new_entry (office_of ws) (content_of s) plot value))
    write_session few = accepted_session ws (content_of s) plot value row z ∙ sym (extended s (office_of ws) plot value (omega (arith, count_is s)))

    -- "`W` and name"
    pub write_reply : wrote_reply (write ws (content_of s) plot value row).session.own ≡ wrote_name (new_entry (office_of ws) (content_of s) plot value)
    unfolding wrote_reply wrote_session
    write_reply =
        ap (λ (c : Content). wrote_reply c.own) (accepted_session ws (content_of s) plot value row z)
        ∙ ap wrote_name (last_snoc (content_of s).own (new_entry (office_of ws) (content_of s) plot value))

  pub write_size : (e : Entry) → length (extended_by s e).own ≡ 16
  unfolding extended_by
  write_size e = length-set s.own s.count e ∙ size

  pub read_size : (plot : ℕ) → (read_plot ws (content_of s) plot).code ≡ 0 → length (read_plot_session ws s plot).own ≡ 16
  unfolding read_plot_session session_if
  read_size plot z = rw z (noted_size s (current (reveal (office_of ws) s.read) plot) ∙ size)

pub found_is : (o : Option Entry) (fs : List Found) → is_some o ≡ any_found fs → unwrap_or o blank_entry ≡ entry_found fs → entry_reply o ≡ read_reply fs
unfolding any_found entry_found read_reply
found_is None [] p q = refl
found_is None (None ∷ fs) p q = refl
found_is None (Some e ∷ fs) p q = cc
found_is (Some x) [] p q = cc
found_is (Some x) (None ∷ fs) p q = cc
found_is (Some x) (Some e ∷ fs) p q = ap (λ (y : Entry). FoundEntry y.value y.office y.serial) q
