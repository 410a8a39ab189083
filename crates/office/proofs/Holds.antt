-- The holds of a write and of a receive, on words: they leave the words of the office that Calls says. Assumes nothing.
use Prim.Native.Nat.{ℕ, ◌≤◌}
use mathlib.Core.Path.{◌≡◌, refl, sym, ap, ◌∙◌}
use mathlib.Core.Bool.{Bool, true, false, cond}
use mathlib.Core.List.{List, Memᴰ, [], ◌∷◌}
use lib.ListN.{length}
use Rattle.causal.specs.Sets.{IdSet, Within, inserted, is_in}
use Rattle.causal.proofs.Sets.{in_is, out_is}
use Rattle.frame.specs.declared.entry.Entry.{Entry}
use Rattle.frame.specs.Entries.{id_of}
use Rattle.frame.specs.Sessions.{SaneEntry, leave_out, own_ok}
use Rattle.frame.proofs.Sessions.{OwnFacts, own_facts}
use Rattle.store.specs.Offices.{Office, need, store_words, hold}
use Rattle.store.proofs.Keep.{Sound}
use Rattle.store.proofs.Changes.{hold_words_lem}
use Rattle.office.specs.Calls.{missing, hold_all}
use Rattle.office.specs.Steps.{hold_if, holds_in}
use Rattle.office.proofs.KeepCalls.{Known}
use Rattle.office.proofs.Along.{Along, along_held, along_takes, along_new}

-- own writes that are all held leave the store as it was
pub holds_none : (held ws : List ℕ) (es : List Entry) → ((e : Entry) → Memᴰ e es → is_in held (id_of e) ≡ true) → ws ≡ holds_in held ws es
unfolding holds_in
holds_none held ws [] h = refl
holds_none held ws (e ∷ es) h =
    holds_none held ws es (λ f m. h f (Memᴰ.tail m))
    ∙ ap (λ (b : Bool). holds_in held (hold_if b ws e) es) (sym (h e (Memᴰ.head refl)))

-- ---- own writes, on words and on contents

module _ (ws : List ℕ) (O : Office) (S : Sound O) (long : need O.offices ≤ length ws) (read : List ℕ) (read_set : IdSet read) (read_held : Within read O.held) where
  pub holds_are : (es : List Entry) (Oi : Office) (seen : List ℕ) → Along O Oi seen → own_ok O.offices O.plots read seen es ≡ true
      → ((e : Entry) → Memᴰ e es → SaneEntry e × Known O e)
      → holds_in O.held (store_words ws Oi) es ≡ store_words ws (hold_all Oi (missing O es))
  unfolding hold_all leave_out holds_in
  holds_are [] Oi seen A h sane = refl
  holds_are (e ∷ es) Oi seen A h sane =
      go (is_in O.held (id_of e)) refl (own_facts O.offices O.plots read seen e es h) (sane e (Memᴰ.head refl))
      (λ Oj B g. holds_are es Oj (inserted seen (id_of e)) B g (λ f m. sane f (Memᴰ.tail m)))
    where
      go : (t : Bool) → is_in O.held (id_of e) ≡ t → OwnFacts O.offices O.plots read seen e es → SaneEntry e × Known O e
          → ((Oj : Office) → Along O Oj (inserted seen (id_of e)) → own_ok O.offices O.plots read (inserted seen (id_of e)) es ≡ true
          → holds_in O.held (store_words ws Oj) es ≡ store_words ws (hold_all Oj (missing O es)))
          → holds_in O.held (hold_if t (store_words ws Oi) e) es ≡ store_words ws (hold_all Oi (cond t (missing O es) (e ∷ missing O es)))
      go true t F sk next = next Oi (along_held O S read read_set read_held Oi seen A e es F (in_is O.held (id_of e) t)) F.rest
      go false t F sk next =
          let T = along_takes O S read read_set read_held Oi seen A e es F (out_is O.held (id_of e) t) sk.0 sk.1 in
          let l : need Oi.offices ≤ length ws = rw A.offices long in
          ap (λ (x : List ℕ). holds_in O.held x es) (hold_words_lem ws Oi A.sound l e T)
          ∙ next (hold Oi e) (along_new O S read read_set read_held Oi seen A e es F T) F.rest
