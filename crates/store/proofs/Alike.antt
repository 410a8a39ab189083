-- The words after a hold. Assumes nothing.
use Rattle.std.proofs.Common.{◌≡◌, ℕ, List, ap, ◌∙◌}
use lib.Seq.{sets}
use Rattle.causal.specs.Lists.{part}
use Rattle.causal.specs.Sets.{inserted}
use Rattle.frame.specs.declared.entry.Entry.{Entry}
use Rattle.frame.specs.Entries.{id_of}
use Rattle.store.specs.Offices.{slot_at, entry_words}
use Rattle.store.specs.Slots.{hold_words}

pub hold_is : (ws : List ℕ) (e : Entry) (k : ℕ) (held more new after : List ℕ) → k ≡ id_of e → held ≡ part ws 3 8 → more ≡ inserted held k
    → new ≡ sets ws (slot_at k) (entry_words e) → after ≡ sets new 3 more → after ≡ hold_words ws e
unfolding hold_words
hold_is ws e k held more new after q h m n a =
    a ∙ ap (λ (l : List ℕ). sets l 3 more) n ∙ ap (sets (sets ws (slot_at k) (entry_words e)) 3) (m ∙ ap (λ (l : List ℕ). inserted l k) h)
    ∙ ap (λ (j : ℕ). sets (sets ws (slot_at j) (entry_words e)) 3 (inserted (part ws 3 8) j)) q
