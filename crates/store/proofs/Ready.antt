-- A sound store and seeds that it holds: what the steps of a reveal start from. Assumes nothing.
use Rattle.std.proofs.Common.{◌≡◌, ℕ, ◌^◌, ◌<◌, true, List, get_or, ap, ⊎_elim, arith}
use Rattle.causal.specs.Lists.{part}
use Rattle.causal.specs.Sets.{has, IdSet, subset_of}
use Rattle.causal.proofs.Lists.{part_length}
use Rattle.causal.proofs.Sets.{is_in_lem, has_in, has_lt, ids_zeros, in_or_out, subset_sound, subset_within}
use Rattle.frame.specs.declared.entry.Entry.{Entry}
use Rattle.store.specs.Offices.{entry_at, office_of, sound_store}
use Rattle.store.proofs.Keep.{Sound, store_facts}
use Rattle.store.proofs.Reached.{Ready}
use Rattle.store.proofs.Rules.{Rules}

-- what the ids of a store depend on
abbrev pub deps_in : List ℕ → ℕ → List ℕ
deps_in ws k = ((office_of ws).entry k).deps

-- the entry of a held id is the one in its slot
pub entry_held : (ws : List ℕ) (k : ℕ) → has (part ws 3 8) k ≡ 1 → (office_of ws).entry k ≡ entry_at ws k
unfolding office_of
entry_held ws k h = rw (is_in_lem (part ws 3 8) k h)

-- so is that of a visible one
pub entry_visible : (ws : List ℕ) → Rules ws → (k : ℕ) → has (part ws 11 8) k ≡ 1 → (office_of ws).entry k ≡ entry_at ws k
entry_visible ws r k h =
    let l = has_in (part ws 11 8) k (omega (arith, part_length ws 11 8 (omega (arith, r.laid.long)))) h in
    entry_held ws k (omega (arith, subset_sound (part ws 11 8) (part ws 3 8) r.visible_held k l, has_lt (part ws 3 8) k))

pub ready : (ws : List ℕ) → ((i : ℕ) → get_or ws i 0 < 2 ^ 32) → sound_store ws ≡ true → (seeds : List ℕ) → IdSet seeds → subset_of seeds (part ws 3 8) ≡ true
    → Ready (deps_in ws) (part ws 3 8) (part ws 11 8) (get_or ws 0 0) seeds
unfolding office_of
ready ws words sound seeds w s =
    record {
      sets = ids;
      visible_set = F.visible_set;
      held_in = F.range;
      held_closed = F.held_closed;
      visible_held = F.visible_held;
      visible_closed = F.visible_closed;
      seeds_held = subset_within seeds (part ws 3 8) w s;
    }
  where
    F : Sound (office_of ws)
    F = store_facts ws words sound

    ids : (k : ℕ) → IdSet (deps_in ws k)
    ids k = ⊎_elim (λ h. F.deps_set k h) (λ h. rw (ap (λ (e : Entry). e.deps) (F.none k h)) ids_zeros) (in_or_out (part ws 3 8) k)
