-- A sound store, as a call gets it: what code does to its words is what the rules do to its content. Assumes nothing.
use Rattle.std.proofs.Common.{◌≡◌, ℕ, ◌^◌, ◌<◌, ◌≤◌, true, List, length, get_or, sym, ap, ◌∙◌}
use lib.Seq.{sets}
use Rattle.causal.specs.Lists.{part}
use Rattle.causal.specs.Sets.{IdSet, Within, subset_of}
use Rattle.causal.proofs.Sets.{subset_within}
use Rattle.store.specs.Offices.{need, office_of, store_words, sound_store, reveal, current}
use Rattle.store.specs.Reveal.{revealed}
use Rattle.store.specs.declared.reveal.Revealed.{Revealed}
use Rattle.store.specs.Current.{current_at, found_at}
use Rattle.store.proofs.Bridge.{store_same}
use Rattle.store.proofs.Keep.{Sound, store_facts, reveal_sound}
use Rattle.store.proofs.Rules.{laid}
use Rattle.store.proofs.Changes.{show_words, shown_held, current_words, revealed_visible}

module _ (ws : List ℕ) (words : (i : ℕ) → get_or ws i 0 < 2 ^ 32) (sound : sound_store ws ≡ true) where
  same : store_words ws (office_of ws) ≡ ws
  same = store_same ws (laid ws sound).long

  long : need (office_of ws).offices ≤ length ws
  unfolding office_of
  long = (laid ws sound).long

  facts : Sound (office_of ws)
  facts = store_facts ws words sound

  -- to reveal: r is what `revealed_by` returned
  module _ (seeds : List ℕ) (w : IdSet seeds) (s : subset_of seeds (part ws 3 8) ≡ true) (r : Revealed)
      (e : r ≡ revealed (λ k. ((office_of ws).entry k).deps) (get_or ws 0 0) (part ws 11 8) seeds) where
    inside : Within seeds (office_of ws).held
    unfolding office_of
    inside = subset_within seeds (part ws 3 8) w s

    visible : r.visible ≡ (reveal (office_of ws) seeds).visible
    visible = revealed_visible ws seeds r e

    pub reveal_store : sets ws 11 r.visible ≡ store_words ws (reveal (office_of ws) seeds)
    reveal_store =
        ap (λ (x : List ℕ). sets x 11 r.visible) (sym same) ∙ ap (sets (store_words ws (office_of ws)) 11) visible
        ∙ show_words ws (office_of ws) facts long seeds w inside

    -- as `current` asks
    pub reveal_held : subset_of r.visible (part ws 3 8) ≡ true
    reveal_held =
        ap (λ (x : List ℕ). subset_of x (part ws 3 8)) visible ∙ ap (λ (x : List ℕ). subset_of (reveal (office_of ws) seeds).visible (part x 3 8)) (sym same)
        ∙ shown_held ws (office_of ws) facts long seeds w inside

    pub reveal_ids : IdSet r.visible
    reveal_ids = rw visible (reveal_sound (office_of ws) facts seeds w inside).visible_set

    pub reveal_current : (plot : ℕ) → current (reveal (office_of ws) seeds) plot ≡ found_at ws (current_at ws r.visible plot)
    reveal_current plot =
        current_words ws (office_of ws) facts long seeds w inside plot
        ∙ ap (λ (x : List ℕ). found_at x (current_at x (reveal (office_of ws) seeds).visible plot)) same
        ∙ ap (λ (x : List ℕ). found_at ws (current_at ws x plot)) (sym visible)
