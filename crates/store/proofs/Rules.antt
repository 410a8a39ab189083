-- Soundness: how the checks of a store go together, and what a sound store says. Assumes nothing.
use Rattle.std.proofs.Common.{◌≡◌, ℕ, ◌+◌, ◌*◌, ◌<◌, ◌≤◌, Bool, true, false, cond, eqb, ltb, leb, List, length, get_or, sym, refl, ap, ◌∙◌, ap₂, arith, ltb-true, eqb-true, leb-true}
use borrow.Author.Tests.{lt-leb}
use Rattle.causal.specs.Tests.{both, implies, all_below}
use Rattle.causal.specs.Lists.{part}
use Rattle.causal.specs.Sets.{bit, has, is_empty, is_in, subset_of}
use Rattle.causal.proofs.Tests.{both_false, both_intro, both_true, all_at, all_ext, all_intro, implies_elim}
use Rattle.causal.proofs.Sets.{empty_out, is_in_lem, has_in, has_lt, subset_sound}
use Rattle.causal.proofs.Lists.{part_length}
use Rattle.causal.proofs.Walk.{has_word}
use Rattle.frame.specs.declared.entry.Entry.{Entry}
use Rattle.frame.specs.Entries.{entry_ok, blank_entry}
use Rattle.frame.specs.Frames.{ring_ok}
use Rattle.store.specs.Offices.{need, slot_at, entry_at, office_of, settings_ok, held_ok, gapless, sound_office, sound_store}
use Rattle.store.specs.Slots.{Laid, no_gap, fits, slot_ok}

-- ---- the content of a store

pub slot_is : (ws : List ℕ) (k : ℕ) → held_ok (office_of ws) k ≡ slot_ok ws (get_or ws 0 0) (get_or ws 2 0) (part ws 3 8) (part ws 11 8) k
unfolding held_ok office_of slot_ok fits implies
slot_is ws k = go (is_in (part ws 3 8) k)
  where
    rest : Entry → Bool
    rest e =
        both (ltb k (32 * get_or ws 0 0))
        (both (entry_ok (get_or ws 0 0) (get_or ws 2 0) e)
        (both (subset_of e.deps (part ws 3 8)) (implies (is_in (part ws 11 8) k) (subset_of e.deps (part ws 11 8)))))

    go : (t : Bool) → implies t (rest (cond t (entry_at ws k) blank_entry)) ≡ implies t (rest (entry_at ws k))
    go true = refl
    go false = refl

gap_is : (ws : List ℕ) → all_below 31 (gapless (office_of ws)) ≡ no_gap (get_or (part ws 3 8) (get_or ws 1 0) 0)
unfolding gapless office_of no_gap is_in
gap_is ws =
    all_ext (gapless (office_of ws)) _ 31
    (λ s l.
    ap₂ (λ (x y : ℕ). implies (eqb x 1) (eqb y 1)) (has_word (part ws 3 8) (get_or ws 1 0) (s + 1) (omega arith)) (has_word (part ws 3 8) (get_or ws 1 0) s (omega arith)))

-- the checks of a store's content, as code asks them
pub content_is : (ws held visible : List ℕ) → held ≡ part ws 3 8 → visible ≡ part ws 11 8 → (x : Bool)
    → x ≡ both (subset_of visible held) (both (all_below 256 (slot_ok ws (get_or ws 0 0) (get_or ws 2 0) held visible)) (no_gap (get_or held (get_or ws 1 0) 0)))
    → x ≡ sound_office (office_of ws)
unfolding sound_office office_of
content_is ws held visible h v x e =
    e ∙ ap₂ (λ (x y : List ℕ). both (subset_of y x) (both (all_below 256 (slot_ok ws (get_or ws 0 0) (get_or ws 2 0) x y)) (no_gap (get_or x (get_or ws 1 0) 0)))) h v
    ∙ ap₂ (λ (a b : Bool). both (subset_of (part ws 11 8) (part ws 3 8)) (both a b))
    (all_ext (slot_ok ws (get_or ws 0 0) (get_or ws 2 0) (part ws 3 8) (part ws 11 8)) (held_ok (office_of ws)) 256 (λ k l. sym (slot_is ws k)))
    (sym (gap_is ws))
    ∙ whole
  where
    whole : both (subset_of (part ws 11 8) (part ws 3 8)) (both (all_below 256 (held_ok (office_of ws))) (all_below 31 (gapless (office_of ws)))) ≡ sound_office (office_of ws)
    whole = refl

-- a store that holds nothing keeps the rules of held slots and of own serials
pub empty_content : (ws held visible : List ℕ) → get_or ws 1 0 < 8 → is_empty held ≡ true → subset_of visible held ≡ true
    → true ≡ both (subset_of visible held) (both (all_below 256 (slot_ok ws (get_or ws 0 0) (get_or ws 2 0) held visible)) (no_gap (get_or held (get_or ws 1 0) 0)))
unfolding slot_ok implies is_empty no_gap all_below both bit
empty_content ws held visible l e part_of = sym (both_intro _ _ part_of (both_intro _ _ slots gap))
  where
    slots : all_below 256 (slot_ok ws (get_or ws 0 0) (get_or ws 2 0) held visible) ≡ true
    slots =
        all_intro (slot_ok ws (get_or ws 0 0) (get_or ws 2 0) held visible) 256
        (λ k m. ap (λ (b : Bool). implies b (both (ltb k (32 * get_or ws 0 0)) (fits (get_or ws 0 0) (get_or ws 2 0) (entry_at ws k) k held visible))) (empty_out held e k m))

    gap : no_gap (get_or held (get_or ws 1 0) 0) ≡ true
    gap = ap no_gap (eqb-true (get_or held (get_or ws 1 0) 0) 0 (all_at (λ i. eqb (get_or held i 0) 0) 8 e (get_or ws 1 0) l))

-- ---- the store

-- a store that is too short for its settings
pub short : (ws : List ℕ) → length ws < need (get_or ws 0 0) → false ≡ sound_store ws
unfolding sound_store both
short ws l = go (settings_ok (get_or ws 0 0) (get_or ws 1 0) (get_or ws 2 0))
  where
    go : (s : Bool) → false ≡ both s (both (leb (need (get_or ws 0 0)) (length ws)) (sound_office (office_of ws)))
    go s = rw (lt-leb (need (get_or ws 0 0)) (length ws) l) (sym (both_false s))

pub settings_laid : (n o p : ℕ) → settings_ok n o p ≡ true → (n ≤ 8) × (o < n)
unfolding settings_ok ring_ok
settings_laid n o p h =
    let a = both_true (ring_ok n p) (ltb o n) h in
    let b = both_true (leb 2 n) (both (leb n 8) (both (leb 1 p) (leb p 64))) a.0 in
    let c = both_true (leb n 8) (both (leb 1 p) (leb p 64)) b.1 in
    (leb-true n 8 c.0, ltb-true o n a.1)

-- what a sound store says
pub record Rules (ws : List ℕ) : Type 0 where
  pub laid : Laid ws
  pub visible_held : subset_of (part ws 11 8) (part ws 3 8) ≡ true
  pub slot : (k : ℕ) → k < 256 → slot_ok ws (get_or ws 0 0) (get_or ws 2 0) (part ws 3 8) (part ws 11 8) k ≡ true

pub rules_of : (ws : List ℕ) → sound_store ws ≡ true → Rules ws
unfolding sound_store sound_office office_of
rules_of ws h =
    let a = both_true (settings_ok (get_or ws 0 0) (get_or ws 1 0) (get_or ws 2 0)) (both (leb (need (get_or ws 0 0)) (length ws)) (sound_office (office_of ws))) h in
    let b = both_true (leb (need (get_or ws 0 0)) (length ws)) (sound_office (office_of ws)) a.1 in
    let c = both_true (subset_of (part ws 11 8) (part ws 3 8)) (both (all_below 256 (held_ok (office_of ws))) (all_below 31 (gapless (office_of ws)))) b.1 in
    let d = both_true (all_below 256 (held_ok (office_of ws))) (all_below 31 (gapless (office_of ws))) c.1 in
    let s = settings_laid (get_or ws 0 0) (get_or ws 1 0) (get_or ws 2 0) a.0 in
    record {
      laid = record { long = leb-true (need (get_or ws 0 0)) (length ws) b.0; few = s.0; own = s.1 };
      visible_held = c.0;
      slot = λ k l. sym (slot_is ws k) ∙ all_at (held_ok (office_of ws)) 256 d.0 k l;
    }

pub laid : (ws : List ℕ) → sound_store ws ≡ true → Laid ws
laid ws h = (rules_of ws h).laid

-- the numbers of a store that is sound, and of one that is laid, for `using`
pub sound_few : (ws : List ℕ) → sound_store ws ≡ true → get_or ws 0 0 ≤ 8
sound_few ws h = (rules_of ws h).laid.few

pub sound_own : (ws : List ℕ) → sound_store ws ≡ true → get_or ws 1 0 < get_or ws 0 0
sound_own ws h = (rules_of ws h).laid.own

pub sound_long : (ws : List ℕ) → sound_store ws ≡ true → need (get_or ws 0 0) ≤ length ws
sound_long ws h = (rules_of ws h).laid.long

pub sound_front : (ws : List ℕ) → sound_store ws ≡ true → 19 ≤ length ws
sound_front ws h = let l = laid ws h in omega (arith, l.long)

pub ruleset numbers = (sound_few, sound_own, sound_long, sound_front, laid)

-- of a held id
pub record Held (ws : List ℕ) (k : ℕ) : Type 0 where
  pub small : k < 256
  pub range : k < 32 * get_or ws 0 0
  pub reach : slot_at k + 18 ≤ length ws
  pub deps_held : subset_of (entry_at ws k).deps (part ws 3 8) ≡ true
  pub deps_visible : is_in (part ws 11 8) k ≡ true → subset_of (entry_at ws k).deps (part ws 11 8) ≡ true

pub held : (ws : List ℕ) → Rules ws → (k : ℕ) → has (part ws 3 8) k ≡ 1 → Held ws k
unfolding slot_ok fits
held ws r k h =
    let L = r.laid in
    let l : k < 256 = has_in (part ws 3 8) k (omega (arith, part_length ws 3 8 (omega (arith, L.long)))) h in
    let n : ℕ = get_or ws 0 0 in
    let E = entry_at ws k in
    let a = implies_elim _ _ (r.slot k l) (is_in_lem (part ws 3 8) k h) in
    let b = both_true (ltb k (32 * get_or ws 0 0)) _ a in
    let c = both_true (entry_ok (get_or ws 0 0) (get_or ws 2 0) (entry_at ws k)) _ b.1 in
    let d = both_true (subset_of (entry_at ws k).deps (part ws 3 8)) _ c.1 in
    let g = ltb-true k (32 * get_or ws 0 0) b.0 in
    record { small = l; range = g; reach = omega (arith, L.long); deps_held = d.0; deps_visible = λ v. implies_elim _ _ d.1 v }

-- the ids of a set that is held
pub reaches : (ws v : List ℕ) → Rules ws → length v ≡ 8 → subset_of v (part ws 3 8) ≡ true → (k : ℕ) → has v k ≡ 1 → Held ws k
reaches ws v r e s k h =
    let l = has_in v k (omega arith) h in
    held ws r k (omega (arith, subset_sound v (part ws 3 8) s k l, has_lt (part ws 3 8) k))

-- the same of one word of it
pub reach_word : (ws v : List ℕ) → Rules ws → length v ≡ 8 → subset_of v (part ws 3 8) ≡ true → (i b : ℕ) → b < 32 → bit (get_or v i 0) b ≡ 1 → slot_at (32 * i + b) + 18 ≤ length ws
reach_word ws v r e s i b l o = (reaches ws v r e s (32 * i + b) (has_word v i b l ∙ o)).reach
