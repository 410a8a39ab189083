-- What is current lies in the slots of a store, what a session notes of it, and what an accepted start says. Assumes nothing.
use Rattle.std.proofs.Common.{None, Some}
use Prim.Native.Nat.{ℕ, ◌*◌, ◌≤◌}
use mathlib.Core.Path.{◌≡◌, refl}
use mathlib.Core.Bool.{true}
use mathlib.Core.List.{List}
use native.Mathlib.Omega.{arith}
use lib.ListN.{length, get_or}
use Rattle.causal.specs.Codes.{check}
use Rattle.causal.specs.Lists.{part}
use Rattle.causal.specs.Sets.{subset_of}
use Rattle.causal.proofs.Codes.{check_none}
use Rattle.causal.proofs.Lists.{tab_length}
use Rattle.frame.specs.declared.session.Session.{Session}
use Rattle.frame.specs.Entries.{id_of}
use Rattle.frame.specs.Sessions.{Content, content_of, nobody, session_ok}
use Rattle.frame.proofs.Sessions.{session_facts}
use Rattle.store.specs.Offices.{entry_at, sound_store, Found}
use Rattle.store.specs.Current.{InSlots, current_at}
use Rattle.store.proofs.Rules.{rules_of, reaches}
use Rattle.store.proofs.Places.{place_in_slots}
use Rattle.office.specs.Answers.{noted_in}
use Rattle.office.specs.Decide.{start_code, noted_seen, seen_of, with_seen}
use Rattle.office.specs.declared.note.Seen.{Seen}

-- ---- refusals

pub start_facts : (ws : List ℕ) (s : Content) → start_code ws s ≡ 0 → (sound_store ws ≡ true) × (session_ok (get_or ws 0 0) (get_or ws 2 0) s ≡ true)
unfolding start_code
start_facts ws s h =
    let a = check_none (sound_store ws) 2 (check (session_ok (get_or ws 0 0) (get_or ws 2 0) s) 3 0) (omega arith) h in
    (a.0, (check_none (session_ok (get_or ws 0 0) (get_or ws 2 0) s) 3 0 (omega arith) a.1).0)

pub few_own : (n p : ℕ) (s : Session) → session_ok n p (content_of s) ≡ true → s.count ≤ 16
unfolding content_of
few_own n p s h = omega (arith, (session_facts n p (content_of s) h).few, tab_length s.count (λ i. get_or s.own i nobody))

-- ---- what is current

pub current_slots : (ws v : List ℕ) (plot : ℕ) → sound_store ws ≡ true → length v ≡ 8 → subset_of v (part ws 3 8) ≡ true → InSlots (length ws) (current_at ws v plot)
unfolding current_at
current_slots ws v plot h e s =
    place_in_slots ws v plot (length ws) (λ k i. let g = reaches ws v (rules_of ws h) e s k i in (g.small, g.reach)) (32 * get_or ws 0 0)

-- ---- what a session notes

pub slot_id : (ws : List ℕ) (k : ℕ) → id_of (entry_at ws k) ≡ k
unfolding entry_at
slot_id ws k = omega arith

pub noted_with : (f : Found) (s : Session) (x : Seen) → with_seen s (noted_seen f x) ≡ noted_in f (with_seen s x)
unfolding noted_seen with_seen noted_in
noted_with None s x = refl
noted_with (Some e) s x = refl

pub with_own : (s : Session) → with_seen s (seen_of s) ≡ s
unfolding with_seen
with_own s = refl
