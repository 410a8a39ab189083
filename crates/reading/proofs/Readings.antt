-- To read one plot: what code decides and does is what Calls says. Assumes nothing.
use Rattle.std.proofs.Common.{Err, None, Ok, Result, Some}
use Rattle.std.specs.Option.{unwrap_or}
use Rattle.std.specs.Prelude.{is_some}
use Rattle.std.specs.Result.{IsErrAnd}
use Prim.Native.Nat.{ℕ, zero, suc, ◌≤◌}
use mathlib.Core.Path.{◌≡◌, refl, sym, ap, ◌∙◌}
use mathlib.Core.Bool.{Bool, true, false}
use mathlib.Core.List.{List, [], ◌∷◌}
use native.Mathlib.Omega.{arith}
use lib.Dec.{ltb}
use lib.ListN.{get_or}
use Rattle.causal.specs.Codes.{check, or_else}
use Rattle.causal.specs.Lists.{part}
use Rattle.causal.specs.Sets.{subset_of}
use Rattle.causal.proofs.Codes.{check_none, or_both}
use Rattle.frame.specs.declared.refusal.Refusal.{Refusal}
use Rattle.frame.specs.declared.session.Session.{Session}
use Rattle.frame.specs.Entries.{blank_entry}
use Rattle.frame.specs.Refusals.{code_of, number_of}
use Rattle.frame.specs.Sessions.{Content, content_of, session_ok}
use Rattle.store.specs.Offices.{Office, office_of, store_words, sound_store, reveal, current, Found, best_own}
use Rattle.office.specs.Calls.{Result as Outcome, given, worded, handed, read_all, read_code, read_on, read_plot}
use Rattle.office.specs.Answers.{any_found, entry_found, session_if, noted_in, read_plot_session}
use Rattle.office.specs.Decide.{start_code, noted_seen, seen_of, with_seen}
use Rattle.office.specs.Promises.{ReadPromise}
use Rattle.frame.proofs.Refusals.{number_some}
use Rattle.office.proofs.Notes.{few_own, noted_with, start_facts, with_own}
use Rattle.reading.specs.Answers.{handed_by, seen_entry, seen_found, seen_session}
use Rattle.reading.specs.Readings.{read_refusal}
use Rattle.reading.specs.declared.read.PlotSeen.{PlotSeen}

-- ---- what is handed back

found_any : (f : Found) → is_some f ≡ any_found (f ∷ [])
unfolding any_found
found_any None = refl
found_any (Some e) = refl

found_entry : (f : Found) → unwrap_or f blank_entry ≡ entry_found (f ∷ [])
unfolding entry_found
found_entry None = refl
found_entry (Some e) = refl

-- ---- the whole call

abbrev pub Res : Type 0
Res = Outcome (List ℕ) (List ℕ)

-- what a reading of plots leaves with the refusal number c: row and row' are the lent row as it came and as an accepted one leaves it
abbrev pub read_result : List ℕ → Content → List ℕ → List ℕ → List ℕ → ℕ → Res
read_result ws s plots row row' c = worded true ws s row (given c (office_of ws) s row (read_all (office_of ws) s plots row'))

pub result_code : (ws : List ℕ) (s : Content) (plots row row' : List ℕ) (c : ℕ) → (read_result ws s plots row row' c).code ≡ c
result_code ws s plots row row' zero = refl
result_code ws s plots row row' (suc c) = refl

module _ (ws : List ℕ) (s : Content) (plot : ℕ) where
  pub read_is : read_plot ws s plot ≡ read_result ws s (plot ∷ []) [] [] (read_refusal ws s plot)
  unfolding read_plot read_on read_code read_refusal start_code check or_else office_of
  read_is = go (sound_store ws) (session_ok (get_or ws 0 0) (get_or ws 2 0) s) (ltb plot (get_or ws 2 0)) (subset_of s.read (part ws 3 8))
    where
      go : (a b c d : Bool) → worded a ws s [] (given (check b 3 (check c 4 (check d 12 0))) (office_of ws) s [] (read_all (office_of ws) s (plot ∷ []) []))
          ≡ read_result ws s (plot ∷ []) [] [] (or_else (check a 2 (check b 3 0)) (check c 4 (check d 12 0)))
      go false b c d = refl
      go true false c d = refl
      go true true false d = refl
      go true true true false = refl
      go true true true true = refl

  pub read_small : read_refusal ws s plot ≤ 12
  unfolding read_refusal start_code check or_else
  read_small = go (sound_store ws) (session_ok (get_or ws 0 0) (get_or ws 2 0) s) (ltb plot (get_or ws 2 0)) (subset_of s.read (part ws 3 8))
    where
      go : (a b c d : Bool) → or_else (check a 2 (check b 3 0)) (check c 4 (check d 12 0)) ≤ 12
      go false b c d = omega arith
      go true false c d = omega arith
      go true true false d = omega arith
      go true true true false = omega arith
      go true true true true = omega arith

-- what a reading that is not refused knows
pub record Reads (ws : List ℕ) (s : Session) : Type 0 where
  pub sound : sound_store ws ≡ true
  pub few : s.count ≤ 16
  pub held : subset_of s.read (part ws 3 8) ≡ true

pub reads : (ws : List ℕ) (s : Session) (plot : ℕ) → read_refusal ws (content_of s) plot ≡ 0 → Reads ws s
unfolding read_refusal content_of
reads ws s plot h =
    let a = or_both (start_code ws (content_of s)) (check (ltb plot (get_or ws 2 0)) 4 (check (subset_of s.read (part ws 3 8)) 12 0)) h in
    let b = start_facts ws (content_of s) a.0 in
    let c = check_none (ltb plot (get_or ws 2 0)) 4 (check (subset_of s.read (part ws 3 8)) 12 0) (omega arith) a.1 in
    record { sound = b.0; few = few_own (get_or ws 0 0) (get_or ws 2 0) s b.1; held = (check_none (subset_of s.read (part ws 3 8)) 12 0 (omega arith) c.1).0 }

module _ (ws : List ℕ) (s : Session) (plot : ℕ) where
  abbrev R : Res
  R = read_plot ws (content_of s) plot

  abbrev O : Office
  O = reveal (office_of ws) s.read

  -- what the call promises of its answer and of the store it leaves
  abbrev pub ReadSays : Result PlotSeen Refusal → List ℕ → Type 0
  ReadSays r left = ReadPromise ws s plot (code_of r) (seen_found r) (seen_entry r) (seen_session s r) left

  by_result : (c : ℕ) → c ≡ read_refusal ws (content_of s) plot → read_result ws (content_of s) (plot ∷ []) [] [] c ≡ R
  by_result c e = ap (read_result ws (content_of s) (plot ∷ []) [] []) e ∙ sym (read_is ws (content_of s) plot)

  -- x: what it is refused by
  pub read_refused : (r : Result PlotSeen Refusal) (x : Refusal) → IsErrAnd r (λ y. y ≡ x) → number_of x ≡ read_refusal ws (content_of s) plot → ReadSays r ws
  unfolding code_of handed_by seen_session read_plot_session any_found entry_found session_if
  read_refused (Ok y) x h q = absurd h
  read_refused (Err y) x h q = go (number_of y) (number_some y) (ap number_of h ∙ q)
    where
      go : (c : ℕ) → (c ≡ 0 → ⊥) → c ≡ read_refusal ws (content_of s) plot
          → (c ≡ R.code) × (false ≡ any_found R.found) × (blank_entry ≡ entry_found R.found) × (s ≡ session_if R.code s (noted_in (current O plot) s)) × (ws ≡ R.store)
      go zero h q = absurd (h refl)
      go (suc c) h q =
          let r = by_result (suc c) q in (
            ap (λ (x : Res). x.code) r,
            ap (λ (x : Res). any_found x.found) r,
            ap (λ (x : Res). entry_found x.found) r,
            ap (λ (x : Res). session_if x.code s (noted_in (current O plot) s)) r,
            ap (λ (x : Res). x.store) r,
          )

  -- f: what is current
  pub read_accepted : (f : Found) (x : PlotSeen) (left : List ℕ) → 0 ≡ read_refusal ws (content_of s) plot → current O plot ≡ f
      → x.entry ≡ best_own plot f (content_of s).own → x.seen ≡ noted_seen f (seen_of s) → left ≡ store_words ws O → ReadSays (Ok x) left
  unfolding code_of handed_by seen_session read_plot_session handed content_of session_if
  read_accepted f x left z g b d l =
      let r = by_result 0 z in
      let h : x.entry ≡ handed O (content_of s) plot = b ∙ ap (λ (y : Found). best_own plot y (content_of s).own) (sym g) in
      let t : with_seen s x.seen ≡ noted_in (current O plot) s =
      ap (with_seen s) d ∙ noted_with f s (seen_of s) ∙ ap (noted_in f) (with_own s) ∙ ap (λ (y : Found). noted_in y s) (sym g)
      in (
        ap (λ (x : Res). x.code) r,
        found_any x.entry ∙ ap (λ (y : Found). any_found (y ∷ [])) h ∙ ap (λ (x : Res). any_found x.found) r,
        found_entry x.entry ∙ ap (λ (y : Found). entry_found (y ∷ [])) h ∙ ap (λ (x : Res). entry_found x.found) r,
        t ∙ ap (λ (x : Res). session_if x.code s (noted_in (current O plot) s)) r,
        l ∙ ap (λ (x : Res). x.store) r,
      )
