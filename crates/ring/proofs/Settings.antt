-- `SettingsStay`, specs/Settings.antt: by `Holds` a store is sound and says what the run on contents has, whose offices keep their settings.
-- Assumes nothing.
use Prim.Native.Nat.{ℕ, ◌≤◌}
use mathlib.Core.Bool.{true}
use mathlib.Core.List.{List}
use mathlib.Core.Path.{◌∙◌, ◌≡◌, ap, refl}
use Rattle.store.specs.Offices.{Office, empty_office, office_of, sound_store}
use Rattle.office.specs.Calls.{StoreSettings, store_settings}
use Rattle.ring.specs.Run.{Call, contents_run, over_contents, run, starting, words_run}
use Rattle.ring.specs.Settings.{SettingsStay}
use Rattle.ring.proofs.Fit.{OfficeFit}
use Rattle.ring.proofs.Log.{entry_in}
use Rattle.ring.proofs.Steps.{ok_whole, run_ok, start_ok}
use Rattle.ring.proofs.Theorem.{demand3}

settings_of : (ws : List ℕ) (O : Office) → sound_store ws ≡ true → office_of ws ≡ O
    → store_settings ws ≡ record { code = 0; offices = O.offices; own = O.own; plots = O.plots }
unfolding store_settings
settings_of ws O t e = rw (t, e) refl

module _ (n p : ℕ) (two : 2 ≤ n) (eight : n ≤ 8) (cs : List Call) where
  fit : (o : ℕ) → OfficeFit n p (entry_in (contents_run n p cs).log) o ((contents_run n p cs).stores o)
  unfolding contents_run
  fit o =
      let c = run over_contents n (starting (λ o. empty_office n o p)) cs in
      (ok_whole n p two eight c (run_ok n p two eight cs (starting (λ o. empty_office n o p)) (start_ok n p two eight))).offices o

pub settings_stay : SettingsStay
settings_stay n p two eight one p64 rows long cs o lt code offices own plots said =
    let g = (words_run n p rows cs).stores o in
    let H = demand3 n p two eight one p64 rows long cs in
    let is = settings_of g ((contents_run n p cs).stores o) (H.sound o lt) (H.same.stores o lt) in
    let F = fit n p two eight cs o in (
      said.0 ∙ ap (λ (r : StoreSettings). r.code) is,
      said.1 ∙ ap (λ (r : StoreSettings). r.offices) is ∙ F.offices,
      said.2 ∙ ap (λ (r : StoreSettings). r.own) is ∙ F.own,
      said.3 ∙ ap (λ (r : StoreSettings). r.plots) is ∙ F.plots,
    )
