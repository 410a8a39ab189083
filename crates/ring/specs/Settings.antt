-- A CLAIM BESIDE `Holds`: after every list of calls, whoever asks a store of the ring for its settings gets those that it was opened with. The
-- call changes nothing and is no call of paper 01's runs; this is what a host may build on that asks it of a store from a file. Assumes nothing.
use Rattle.std.specs.Prelude.{ℕ, ◌<◌, ◌≤◌, List, ◌≡◌, length}
use Rattle.store.specs.Offices.{need}
use Rattle.office.specs.Promises.{SettingsPromise}
use Rattle.ring.specs.Run.{Call, words_run}

-- for whatever answer keeps the promise: the refusal number, ring size, own number and plots
abbrev pub SettingsStay : Type 0
SettingsStay =
    (n p : ℕ) → 2 ≤ n → n ≤ 8 → 1 ≤ p → p ≤ 64 → (rows : ℕ → List ℕ) → ((o : ℕ) → o < n → need n ≤ length (rows o)) →
    (cs : List Call) (o : ℕ) → o < n → (code offices own plots : ℕ) →
    SettingsPromise ((words_run n p rows cs).stores o) code offices own plots → (code ≡ 0) × (offices ≡ n) × (own ≡ o) × (plots ≡ p)
