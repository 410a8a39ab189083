-- A CLAIM BESIDE `Holds`, paper 02, (i): "The replies together still show, for each entry handed back, nothing on the listed plots below its
-- writer's past." It is of every joint reading of every run: the calls before one are a run too. Assumes nothing.
use Rattle.std.specs.Prelude.{ℕ, ◌<◌, ◌≤◌, false, ◌⊎◌, ◌≡◌, length, Some}
use mathlib.Core.List.{List, Memᴰ, [], ◌∷◌, map}
use Rattle.frame.specs.Entries.{id_of, outranks}
use Rattle.frame.specs.declared.entry.Entry.{Entry}
use Rattle.store.specs.Offices.{Found, need}
use Rattle.office.specs.Calls.{read_joint}
use Rattle.ring.specs.Run.{Call, Made, Tracked, at, together, words_run}

-- k is in the session's past, as it came to the reading, or is an entry that is handed back or one of its writer's past. Each entry handed
-- back is one of the log (`handed` of `Holds`)
abbrev pub Behind : List Made → List ℕ → List (ℕ × Found) → ℕ → Type 0
Behind log past replies k =
    Memᴰ k past ⊎ ((q : ℕ) × (m : Made) × Memᴰ m log × Memᴰ (q, Some m.entry) replies × Memᴰ k (id_of m.entry ∷ m.past))

pub record Replies (log : List Made) (past plots : List ℕ) (replies : List (ℕ × Found)) : Type 0 where
  -- there is a reply for each listed plot, in order
  pub listed : map (λ (r : ℕ × Found). r.0) replies ≡ plots
  -- and on the plot of an entry d that is behind them the reply is not none, and is no entry that d outranks
  pub over : (d : Made) → Memᴰ d log → Behind log past replies (id_of d.entry) → (f : Found) → Memᴰ (d.entry.plot, f) replies →
      (e : Entry) × (f ≡ Some e) × (outranks d.entry e ≡ false)

-- after every list of calls, of whatever office, session, plots and row: if the joint reading is not refused. Its row has these replies as words
-- (`read_joint`; read off an answer: specs/Answers.antt)
abbrev pub JointTogether : Type 0
JointTogether =
    (n p : ℕ) → 2 ≤ n → n ≤ 8 → 1 ≤ p → p ≤ 64 → (rows : ℕ → List ℕ) → ((o : ℕ) → o < n → need n ≤ length (rows o)) →
    (cs : List Call) (o i : ℕ) (plots row : List ℕ) (s : Tracked) → o < n → at (words_run n p rows cs).sessions i ≡ s ∷ [] →
    (read_joint ((words_run n p rows cs).stores o) s.session plots row).code ≡ 0 →
    Replies (words_run n p rows cs).log s.past plots (together plots (read_joint ((words_run n p rows cs).stores o) s.session plots row).found)
