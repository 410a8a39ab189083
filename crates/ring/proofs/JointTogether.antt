-- `JointTogether`, specs/Joint.antt: the joint reading is the last call of a run, whose `Holds` has it. Assumes nothing.
use Rattle.std.proofs.Common.{Some}
use Prim.Native.Nat.{ℕ, ◌<◌, ◌≤◌}
use mathlib.Core.Bool.{cond}
use mathlib.Core.List.Memᴰ
use mathlib.Core.List.{List, Memᴰ, [], ◌++◌, ◌∷◌}
use mathlib.Core.Logic.{⊎_elim}
use mathlib.Core.Path.{◌∙◌, ◌≡◌, ap, refl, subst}
use lib.Dec.{ltb}
use lib.ListN.{length}
use borrow.Author.Tests.{lt-ltb}
use Rattle.frame.specs.Entries.{id_of}
use Rattle.store.specs.Offices.{Found, need, office_of, reveal}
use Rattle.office.specs.Calls.{Result, handed, read_joint}
use Rattle.reading.proofs.JointReads.{joint_hands}
use Rattle.ring.specs.Holds.{Holds}
use Rattle.ring.specs.Joint.{JointTogether, Replies}
use Rattle.ring.specs.Run.{Call, Event, Made, State, Tracked, at, contents_run, gained, joint, joint_at, over_words, read_by, read_in, run, step, together, words_run}
use Rattle.ring.proofs.ReadKeeps.{gained_keeps}
use Rattle.ring.proofs.RunAppend.{run_append}
use Rattle.ring.proofs.Theorem.{demand3}
use Rattle.ring.proofs.Together.{together_plots}

abbrev WState : Type 0
WState = State (List ℕ) (List ℕ) (List ℕ)

module _ (n p : ℕ) (two : 2 ≤ n) (eight : n ≤ 8) (one : 1 ≤ p) (p64 : p ≤ 64) (rows : ℕ → List ℕ) (long : (o : ℕ) → o < n → need n ≤ length (rows o))
    (cs : List Call) (o i : ℕ) (plots row : List ℕ) (s : Tracked) (lt : o < n) (e : at (words_run n p rows cs).sessions i ≡ s ∷ [])
    (z : (read_joint ((words_run n p rows cs).stores o) s.session plots row).code ≡ 0) where
  abbrev g : WState
  g = words_run n p rows cs

  abbrev R : Result (List ℕ) (List ℕ)
  R = read_joint (g.stores o) s.session plots row

  abbrev calls : List Call
  calls = cs ++ (joint o i plots row ∷ [])

  steps : step over_words n g (joint o i plots row) ≡ read_in over_words n g o i s plots R
  unfolding step over_words
  steps =
      here (joint_at over_words n g o i plots row (at g.sessions i)) ∙ ap (joint_at over_words n g o i plots row) e
      ∙ ap (λ (c : ℕ). read_by over_words n g o i s plots R c) z
    where
      here : (h : WState) → cond (ltb o n) h g ≡ h
      here h = rw (lt-ltb o n lt)

  leads : words_run n p rows calls ≡ read_in over_words n g o i s plots R
  unfolding words_run run
  leads = run_append over_words n (words_run n p rows []) cs (joint o i plots row ∷ []) ∙ steps

  H : Holds n rows (read_in over_words n g o i s plots R) (contents_run n p calls)
  H = subst (λ (x : WState). Holds n rows x (contents_run n p calls)) leads (demand3 n p two eight one p64 rows long calls)

  abbrev v : Event
  v =
      record {
        code = R.code;
        count = R.count;
        row = R.row;
        reads = together plots R.found;
        past = gained g.log R.found s.past;
      }

  last : Memᴰ v (g.events ++ (v ∷ []))
  last = Memᴰ.append_right g.events (Memᴰ.head refl)

  pub replies : Replies g.log s.past plots (together plots R.found)
  replies =
      record {
        listed = rw (joint_hands (g.stores o) s.session plots row z) (together_plots shows plots);
        over =
            λ d j b f m.
            H.reads v last d.entry.plot f m d j
            (⊎_elim (λ k. gained_keeps g.log R.found s.past _ k) (λ t. back t.0 t.1 t.2 t.3 (id_of d.entry) t.4) b) refl;
      }
    where
      back : (q : ℕ) (m : Made) → Memᴰ m g.log → Memᴰ (q, Some m.entry) (together plots R.found) → (k : ℕ)
          → Memᴰ k (id_of m.entry ∷ m.past) → Memᴰ k v.past
      back q m j r k i =
          let t = H.counted v last q m j r in
          ⊎_elim (λ (x : k ≡ id_of m.entry). rw x t.0) (λ x. t.1 k x) (Memᴰ.cases_cons i)

      shows : ℕ → Found
      shows = handed (reveal (office_of (g.stores o)) s.session.read) s.session

pub joint_together : JointTogether
joint_together n p two eight one p64 rows long cs o i plots row s lt e z = replies n p two eight one p64 rows long cs o i plots row s lt e z
