-- The program as a whole, from what `run` promises. However it ends, what is shown is the scene of some lines, its ring is a run and keeps the third
-- demand, and no reply to them is `refused 8`. Where it ends at the input's end, these are all lines of the input, in order. Assumes nothing.
use Rattle.std.proofs.Common.{Err, Ok, Result}
use Prim.Native.Nat.{ℕ, ◌*◌, ◌<◌, ◌≤◌}
use mathlib.Core.List.Memᴰ
use mathlib.Core.List.{List, Memᴰ, []}
use mathlib.Core.Logic.{⊎_elim}
use mathlib.Core.Path.{◌≡◌, ap, subst, sym}
use native.Mathlib.Omega.{arith}
use lib.ListN.{length, take}
use Rattle.causal.proofs.Lists.{part_length}
use Rattle.script.specs.declared.line.Line.{Line}
use Rattle.script.specs.declared.reply.Reply.TheVariants.{Refused}
use Rattle.player.specs.Desks.{Desk}
use Rattle.player.specs.Play.{Scene, opening, play_all}
use Rattle.player.specs.Shows.{Shows, stores_in}
use Rattle.player.proofs.Never.{script_never_8}
use Rattle.player.proofs.Runs.{Ran, script_holds}
use Rattle.ring_program.specs.declared.Outcome.{Outcome}
use Rattle.ring_program.specs.declared.Progress.{Progress}
use Rattle.ring_program.specs.declared.ending.Failure.{Failure}
use Rattle.ring_program.specs.declared.ending.Failure.TheVariants.{Read, TooLong, Write}
use Rattle.ring_program.specs.Fed.{desk_of, fed, lines_in, lines_of, out_row, rowed, text_of, whole_fed}
use Rattle.ring_program.specs.Promises.{Ends, Finished, RunPromise}
use Rattle.ring_program.proofs.Whole.{fed_plays, whole_plays}

-- the script bs was played to its end: the scene that its lines lead to is shown; what they lead to as text (each part of which is settled before it
-- is written: `Follows`, `Finishes`) is that of their replies, in order
pub record Answered (rows : ℕ → List ℕ) (bs : List ℕ) (d : Desk) (stores' lines' : List ℕ) : Type 0 where
  pub shows : Shows (play_all (opening rows) (rowed (lines_of [] bs))).0 d stores' lines'
  pub text : (whole_fed (opening rows) [] bs).text ≡ text_of (play_all (opening rows) (rowed (lines_of [] bs))).1
  pub ring : Ran rows (play_all (opening rows) (rowed (lines_of [] bs))).0.ring
  -- "it never prints refusal 8"
  pub never_8 : Memᴰ (Refused 8) (play_all (opening rows) (rowed (lines_of [] bs))).1 → ⊥

module _ (stores : List ℕ) (long : length stores ≡ 5241) (o : Outcome) (stores' lines' text' : List ℕ) where
  abbrev r : Progress
  r = o.reached

  abbrev rows : ℕ → List ℕ
  rows = stores_in stores

  abbrev g : Scene
  g = opening rows

  enough : (k : ℕ) → k < 3 → 1747 ≤ length (rows k)
  enough k h = let e = part_length stores (1747 * k) 1747 (omega arith) in omega (arith, e)

  whole_shows : (bs : List ℕ) → Finished g bs r.stage stores' lines' text' → Shows (play_all g (rowed (lines_of [] bs))).0 (desk_of r.stage) stores' lines'
  whole_shows bs F = subst (λ (x : Scene). Shows x (desk_of r.stage) stores' lines') (whole_plays g [] bs).scene F.1.leads.shows

  -- "it never prints refusal 8": to no list of lines
  never_8 : (ls : List Line) → Memᴰ (Refused 8) (play_all g (rowed ls)).1 → ⊥
  never_8 ls =
      script_never_8 rows enough (rowed ls) (λ x m.
      let t = Memᴰ.of_map (λ (y : Line). (out_row, y)) ls m in
      ap (λ (z : List ℕ × Line). length z.0) (sym t.2))

  pub ran_answers : (P : RunPromise stores o stores' lines' text') → o.ending ≡ Ok tt → Answered rows P.bytes (desk_of r.stage) stores' lines'
  ran_answers P e =
      record {
        shows = whole_shows bs (subst (λ (x : Result Unit Failure). Ends x g bs r stores' lines' text') e P.ends).2;
        text = (whole_plays g [] bs).text;
        ring = script_holds rows enough (rowed (lines_of [] bs));
        never_8 = never_8 (lines_of [] bs);
      }
    where
      bs : List ℕ
      bs = P.bytes

  -- however the program ends: what is shown is the scene of some lines, its ring is a run, and no reply to them is refusal 8
  abbrev pub Kept : Type 0
  Kept =
      (ls : List Line) × Shows (play_all g (rowed ls)).0 (desk_of r.stage) stores' lines'
      × Ran rows (play_all g (rowed ls)).0.ring
      × (Memᴰ (Refused 8) (play_all g (rowed ls)).1 → ⊥)

  played : (ls : List Line) → Shows (play_all g (rowed ls)).0 (desk_of r.stage) stores' lines' → Kept
  played ls S = (ls, S, script_holds rows enough (rowed ls), never_8 ls)

  fed_kept : (bs : List ℕ) → Shows (fed g [] bs).scene (desk_of r.stage) stores' lines' → Kept
  fed_kept bs S = played (lines_in [] bs) (subst (λ (x : Scene). Shows x (desk_of r.stage) stores' lines') (fed_plays g [] bs).scene S)

  whole_kept : (bs : List ℕ) → Finished g bs r.stage stores' lines' text' → Kept
  whole_kept bs F = played (lines_of [] bs) (whole_shows bs F)

  kept_by : (e : Result Unit Failure) (bs : List ℕ) → Ends e g bs r stores' lines' text' → Kept
  kept_by (Ok x) bs E = whole_kept bs E.2
  kept_by (Err Read) bs E = fed_kept bs E.2.shows
  kept_by (Err TooLong) bs E = fed_kept bs E.1.shows
  kept_by (Err Write) bs E = ⊎_elim (λ x. fed_kept (take x.0 bs) x.1.shows) (whole_kept bs) E.1

  pub ran_holds : RunPromise stores o stores' lines' text' → Kept
  ran_holds P = kept_by o.ending P.bytes P.ends
