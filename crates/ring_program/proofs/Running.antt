-- The loop over chunks, up to each way to end. Assumes nothing.
use Rattle.std.proofs.Common.{Err, Ok, Result}
use Rattle.std.specs.Prelude.{IsOk}
use Rattle.std.specs.Result.{result_unwrap_or}
use Prim.Native.Nat.{ℕ, ◌+◌, ◌<◌}
use mathlib.Core.Bool.{false, true}
use mathlib.Core.List.{List, [], ◌++◌}
use mathlib.Core.Logic.{inl, inr}
use mathlib.Core.Path.{◌∙◌, ◌≡◌, ap, subst, sym}
use native.Mathlib.Nat.{zero-add}
use native.Mathlib.Omega.{arith}
use lib.ListN.{length, length-append, take}
use lib.Seq.{take-append-add, take-length}
use Rattle.causal.specs.Lists.{part}
use Rattle.script.specs.Pendings.{pending_of}
use Rattle.player.specs.Play.{Scene}
use Rattle.player.specs.Shows.{Shows}
use Rattle.ring_program.specs.declared.Progress.{Progress}
use Rattle.ring_program.specs.declared.ending.Failure.{Failure}
use Rattle.ring_program.specs.declared.ending.Failure.TheVariants.{Read, TooLong, Write}
use Rattle.ring_program.specs.Fed.{Fed, Leads, Staged, desk_of, fed}
use Rattle.ring_program.specs.Promises.{Closes, Ends, Reads}
use Rattle.ring_program.proofs.Feeding.{fed_append}

-- since r₀ bytes were read, as many as are counted down, and the stage is what they lead to
pub record Running (r₀ : Progress) (stores₀ lines₀ : List ℕ) (r : Progress) (stores lines : List ℕ) : Type 0 where
  pub bytes : List ℕ
  pub counted : length bytes + r.left ≡ r₀.left
  pub wrote : r.stage.wrote ≡ true
  pub leads : (g : Scene) → Shows g (desk_of r₀.stage) stores₀ lines₀ → r₀.stage.pending ≡ pending_of [] → Leads (fed g [] bytes) r.stage stores lines

pub starts : (r : Progress) (stores lines : List ℕ) → r.stage.wrote ≡ true → Running r stores lines r stores lines
unfolding fed
starts r stores lines w = record { bytes = []; counted = zero-add r.left; wrote = w; leads = λ g S e. record { shows = S; pending = e } }

-- a read that brought none, and did not fail
none_came : {E : Type 0} (r : Result ℕ E) → IsOk r → result_unwrap_or r 0 ≡ 0 → r ≡ Ok 0
none_came (Ok n) k z = ap Ok z
none_came (Err x) k z = cc

module _ (r₀ : Progress) (stores₀ lines₀ : List ℕ) (r : Progress) (stores lines : List ℕ) (R : Running r₀ stores₀ lines₀ r stores lines) where
  abbrev bs : List ℕ
  bs = R.bytes

  -- some scene is shown, and some bytes are pending
  pub stands : (g : Scene) → Shows g (desk_of r₀.stage) stores₀ lines₀ → r₀.stage.pending ≡ pending_of [] → Staged r.stage stores lines
  stands g S e = let X = R.leads g S e in (_, _, X.shows, X.pending)

  -- a chunk was read, and its first bytes were fed
  module _ (cs : List ℕ) (q : Progress) (came : length cs + q.left ≡ r.left) (next : ℕ) (stores' lines' : List ℕ)
      (Q : (g : Scene) (l : List ℕ) → Shows g (desk_of r.stage) stores lines → r.stage.pending ≡ pending_of l → Leads (fed g l (part cs 0 next)) q.stage stores' lines') where
    then : (g : Scene) → Shows g (desk_of r₀.stage) stores₀ lines₀ → r₀.stage.pending ≡ pending_of [] → Leads (fed g [] (bs ++ part cs 0 next)) q.stage stores' lines'
    then g S e =
        let X = R.leads g S e in
        let Y = Q (fed g [] bs).scene (fed g [] bs).rest X.shows X.pending in
        subst (λ (f : Fed). Leads f q.stage stores' lines') (sym (fed_append g [] bs (part cs 0 next))) (record { shows = Y.shows; pending = Y.pending })

    counts : length (bs ++ cs) + q.left ≡ r₀.left
    counts = omega (arith, length-append bs cs, came, R.counted)

    pub goes_on : next ≡ length cs → q.stage.wrote ≡ true → Running r₀ stores₀ lines₀ q stores' lines'
    unfolding part
    goes_on all w =
        record {
          bytes = bs ++ cs;
          counted = counts;
          wrote = w;
          leads = λ g S e. subst (λ (x : List ℕ). Leads (fed g [] (bs ++ x)) q.stage stores' lines') (ap (λ (x : ℕ). take x cs) all ∙ take-length cs) (then g S e);
        }

    -- a write failed
    pub breaks : q.stage.wrote ≡ false → (text' : List ℕ) → Reads r₀ stores₀ lines₀ (Err Write) q stores' lines' text'
    unfolding part
    breaks w text' =
        record {
          bytes = bs ++ cs;
          counted = counts;
          ends = λ g S e. (w, inl (length bs + next, subst (λ (x : List ℕ). Leads (fed g [] x) q.stage stores' lines') (sym (take-append-add bs cs next)) (then g S e)));
        }

  -- no more bytes come
  closes : (ending : Result Unit Failure) (g : Scene) (q : Progress) (text stores' lines' text' : List ℕ) → result_unwrap_or q.said 0 ≡ 0
      → Closes ending q.said (fed g [] bs).scene (fed g [] bs).rest text q.stage stores' lines' text' → Ends ending g bs q stores' lines' text'
  closes (Ok x) g q text stores' lines' text' z C = (none_came q.said C.0 z, C.1, (text, C.2))
  closes (Err Write) g q text stores' lines' text' z C = (C.1, inr (text, C.2))
  closes (Err Read) g q text stores' lines' text' z C = (C.0, C.1, record { shows = C.2.shows; pending = C.2.pending })
  closes (Err TooLong) g q text stores' lines' text' z C = absurd C

  pub ends : (ending : Result Unit Failure) (q : Progress) → q.left ≡ r.left → result_unwrap_or q.said 0 ≡ 0 → (text stores' lines' text' : List ℕ)
      → ((h : Scene) (l : List ℕ) → Shows h (desk_of r.stage) stores lines → r.stage.pending ≡ pending_of l → Closes ending q.said h l text q.stage stores' lines' text')
      → Reads r₀ stores₀ lines₀ ending q stores' lines' text'
  ends ending q same z text stores' lines' text' C =
      record {
        bytes = bs;
        counted = omega (arith, R.counted, same);
        ends = λ g S e. let X = R.leads g S e in closes ending g q text stores' lines' text' z (C _ _ X.shows X.pending);
      }
