-- Lines played are a run: the third demand holds of the ring of every scene that lines of a script lead to. Assumes nothing.
use Prim.Native.Nat.{ℕ, suc, zero, ◌<◌, ◌≤◌}
use mathlib.Core.Bool.{Bool, cond, false, true}
use mathlib.Core.List.{List, [], ◌++◌, ◌∷◌}
use mathlib.Core.Path.{◌∙◌, ◌≡◌, ap, refl, subst, sym}
use native.Mathlib.Omega.{arith}
use lib.Dec.{ltb}
use lib.ListN.{length}
use Rattle.causal.specs.Tests.{both}
use Rattle.ring.specs.Holds.{Holds}
use Rattle.ring.specs.Run.{Call, Tracked, at, contents_run, over_words, run, step, words_run}
use Rattle.ring.proofs.RunAppend.{run_append}
use Rattle.ring.proofs.Theorem.{demand3}
use Rattle.script.specs.declared.line.Line.{Line}
use Rattle.script.specs.declared.line.Line.TheVariants.{Move, Other, Read, Receive, Write}
use Rattle.script.specs.declared.reply.Reply.{Reply}
use Rattle.script.specs.declared.reply.Reply.TheVariants.{Full, Odd}
use Rattle.player.specs.Play.{Ring, Scene, called, crowded, opening, place_of, play, play_all, play_read, play_receive, play_write, settled, starts}

-- the ring h is the ring g after some calls
abbrev pub After : Ring → Ring → Type 0
After g h = (cs : List Call) × (h ≡ run over_words 3 g cs)

none : (g : Ring) → After g g
unfolding run
none g = ([], refl)

one : (g : Ring) (c : Call) → After g (step over_words 3 g c)
unfolding run
one g c = (c ∷ [], refl)

then : (g h k : Ring) → After g h → After h k → After g k
then g h k (cs, p) (ds, q) = (cs ++ ds, q ∙ ap (λ (x : Ring). run over_words 3 x ds) p ∙ sym (run_append over_words 3 g cs ds))

settled_run : (g : Scene) (c : Call) (k : ℕ) (reply : Reply) → After g.ring (settled g c k reply).0.ring
unfolding settled
settled_run g c zero reply = go (crowded (called g c).ring)
  where
    go : (b : Bool) → After g.ring (cond {A = Scene × Reply} b (g, Full) (called g c, reply)).0.ring
    go true = none g.ring
    go false = one g.ring c
settled_run g c (suc k) reply = one g.ring c

write_run : (row : List ℕ) (g : Scene) (o i plot value : ℕ) (rs : List Tracked) → After g.ring (play_write row g o i plot value rs).0.ring
unfolding play_write
write_run row g o i plot value [] = none g.ring
write_run row g o i plot value (r ∷ rs) = settled_run g _ _ _

read_run : (g : Scene) (o i plot : ℕ) (rs : List Tracked) → After g.ring (play_read g o i plot rs).0.ring
unfolding play_read
read_run g o i plot [] = none g.ring
read_run g o i plot (r ∷ rs) = settled_run g _ _ _

receive_run : (row : List ℕ) (g : Scene) (o : ℕ) (fs : List (List ℕ)) → After g.ring (play_receive row g o fs).0.ring
unfolding play_receive
receive_run row g o [] = none g.ring
receive_run row g o (f ∷ fs) = settled_run g _ _ _

by_test : (g : Scene) (b : Bool) (x : Scene × Reply) → After g.ring x.0.ring → After g.ring (cond {A = Scene × Reply} b x (g, Odd)).0.ring
by_test g true x h = h
by_test g false x h = none g.ring

-- a line makes at most one call
pub play_run : (row : List ℕ) (g : Scene) (line : Line) → After g.ring (play row g line).0.ring
unfolding play
play_run row g (Write i plot value) = by_test g (ltb i 4) _ (write_run row g (place_of g i) i plot value (at g.ring.sessions i))
play_run row g (Read i plot) = by_test g (ltb i 4) _ (read_run g (place_of g i) i plot (at g.ring.sessions i))
play_run row g (Move i o) = by_test g (both (ltb i 4) (ltb o 3)) _ (none g.ring)
play_run row g (Receive o) = by_test g (ltb o 3) _ (receive_run row g o (g.ring.lines o))
play_run row g Other = none g.ring

all_run : (g : Scene) (ls : List (List ℕ × Line)) → After g.ring (play_all g ls).0.ring
unfolding play_all
all_run g [] = none g.ring
all_run g ((row, line) ∷ ls) = then g.ring (play row g line).0.ring (play_all (play row g line).0 ls).0.ring (play_run row g line) (all_run (play row g line).0 ls)

-- from the opened ring on
pub record Ran (rows : ℕ → List ℕ) (g : Ring) : Type 0 where
  pub calls : List Call
  pub is : g ≡ words_run 3 64 rows calls
  pub holds : Holds 3 rows g (contents_run 3 64 calls)

pub script_holds : (rows : ℕ → List ℕ) → ((o : ℕ) → o < 3 → 1747 ≤ length (rows o)) → (ls : List (List ℕ × Line)) → Ran rows (play_all (opening rows) ls).0.ring
unfolding words_run
script_holds rows long ls =
    let t = all_run (opening rows) ls in
    let e : (play_all (opening rows) ls).0.ring ≡ words_run 3 64 rows (starts ++ t.0) = t.1 ∙ sym (run_append over_words 3 _ starts t.0) in
    record {
      calls = starts ++ t.0;
      is = e;
      holds =
          subst (λ (g : Ring). Holds 3 rows g (contents_run 3 64 (starts ++ t.0))) (sym e)
          (demand3 3 64 (omega arith) (omega arith) (omega arith) (omega arith) rows long (starts ++ t.0));
    }
