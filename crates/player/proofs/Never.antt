-- "it never prints refusal 8", over every script: from the opened ring, whatever the lines, with out rows of the program's length. Assumes nothing.
use Prim.Native.Nat.{ℕ, suc, zero, ◌<◌, ◌≤◌}
use mathlib.Core.Bool.{Bool, cond, false, true}
use mathlib.Core.List.Memᴰ
use mathlib.Core.List.{List, Memᴰ, [], ◌++◌, ◌∷◌}
use mathlib.Core.Logic.{⊎_elim, ◌⊎◌}
use mathlib.Core.Path.{◌∙◌, ◌≡◌, ap, refl, subst, sym}
use native.Mathlib.Omega.{arith}
use lib.Dec.{ltb}
use lib.ListN.{get_or, length, set}
use borrow.Author.Tests.{ltb-true}
use Rattle.causal.specs.Tests.{both}
use Rattle.causal.proofs.Tests.{both_true}
use Rattle.store.specs.Offices.{Office, office_of}
use Rattle.ring.specs.Run.{Call, Tracked, at, contents_run, over_words, run, words_run}
use Rattle.ring.proofs.RunAppend.{run_append}
use Rattle.ring.proofs.Steps.{contents_ok, ok_whole}
use Rattle.ring.proofs.Theorem.{demand3}
use Rattle.script.specs.declared.line.Line.{Line}
use Rattle.script.specs.declared.line.Line.TheVariants.{Move, Other, Read, Receive, Write}
use Rattle.script.specs.declared.reply.Reply.{Reply}
use Rattle.script.specs.declared.reply.Reply.TheVariants.{Full, Moved, Odd, Refused}
use Rattle.player.specs.Play.{Ring, Scene, called, crowded, moved, opening, place_of, play, play_all, play_read, play_receive, play_write, settled, starts}
use Rattle.player.proofs.Enough.{never_8_at}
use Rattle.player.proofs.Runs.{play_run}

-- ---- where the sessions are

abbrev Below : List ℕ → Type 0
Below [] = Unit {0}
Below (x ∷ l) = (x < 3) × Below l

get_d_below : (l : List ℕ) → Below l → (i : ℕ) → get_or l i 0 < 3
get_d_below [] b i = omega arith
get_d_below (x ∷ l) b zero = b.0
get_d_below (x ∷ l) b (suc i) = get_d_below l b.1 i

set_below : (l : List ℕ) → Below l → (i o : ℕ) → o < 3 → Below (set l i o)
set_below [] b i o h = tt
set_below (x ∷ l) b zero o h = (h, b.1)
set_below (x ∷ l) b (suc i) o h = (b.0, set_below l b.1 i o h)

settled_place : (g : Scene) (c : Call) (k : ℕ) (reply : Reply) → (settled g c k reply).0.place ≡ g.place
unfolding settled
settled_place g c zero reply = go (crowded (called g c).ring)
  where
    go : (b : Bool) → (cond {A = Scene × Reply} b (g, Full) (called g c, reply)).0.place ≡ g.place
    go true = refl
    go false = refl
settled_place g c (suc k) reply = refl

write_place : (row : List ℕ) (g : Scene) (o i plot value : ℕ) (rs : List Tracked) → (play_write row g o i plot value rs).0.place ≡ g.place
unfolding play_write
write_place row g o i plot value [] = refl
write_place row g o i plot value (r ∷ rs) = settled_place g _ _ _

read_place : (g : Scene) (o i plot : ℕ) (rs : List Tracked) → (play_read g o i plot rs).0.place ≡ g.place
unfolding play_read
read_place g o i plot [] = refl
read_place g o i plot (r ∷ rs) = settled_place g _ _ _

receive_place : (row : List ℕ) (g : Scene) (o : ℕ) (fs : List (List ℕ)) → (play_receive row g o fs).0.place ≡ g.place
unfolding play_receive
receive_place row g o [] = refl
receive_place row g o (f ∷ fs) = settled_place g _ _ _

by_test : (g : Scene) (t : Bool) (x : Scene × Reply) → x.0.place ≡ g.place → Below g.place → Below (cond {A = Scene × Reply} t x (g, Odd)).0.place
by_test g true x e b = subst Below (sym e) b
by_test g false x e b = b

play_place : (row : List ℕ) (g : Scene) (line : Line) → Below g.place → Below (play row g line).0.place
unfolding play
play_place row g (Write i plot value) b = by_test g (ltb i 4) _ (write_place row g (place_of g i) i plot value (at g.ring.sessions i)) b
play_place row g (Read i plot) b = by_test g (ltb i 4) _ (read_place g (place_of g i) i plot (at g.ring.sessions i)) b
play_place row g (Receive o) b = by_test g (ltb o 3) _ (receive_place row g o (g.ring.lines o)) b
play_place row g Other b = b
play_place row g (Move i o) b = go (both (ltb i 4) (ltb o 3)) refl
  where
    go : (t : Bool) → both (ltb i 4) (ltb o 3) ≡ t → Below (cond {A = Scene × Reply} t (moved g i o, Moved) (g, Odd)).0.place
    go true q = set_below g.place b i o (ltb-true o 3 (both_true (ltb i 4) (ltb o 3) q).1)
    go false q = b

-- ---- the ring

module _ (rows : ℕ → List ℕ) (long : (o : ℕ) → o < 3 → 1747 ≤ length (rows o)) where
  record Reached (g : Scene) : Type 0 where
    pub calls : List Call
    pub is : g.ring ≡ words_run 3 64 rows calls
    pub placed : Below g.place

  three : (g : Scene) → Reached g → (o : ℕ) → o < 3 → get_or (g.ring.stores o) 0 0 ≡ 3
  unfolding office_of
  three g R o lt =
      let D = demand3 3 64 (omega arith) (omega arith) (omega arith) (omega arith) rows long R.calls in
      let W = ok_whole 3 64 (omega arith) (omega arith) (contents_run 3 64 R.calls) (contents_ok 3 64 (omega arith) (omega arith) R.calls) in
      ap (λ (x : Ring). get_or (x.stores o) 0 0) R.is ∙ ap (λ (O : Office). O.offices) (D.same.stores o lt) ∙ (W.offices o).offices

  first : Reached (opening rows)
  first = record { calls = starts; is = refl; placed = (omega arith, (omega arith, (omega arith, (omega arith, tt)))) }

  next : (row : List ℕ) (g : Scene) (line : Line) → Reached g → Reached (play row g line).0
  unfolding words_run
  next row g line R =
      let t = play_run row g line in
      record {
        calls = R.calls ++ t.0;
        is = t.1 ∙ ap (λ (x : Ring). run over_words 3 x t.0) R.is ∙ sym (run_append over_words 3 _ R.calls t.0);
        placed = play_place row g line R.placed;
      }

  never : (g : Scene) → Reached g → (ls : List (List ℕ × Line)) → ((x : List ℕ × Line) → Memᴰ x ls → length x.0 ≡ 1751)
      → Memᴰ (Refused 8) (play_all g ls).1 → ⊥
  unfolding play_all
  never g R [] h m = Memᴰ.not-nil m
  never g R ((row, line) ∷ ls) h m =
      ⊎_elim
      (λ e. never_8_at g (three g R) (λ i lt. get_d_below g.place R.placed i) row (h (row, line) (Memᴰ.head refl)) line (sym e))
      (λ j. never (play row g line).0 (next row g line R) ls (λ x i. h x (Memᴰ.tail i)) j)
      (Memᴰ.cases_cons m)

  -- no line of any script is answered `refused 8`
  pub script_never_8 : (ls : List (List ℕ × Line)) → ((x : List ℕ × Line) → Memᴰ x ls → length x.0 ≡ 1751)
      → Memᴰ (Refused 8) (play_all (opening rows) ls).1 → ⊥
  script_never_8 ls h m = never (opening rows) first ls h m
