-- Bytes fed one after another. Assumes nothing.
use Rattle.std.specs.Prelude.{None, Option, Some}
use Prim.Native.Nat.{ℕ, suc, ◌+◌, ◌-◌, ◌<◌, ◌≤◌}
use mathlib.Core.Bool.{Bool, cond, false, true}
use mathlib.Core.List.{List, [], ◌++◌, ◌∷◌, append_assoc, append-nil}
use mathlib.Core.Logic.{⊎_elim}
use mathlib.Core.Path.{◌∙◌, ◌≡◌, ap, refl, subst, sym}
use native.Mathlib.Nat.{add-zero, zero-add}
use native.Mathlib.Omega.{arith}
use lib.Dec.{eqb}
use lib.ListN.{drop, get_or, length, length-append, length-drop, set, take}
use lib.Seq.{set-get_or, sets}
use borrow.Author.Tests.{eqb-false, eqb-true}
use Rattle.causal.specs.Lists.{part}
use Rattle.causal.proofs.Lists.{part_add, sets_append}
use Rattle.causal.proofs.Tests.{lt_or_le}
use Rattle.frame.specs.declared.session.Session.{Session}
use Rattle.script.specs.Lines.{line_of}
use Rattle.script.specs.Pendings.{Takes, first_line, has_end, is_empty, line_size, parsed, pending_of}
use Rattle.script.specs.Replies.{reply_bytes}
use Rattle.script.specs.declared.line.Line.{Line}
use Rattle.script.specs.declared.line.Line.TheVariants.{Move, Other, Read, Receive, Write}
use Rattle.script.specs.declared.pending.Pending.{Pending}
use Rattle.script.specs.declared.pending.Taken.{Taken}
use Rattle.script.specs.declared.reply.Reply.{Reply}
use Rattle.script.proofs.Pendings.{empty_is, line_part, parse_whole}
use Rattle.player.specs.Desks.{Desk, no_session}
use Rattle.player.specs.Play.{Scene, play}
use Rattle.player.specs.Shows.{Shows}
use Rattle.player.specs.Steps.{Plays, sessionless}
use Rattle.player.proofs.Rows.{Plays-alike, play_alike, shows_alike}
use Rattle.ring_program.specs.declared.feed.Stage.{Stage}
use Rattle.ring_program.specs.Fed.{Fed, Finishes, Follows, Leads, after, desk_of, fed, last_fed, out_row}

-- bytes fed one after another
pub fed_append : (g : Scene) (l bs cs : List ℕ) → fed g l (bs ++ cs) ≡ after (fed g l bs).text (fed (fed g l bs).scene (fed g l bs).rest cs)
unfolding fed
fed_append g l [] cs = refl
fed_append g l (b ∷ bs) cs = by (eqb b 10) (fed_append next [] bs cs) (fed_append g (l ++ (b ∷ [])) bs cs)
  where
    said : List ℕ
    said = reply_bytes (play out_row g (line_of l)).1

    next : Scene
    next = (play out_row g (line_of l)).0

    then : Fed → Fed
    then f = after f.text (fed f.scene f.rest cs)

    by : (t : Bool) → fed next [] (bs ++ cs) ≡ then (fed next [] bs) → fed g (l ++ (b ∷ [])) (bs ++ cs) ≡ then (fed g (l ++ (b ∷ [])) bs)
        → cond t (after said (fed next [] (bs ++ cs))) (fed g (l ++ (b ∷ [])) (bs ++ cs)) ≡ then (cond t (after said (fed next [] bs)) (fed g (l ++ (b ∷ [])) bs))
    by true p q =
        ap (after said) p
        ∙ (λ i. record {
          scene = (fed (fed next [] bs).scene (fed next [] bs).rest cs).scene;
          rest = (fed (fed next [] bs).scene (fed next [] bs).rest cs).rest;
          text = sym (append_assoc said (fed next [] bs).text (fed (fed next [] bs).scene (fed next [] bs).rest cs).text) i;
        })
    by false p q = q

follows_then : (g : Scene) (l bs : List ℕ) (at : ℕ) (text : List ℕ) (r : Stage) (stores lines text' cs : List ℕ) (q : Stage) (stores' lines' text'' : List ℕ)
    → Follows (fed g l bs) at text r stores lines text' → Follows (fed (fed g l bs).scene (fed g l bs).rest cs) r.at text' q stores' lines' text''
    → Follows (fed g l (bs ++ cs)) at text q stores' lines' text''
follows_then g l bs at text r stores lines text' cs q stores' lines' text'' A B =
    subst (λ (f : Fed). Follows f at text q stores' lines' text'') (sym (fed_append g l bs cs))
    (record {
      shows = B.shows;
      pending = B.pending;
      at_is = omega (arith, B.at_is, A.at_is, length-append (fed g l bs).text (fed (fed g l bs).scene (fed g l bs).rest cs).text);
      text_is =
          B.text_is ∙ (λ i. sets (A.text_is i) (A.at_is i) (fed (fed g l bs).scene (fed g l bs).rest cs).text)
          ∙ sym (sets_append text at (fed g l bs).text (fed (fed g l bs).scene (fed g l bs).rest cs).text);
    })

-- a line taken from the bytes
fed_first : (g : Scene) (l bs cs : List ℕ) → fed g l (first_line bs ++ cs) ≡ fed g (l ++ first_line bs) cs
unfolding fed first_line
fed_first g l [] cs = ap (λ (x : List ℕ). fed g x cs) (sym (append-nil l))
fed_first g l (b ∷ bs) cs = go (eqb b 10) refl (fed_first g (l ++ (b ∷ [])) bs cs)
  where
    go : (t : Bool) → eqb b 10 ≡ t → fed g (l ++ (b ∷ [])) (first_line bs ++ cs) ≡ fed g ((l ++ (b ∷ [])) ++ first_line bs) cs → fed g l (cond t [] (b ∷ first_line bs) ++ cs) ≡ fed g (l ++ cond t [] (b ∷ first_line bs)) cs
    go true e h = ap (λ (x : List ℕ). fed g x cs) (sym (append-nil l))
    go false e h = rw e (h ∙ ap (λ (x : List ℕ). fed g x cs) (append_assoc l (b ∷ []) (first_line bs)))

fed_taken : (g : Scene) (l : List ℕ) (p : Pending) (bytes : List ℕ) (from : ℕ) (r : Taken) → Takes p bytes from r
    → fed g l (part bytes from (r.next - from)) ≡ fed g (l ++ first_line (drop from bytes)) (cond r.ended (10 ∷ []) [])
unfolding part
fed_taken g l p bytes from r T =
    let n : r.next - from ≡ line_size (drop from bytes) = omega (arith, T.next) in
    ap (λ (k : ℕ). fed g l (take k (drop from bytes))) n
    ∙ ap (fed g l) (line_part (drop from bytes))
    ∙ fed_first g l (drop from bytes) (cond (has_end (drop from bytes)) (10 ∷ []) [])
    ∙ ap (λ (t : Bool). fed g (l ++ first_line (drop from bytes)) (cond t (10 ∷ []) [])) (sym T.ended)

-- it has at least one byte
some_size : (bs : List ℕ) → 0 < length bs → 0 < line_size bs
unfolding first_line has_end
some_size [] h = absurd (omega arith)
some_size (b ∷ bs) h = go (eqb b 10)
  where
    go : (t : Bool) → 0 < length (cond t [] (b ∷ first_line bs)) + cond (cond t true (has_end bs)) 1 0
    go true = omega arith
    go false = omega arith

pub taken_some : (p : Pending) (bytes : List ℕ) (from : ℕ) (r : Taken) → Takes p bytes from r → from < length bytes → from < r.next
taken_some p bytes from r T h = omega (arith, T.next, some_size (drop from bytes) (omega (arith, length-drop from bytes)))

-- a line that is neither a write nor a reading names no session
pub other_line : (line : Line) → ((i plot value : ℕ) → line ≡ Write i plot value → ⊥) → ((i plot : ℕ) → line ≡ Read i plot → ⊥) → sessionless line ≡ line
other_line (Write i plot value) h k = absurd (h i plot value refl)
other_line (Read i plot) h k = absurd (k i plot refl)
other_line (Move i o) h k = refl
other_line (Receive o) h k = refl
other_line Other h k = refl

-- a session that was lent stays where it is
pub lent : (ss : List Session) (i : ℕ) → set ss i (get_or ss i no_session) ≡ ss
lent ss i = set-get_or ss i no_session

-- the session that a line names, after it was lent: changed, or as it was
pub put_back : (P : List Session → Type 0) (ss : List Session) (i : ℕ) (t u : Session) → t ≡ u → P (set ss i t) → P (set ss i u)
put_back P ss i t u e p = subst (λ (x : Session). P (set ss i x)) e p

pub put_lent : (P : List Session → Type 0) (ss : List Session) (i : ℕ) (t u : Session) → t ≡ u → P (set ss i t) → P (set (set ss i (get_or ss i no_session)) i u)
put_lent P ss i t u e p = subst (λ (x : List Session). P (set x i u)) (sym (lent ss i)) (put_back P ss i t u e p)

pub none_of : {A : Type 0} (o : Option A) → ((x : A) → o ≡ Some x → ⊥) → o ≡ None
none_of None h = refl
none_of (Some x) h = absurd (h x refl)

-- ---- the loop over bytes

part_zero : (bytes : List ℕ) (i : ℕ) → part bytes i (i - i) ≡ []
unfolding part
part_zero bytes i = let e : i - i ≡ 0 = omega arith in ap (λ (x : ℕ). take x (drop i bytes)) e

pub nothing_fed : (bytes : List ℕ) (i : ℕ) (r : Stage) (stores lines text : List ℕ) (g : Scene) (l : List ℕ) → Shows g (desk_of r) stores lines → r.pending ≡ pending_of l
    → Follows (fed g l (part bytes i (i - i))) r.at text r stores lines text
unfolding fed
nothing_fed bytes i r stores lines text g l S e =
    subst (λ (x : List ℕ). Follows (fed g l x) r.at text r stores lines text) (sym (part_zero bytes i))
    (record { shows = S; pending = e; at_is = sym (add-zero r.at); text_is = refl })

part_next : (ws : List ℕ) (from i next : ℕ) → from ≤ i → i ≤ next → part ws from (i - from) ++ part ws i (next - i) ≡ part ws from (next - from)
part_next ws from i next h l =
    let f : from + (i - from) ≡ i = omega arith in
    let e : (i - from) + (next - i) ≡ next - from = omega arith in
    ap (λ (x : ℕ). part ws from (i - from) ++ part ws x (next - i)) (sym f) ∙ sym (part_add ws from (i - from) (next - i)) ∙ ap (part ws from) e

-- a turn that ends at once, short of room, is none at the first byte
pub moved : (from i at room : ℕ) → from ≤ i → room - at < 40 → at ≤ room → (i ≡ from → at + 40 ≤ room) → from < i
moved from i at room h short near first = ⊎_elim (λ (l : from < i). l) (λ (l : i ≤ from). absurd (omega (arith, first (omega arith), short, near))) (lt_or_le from i)

-- bytes were fed up to i, and a line was taken from there
module _ (bytes : List ℕ) (from i : ℕ) (h : from ≤ i) (g : Scene) (l : List ℕ) (at : ℕ) (text : List ℕ) (cur : Stage) (stores lines text' : List ℕ)
    (X : Follows (fed g l (part bytes from (i - from))) at text cur stores lines text') (r : Taken) (T : Takes cur.pending bytes i r) where
  abbrev f : Fed
  f = fed g l (part bytes from (i - from))

  abbrev rest : List ℕ
  rest = f.rest ++ first_line (drop i bytes)

  on : (q : Stage) (stores' lines' text'' : List ℕ) → Follows (fed f.scene rest (cond r.ended (10 ∷ []) [])) cur.at text' q stores' lines' text''
      → Follows (fed g l (part bytes from (r.next - from))) at text q stores' lines' text''
  on q stores' lines' text'' B =
      subst (λ (x : List ℕ). Follows (fed g l x) at text q stores' lines' text'') (part_next bytes from i r.next h (omega (arith, T.next)))
      (follows_then g l (part bytes from (i - from)) at text cur stores lines text' (part bytes i (r.next - i)) q stores' lines' text'' X
      (subst (λ (x : Fed). Follows x cur.at text' q stores' lines' text'') (sym (fed_taken f.scene f.rest cur.pending bytes i r T)) B))

  -- it has not ended
  pub line_waits : r.ended ≡ false → Follows (fed g l (part bytes from (r.next - from))) at text (record { sessions = cur.sessions; board = cur.board; pending = r.pending; at = cur.at; wrote = cur.wrote }) stores lines text'
  unfolding fed
  line_waits e =
      on _ stores lines text'
      (subst (λ (t : Bool). Follows (fed f.scene rest (cond t (10 ∷ []) [])) cur.at text' (record { sessions = cur.sessions; board = cur.board; pending = r.pending; at = cur.at; wrote = cur.wrote }) stores lines text') (sym e)
      (record { shows = X.shows; pending = T.pending f.rest X.pending; at_is = sym (add-zero cur.at); text_is = refl }))

  -- it was played
  module _ (e : r.ended ≡ true) (line : Line) (is : line ≡ parsed r.pending) (out : List ℕ) (long : length out ≡ 1751) (q : Stage) (stores' lines' text'' : List ℕ) (none : q.pending ≡ pending_of []) (reply : Reply)
      (plays : (h : Scene) → Shows h (desk_of cur) stores lines → Plays out h line (record { desk = desk_of q; reply = reply }) stores' lines')
      (at_is : q.at ≡ cur.at + length (reply_bytes reply)) (text_is : text'' ≡ sets text' cur.at (reply_bytes reply)) where
    asked : line ≡ line_of rest
    asked = is ∙ ap parsed (T.pending f.rest X.pending) ∙ parse_whole rest

    A : Plays-alike (play out f.scene (line_of rest)) (play out_row f.scene (line_of rest))
    A = play_alike out out_row long f.scene (line_of rest)

    said : reply ≡ (play out_row f.scene (line_of rest)).1
    said = (plays f.scene X.shows).reply ∙ ap (λ (x : Line). (play out f.scene x).1) asked ∙ A.reply

    text_of : List ℕ
    text_of = reply_bytes (play out_row f.scene (line_of rest)).1

    pub line_played : Follows (fed g l (part bytes from (r.next - from))) at text q stores' lines' text''
    unfolding fed text_of
    line_played =
        on q stores' lines' text''
        (subst (λ (t : Bool). Follows (fed f.scene rest (cond t (10 ∷ []) [])) cur.at text' q stores' lines' text'') (sym e)
        (record {
          shows = shows_alike _ _ (desk_of q) stores' lines' A.ring A.place (subst (λ (x : Line). Shows (play out f.scene x).0 (desk_of q) stores' lines') asked (plays f.scene X.shows).shows);
          pending = none;
          at_is = at_is ∙ ap (λ (x : Reply). cur.at + length (reply_bytes x)) said ∙ ap (λ (x : List ℕ). cur.at + length x) (sym (append-nil text_of));
          text_is = text_is ∙ ap (λ (x : Reply). sets text' cur.at (reply_bytes x)) said ∙ ap (sets text' cur.at) (sym (append-nil text_of));
        }))

-- ---- the loop over a chunk

pub leads_none : (bytes : List ℕ) (r : Stage) (stores lines : List ℕ) (g : Scene) (l : List ℕ) → Shows g (desk_of r) stores lines → r.pending ≡ pending_of l → Leads (fed g l (part bytes 0 0)) r stores lines
unfolding part fed
leads_none bytes r stores lines g l S e = record { shows = S; pending = e }

pub leads_then : (bytes : List ℕ) (from next : ℕ) → from ≤ next → (g : Scene) (l : List ℕ) (at : ℕ) (text : List ℕ) (q w : Stage) (stores' lines' text' : List ℕ)
    → Follows (fed (fed g l (part bytes 0 from)).scene (fed g l (part bytes 0 from)).rest (part bytes from (next - from))) at text q stores' lines' text' → desk_of w ≡ desk_of q → w.pending ≡ q.pending
    → Leads (fed g l (part bytes 0 next)) w stores' lines'
leads_then bytes from next h g l at text q w stores' lines' text' B d p =
    subst (λ (f : Fed). Leads f w stores' lines') (sym (fed_append g l (part bytes 0 from) (part bytes from (next - from))) ∙ ap (fed g l) whole)
    (record { shows = subst (λ (x : Desk). Shows more.scene x stores' lines') (sym d) B.shows; pending = p ∙ B.pending })
  where
    more : Fed
    more = fed (fed g l (part bytes 0 from)).scene (fed g l (part bytes 0 from)).rest (part bytes from (next - from))

    whole : part bytes 0 from ++ part bytes from (next - from) ≡ part bytes 0 next
    whole =
        let e : from + (next - from) ≡ next = omega arith in
        ap (λ (x : ℕ). part bytes 0 from ++ part bytes x (next - from)) (sym (zero-add from)) ∙ sym (part_add bytes 0 from (next - from)) ∙ ap (part bytes 0) e

-- ---- the end of the input

empty_list : (l : List ℕ) → is_empty (pending_of l) ≡ true → l ≡ []
empty_list [] e = refl
empty_list (b ∷ l) e = let k : suc (length l) ≡ 0 = eqb-true _ _ (sym (empty_is (b ∷ l)) ∙ e) in absurd (omega (arith, k))

some_list : (l : List ℕ) → is_empty (pending_of l) ≡ false → l ≡ [] → ⊥
some_list l e n = eqb-false _ _ (sym (empty_is l) ∙ e) (ap length n)

last_some : (g : Scene) (l : List ℕ) → (l ≡ [] → ⊥)
    → last_fed g l ≡ record { scene = (play out_row g (line_of l)).0; rest = []; text = reply_bytes (play out_row g (line_of l)).1 }
unfolding last_fed
last_some g [] some = absurd (some refl)
last_some g (b ∷ l) some = refl

pub nothing_finishes : (g : Scene) (l text : List ℕ) (r : Stage) (stores lines : List ℕ) → Shows g (desk_of r) stores lines → r.pending ≡ pending_of l
    → is_empty r.pending ≡ true → Finishes g l text r stores lines text
unfolding last_fed
nothing_finishes g l text r stores lines S e h =
    let none : l ≡ [] = empty_list l (ap is_empty (sym e) ∙ h) in
    subst (λ (x : List ℕ). Finishes g x text r stores lines text) (sym none)
    (record { leads = record { shows = S; pending = e ∙ ap pending_of none }; text_is = refl })

-- the last line, by a newline that did not come
pub last_finishes : (g : Scene) (l : List ℕ) (at : ℕ) (text : List ℕ) (q r : Stage) (stores lines text' : List ℕ) (p : Pending) (next : ℕ) → p ≡ pending_of l → is_empty p ≡ false → at ≡ 0 → 0 < next → next ≤ 1
    → Follows (fed g l (part (10 ∷ []) 0 (next - 0))) at text q stores lines text' → desk_of r ≡ desk_of q → r.pending ≡ q.pending → Finishes g l text r stores lines text'
unfolding fed part
last_finishes g l at text q r stores lines text' p next e h z some one F d w =
    let n : next - 0 ≡ 1 = omega arith in
    let E : Follows (fed g l (10 ∷ [])) at text q stores lines text' = subst (λ (k : ℕ). Follows (fed g l (take k (10 ∷ []))) at text q stores lines text') n F in
    let is = last_some g l (some_list l (ap is_empty (sym e) ∙ h)) in
    record {
      leads = subst (λ (f : Fed). Leads f r stores lines) (sym is) (record { shows = subst (λ (x : Desk). Shows (play out_row g (line_of l)).0 x stores lines) (sym d) E.shows; pending = w ∙ E.pending });
      text_is = E.text_is ∙ (λ i. sets text (z i) (append-nil (reply_bytes (play out_row g (line_of l)).1) i)) ∙ (λ i. sets text 0 (sym is i).text);
    }
