-- Every session and entry that a program has is sane: arrays of eight places, sets of words below 2 ^ 32. Assumes nothing.
use Prim.Native.Nat.{ℕ, zero, suc, ◌<◌, ◌≤◌}
use mathlib.Core.Path.{◌≡◌, refl, sym, subst}
use mathlib.Core.List.Memᴰ
use mathlib.Core.Bool.{true}
use mathlib.Core.List.{List, Memᴰ, [], ◌∷◌}
use mathlib.Core.Logic.{⊎_elim}
use native.Mathlib.Nat.{le_of_suc-le-suc}
use native.Mathlib.Omega.{arith}
use lib.ListN.{length, get_or}
use mir.Val.{Val}
use denote.Laws.{Is}
use denote.Shadow.{shadow}
use denote.Array.{each}
use denote.Struct.Laws as LL
use Rattle.causal.specs.Lists.{tab}
use Rattle.causal.specs.Sets.{IdSet}
use Rattle.causal.proofs.Array.{id_set}
use Rattle.causal.proofs.Lists.{tab_at, tab_length}
use Rattle.frame.specs.declared.entry.Entry.{Entry}
use Rattle.frame.specs.declared.session.Session.{Session}
use Rattle.frame.specs.Entries.{entry_ok}
use Rattle.frame.specs.Sessions.{Content, SaneContent, SaneEntry, content_of, nobody, session_ok}
use Rattle.frame.proofs.Sessions.{own_ok_lem, session_facts}
use Rattle.frame.specs.contracts.entry.Entry as E
use Rattle.frame.proofs.entry.Entry.TheLaws as E'
use Rattle.frame.specs.contracts.session.Session as S
use Rattle.frame.proofs.session.Session.TheLaws as S'
use Rattle.office.specs.Steps.{own_at}

pub entry_sane : (e : Entry) (vs : List Val) → Is E.the_row e vs → SaneEntry e
entry_sane e vs p =
    let w = LL.owed E.the_type E'.the_laws e vs p in
    record { clock8 = (id_set e.clock w.1.1.1.1.0).eight; deps_set = id_set e.deps w.1.1.1.1.1.0 }

-- each element of an array of entries is one
elem : (xs : List Entry) (us : List Val) → shadow (each (E.the_row).Denot (E.the_row).own_val xs us)
    → (i : ℕ) → i < length xs → (u : Val) × Is E.the_row (get_or xs i nobody) (u ∷ [])
elem [] us p i l = absurd (omega arith)
elem (x ∷ xs) [] p i l = absurd p
elem (x ∷ xs) (u ∷ us) p zero l = (u, p.0)
elem (x ∷ xs) (u ∷ us) p (suc i) l = elem xs us p.1 i (le_of_suc-le-suc l)

-- a property of each own write
pub own_all : (P : Entry → Type 0) (own : List Entry) → ((i : ℕ) → i < length own → P (own_at own i)) → (e : Entry) → Memᴰ e own → P e
own_all P [] h e m = absurd (Memᴰ.not-nil m)
own_all P (x ∷ own) h e m =
    ⊎_elim (λ (q : e ≡ x). subst P (sym q) (h 0 (omega arith))) (λ i. own_all P own (λ j l. h (suc j) (omega arith)) e i) (Memᴰ.cases_cons m)

-- and back
pub own_each : (own : List Entry) (i : ℕ) → i < length own → Memᴰ (own_at own i) own
own_each [] i l = absurd (omega arith)
own_each (x ∷ own) zero l = Memᴰ.head refl
own_each (x ∷ own) (suc i) l = Memᴰ.tail (own_each own i (le_of_suc-le-suc l))

-- the own writes of a sound session keep the entry rules
pub own_kept : (n p : ℕ) (s : Content) → session_ok n p s ≡ true → (i : ℕ) → i < length s.own → entry_ok n p (own_at s.own i) ≡ true
own_kept n p s h i l = own_ok_lem n p s (session_facts n p s h) (own_at s.own i) (own_each s.own i l)

-- what a session of a program has read is a set of ids
pub read_ids : (s : Session) {vs : List Val} → Is S.the_row s vs → IdSet s.read
read_ids s {vs} g = id_set s.read (LL.owed S.the_type S'.the_laws s vs g).1.1.0

pub session_sane : (s : Session) (vs : List Val) → Is S.the_row s vs → s.count ≤ 16 → SaneContent (content_of s)
unfolding content_of
session_sane s vs g few =
    let o = LL.owed S.the_type S'.the_laws s vs g in
    let w = o.1.1.1.1.0 in
    let n : length s.own ≡ 16 = w.1.0.1 in
    record {
      clock8 = (id_set s.clock o.1.0).eight;
      read = read_ids s g;
      own =
          own_all SaneEntry (tab s.count (own_at s.own))
          (λ i l.
          let m : i < s.count = omega (arith, tab_length s.count (own_at s.own)) in
          let x = elem s.own w.0 w.1.1 i (omega arith) in
          subst SaneEntry (sym (tab_at s.count (own_at s.own) i nobody m)) (entry_sane (own_at s.own i) _ x.1));
    }
