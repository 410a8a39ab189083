-- What a sound session says, both ways; its own entries and their ids; a session that has read or written more. Assumes nothing.
use Rattle.std.proofs.Common.{◌≡◌, ℕ, ◌<◌, ◌≤◌, true, not, eqb, leb, ◌⊎◌, List, [], ◌∷◌, ◌++◌, map, length, refl, ap, inl, inr, ⊎_elim, arith, eq-eqb, eqb-true, le-leb, leb-true}
use mathlib.Core.List.Memᴰ
use mathlib.Core.List.{Memᴰ, foldl}
use Rattle.causal.specs.Lists.{zeros}
use Rattle.causal.specs.Sets.{IdSet, Within, has, inserted, is_in, subset_of, unite}
use Rattle.causal.proofs.Sets.{has_zeros, ids_inserted, ids_unite, ids_zeros, in_inserted, in_unite, inserted_old, is_out, subset_by, subset_within, unite_left, unite_right}
use Rattle.causal.proofs.Tests.{both_intro, both_true}
use Rattle.frame.specs.Entries.{clock_ok, entry_ok, id_of, ids_ok}
use Rattle.frame.specs.Sessions.{Content, SaneEntry, ids_of, own_ok, session_ok}
use Rattle.frame.specs.declared.entry.Entry.{Entry}
use Rattle.frame.proofs.Ids.{inserted_new, not_in}

-- ---- the ids of entries

abbrev pub ids_with : List ℕ → List Entry → List ℕ
ids_with seen es = foldl (λ (s : List ℕ) (e : Entry). inserted s (id_of e)) seen es

with_set : (es : List Entry) (s : List ℕ) → IdSet s → IdSet (ids_with s es)
with_set [] s w = w
with_set (e ∷ es) s w = with_set es (inserted s (id_of e)) (ids_inserted s (id_of e) w)

with_old : (es : List Entry) (s : List ℕ) → IdSet s → ((e : Entry) → Memᴰ e es → id_of e < 256) → (d : ℕ) → has s d ≡ 1
    → has (ids_with s es) d ≡ 1
with_old [] s w b d h = h
with_old (e ∷ es) s w b d h =
    with_old es (inserted s (id_of e)) (ids_inserted s (id_of e) w) (λ f m. b f (Memᴰ.tail m)) d
    (inserted_old s (id_of e) (b e (Memᴰ.head refl)) w d h)

with_new : (es : List Entry) (s : List ℕ) → IdSet s → ((e : Entry) → Memᴰ e es → id_of e < 256) → (d : ℕ) → Memᴰ d (map id_of es)
    → has (ids_with s es) d ≡ 1
with_new [] s w b d m = absurd (Memᴰ.not-nil m)
with_new (e ∷ es) s w b d m =
    ⊎_elim
    (λ (q : d ≡ id_of e).
    with_old es (inserted s (id_of e)) (ids_inserted s (id_of e) w) (λ f m. b f (Memᴰ.tail m)) d (rw q (inserted_new s (id_of e) (b e (Memᴰ.head refl)) w)))
    (λ i. with_new es (inserted s (id_of e)) (ids_inserted s (id_of e) w) (λ f m. b f (Memᴰ.tail m)) d i) (Memᴰ.cases_cons m)

with_from : (es : List Entry) (s : List ℕ) → IdSet s → ((e : Entry) → Memᴰ e es → id_of e < 256) → (d : ℕ) → has (ids_with s es) d ≡ 1
    → (has s d ≡ 1) ⊎ Memᴰ d (map id_of es)
with_from [] s w b d h = inl h
with_from (e ∷ es) s w b d h =
    ⊎_elim (λ i. ⊎_elim (λ q. inr (Memᴰ.head q)) (λ j. inl j) (in_inserted s (id_of e) d (b e (Memᴰ.head refl)) w i))
    (λ i. inr (Memᴰ.tail i))
    (with_from es (inserted s (id_of e)) (ids_inserted s (id_of e) w) (λ f m. b f (Memᴰ.tail m)) d h)

module _ (es : List Entry) (small : (e : Entry) → Memᴰ e es → id_of e < 256) where
  pub ids_set : IdSet (ids_of es)
  unfolding ids_of
  ids_set = with_set es zeros ids_zeros

  pub ids_new : (d : ℕ) → Memᴰ d (map id_of es) → has (ids_of es) d ≡ 1
  unfolding ids_of
  ids_new d m = with_new es zeros ids_zeros small d m

  pub ids_from : (d : ℕ) → has (ids_of es) d ≡ 1 → Memᴰ d (map id_of es)
  unfolding ids_of
  ids_from d h = ⊎_elim (λ z. absurd (omega (arith, has_zeros d))) (λ m. m) (with_from es zeros ids_zeros small d h)

-- ---- the rules of a session

pub record SessionFacts (n p : ℕ) (s : Content) : Type 0 where
  pub offices : s.offices ≡ n
  pub few : length s.own ≤ 16
  pub clock : clock_ok n s.clock ≡ true
  pub ids : ids_ok n s.read ≡ true
  pub own : own_ok n p s.read zeros s.own ≡ true

pub session_facts : (n p : ℕ) (s : Content) → session_ok n p s ≡ true → SessionFacts n p s
unfolding session_ok
session_facts n p s h =
    let a = both_true (eqb s.offices n) _ h in
    let b = both_true (leb (length s.own) 16) _ a.1 in
    let c = both_true (clock_ok n s.clock) _ b.1 in
    let d = both_true (ids_ok n s.read) _ c.1 in
    record { offices = eqb-true s.offices n a.0; few = leb-true (length s.own) 16 b.0; clock = c.0; ids = d.0; own = d.1 }

pub facts_session : (n p : ℕ) (s : Content) → SessionFacts n p s → session_ok n p s ≡ true
unfolding session_ok
facts_session n p s F =
    both_intro _ _ (eq-eqb s.offices n F.offices)
    (both_intro _ _ (le-leb (length s.own) 16 F.few) (both_intro _ _ F.clock (both_intro _ _ F.ids F.own)))

-- one own entry's rules, and the rest's
pub record OwnFacts (n p : ℕ) (read seen : List ℕ) (e : Entry) (es : List Entry) : Type 0 where
  pub ok : entry_ok n p e ≡ true
  pub new : has seen (id_of e) ≡ 0
  pub deps : subset_of e.deps (unite read seen) ≡ true
  pub rest : own_ok n p read (inserted seen (id_of e)) es ≡ true

pub own_facts : (n p : ℕ) (read seen : List ℕ) (e : Entry) (es : List Entry) → own_ok n p read seen (e ∷ es) ≡ true → OwnFacts n p read seen e es
unfolding own_ok
own_facts n p read seen e es h =
    let a = both_true (entry_ok n p e) _ h in
    let b = both_true (not (is_in seen (id_of e))) _ a.1 in
    let c = both_true (subset_of e.deps (unite read seen)) _ b.1 in
    record { ok = a.0; new = not_in seen (id_of e) b.0; deps = c.0; rest = c.1 }

pub facts_own : (n p : ℕ) (read seen : List ℕ) (e : Entry) (es : List Entry) → OwnFacts n p read seen e es → own_ok n p read seen (e ∷ es) ≡ true
unfolding own_ok
facts_own n p read seen e es F =
    both_intro _ _ F.ok (both_intro _ _ (ap not (is_out seen (id_of e) F.new)) (both_intro _ _ F.deps F.rest))

pub own_each : (n p : ℕ) (read seen : List ℕ) (es : List Entry) → own_ok n p read seen es ≡ true → (e : Entry) → Memᴰ e es
    → entry_ok n p e ≡ true
own_each n p read seen [] h e m = absurd (Memᴰ.not-nil m)
own_each n p read seen (x ∷ es) h e m =
    let F = own_facts n p read seen x es h in
    ⊎_elim (λ (q : e ≡ x). rw q F.ok) (λ i. own_each n p read (inserted seen (id_of x)) es F.rest e i) (Memᴰ.cases_cons m)

-- each own entry of a sound session keeps the rules
pub own_ok_lem : (n p : ℕ) (s : Content) → SessionFacts n p s → (e : Entry) → Memᴰ e s.own → entry_ok n p e ≡ true
own_ok_lem n p s F = own_each n p s.read zeros s.own F.own

-- ---- a session that has read more

pub own_more : (n p : ℕ) (read read' : List ℕ) → IdSet read → IdSet read' → Within read read' → (seen : List ℕ) → IdSet seen → (es : List Entry)
    → ((e : Entry) → Memᴰ e es → SaneEntry e) → own_ok n p read seen es ≡ true → own_ok n p read' seen es ≡ true
unfolding own_ok
own_more n p read read' w w' r seen ws [] sane h = refl
own_more n p read read' w w' r seen ws (e ∷ es) sane h =
    let F = own_facts n p read seen e es h in
    let d = (sane e (Memᴰ.head refl)).deps_set in
    facts_own n p read' seen e es
    (record {
      ok = F.ok;
      new = F.new;
      deps =
          subset_by e.deps (unite read' seen) d (ids_unite read' seen w' ws)
          (λ k m.
          ⊎_elim (λ i. unite_left read' seen w' k (r k i)) (λ i. unite_right read' seen ws k i)
          (in_unite read seen k (ids_unite read seen w ws) (subset_within e.deps (unite read seen) d F.deps k m)));
      rest =
          own_more n p read read' w w' r (inserted seen (id_of e)) (ids_inserted seen (id_of e) ws) es (λ f m. sane f (Memᴰ.tail m)) F.rest;
    })

-- ---- a session that has written more

pub own_end : (n p : ℕ) (read seen : List ℕ) (es : List Entry) (e : Entry) → own_ok n p read seen es ≡ true → entry_ok n p e ≡ true
    → has (ids_with seen es) (id_of e) ≡ 0 → subset_of e.deps (unite read (ids_with seen es)) ≡ true → own_ok n p read seen (es ++ (e ∷ [])) ≡ true
unfolding own_ok
own_end n p read seen [] e h ok new sub = facts_own n p read seen e [] (record { ok = ok; new = new; deps = sub; rest = refl })
own_end n p read seen (x ∷ es) e h ok new sub =
    let F = own_facts n p read seen x es h in
    facts_own n p read seen x (es ++ (e ∷ []))
    (record { ok = F.ok; new = F.new; deps = F.deps; rest = own_end n p read (inserted seen (id_of x)) es e F.rest ok new sub })
