-- The join of two sound sessions is sound, and no id stands twice among its own writes. Assumes nothing.
use Prim.Native.Nat.{ℕ, ◌<◌, ◌≤◌}
use mathlib.Core.Bool.{Bool, true}
use mathlib.Core.List.Memᴰ
use mathlib.Core.List.{List, Memᴰ, [], ◌++◌, ◌∷◌, map}
use mathlib.Core.Logic.{inl, inr, ⊎_elim}
use mathlib.Core.Path.{◌≡◌}
use native.Mathlib.Omega.{arith}
use lib.ListN.{length}
use Rattle.causal.specs.Lists.{zeros}
use Rattle.causal.specs.Sets.{IdSet, has, inserted, is_in, unite}
use Rattle.causal.proofs.Sets.{has_zeros, ids_inserted, ids_unite, ids_zeros, in_is, in_or_out, in_unite, inserted_old, out_is, unite_left, unite_right}
use Rattle.frame.specs.Entries.{id_of}
use Rattle.frame.specs.Sessions.{Content, SaneContent, ids_of, own_ok, session_ok}
use Rattle.frame.specs.declared.entry.Entry.{Entry}
use Rattle.frame.proofs.Entries.{entry_facts}
use Rattle.frame.proofs.Ids.{id_range, ids_of_lem, ids_range, inserted_new, join_ok}
use Rattle.frame.proofs.OwnLess.{Less, own_append, own_less}
use Rattle.frame.proofs.Sessions.{SessionFacts, facts_session, ids_set, own_facts, own_more, own_ok_lem, session_facts}
use Rattle.joining.specs.Joins.{joined, not_among}
use Rattle.joining.proofs.Orders.{Apart, apart_cons, apart_nil}

module _ (n p : ℕ) (n8 : n ≤ 8) (a b : Content) (A : SaneContent a) (B : SaneContent b) (oa : session_ok n p a ≡ true) (ob : session_ok n p b ≡ true) where
  Fa : SessionFacts n p a
  Fa = session_facts n p a oa

  Fb : SessionFacts n p b
  Fb = session_facts n p b ob

  pub small : (e : Entry) → Memᴰ e a.own → id_of e < 256
  small e m = omega (arith, id_range n p e (entry_facts n p e (own_ok_lem n p a Fa e m)))

  abbrev Read : List ℕ
  Read = unite a.read b.read

  read_set : IdSet (unite a.read b.read)
  read_set = ids_unite a.read b.read A.read B.read

  abbrev among : Entry → Bool
  among e = is_in (ids_of a.own) (id_of e)

  -- a dependency of a second's own write that is left out stands in the first's, so before it
  less : Less n p n8 b.read Read B.read read_set among zeros (ids_of a.own) b.own
  less =
      record {
        known = λ d k. ⊎_elim (λ x. inl (unite_right a.read b.read B.read d x)) (λ (x : has zeros d ≡ 1). absurd (omega (arith, has_zeros d))) k;
        out = λ e m q. inr (in_is (ids_of a.own) (id_of e) q);
        new = λ e m q z. out_is (ids_of a.own) (id_of e) q;
      }

  pub joined_own : own_ok n p (unite a.read b.read) zeros (a.own ++ not_among a.own b.own) ≡ true
  unfolding ids_of
  joined_own =
      own_append n p Read zeros a.own (not_among a.own b.own)
      (own_more n p a.read Read A.read read_set (λ d x. unite_left a.read b.read A.read d x) zeros ids_zeros a.own A.own Fa.own)
      (own_less n p n8 b.read Read B.read read_set among b.own B.own zeros (ids_of a.own) ids_zeros (ids_set a.own small) less Fb.own)

  -- "7 if over 16 would be carried" is all that is left to ask
  pub joined_ok : length (joined a b).own ≤ 16 → session_ok n p (joined a b) ≡ true
  unfolding joined
  joined_ok few =
      facts_session n p (joined a b)
      (record {
        offices = Fa.offices;
        few = few;
        clock = join_ok n a.clock b.clock Fa.clock Fb.clock;
        ids =
            ids_of_lem n Read read_set
            (λ d m.
            ⊎_elim (λ x. ids_range n a.read A.read Fa.ids d x) (λ x. ids_range n b.read B.read Fb.ids d x)
            (in_unite a.read b.read d read_set m));
        own = joined_own;
      })

-- the ids of own writes are new to seen, and no two are the same
own_new : (n p : ℕ) → n ≤ 8 → (read seen : List ℕ) → IdSet seen → (es : List Entry) → own_ok n p read seen es ≡ true → (k : ℕ)
    → Memᴰ k (map id_of es) → has seen k ≡ 0
own_new n p n8 read seen w [] h k m = absurd (Memᴰ.not-nil m)
own_new n p n8 read seen w (e ∷ es) h k m =
    let F = own_facts n p read seen e es h in
    let l : id_of e < 256 = omega (arith, id_range n p e (entry_facts n p e F.ok)) in
    ⊎_elim (λ (q : k ≡ id_of e). rw q F.new)
    (λ i.
    let z = own_new n p n8 read (inserted seen (id_of e)) (ids_inserted seen (id_of e) w) es F.rest k i in
    ⊎_elim (λ (x : has seen k ≡ 1). absurd (omega (arith, inserted_old seen (id_of e) l w k x))) (λ x. x) (in_or_out seen k)) (Memᴰ.cases_cons m)

pub own_apart : (n p : ℕ) → n ≤ 8 → (read seen : List ℕ) → IdSet seen → (es : List Entry) → own_ok n p read seen es ≡ true → Apart (map id_of es)
own_apart n p n8 read seen w [] h = apart_nil
own_apart n p n8 read seen w (e ∷ es) h =
    let F = own_facts n p read seen e es h in
    let l : id_of e < 256 = omega (arith, id_range n p e (entry_facts n p e F.ok)) in
    let w' = ids_inserted seen (id_of e) w in
    apart_cons
    (λ m.
    let z = own_new n p n8 read (inserted seen (id_of e)) w' es F.rest (id_of e) m in
    let o = inserted_new seen (id_of e) l w in omega arith)
    (own_apart n p n8 read (inserted seen (id_of e)) w' es F.rest)
