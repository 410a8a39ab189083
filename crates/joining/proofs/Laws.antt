-- The laws of the join. Assumes nothing.
use Prim.Native.Nat.{ℕ, ◌%◌, ◌+◌, ◌/◌, ◌<◌, ◌≤◌}
use mathlib.Core.Bool.{Bool, cond, false, true}
use mathlib.Core.List.Memᴰ
use mathlib.Core.List.{List, Memᴰ, [], ◌++◌, ◌∷◌, append-nil, map, map-append}
use mathlib.Core.Logic.{◌⊎◌, inl, inr, ⊎_elim}
use mathlib.Core.Path.{◌∙◌, ◌≡◌, ap, refl, sym}
use native.Mathlib.Nat.{max_comm}
use native.Mathlib.Omega.{arith}
use lib.Bits.{or_comm}
use lib.Dec.{leb}
use lib.ListN.{get_or, length}
use lib.Seq.{ext_get_or}
use borrow.Author.Tests.{le-leb, leb-true}
use Rattle.causal.specs.Clocks.{Covers, join}
use Rattle.causal.specs.Codes.{check}
use Rattle.causal.specs.Lists.{zeros}
use Rattle.causal.specs.Sets.{IdSet, Within, has, is_in, unite}
use Rattle.causal.specs.Tests.{both}
use Rattle.causal.proofs.Clocks.{join_at, join_covers}
use Rattle.causal.proofs.Codes.{check_none}
use Rattle.causal.proofs.Sets.{has_lt, has_unite, ids_unite, ids_zeros, in_is, in_or_out, in_unite, is_in_lem, same_words, unite_left, unite_right}
use Rattle.causal.proofs.Tests.{both_true, not_so}
use Rattle.frame.specs.Entries.{id_of, same_content}
use Rattle.frame.specs.Frames.{ring_ok}
use Rattle.frame.specs.Sessions.{Content, SaneContent, ids_of, leave_out, session_ok}
use Rattle.frame.specs.declared.entry.Entry.{Entry}
use Rattle.frame.proofs.Entries.{EntryFacts, entry_facts, ring_facts}
use Rattle.frame.proofs.Ids.{id_office, id_serial}
use Rattle.frame.proofs.LeaveOut.{left_from, left_in}
use Rattle.frame.proofs.SameContent.{same_content_is, same_refl}
use Rattle.frame.proofs.Sessions.{ids_from, ids_new, own_ok_lem, session_facts}
use Rattle.joining.specs.Joins.{all_alike, join_code, joined, not_among}
use Rattle.joining.specs.Laws.{JoinedLaws, LawsOfJoin, Sane}
use Rattle.joining.specs.Orders.{GoneOn, Reordered}
use Rattle.joining.proofs.Each.{all_alike_at, all_alike_by, all_alike_swap}
use Rattle.joining.proofs.Front.{all_out}
use Rattle.joining.proofs.Orders.{Apart, apart_cons, apart_one, gone_self, apart_map, apart_permuted, permuted_length}
use Rattle.joining.proofs.Sound.{joined_ok, joined_own, own_apart, small}

-- what a join that is not refused says of the two
pub record Joinable (n p : ℕ) (a b : Content) : Type 0 where
  pub ring : ring_ok n p ≡ true
  pub first : session_ok n p a ≡ true
  pub second : session_ok n p b ≡ true
  pub alike : all_alike b.own a.own ≡ true
  pub few : length (joined a b).own ≤ 16

pub joinable : (n p : ℕ) (a b : Content) → join_code n p a b ≡ 0 → Joinable n p a b
unfolding join_code
joinable n p a b h =
    let x = check_none (ring_ok n p) 1 _ (omega arith) h in
    let y = check_none (both (session_ok n p a) (session_ok n p b)) 3 _ (omega arith) x.1 in
    let z = check_none (all_alike b.own a.own) 11 _ (omega arith) y.1 in
    let w = check_none (leb (length (joined a b).own) 16) 7 0 (omega arith) z.1 in
    let t = both_true (session_ok n p a) (session_ok n p b) y.0 in
    record { ring = x.0; first = t.0; second = t.1; alike = z.0; few = leb-true (length (joined a b).own) 16 w.0 }

pub joinable_code : (n p : ℕ) (a b : Content) → Joinable n p a b → join_code n p a b ≡ 0
unfolding join_code check both
joinable_code n p a b J = rw (J.ring, J.first, J.second, J.alike, le-leb (length (joined a b).own) 16 J.few)

-- ---- what is read

reads_from : (a b : Content) → SaneContent a → SaneContent b → (k : ℕ) → has (joined a b).read k ≡ 1 → (has a.read k ≡ 1) ⊎ (has b.read k ≡ 1)
unfolding joined
reads_from a b A B k m = in_unite a.read b.read k (ids_unite a.read b.read A.read B.read) m

reads_second : (a b : Content) → SaneContent b → (k : ℕ) → has b.read k ≡ 1 → has (joined a b).read k ≡ 1
unfolding joined
reads_second a b B k m = unite_right a.read b.read B.read k m

-- ---- what is carried

-- entries that keep the rules, of one id and one content, are one
one_entry : (n p : ℕ) (e f : Entry) → EntryFacts n p e → EntryFacts n p f → id_of e ≡ id_of f → same_content e f ≡ true → e ≡ f
one_entry n p e f E F q h =
    same_content_is e f h (sym (id_office n p e E) ∙ ap (λ (k : ℕ). k / 32) q ∙ id_office n p f F)
    (sym (id_serial n p e E) ∙ ap (λ (k : ℕ). k % 32 + 1) q ∙ id_serial n p f F)

abbrev among : List Entry → Entry → Bool
among es e = is_in (ids_of es) (id_of e)

pub carried_from : (a b : Content) (e : Entry) → Memᴰ e (joined a b).own → Memᴰ e a.own ⊎ Memᴰ e b.own
unfolding joined
carried_from a b e m = ⊎_elim (λ i. inl i) (λ i. inr (left_from (among a.own) b.own e i).0) (Memᴰ.append_cases a.own m)

pub carried_first : (a b : Content) (e : Entry) → Memᴰ e a.own → Memᴰ e (joined a b).own
unfolding joined
carried_first a b e m = Memᴰ.append_left (not_among a.own b.own) m

module _ (n p : ℕ) (n8 : n ≤ 8) where
  pub carried_second : (a b : Content) → SaneContent a → SaneContent b → session_ok n p a ≡ true → session_ok n p b ≡ true → all_alike b.own a.own ≡ true
      → (e : Entry) → Memᴰ e b.own → Memᴰ e (joined a b).own
  unfolding joined
  carried_second a b A B oa ob al e m = go (among a.own e) refl
    where
      facts_of : (s : Content) → session_ok n p s ≡ true → (f : Entry) → Memᴰ f s.own → EntryFacts n p f
      facts_of s o f i = entry_facts n p f (own_ok_lem n p s (session_facts n p s o) f i)

      go : (u : Bool) → among a.own e ≡ u → Memᴰ e (a.own ++ not_among a.own b.own)
      go true u =
          let f = Memᴰ.of_map id_of a.own (ids_from a.own (small n p n8 a b A B oa ob) (id_of e) (in_is (ids_of a.own) (id_of e) u)) in
          let q : e ≡ f.0 = one_entry n p e f.0 (facts_of b ob e m) (facts_of a oa f.0 f.1) (sym f.2) (all_alike_at b.own a.own al e f.0 m f.1 (sym f.2)) in
          Memᴰ.append_left {s = a.own} (not_among a.own b.own) (rw q f.1)
      go false u = Memᴰ.append_right a.own (left_in (among a.own) b.own e m u)

  -- the ids of what is carried are apart
  pub joined_apart : (x y : Content) → SaneContent x → SaneContent y → session_ok n p x ≡ true → session_ok n p y ≡ true → Apart (joined x y).own
  unfolding joined
  joined_apart x y X Y ox oy =
      apart_map id_of (joined x y).own
      (own_apart n p n8 (unite x.read y.read) zeros ids_zeros (joined x y).own (joined_own n p n8 x y X Y ox oy))

  module _ (a b : Content) (A : SaneContent a) (B : SaneContent b) (oa : session_ok n p a ≡ true) (ob : session_ok n p b ≡ true)
      (al : all_alike b.own a.own ≡ true) where
    al' : all_alike a.own b.own ≡ true
    al' = all_alike_swap a.own b.own ∙ al

    over : (x y : Content) → SaneContent x → SaneContent y → session_ok n p x ≡ true → session_ok n p y ≡ true → all_alike x.own y.own ≡ true
        → (e : Entry) → Memᴰ e (joined x y).own → Memᴰ e (joined y x).own
    over x y X Y ox oy h e m = ⊎_elim (λ i. carried_second y x Y X oy ox h e i) (λ i. carried_first y x e i) (carried_from x y e m)

    join_swap : (x y : List ℕ) → join x y ≡ join y x
    unfolding join
    join_swap x y =
        λ i.
        max_comm (get_or x 0 0) (get_or y 0 0) i
        ∷ max_comm (get_or x 1 0) (get_or y 1 0) i
        ∷ max_comm (get_or x 2 0) (get_or y 2 0) i
        ∷ max_comm (get_or x 3 0) (get_or y 3 0) i
        ∷ max_comm (get_or x 4 0) (get_or y 4 0) i
        ∷ max_comm (get_or x 5 0) (get_or y 5 0) i
        ∷ max_comm (get_or x 6 0) (get_or y 6 0) i
        ∷ max_comm (get_or x 7 0) (get_or y 7 0) i
        ∷ []

    unite_swap : (x y : List ℕ) → unite x y ≡ unite y x
    unfolding unite
    unite_swap x y =
        λ i.
        or_comm (get_or x 0 0) (get_or y 0 0) i
        ∷ or_comm (get_or x 1 0) (get_or y 1 0) i
        ∷ or_comm (get_or x 2 0) (get_or y 2 0) i
        ∷ or_comm (get_or x 3 0) (get_or y 3 0) i
        ∷ or_comm (get_or x 4 0) (get_or y 4 0) i
        ∷ or_comm (get_or x 5 0) (get_or y 5 0) i
        ∷ or_comm (get_or x 6 0) (get_or y 6 0) i
        ∷ or_comm (get_or x 7 0) (get_or y 7 0) i
        ∷ []

    pub join_swapped : Reordered (joined a b) (joined b a)
    unfolding joined
    join_swapped =
        record {
          offices = (session_facts n p a oa).offices ∙ sym (session_facts n p b ob).offices;
          clock = join_swap a.clock b.clock;
          read = unite_swap a.read b.read;
          own =
              apart_permuted (joined a b).own (joined b a).own (joined_apart a b A B oa ob) (joined_apart b a B A ob oa) (over a b A B oa ob al')
              (over b a B A ob oa al);
        }

    pub join_count : length (joined a b).own ≡ length (joined b a).own
    join_count = permuted_length join_swapped.own

-- ---- the same answer the other way round

code_swap : (n p : ℕ) (a b : Content) → Sane n p a → Sane n p b → join_code n p b a ≡ join_code n p a b
unfolding join_code check both
code_swap n p a b A B = go (ring_ok n p) refl (session_ok n p a) refl (session_ok n p b) refl (all_alike b.own a.own) refl
  where
    go : (w : Bool) → ring_ok n p ≡ w → (x : Bool) → session_ok n p a ≡ x → (y : Bool) → session_ok n p b ≡ y → (z : Bool) → all_alike b.own a.own ≡ z
        → check w 1 (check (both y x) 3 (check (all_alike a.own b.own) 11 (check (leb (length (joined b a).own) 16) 7 0)))
        ≡ check w 1 (check (both x y) 3 (check z 11 (check (leb (length (joined a b).own) 16) 7 0)))
    go false qw x qa y qb z qz = refl
    go true qw true qa true qb true qz =
        ap (λ (t : Bool). check t 11 (check (leb (length (joined b a).own) 16) 7 0)) (all_alike_swap a.own b.own ∙ qz)
        ∙ ap (λ (l : ℕ). check (leb l 16) 7 0) (sym (join_count n p (ring_facts n p qw).high a b (A qa) (B qb) qa qb qz))
    go true qw true qa true qb false qz =
        ap (λ (t : Bool). check t 11 (check (leb (length (joined b a).own) 16) 7 0)) (all_alike_swap a.own b.own ∙ qz)
    go true qw true qa false qb z qz = refl
    go true qw false qa true qb z qz = refl
    go true qw false qa false qb z qz = refl

-- ---- with a copy that has gone on

pub left_append : (t : Entry → Bool) (l m : List Entry) → leave_out t (l ++ m) ≡ leave_out t l ++ leave_out t m
unfolding leave_out
left_append t [] m = refl
left_append t (x ∷ l) m = go (t x) (left_append t l m)
  where
    go : (b : Bool) → leave_out t (l ++ m) ≡ leave_out t l ++ leave_out t m
        → cond b (leave_out t (l ++ m)) (x ∷ leave_out t (l ++ m)) ≡ cond b (leave_out t l) (x ∷ leave_out t l) ++ leave_out t m
    go true h = h
    go false h = ap (λ (z : List Entry). x ∷ z) h

none_out : (t : Entry → Bool) (l : List Entry) → ((e : Entry) → Memᴰ e l → t e ≡ false) → leave_out t l ≡ l
unfolding leave_out
none_out t [] h = refl
none_out t (x ∷ l) h = rw (h x (Memᴰ.head refl)) (ap (λ (z : List Entry). x ∷ z) (none_out t l (λ e m. h e (Memᴰ.tail m))))

-- behind a list, what is not in it
apart_behind : (l m : List ℕ) → Apart (l ++ m) → (k : ℕ) → Memᴰ k l → Memᴰ k m → ⊥
apart_behind [] m a k i j = Memᴰ.not-nil i
apart_behind (x ∷ l) m (apart_cons out a) k i j =
    ⊎_elim (λ (q : k ≡ x). out (Memᴰ.append_right l (rw q at j))) (λ h. apart_behind l m a k h j) (Memᴰ.cases_cons i)

covered_join : (x y : List ℕ) → length y ≡ 8 → Covers y x → (join x y ≡ y) × (join y x ≡ y)
unfolding join
covered_join x y len c = (
  ext_get_or 0 (join x y) y (sym len) (λ j l. omega (arith, join_at x y j (omega arith), c j (omega arith))),
  ext_get_or 0 (join y x) y (sym len) (λ j l. omega (arith, join_at y x j (omega arith), c j (omega arith))),
)

within_unite : (x y : List ℕ) → IdSet x → IdSet y → Within x y → (unite x y ≡ y) × (unite y x ≡ y)
within_unite x y X Y w = (
  same_words (unite x y) y (ids_unite x y X Y) Y (λ k l. omega (arith, has_unite x y k l, below k, has_lt x k, has_lt y k)),
  same_words (unite y x) y (ids_unite y x Y X) Y (λ k l. omega (arith, has_unite y x k l, below k, has_lt x k, has_lt y k)),
)
  where
    below : (k : ℕ) → has x k ≤ has y k
    below k = ⊎_elim (λ (h : has x k ≡ 1). omega (arith, w k h)) (λ (h : has x k ≡ 0). omega arith) (in_or_out x k)

module _ (n p : ℕ) (n8 : n ≤ 8) (a b : Content) (A : SaneContent a) (B : SaneContent b) (oa : session_ok n p a ≡ true) (ob : session_ok n p b ≡ true)
    (G : GoneOn a b) where
  ids_apart : Apart (map id_of b.own)
  ids_apart = own_apart n p n8 b.read zeros ids_zeros b.own (session_facts n p b ob).own

  in_longer : (e : Entry) → Memᴰ e a.own → Memᴰ e b.own
  in_longer e m = rw G.own (Memᴰ.append_left G.more m)

  known : (s : Content) → (e : Entry) → ((e : Entry) → Memᴰ e s.own → id_of e < 256) → Memᴰ e s.own → among s.own e ≡ true
  known s e b m = is_in_lem (ids_of s.own) (id_of e) (ids_new s.own b (id_of e) (Memᴰ.map id_of m))

  -- the second's own writes behind those of the first: the first's are among them, the others are not
  own_forth : a.own ++ not_among a.own b.own ≡ b.own
  own_forth =
      ap (λ (l : List Entry). a.own ++ l)
      (ap (leave_out (among a.own)) G.own
      ∙ left_append (among a.own) a.own G.more
      ∙ ap (λ (l : List Entry). l ++ leave_out (among a.own) G.more)
      (all_out (among a.own) a.own (λ e m. known a e (small n p n8 a b A B oa ob) m))
      ∙ none_out (among a.own) G.more new)
      ∙ sym G.own
    where
      new : (e : Entry) → Memᴰ e G.more → among a.own e ≡ false
      new e m =
          not_so (among a.own e)
          (λ h.
          apart_behind (map id_of a.own) (map id_of G.more) (rw (G.own, map-append id_of a.own G.more) at ids_apart) (id_of e)
          (ids_from a.own (small n p n8 a b A B oa ob) (id_of e) (in_is (ids_of a.own) (id_of e) h)) (Memᴰ.map id_of m))

  own_back : b.own ++ not_among b.own a.own ≡ b.own
  own_back =
      ap (λ (l : List Entry). b.own ++ l)
      (all_out (among b.own) a.own (λ e m. known b e (small n p n8 b a B A ob oa) (in_longer e m)))
      ∙ append-nil b.own

  pub gone_joined : (joined a b ≡ b) × (joined b a ≡ b)
  unfolding joined
  gone_joined =
      let c = covered_join a.clock b.clock B.clock8 G.clock in
      let r = within_unite a.read b.read A.read B.read G.read in (
        λ i. record { offices = G.offices i; clock = c.0 i; read = r.0 i; own = own_forth i },
        λ i. record { offices = b.offices; clock = c.1 i; read = r.1 i; own = own_back i },
      )

  pub gone_alike : all_alike b.own a.own ≡ true
  gone_alike =
      all_alike_by b.own a.own
      (λ e f i j q. ap (same_content e) (sym (apart_one id_of b.own ids_apart e f i (in_longer f j) q)) ∙ same_refl e)

-- ---- together

gone_code : (n p : ℕ) (a b : Content) → Sane n p a → Sane n p b → GoneOn a b → ring_ok n p ≡ true → session_ok n p a ≡ true
    → session_ok n p b ≡ true → join_code n p a b ≡ 0
gone_code n p a b A B G ring oa ob =
    let n8 = (ring_facts n p ring).high in
    joinable_code n p a b
    (record {
      ring = ring;
      first = oa;
      second = ob;
      alike = gone_alike n p n8 a b (A oa) (B ob) oa ob G;
      few = omega (arith, (session_facts n p b ob).few, ap (λ (s : Content). length s.own) (gone_joined n p n8 a b (A oa) (B ob) oa ob G).0);
    })

joined_sane : (a b : Content) → SaneContent a → SaneContent b → SaneContent (joined a b)
unfolding joined join
joined_sane a b A B =
    record {
      clock8 = refl;
      read = ids_unite a.read b.read A.read B.read;
      own = λ e m. ⊎_elim (λ i. A.own e i) (λ i. B.own e i) (carried_from a b e m);
    }

from_first : (a b : Content) → SaneContent a → GoneOn a (joined a b)
unfolding joined
from_first a b A =
    record {
      offices = refl;
      clock = (join_covers a.clock b.clock).0;
      read = unite_left a.read b.read A.read;
      more = not_among a.own b.own;
      own = refl;
    }

clock_second : (a b : Content) → Covers (joined a b).clock b.clock
unfolding joined
clock_second a b = (join_covers a.clock b.clock).1

accepted : (n p : ℕ) (a b : Content) → Sane n p a → Sane n p b → join_code n p a b ≡ 0 → JoinedLaws a b
accepted n p a b SA SB h =
    let J = joinable n p a b h in
    let n8 = (ring_facts n p J.ring).high in
    let A = SA J.first in
    let B = SB J.second in
    record {
      sane = joined_sane a b A B;
      sound = λ m q r oa ob. joined_ok m q (ring_facts m q r).high a b A B oa ob J.few;
      first = from_first a b A;
      clock_second = clock_second a b;
      reads_second = reads_second a b B;
      reads = reads_from a b A B;
      carries_second = carried_second n p n8 a b A B J.first J.second J.alike;
      carries = carried_from a b;
      swapped = join_swapped n p n8 a b A B J.first J.second J.alike;
      gone_on = gone_joined n p n8 a b A B J.first J.second;
    }

itself : (n p : ℕ) (a : Content) → Sane n p a → ring_ok n p ≡ true → session_ok n p a ≡ true → (join_code n p a a ≡ 0) × (joined a a ≡ a)
itself n p a A ring ok =
    (gone_code n p a a A A (gone_self a) ring ok ok, (gone_joined n p (ring_facts n p ring).high a a (A ok) (A ok) ok ok (gone_self a)).0)

pub join_laws : LawsOfJoin
join_laws = record { accepted = accepted; swapped_code = code_swap; gone_on_code = gone_code; itself = itself }
