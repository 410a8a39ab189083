-- An accepted write does not depend on the carrying order but in the order of what it sends. Assumes nothing.
use Prim.Native.Nat.{ℕ, ◌+◌, ◌-◌, ◌<◌, suc, zero}
use mathlib.Core.Bool.{Bool, cond, false, true}
use mathlib.Core.List.Memᴰ
use mathlib.Core.List.{List, Memᴰ, [], ◌++◌, ◌∷◌, append_assoc, map, map-append}
use mathlib.Core.Logic.{◌⊎◌, inl, inr, ⊎_elim}
use mathlib.Core.Path.{◌∙◌, ◌≡◌, ap, refl, sym}
use native.Mathlib.Omega.{arith}
use lib.Dec.{eqb, leb, ltb}
use lib.ListN.{length, length-append, length-set, set}
use borrow.Author.Tests.{eqb-true}
use Rattle.causal.specs.Clocks.{join}
use Rattle.causal.specs.Codes.{check, or_else}
use Rattle.causal.specs.Sets.{IdSet, has, inserted, is_in, subset_of, unite}
use Rattle.causal.proofs.Codes.{check_none, or_both}
use Rattle.causal.proofs.Sets.{has_inserted, ids_inserted, ids_unite, in_or_out, same_words}
use Rattle.causal.specs.Tests.{implies}
use Rattle.causal.proofs.Tests.{both_true}
use Rattle.frame.specs.Calls.{laid}
use Rattle.frame.specs.Entries.{id_of, same_content}
use Rattle.frame.specs.Frames.{frame_words, framed, ring_ok}
use Rattle.frame.specs.Sessions.{Content, SaneContent, ids_of, leave_out, session_ok}
use Rattle.frame.specs.Tokens.{rows_of}
use Rattle.frame.specs.declared.entry.Entry.{Entry}
use Rattle.frame.specs.declared.entry.Frame.{Frame}
use Rattle.frame.proofs.Entries.{entry_facts}
use Rattle.frame.proofs.Ids.{id_range}
use Rattle.frame.proofs.LeaveOut.{left_from}
use Rattle.frame.proofs.Sessions.{ids_from, ids_new, ids_set, own_ok_lem, session_facts}
use Rattle.joining.specs.Orders.{Permuted, Reordered, permuted_cons, permuted_nil}
use Rattle.joining.proofs.Laws.{left_append}
use Rattle.joining.proofs.Orders.{Apart, apart_cons, permuted_end, permuted_from, permuted_length, permuted_to}
use Rattle.store.specs.Offices.{Office, Words32, clock_of, hold, made, office_of, settings_ok, sound_store, store_words}
use Rattle.office.specs.Calls.{Result, entry_code, given, hold_all, missing, new_entry, own_code, sent_of, worded, write, write_code, write_on, write_sends, wrote_session}
use Rattle.store.proofs.Keep.{store_facts}
use Rattle.office.proofs.Along.{hold_end}
use Rattle.office.proofs.KeptSession.{write_session}
use Rattle.ring.specs.Carrying.{SameWrite, TenOrEleven, TwoOrders}
use Rattle.ring.specs.Run.{last_of}
use Rattle.ring.proofs.Carrying.{apart, n8, ok_same}
use Rattle.ring.proofs.WriteKeeps.{last_snoc}

-- ---- one list in two orders

permuted_map : {A B : Type 0} (f : A → B) {l m : List A} → Permuted l m → Permuted (map f l) (map f m)
permuted_map f permuted_nil = permuted_nil
permuted_map f (permuted_cons {x = x} {l = l} bef aft e k) =
    permuted_cons {l = map f l} (map f bef) (map f aft) (ap (map f) e ∙ map-append f bef (x ∷ aft)) (rw (← map-append f bef aft) (permuted_map f k))

permuted_left : (t : Entry → Bool) {l m : List Entry} → Permuted l m → Permuted (leave_out t l) (leave_out t m)
unfolding leave_out
permuted_left t permuted_nil = permuted_nil
permuted_left t (permuted_cons {x = x} {l = l} {m = m} bef aft e k) =
    go (t x) (ap (leave_out t) e ∙ left_append t bef (x ∷ aft)) (rw (left_append t bef aft) at (permuted_left t k))
  where
    go : (b : Bool) → leave_out t m ≡ leave_out t bef ++ cond b (leave_out t aft) (x ∷ leave_out t aft)
        → Permuted (leave_out t l) (leave_out t bef ++ leave_out t aft) → Permuted (cond b (leave_out t l) (x ∷ leave_out t l)) (leave_out t m)
    go true q ih = rw q ih
    go false q ih = permuted_cons {l = leave_out t l} (leave_out t bef) (leave_out t aft) q ih

pub rows_append : (fs gs : List Frame) → rows_of (fs ++ gs) ≡ rows_of fs ++ rows_of gs
unfolding rows_of
rows_append [] gs = refl
rows_append (f ∷ fs) gs = ap (λ (l : List ℕ). frame_words f ++ l) (rows_append fs gs) ∙ sym (append_assoc (frame_words f) (rows_of fs) (rows_of gs))

rows_length : {l m : List Frame} → Permuted l m → length (rows_of l) ≡ length (rows_of m)
unfolding rows_of
rows_length permuted_nil = refl
rows_length (permuted_cons {x = x} {l = l} bef aft e k) =
    omega
    (arith, rows_length k, ap (λ (z : List Frame). length (rows_of z)) e, ap length (rows_append bef (x ∷ aft)), ap length (rows_append bef aft), length-append (rows_of bef) (rows_of aft), length-append (rows_of bef) (frame_words x ++ rows_of aft), length-append (frame_words x) (rows_of aft), length-append (frame_words x) (rows_of l))

-- ---- held in two orders

insert_swap : (s : List ℕ) (k j : ℕ) → IdSet s → k < 256 → j < 256 → inserted (inserted s k) j ≡ inserted (inserted s j) k
insert_swap s k j w lk lj =
    let wk = ids_inserted s k w in
    let wj = ids_inserted s j w in
    same_words (inserted (inserted s k) j) (inserted (inserted s j) k) (ids_inserted (inserted s k) j wk) (ids_inserted (inserted s j) k wj)
    (λ x l.
    omega
    (arith, has_inserted (inserted s k) j x (omega (arith, wk.eight)), has_inserted s k x (omega (arith, w.eight)), has_inserted (inserted s j) k x (omega (arith, wj.eight)), has_inserted s j x (omega (arith, w.eight))))

-- of two ids, whichever is asked first
entry_swap : (x i j : ℕ) (e f d : Entry) → (i ≡ j → ⊥) → cond (eqb x j) f (cond (eqb x i) e d) ≡ cond (eqb x i) e (cond (eqb x j) f d)
entry_swap x i j e f d ne = go (eqb x j) refl (eqb x i) refl
  where
    go : (a : Bool) → eqb x j ≡ a → (b : Bool) → eqb x i ≡ b → cond a f (cond b e d) ≡ cond b e (cond a f d)
    go true p true q = absurd (ne (sym (eqb-true x i q) ∙ eqb-true x j p))
    go true p false q = refl
    go false p true q = refl
    go false p false q = refl

hold_swap : (O : Office) (e f : Entry) → IdSet O.held → id_of e < 256 → id_of f < 256 → (id_of e ≡ id_of f → ⊥) → hold (hold O e) f ≡ hold (hold O f) e
unfolding hold
hold_swap O e f w le lf ne =
    let h = insert_swap O.held (id_of e) (id_of f) w le lf in
    λ i.
    record {
      offices = O.offices;
      own = O.own;
      plots = O.plots;
      held = h i;
      visible = O.visible;
      entry = λ k. entry_swap k (id_of e) (id_of f) e f (O.entry k) ne i;
    }

hold_set : (O : Office) (e : Entry) → IdSet O.held → IdSet (hold O e).held
unfolding hold
hold_set O e w = ids_inserted O.held (id_of e) w

-- one taken in first, or after some others
hold_move : (O : Office) (x : Entry) (bef aft : List Entry) → IdSet O.held → ((e : Entry) → Memᴰ e (x ∷ bef) → id_of e < 256)
    → ((e : Entry) → Memᴰ e bef → id_of x ≡ id_of e → ⊥) → hold_all (hold O x) (bef ++ aft) ≡ hold_all O (bef ++ x ∷ aft)
unfolding hold_all
hold_move O x [] aft w small ne = refl
hold_move O x (e ∷ bef) aft w small ne =
    ap (λ (P : Office). hold_all P (bef ++ aft))
    (hold_swap O x e w (small x (Memᴰ.head refl)) (small e (Memᴰ.tail (Memᴰ.head refl))) (ne e (Memᴰ.head refl)))
    ∙ hold_move (hold O e) x bef aft (hold_set O e w)
    (λ f m. ⊎_elim (λ (q : f ≡ x). small f (Memᴰ.head q)) (λ i. small f (Memᴰ.tail (Memᴰ.tail i))) (Memᴰ.cases_cons m))
    (λ f m. ne f (Memᴰ.tail m))

hold_permuted : {l m : List Entry} → Permuted l m → (O : Office) → IdSet O.held → ((e : Entry) → Memᴰ e l → id_of e < 256) → Apart (map id_of l)
    → hold_all O l ≡ hold_all O m
unfolding hold_all
hold_permuted permuted_nil O w small a = refl
hold_permuted (permuted_cons {x = x} bef aft e k) O w small (apart_cons out a) =
    hold_permuted k (hold O x) (hold_set O x w) (λ f i. small f (Memᴰ.tail i)) a
    ∙ hold_move O x bef aft w
    (λ f m.
    ⊎_elim (λ (q : f ≡ x). small f (Memᴰ.head q)) (λ i. small f (Memᴰ.tail (permuted_from k f (Memᴰ.append_left aft i))))
    (Memᴰ.cases_cons m))
    (λ f m q. out (rw q (Memᴰ.map id_of (permuted_from k f (Memᴰ.append_left aft m)))))
    ∙ ap (hold_all O) (sym e)

-- what is left of ids that are apart is apart
left_apart : (t : Entry → Bool) (l : List Entry) → Apart (map id_of l) → Apart (map id_of (leave_out t l))
unfolding leave_out
left_apart t [] a = a
left_apart t (x ∷ l) (apart_cons out a) = go (t x) (left_apart t l a)
  where
    go : (b : Bool) → Apart (map id_of (leave_out t l)) → Apart (map id_of (cond b (leave_out t l) (x ∷ leave_out t l)))
    go true ih = ih
    go false ih =
        apart_cons {x = id_of x} {l = map id_of (leave_out t l)}
        (λ m.
        let u = Memᴰ.of_map id_of (leave_out t l) m in
        out (rw (← u.2) (Memᴰ.map id_of (left_from t l u.0 u.1).0))) ih

-- ---- the tests of the own writes

own_zero : (O : Office) (es : List Entry) → own_code O es ≡ 0 → (e : Entry) → Memᴰ e es → entry_code O e ≡ 0
unfolding own_code
own_zero O [] h e m = absurd (Memᴰ.not-nil m)
own_zero O (x ∷ es) h e m =
    let w = or_both (entry_code O x) (own_code O es) h in
    ⊎_elim (λ (q : e ≡ x). rw q w.0) (λ i. own_zero O es w.1 e i) (Memᴰ.cases_cons m)

zero_own : (O : Office) (es : List Entry) → ((e : Entry) → Memᴰ e es → entry_code O e ≡ 0) → own_code O es ≡ 0
unfolding own_code or_else
zero_own O [] h = refl
zero_own O (x ∷ es) h = rw (h x (Memᴰ.head refl)) (zero_own O es (λ e m. h e (Memᴰ.tail m)))

-- 10 and 11 are all that an own write is refused with
entry_small : (O : Office) (e : Entry) → (entry_code O e ≡ 0) ⊎ TenOrEleven (entry_code O e)
unfolding entry_code check
entry_small O e =
    go (implies (eqb e.office O.own) (is_in O.held (id_of e))) (implies (is_in O.held (id_of e)) (same_content e (O.entry (id_of e))))
  where
    go : (a b : Bool) → (check a 10 (check b 11 0) ≡ 0) ⊎ TenOrEleven (check a 10 (check b 11 0))
    go true true = inl refl
    go true false = inr (inr refl)
    go false b = inr (inl refl)

own_small : (O : Office) (es : List Entry) → (own_code O es ≡ 0) ⊎ TenOrEleven (own_code O es)
unfolding own_code or_else
own_small O [] = inl refl
own_small O (e ∷ es) = go (entry_code O e) (entry_small O e) (own_small O es)
  where
    go : (a : ℕ) → (a ≡ 0) ⊎ TenOrEleven a → (own_code O es ≡ 0) ⊎ TenOrEleven (own_code O es)
        → (or_else a (own_code O es) ≡ 0) ⊎ TenOrEleven (or_else a (own_code O es))
    go zero x y = y
    go (suc a) (inl x) y = absurd (omega (arith, x))
    go (suc a) (inr x) y = inr x

-- the same tests before the own writes' and after
abbrev Coded : Bool → Bool → Bool → Bool → Bool → Bool → Bool → ℕ → ℕ
Coded a b c d e f k g = check a 3 (check b 4 (check c 5 (check d 7 (check e 6 (check f 12 (or_else g (check k 8 0)))))))

chosen : (a b c d e f k : Bool) (g h : ℕ) → (g ≡ h) ⊎ (TenOrEleven g × TenOrEleven h)
    → (Coded a b c d e f k g ≡ Coded a b c d e f k h) ⊎ (TenOrEleven (Coded a b c d e f k g) × TenOrEleven (Coded a b c d e f k h))
unfolding check or_else
chosen a b c d e f k g h (inl q) =
    inl (ap (Coded a b c d e f k) q)
chosen true true true true true true k (suc g) (suc h) (inr q) = inr q
chosen true true true true true true k zero h (inr q) = absurd (⊎_elim (λ (x : zero ≡ 10). omega (arith, x)) (λ (x : zero ≡ 11). omega (arith, x)) q.0)
chosen true true true true true true k (suc g) zero (inr q) = absurd (⊎_elim (λ (x : zero ≡ 10). omega (arith, x)) (λ (x : zero ≡ 11). omega (arith, x)) q.1)
chosen true true true true true false k g h (inr q) = inl refl
chosen true true true true false f k g h (inr q) = inl refl
chosen true true true false e f k g h (inr q) = inl refl
chosen true true false d e f k g h (inr q) = inl refl
chosen true false c d e f k g h (inr q) = inl refl
chosen false b c d e f k g h (inr q) = inl refl

chosen_of : (a a' b c d d' e f f' k k' : Bool) (g h : ℕ) → a ≡ a' → d ≡ d' → f ≡ f' → k ≡ k' → (g ≡ h) ⊎ (TenOrEleven g × TenOrEleven h)
    → (Coded a b c d e f k g ≡ Coded a' b c d' e f' k' h) ⊎ (TenOrEleven (Coded a b c d e f k g) × TenOrEleven (Coded a' b c d' e f' k' h))
chosen_of a a' b c d d' e f f' k k' g h p q r s w = rw (← p, ← q, ← r, ← s) (chosen a b c d e f k g h w)

ring_of : (n o p : ℕ) → settings_ok n o p ≡ true → ring_ok n p ≡ true
unfolding settings_ok
ring_of n o p h = (both_true (ring_ok n p) (ltb o n) h).0

passes : (a b c d e f k : Bool) (g : ℕ) → a ≡ true → b ≡ true → c ≡ true → d ≡ true → e ≡ true → f ≡ true → g ≡ 0 → k ≡ true
    → Coded a b c d e f k g ≡ 0
unfolding check or_else
passes a b c d e f k g p q r u v x y z = rw (p, q, r, u, v, x, y, z)

module _ (s t : Content) (T : TwoOrders s t) (ws : List ℕ) (plot value : ℕ) where
  abbrev n : ℕ
  n = T.n

  abbrev p : ℕ
  p = T.p

  abbrev O : Office
  O = office_of ws

  small : (r : Content) → session_ok n p r ≡ true → (e : Entry) → Memᴰ e r.own → id_of e < 256
  small r h e m = omega (arith, n8 s t T, id_range n p e (entry_facts n p e (own_ok_lem n p r (session_facts n p r h) e m)))

  -- what an accepted write by r answers
  abbrev W : Content → List ℕ → Result Office Frame
  W r row =
      record {
        code = 0;
        count = length (rows_of (write_sends O r plot value));
        found = [];
        store = hold_all O (sent_of O r plot value);
        session = wrote_session O r plot value;
        row = laid (rows_of (write_sends O r plot value)) row;
        sent = write_sends O r plot value;
      }

  ids_same : ids_of s.own ≡ ids_of t.own
  ids_same =
      same_words (ids_of s.own) (ids_of t.own) (ids_set s.own (small s T.first)) (ids_set t.own (small t T.second))
      (λ k l.
      ⊎_elim
      (λ (h : has (ids_of s.own) k ≡ 1).
      h ∙ sym (over s.own t.own (small s T.first) (small t T.second) (permuted_to T.order.own) k h))
      (λ (h : has (ids_of s.own) k ≡ 0).
      ⊎_elim
      (λ (g : has (ids_of t.own) k ≡ 1).
      over t.own s.own (small t T.second) (small s T.first) (permuted_from T.order.own) k g ∙ sym g)
      (λ (g : has (ids_of t.own) k ≡ 0). h ∙ sym g) (in_or_out (ids_of t.own) k))
      (in_or_out (ids_of s.own) k))
    where
      over : (l m : List Entry) → ((e : Entry) → Memᴰ e l → id_of e < 256) → ((e : Entry) → Memᴰ e m → id_of e < 256)
          → ((e : Entry) → Memᴰ e l → Memᴰ e m) → (k : ℕ) → has (ids_of l) k ≡ 1 → has (ids_of m) k ≡ 1
      over l m bl bm to k h =
          let u = Memᴰ.of_map id_of l (ids_from l bl k h) in ids_new m bm k (rw (← u.2) (Memᴰ.map id_of (to u.0 u.1)))

  new_same : new_entry O s plot value ≡ new_entry O t plot value
  unfolding new_entry
  new_same =
      λ i.
      record {
        office = O.own;
        serial = made O + 1;
        plot = plot;
        value = value;
        clock = set (join (clock_of O) (T.order.clock i)) O.own (made O + 1);
        deps = unite (T.order.read i) (ids_same i);
      }

  missing_order : Permuted (missing O s.own) (missing O t.own)
  missing_order = permuted_left (λ (e : Entry). is_in O.held (id_of e)) T.order.own

  sent_order : Permuted (sent_of O s plot value) (sent_of O t plot value)
  unfolding sent_of
  sent_order = rw (← new_same) (permuted_end (new_entry O s plot value) missing_order)

  sends_order : Permuted (write_sends O s plot value) (write_sends O t plot value)
  sends_order = permuted_map (framed O.offices (O.offices - 2)) sent_order

  held_same : IdSet O.held → hold_all O (sent_of O s plot value) ≡ hold_all O (sent_of O t plot value)
  unfolding sent_of
  held_same w =
      hold_end O (missing O s.own) (new_entry O s plot value)
      ∙ (λ i. hold (carried i) (new_same i))
      ∙ sym (hold_end O (missing O t.own) (new_entry O t plot value))
    where
      carried : hold_all O (missing O s.own) ≡ hold_all O (missing O t.own)
      carried =
          hold_permuted missing_order O w (λ e m. small s T.first e (left_from (λ (x : Entry). is_in O.held (id_of x)) s.own e m).0)
          (left_apart (λ (e : Entry). is_in O.held (id_of e)) s.own (apart s t T))

  wrote_order : Reordered (wrote_session O s plot value) (wrote_session O t plot value)
  unfolding wrote_session
  wrote_order =
      record {
        offices = T.order.offices;
        clock = λ i. join (T.order.clock i) (new_same i).clock;
        read = T.order.read;
        own = rw (← new_same) (permuted_end (new_entry O s plot value) T.order.own);
      }

  made_same : last_of (wrote_session O s plot value).own ≡ last_of (wrote_session O t plot value).own
  unfolding wrote_session
  made_same = last_snoc s.own (new_entry O s plot value) ∙ new_same ∙ sym (last_snoc t.own (new_entry O t plot value))

  code_zero : (room : ℕ) → write_code O s plot value room ≡ 0 → write_code O t plot value room ≡ 0
  unfolding write_code
  code_zero room h =
      let a = check_none (session_ok O.offices O.plots s) 3 _ (omega arith) h in
      let b = check_none (ltb plot O.plots) 4 _ (omega arith) a.1 in
      let c = check_none (ltb value 268435456) 5 _ (omega arith) b.1 in
      let d = check_none (ltb (length s.own) 16) 7 _ (omega arith) c.1 in
      let e = check_none (ltb (made O) 32) 6 _ (omega arith) d.1 in
      let f = check_none (subset_of s.read O.held) 12 _ (omega arith) e.1 in
      let g = or_both (own_code O s.own) _ f.1 in
      let k = check_none (leb (length (rows_of (write_sends O s plot value))) room) 8 0 (omega arith) g.1 in
      passes _ _ _ _ _ _ _ _ (sym (ok_same s t T O.offices O.plots) ∙ a.0) b.0 c.0
      (ap (λ (l : ℕ). ltb l 16) (sym (permuted_length T.order.own)) ∙ d.0) e.0
      (ap (λ (l : List ℕ). subset_of l O.held) (sym T.order.read) ∙ f.0)
      (zero_own O t.own (λ x m. own_zero O s.own g.0 x (permuted_from T.order.own x m)))
      (ap (λ (l : ℕ). leb l room) (sym (rows_length sends_order)) ∙ k.0)

  -- ---- the two refusal numbers

  sends_same : (room : ℕ)
      → leb (length (rows_of (write_sends O s plot value))) room ≡ leb (length (rows_of (write_sends O t plot value))) room
  sends_same room = ap (λ (l : ℕ). leb l room) (rows_length sends_order)

  own_same : (own_code O s.own ≡ own_code O t.own) ⊎ (TenOrEleven (own_code O s.own) × TenOrEleven (own_code O t.own))
  own_same = go (own_small O s.own) (own_small O t.own)
    where
      to : own_code O s.own ≡ 0 → own_code O t.own ≡ 0
      to h = zero_own O t.own (λ x m. own_zero O s.own h x (permuted_from T.order.own x m))

      back : own_code O t.own ≡ 0 → own_code O s.own ≡ 0
      back h = zero_own O s.own (λ x m. own_zero O t.own h x (permuted_to T.order.own x m))

      go : (own_code O s.own ≡ 0) ⊎ TenOrEleven (own_code O s.own) → (own_code O t.own ≡ 0) ⊎ TenOrEleven (own_code O t.own)
          → (own_code O s.own ≡ own_code O t.own) ⊎ (TenOrEleven (own_code O s.own) × TenOrEleven (own_code O t.own))
      go (inl x) y = inl (x ∙ sym (to x))
      go (inr x) (inl y) = inl (back y ∙ sym y)
      go (inr x) (inr y) = inr (x, y)

  code_same : (room : ℕ) → (write_code O s plot value room ≡ write_code O t plot value room)
      ⊎ (TenOrEleven (write_code O s plot value room) × TenOrEleven (write_code O t plot value room))
  unfolding write_code
  code_same room =
      chosen_of _ _ (ltb plot O.plots) (ltb value 268435456) _ _ (ltb (made O) 32) _ _ _ _ _ _ (ok_same s t T O.offices O.plots)
      (ap (λ (l : ℕ). ltb l 16) (permuted_length T.order.own)) (ap (λ (l : List ℕ). subset_of l O.held) T.order.read) (sends_same room) own_same

  pub write_codes : (row : List ℕ) → ((write ws s plot value row).code ≡ (write ws t plot value row).code)
      ⊎ (TenOrEleven (write ws s plot value row).code × TenOrEleven (write ws t plot value row).code)
  unfolding write write_on
  write_codes row = go (sound_store ws) (write_code O s plot value (length row)) (write_code O t plot value (length row)) (code_same (length row))
    where
      go : (b : Bool) (c d : ℕ) → (c ≡ d) ⊎ (TenOrEleven c × TenOrEleven d)
          → ((worded b ws s row (given c O s row (W s row))).code ≡ (worded b ws t row (given d O t row (W t row))).code)
          ⊎ (TenOrEleven (worded b ws s row (given c O s row (W s row))).code × TenOrEleven (worded b ws t row (given d O t row (W t row))).code)
      go true zero zero h = inl refl
      go true zero (suc d) h = h
      go true (suc c) zero h = h
      go true (suc c) (suc d) h = h
      go false c d h = inl refl

  -- ---- what an accepted write leaves

  module _ (w32 : Words32 ws) where
    sound_left : (r : Content) → SaneContent r → sound_store ws ≡ true → (row : List ℕ) → write_code O r plot value (length row) ≡ 0
        → session_ok O.offices O.plots (wrote_session O r plot value) ≡ true
    unfolding write_on write_code
    sound_left r N b row c =
        let h = (check_none (session_ok O.offices O.plots r) 3 _ (omega arith) c).0 in
        ap (λ (x : ℕ). session_ok O.offices O.plots (given x O r row (W r row)).session) (sym c)
        ∙ write_session O (store_facts ws w32 b) r N h plot value row

    sane_left : (r : Content) → SaneContent r → session_ok n p r ≡ true → SaneContent (wrote_session O r plot value)
    unfolding wrote_session join new_entry
    sane_left r N h =
        record {
          clock8 = refl;
          read = N.read;
          own =
              λ e m.
              ⊎_elim (λ i. N.own e i)
              (λ (i : Memᴰ e (new_entry O r plot value ∷ [])).
              rw (Memᴰ.eq_of_singleton i)
              (record {
                clock8 = length-set (join (clock_of O) r.clock) O.own (made O + 1);
                deps_set = ids_unite r.read (ids_of r.own) N.read (ids_set r.own (small r h));
              }))
              (Memᴰ.append_cases r.own m);
        }

    wrote_again : sound_store ws ≡ true → (row : List ℕ) → write_code O s plot value (length row) ≡ 0
        → TwoOrders (wrote_session O s plot value) (wrote_session O t plot value)
    wrote_again b row c =
        record {
          n = O.offices;
          p = O.plots;
          ring = ring_of O.offices O.own O.plots (store_facts ws w32 b).settings;
          first = sound_left s T.sane_first b row c;
          second = sound_left t T.sane_second b row (code_zero (length row) c);
          sane_first = sane_left s T.sane_first T.first;
          sane_second = sane_left t T.sane_second T.second;
          order = wrote_order;
        }

    pub write_same : (row : List ℕ) → (write ws s plot value row).code ≡ 0 → SameWrite (write ws s plot value row) (write ws t plot value row)
    unfolding write write_on
    write_same row h = go (sound_store ws) refl (write_code O s plot value (length row)) refl (write_code O t plot value (length row)) (code_zero (length row)) h
      where
        go : (b : Bool) → sound_store ws ≡ b → (c : ℕ) → write_code O s plot value (length row) ≡ c → (d : ℕ) → (write_code O s plot value (length row) ≡ 0 → d ≡ 0)
            → (worded b ws s row (given c O s row (W s row))).code ≡ 0
            → SameWrite (worded b ws s row (given c O s row (W s row))) (worded b ws t row (given d O t row (W t row)))
        go true b zero c zero d e =
            record {
              code = refl;
              count = rows_length sends_order;
              store = ap (store_words ws) (held_same (store_facts ws w32 b).held_set);
              made = made_same;
              sent = permuted_map frame_words sends_order;
              again = wrote_again b row c;
            }
        go true b zero c (suc d) k e = absurd (omega (arith, k c))
        go true b (suc x) c d k e = absurd (omega (arith, e))
        go false b x c d k e = absurd (omega (arith, e))
