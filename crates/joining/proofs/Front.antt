-- Two rows of own writes that begin with the same entries: what stands in front of the second is alike to each of the first's, and none of it is
-- left. Assumes nothing.
use Prim.Native.Nat.{ℕ, ◌<◌, ◌≤◌}
use mathlib.Core.Bool.{Bool, true}
use mathlib.Core.List.Memᴰ
use mathlib.Core.List.{List, Memᴰ, [], ◌++◌, ◌∷◌, append-nil, map}
use mathlib.Core.Path.{◌∙◌, ◌≡◌, ap, refl, sym}
use native.Mathlib.Omega.{arith}
use lib.Dec.{eqb}
use lib.ListN.{get_or, length, take}
use borrow.Author.Tests.{eqb-true}
use Rattle.std.proofs.Common.{take_all}
use Rattle.causal.specs.Clocks.{join}
use Rattle.causal.specs.Lists.{zeros}
use Rattle.causal.specs.Sets.{is_in, unite}
use Rattle.causal.specs.Tests.{all_below, both}
use Rattle.causal.proofs.Sets.{ids_zeros, is_in_lem}
use Rattle.causal.proofs.Tests.{all_at, all_intro, both_true}
use Rattle.frame.specs.Entries.{id_of, same_content}
use Rattle.frame.specs.Frames.{ring_ok}
use Rattle.frame.specs.Sessions.{content_of, filled, ids_of, leave_out, nobody, own_ok, session_ok}
use Rattle.frame.specs.declared.entry.Entry.{Entry}
use Rattle.frame.specs.declared.session.Session.{Session}
use Rattle.frame.proofs.Entries.{ring_facts}
use Rattle.frame.proofs.OwnTurns.{count_is}
use Rattle.frame.proofs.Sessions.{ids_new, session_facts}
use Rattle.joining.specs.Joins.{alike, all_alike, each, not_among}
use Rattle.joining.specs.Promises.{JoinPromise}
use Rattle.joining.proofs.Codes.{accepted, few, made, no_refusal, small}
use Rattle.joining.proofs.Each.{alike_by, at_in, each_at, each_by, each_take}
use Rattle.joining.proofs.Orders.{Apart, apart_one}
use Rattle.joining.proofs.Sound.{own_apart}

-- where the test takes each, none is left
pub all_out : (t : Entry → Bool) (l : List Entry) → ((e : Entry) → Memᴰ e l → t e ≡ true) → leave_out t l ≡ []
unfolding leave_out
all_out t [] h = refl
all_out t (x ∷ l) h = rw (h x (Memᴰ.head refl)) (all_out t l (λ e m. h e (Memᴰ.tail m)))

-- fs, and the first k of gs, which are the same as those of fs
module _ (fs gs : List Entry) (k : ℕ) (within : k ≤ length fs) (inside : k ≤ length gs)
    (same : all_below k (λ j. both (eqb (id_of (get_or gs j nobody)) (id_of (get_or fs j nobody))) (same_content (get_or gs j nobody) (get_or fs j nobody))) ≡ true) where
  same_at : (j : ℕ) → j < k → (eqb (id_of (get_or gs j nobody)) (id_of (get_or fs j nobody)) ≡ true) × (same_content (get_or gs j nobody) (get_or fs j nobody) ≡ true)
  same_at j l = both_true _ _ (all_at (λ j. both (eqb (id_of (get_or gs j nobody)) (id_of (get_or fs j nobody))) (same_content (get_or gs j nobody) (get_or fs j nobody))) k same j l)

  id_at : (j : ℕ) → j < k → id_of (get_or gs j nobody) ≡ id_of (get_or fs j nobody)
  id_at j l = eqb-true (id_of (get_or gs j nobody)) (id_of (get_or fs j nobody)) (same_at j l).0

  alike_front : Apart (map id_of fs) → all_alike (take k gs) fs ≡ true
  unfolding all_alike
  alike_front apart =
      each_take (λ e. each (alike e) fs) gs k inside
      ∙ all_intro (λ j. each (alike (get_or gs j nobody)) fs) k
      (λ j l.
      each_by (alike (get_or gs j nobody)) fs
      (λ x m.
      alike_by (get_or gs j nobody) x
      (λ q.
      let e : x ≡ get_or fs j nobody = apart_one id_of fs apart x (get_or fs j nobody) m (at_in fs j (omega arith)) (sym q ∙ id_at j l) in
      rw e (same_at j l).1)))

  out_front : ((e : Entry) → Memᴰ e fs → id_of e < 256) → (ids : List ℕ) → ids ≡ ids_of fs → leave_out (λ e. is_in ids (id_of e)) (take k gs) ≡ []
  out_front small ids is =
      let t : Entry → Bool = λ e. is_in ids (id_of e) in
      all_out t (take k gs)
      (each_at t (take k gs)
      (each_take t gs k inside
      ∙ all_intro (λ j. t (get_or gs j nobody)) k
      (λ j l.
      ap (λ (s : List ℕ). is_in s (id_of (get_or gs j nobody))) is
      ∙ ap (is_in (ids_of fs)) (id_at j l)
      ∙ is_in_lem (ids_of fs) (id_of (get_or fs j nobody)) (ids_new fs small (id_of (get_or fs j nobody)) (Memᴰ.map id_of (at_in fs j (omega arith)))))))

-- what a sound session says of its own writes
own_part : (n p : ℕ) (a : Session) → session_ok n p (content_of a) ≡ true → own_ok n p a.read zeros (content_of a).own ≡ true
unfolding content_of
own_part n p a ok = (session_facts n p (content_of a) ok).own

-- ---- of sessions: the first is sound in a ring in range, and k is the length of the front

module _ (n p : ℕ) (a : Session) (ring : ring_ok n p ≡ true) (ok : session_ok n p (content_of a) ≡ true) (b : Session) (k : ℕ)
    (within : k ≤ length (content_of a).own) (inside : k ≤ length (content_of b).own)
    (same : all_below k (λ j. both (eqb (id_of (get_or (content_of b).own j nobody)) (id_of (get_or (content_of a).own j nobody))) (same_content (get_or (content_of b).own j nobody) (get_or (content_of a).own j nobody))) ≡ true) where
  pub front_alike : all_alike (take k (content_of b).own) (content_of a).own ≡ true
  front_alike =
      alike_front (content_of a).own (content_of b).own k within inside same
      (own_apart n p (ring_facts n p ring).high a.read zeros ids_zeros (content_of a).own (own_part n p a ok))

  pub front_out : (ids : List ℕ) → ids ≡ ids_of (content_of a).own → leave_out (λ e. is_in ids (id_of e)) (take k (content_of b).own) ≡ []
  front_out ids is = out_front (content_of a).own (content_of b).own k within inside same (small n p a ring ok) ids is

  -- all of the second stands in front: nothing is refused, and nothing is new
  module _ (second : session_ok n p (content_of b) ≡ true) (all : k ≡ b.count) where
    whole : take k (content_of b).own ≡ (content_of b).own
    whole = take_all k (content_of b).own (omega (arith, all, count_is b))

    all_alike_lem : all_alike (content_of b).own (content_of a).own ≡ true
    all_alike_lem = ap (λ (l : List Entry). all_alike l (content_of a).own) (sym whole) ∙ front_alike

    none : not_among (content_of a).own (content_of b).own ≡ []
    none = ap (not_among (content_of a).own) (sym whole) ∙ front_out (ids_of (content_of a).own) refl

    pub nothing_new : (code : ℕ) (s : Session) → code ≡ 0 → s.offices ≡ a.offices → s.clock ≡ join a.clock b.clock
        → s.read ≡ unite a.read b.read → s.count ≡ a.count → s.own ≡ filled (content_of a).own → JoinPromise n p a b code s
    nothing_new code s q o c r m w =
        accepted n p a b code s (no_refusal n p a b ring ok second all_alike_lem (omega (arith, ap length none, few n p a ring ok))) q
        (made n p a b ring ok second (ids_of (content_of a).own) refl s o c r (omega (arith, m, ap length none))
        (w ∙ ap filled (sym (append-nil (content_of a).own) ∙ ap (λ (l : List Entry). (content_of a).own ++ l) (sym none))))
