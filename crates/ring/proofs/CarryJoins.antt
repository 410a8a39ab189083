-- A join with another session does not depend on the carrying order either. Assumes nothing.
use Prim.Native.Nat.{ℕ, ◌≤◌}
use mathlib.Core.Bool.{Bool, false, true}
use mathlib.Core.List.{List}
use mathlib.Core.Logic.{⊎_elim}
use mathlib.Core.Path.{◌∙◌, ◌≡◌, ap, refl, sym}
use lib.Dec.{leb}
use lib.ListN.{length}
use Rattle.causal.specs.Clocks.{join}
use Rattle.causal.specs.Codes.{check}
use Rattle.causal.specs.Sets.{unite}
use Rattle.causal.specs.Tests.{both}
use Rattle.causal.proofs.Tests.{same_test}
use Rattle.frame.specs.Frames.{ring_ok}
use Rattle.frame.specs.Sessions.{Content, SaneContent, session_ok}
use Rattle.frame.proofs.Entries.{ring_facts}
use Rattle.joining.specs.Joins.{all_alike, join_code, joined}
use Rattle.joining.specs.Laws.{Sane}
use Rattle.joining.specs.Orders.{Permuted, Reordered}
use Rattle.joining.proofs.Each.{all_alike_at, all_alike_by, all_alike_swap}
use Rattle.joining.proofs.Laws.{carried_first, carried_from, carried_second, join_laws, joinable, joined_apart}
use Rattle.joining.proofs.Orders.{apart_permuted, permuted_from, permuted_length, permuted_to}
use Rattle.ring.specs.Carrying.{TwoOrders}
use Rattle.ring.proofs.Carrying.{ok_same}

module _ (s t c : Content) (T : TwoOrders s t) where
  -- what agrees with the one agrees with the other
  alike_same : all_alike c.own s.own ≡ all_alike c.own t.own
  alike_same =
      same_test (all_alike c.own s.own) (all_alike c.own t.own)
      (λ h. all_alike_by c.own t.own (λ e f i j q. all_alike_at c.own s.own h e f i (permuted_from T.order.own f j) q))
      (λ h. all_alike_by c.own s.own (λ e f i j q. all_alike_at c.own t.own h e f i (permuted_to T.order.own f j) q))

  module _ (m q : ℕ) (C : Sane m q c) where
    -- that all three are sound, and agree
    record Fine : Type 0 where
      pub m8 : m ≤ 8
      pub os : session_ok m q s ≡ true
      pub ot : session_ok m q t ≡ true
      pub oc : session_ok m q c ≡ true
      pub alike_s : all_alike c.own s.own ≡ true
      pub alike_t : all_alike c.own t.own ≡ true

    module _ (F : Fine) where
      own_first : Permuted (joined s c).own (joined t c).own
      own_first =
          apart_permuted (joined s c).own (joined t c).own (joined_apart m q F.m8 s c T.sane_first (C F.oc) F.os F.oc)
          (joined_apart m q F.m8 t c T.sane_second (C F.oc) F.ot F.oc)
          (λ e i.
          ⊎_elim (λ j. carried_first t c e (permuted_to T.order.own e j))
          (λ j. carried_second m q F.m8 t c T.sane_second (C F.oc) F.ot F.oc F.alike_t e j) (carried_from s c e i))
          (λ e i.
          ⊎_elim (λ j. carried_first s c e (permuted_from T.order.own e j))
          (λ j. carried_second m q F.m8 s c T.sane_first (C F.oc) F.os F.oc F.alike_s e j) (carried_from t c e i))

      own_second : Permuted (joined c s).own (joined c t).own
      own_second =
          apart_permuted (joined c s).own (joined c t).own (joined_apart m q F.m8 c s (C F.oc) T.sane_first F.oc F.os)
          (joined_apart m q F.m8 c t (C F.oc) T.sane_second F.oc F.ot)
          (λ e i.
          ⊎_elim (λ j. carried_first c t e j)
          (λ j.
          carried_second m q F.m8 c t (C F.oc) T.sane_second F.oc F.ot (all_alike_swap t.own c.own ∙ F.alike_t) e (permuted_to T.order.own e j))
          (carried_from c s e i))
          (λ e i.
          ⊎_elim (λ j. carried_first c s e j)
          (λ j.
          carried_second m q F.m8 c s (C F.oc) T.sane_first F.oc F.os (all_alike_swap s.own c.own ∙ F.alike_s) e (permuted_from T.order.own e j))
          (carried_from c t e i))

    fine : (ring_ok m q ≡ true) → session_ok m q s ≡ true → session_ok m q c ≡ true → all_alike c.own s.own ≡ true → Fine
    fine r os oc al =
        record {
          m8 = (ring_facts m q r).high;
          os = os;
          ot = sym (ok_same s t T m q) ∙ os;
          oc = oc;
          alike_s = al;
          alike_t = sym alike_same ∙ al;
        }

    code_same : join_code m q s c ≡ join_code m q t c
    unfolding join_code check both
    code_same =
        rw (← ok_same s t T m q, ← alike_same)
        (go (ring_ok m q) refl (session_ok m q s) refl (session_ok m q c) refl (all_alike c.own s.own) refl)
      where
        go : (w : Bool) → ring_ok m q ≡ w → (x : Bool) → session_ok m q s ≡ x → (y : Bool) → session_ok m q c ≡ y → (z : Bool) → all_alike c.own s.own ≡ z
            → check w 1 (check (both x y) 3 (check z 11 (check (leb (length (joined s c).own) 16) 7 0)))
            ≡ check w 1 (check (both x y) 3 (check z 11 (check (leb (length (joined t c).own) 16) 7 0)))
        go true a true b true d true e = ap (λ (l : ℕ). check (leb l 16) 7 0) (permuted_length (own_first (fine a b d e)))
        go true a true b true d false e = refl
        go true a true b false d z e = refl
        go true a false b y d z e = refl
        go false a x b y d z e = refl

    -- the two joins, either way round
    order_first : Fine → Reordered (joined s c) (joined t c)
    unfolding joined
    order_first F =
        record {
          offices = T.order.offices;
          clock = ap (λ (x : List ℕ). join x c.clock) T.order.clock;
          read = ap (λ (x : List ℕ). unite x c.read) T.order.read;
          own = own_first F;
        }

    order_second : Fine → Reordered (joined c s) (joined c t)
    unfolding joined
    order_second F =
        record {
          offices = refl;
          clock = ap (join c.clock) T.order.clock;
          read = ap (unite c.read) T.order.read;
          own = own_second F;
        }

    pub joins_first : (join_code m q s c ≡ join_code m q t c) × (join_code m q s c ≡ 0 → TwoOrders (joined s c) (joined t c))
    joins_first = (code_same, two)
      where
        two : join_code m q s c ≡ 0 → TwoOrders (joined s c) (joined t c)
        two h =
            let J = joinable m q s c h in
            let F = fine J.ring J.first J.second J.alike in
            let L = join_laws.accepted m q s c (λ x. T.sane_first) C h in
            let M = join_laws.accepted m q t c (λ x. T.sane_second) C (sym code_same ∙ h) in
            record {
              n = m;
              p = q;
              ring = J.ring;
              first = L.sound m q J.ring J.first J.second;
              second = M.sound m q J.ring F.ot J.second;
              sane_first = L.sane;
              sane_second = M.sane;
              order = order_first F;
            }

    swap : (x : Content) → SaneContent x → join_code m q c x ≡ join_code m q x c
    swap x X = join_laws.swapped_code m q x c (λ a. X) C

    code_second : join_code m q c s ≡ join_code m q c t
    code_second = swap s T.sane_first ∙ code_same ∙ sym (swap t T.sane_second)

    pub joins_second : (join_code m q c s ≡ join_code m q c t) × (join_code m q c s ≡ 0 → TwoOrders (joined c s) (joined c t))
    joins_second = (code_second, two)
      where
        two : join_code m q c s ≡ 0 → TwoOrders (joined c s) (joined c t)
        two h =
            let J = joinable m q s c (sym (swap s T.sane_first) ∙ h) in
            let F = fine J.ring J.first J.second J.alike in
            let L = join_laws.accepted m q c s C (λ x. T.sane_first) h in
            let M = join_laws.accepted m q c t C (λ x. T.sane_second) (sym code_second ∙ h) in
            record {
              n = m;
              p = q;
              ring = J.ring;
              first = L.sound m q J.ring J.second J.first;
              second = M.sound m q J.ring J.second F.ot;
              sane_first = L.sane;
              sane_second = M.sane;
              order = order_second F;
            }
