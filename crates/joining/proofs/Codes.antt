-- The answer of a join: what each test of the code says of the refusal number, and so of the promise. Assumes nothing.
use Prim.Native.Nat.{ℕ, suc, ◌+◌, ◌<◌, ◌≤◌}
use mathlib.Core.Bool.{false, true}
use mathlib.Core.List.{List, Memᴰ, ◌++◌}
use mathlib.Core.Path.{◌∙◌, ◌≡◌, ap, sym}
use native.Mathlib.Omega.{arith}
use lib.ListN.{length, length-append}
use borrow.Author.Tests.{le-leb, lt-leb}
use Rattle.causal.specs.Clocks.{join}
use Rattle.causal.specs.Codes.{check}
use Rattle.causal.specs.Sets.{is_in, unite}
use Rattle.causal.specs.Tests.{both}
use Rattle.frame.specs.Entries.{id_of}
use Rattle.frame.specs.Frames.{ring_ok}
use Rattle.frame.specs.Sessions.{Content, content_of, filled, fresh_content, ids_of, leave_out, session_of, session_ok}
use Rattle.frame.specs.declared.entry.Entry.{Entry}
use Rattle.frame.specs.declared.session.Session.{Session}
use Rattle.frame.proofs.Entries.{entry_facts, ring_facts}
use Rattle.frame.proofs.Ids.{id_range}
use Rattle.frame.proofs.OwnTurns.{count_is}
use Rattle.frame.proofs.Sessions.{own_ok_lem, session_facts}
use Rattle.joining.specs.Joins.{all_alike, join_code, join_sessions, joined, joined_if, not_among}
use Rattle.joining.specs.Promises.{JoinPromise}

-- of a session that is sound in a ring in range
module _ (n p : ℕ) (s : Session) (ring : ring_ok n p ≡ true) (ok : session_ok n p (content_of s) ≡ true) where
  pub few : s.count ≤ 16
  few = omega (arith, (session_facts n p (content_of s) ok).few, count_is s)

  pub small : (e : Entry) → Memᴰ e (content_of s).own → id_of e < 256
  small e m =
      omega (arith, (ring_facts n p ring).high, id_range n p e (entry_facts n p e (own_ok_lem n p (content_of s) (session_facts n p (content_of s) ok) e m)))

module _ (n p : ℕ) (a b : Session) where
  abbrev A : Content
  A = content_of a

  abbrev B : Content
  B = content_of b

  abbrev Code : ℕ
  Code = join_code n p A B

  -- a refusal
  pub refused : (c code : ℕ) (s : Session) → suc c ≡ Code → code ≡ suc c → s ≡ session_of (fresh_content 0) → JoinPromise n p a b code s
  unfolding join_sessions joined_if
  refused c code s e q h = (q ∙ e, h ∙ ap (λ (x : ℕ). session_of (joined_if x A B)) e)

  pub accepted : (code : ℕ) (s : Session) → 0 ≡ Code → code ≡ 0 → s ≡ session_of (joined A B) → JoinPromise n p a b code s
  unfolding join_sessions joined_if
  accepted code s e q h = (q ∙ e, h ∙ ap (λ (x : ℕ). session_of (joined_if x A B)) e)

  pub no_ring : ring_ok n p ≡ false → 1 ≡ Code
  unfolding join_code check
  no_ring h = rw h

  pub first_unsound : ring_ok n p ≡ true → session_ok n p A ≡ false → 3 ≡ Code
  unfolding join_code check both
  first_unsound h k = rw (h, k)

  pub second_unsound : ring_ok n p ≡ true → session_ok n p A ≡ true → session_ok n p B ≡ false → 3 ≡ Code
  unfolding join_code check both
  second_unsound h k l = rw (h, k, l)

  module _ (ring : ring_ok n p ≡ true) (first : session_ok n p A ≡ true) (second : session_ok n p B ≡ true) where
    pub two_contents : all_alike B.own A.own ≡ false → 11 ≡ Code
    unfolding join_code check both
    two_contents h = rw (ring, first, second, h)

    pub length_joined : length (joined A B).own ≡ a.count + length (not_among A.own B.own)
    unfolding joined
    length_joined = length-append A.own (not_among A.own B.own) ∙ ap (λ (k : ℕ). k + length (not_among A.own B.own)) (count_is a)

    pub too_many : all_alike B.own A.own ≡ true → 16 < a.count + length (not_among A.own B.own) → 7 ≡ Code
    unfolding join_code check both
    too_many h m = rw (ring, first, second, h, length_joined, lt-leb (a.count + length (not_among A.own B.own)) 16 m)

    pub no_refusal : all_alike B.own A.own ≡ true → a.count + length (not_among A.own B.own) ≤ 16 → 0 ≡ Code
    unfolding join_code check both
    no_refusal h m = rw (ring, first, second, h, length_joined, le-leb (a.count + length (not_among A.own B.own)) 16 m)

    -- of the ids and the number that the code has
    module _ (ids : List ℕ) (is : ids ≡ ids_of A.own) where
      pub more_is : length (leave_out (λ (e : Entry). is_in ids (id_of e)) B.own) ≡ length (not_among A.own B.own)
      more_is = ap (λ (l : List ℕ). length (leave_out (λ (e : Entry). is_in l (id_of e)) B.own)) is

      -- the session that is handed back
      pub made : (s : Session) → s.offices ≡ a.offices → s.clock ≡ join a.clock b.clock → s.read ≡ unite a.read b.read
          → s.count ≡ a.count + length (leave_out (λ (e : Entry). is_in ids (id_of e)) B.own)
          → s.own ≡ filled (A.own ++ leave_out (λ (e : Entry). is_in ids (id_of e)) B.own) → s ≡ session_of (joined A B)
      unfolding joined session_of content_of
      made s o c r k w =
          let count : s.count ≡ length (A.own ++ not_among A.own B.own) = k ∙ ap (λ (m : ℕ). a.count + m) more_is ∙ sym length_joined in
          let own : s.own ≡ filled (A.own ++ not_among A.own B.own) =
          w ∙ ap (λ (l : List ℕ). filled (A.own ++ leave_out (λ (e : Entry). is_in l (id_of e)) B.own)) is
          in
          λ i. record { offices = o i; clock = c i; read = r i; count = count i; own = own i }
