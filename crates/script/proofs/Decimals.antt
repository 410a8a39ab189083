-- Laws of numbers in decimal: the last digit comes last, ten digits are enough for 32 bits. Assumes nothing.
use Prim.Native.Nat.{ℕ, zero, suc, ◌+◌, ◌/◌, ◌%◌, ◌<◌, ◌≤◌}
use mathlib.Core.Path.{◌≡◌, refl, sym, ap, ◌∙◌}
use mathlib.Core.List.{List, [], ◌∷◌, ◌++◌}
use mathlib.Core.Logic.{⊎_elim}
use native.Mathlib.Omega.{arith}
use lib.ListN.{length, length-append}
use Rattle.causal.proofs.Tests.{lt_or_le}
use Rattle.script.specs.Replies.{decimal, digits_in, name_bytes, numbered, reply_bytes, ReplyFits}
use Rattle.script.specs.declared.reply.Reply.{Reply}
use Rattle.script.specs.declared.reply.Reply.TheVariants.{Wrote, Found, NoEntry, Moved, Received, NoFrame, Refused, Full, Odd}
use Rattle.script.proofs.Lengths.{tens, tens_ten}

none_in : (k n : ℕ) → n ≡ 0 → digits_in k n ≡ []
unfolding digits_in
none_in zero n e = refl
none_in (suc k) zero e = refl
none_in (suc k) (suc m) e = absurd (omega arith)

-- the bound on the digits does not matter
enough : (j k n : ℕ) → n ≤ j → n ≤ k → digits_in j n ≡ digits_in k n
unfolding digits_in
enough zero k n p q = let e : n ≡ 0 = omega arith in sym (none_in k n e)
enough (suc j) zero n p q = let e : n ≡ 0 = omega arith in none_in (suc j) n e
enough (suc j) (suc k) zero p q = refl
enough (suc j) (suc k) (suc m) p q =
    ap (λ (l : List ℕ). l ++ ((48 + suc m % 10) ∷ [])) (enough j k (suc m / 10) (omega arith) (omega arith))

pub decimal_small : (n : ℕ) → n < 10 → decimal n ≡ (48 + n) ∷ []
unfolding decimal
decimal_small n h = let e : n % 10 ≡ n = omega arith in rw (none_in n (n / 10) (omega arith), e) refl

pub decimal_more : (n : ℕ) → 10 ≤ n → decimal n ≡ decimal (n / 10) ++ ((48 + n % 10) ∷ [])
unfolding decimal digits_in
decimal_more n h = ap (λ (l : List ℕ). l ++ ((48 + n % 10) ∷ [])) (go n (n / 10) (omega arith) (omega arith))
  where
    go : (k q : ℕ) → 0 < q → q < k → digits_in k q ≡ digits_in q (q / 10) ++ ((48 + q % 10) ∷ [])
    go zero q p r = absurd (omega arith)
    go (suc k) zero p r = absurd (omega arith)
    go (suc k) (suc m) p r = ap (λ (l : List ℕ). l ++ ((48 + suc m % 10) ∷ [])) (enough k (suc m) (suc m / 10) (omega arith) (omega arith))

-- ---- how many digits

pub one_more : (n : ℕ) → 10 ≤ n → length (decimal n) ≡ length (decimal (n / 10)) + 1
one_more n h = ap length (decimal_more n h) ∙ simp length-append

pub decimal_length : (k n : ℕ) → n < tens (suc k) → length (decimal n) ≤ suc k
unfolding tens
decimal_length zero n h = rw (decimal_small n (omega arith)) (omega arith)
decimal_length (suc k) n h = ⊎_elim small (more (λ q. decimal_length k (n / 10) q)) (lt_or_le n 10)
  where
    small : n < 10 → length (decimal n) ≤ suc (suc k)
    small l = rw (decimal_small n l) (omega arith)

    more : (n / 10 < tens (suc k) → length (decimal (n / 10)) ≤ suc k) → 10 ≤ n → length (decimal n) ≤ suc (suc k)
    more ih l = let r = ih (omega arith) in rw (decimal_more n l) (simp length-append (omega arith))

pub ten_enough : (n : ℕ) → n < 4294967296 → length (decimal n) ≤ 10
ten_enough n h = decimal_length 9 n (omega (arith, tens_ten))

pub name_length : (o s : ℕ) → o < 4294967296 → s < 4294967296 → length (name_bytes o s) ≤ 21
unfolding name_bytes
name_length o s p q = simp length-append (omega (arith, ten_enough o p, ten_enough s q))

-- ---- how long a reply is

pub reply_length : (r : Reply) → ReplyFits r → length (reply_bytes r) ≤ 40
unfolding reply_bytes numbered
reply_length (Wrote o s) h = simp length-append (omega (arith, name_length o s h.0 h.1))
reply_length (Found v o s) h = simp length-append (omega (arith, ten_enough v h.0, name_length o s h.1 h.2))
reply_length NoEntry h = omega arith
reply_length Moved h = omega arith
reply_length (Received n) h = simp length-append (omega (arith, ten_enough n h))
reply_length NoFrame h = omega arith
reply_length (Refused n) h = simp length-append (omega (arith, ten_enough n h))
reply_length Full h = omega arith
reply_length Odd h = omega arith
