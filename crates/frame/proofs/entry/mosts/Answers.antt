use Rattle.std.proofs.Common.{◌≡◌, ℕ, ◌<◌, Bool, true, false, cond, eqb, ltb, leb, List, get_or, ap, ◌∙◌, arith, rules, eq-eqb, eqb-true, le-leb, leb-true}
use Rattle.causal.proofs.Tests.{all_ext, same_test}
use Rattle.frame.specs.Entries.{clock_ok, clock_place_ok, under_ok}
use Rattle.frame.proofs.Chains.{each_made}
use Rattle.frame.proofs.entry.mosts.Goals as goal

-- a number is not over the bound of its place
under : (m x : ℕ) (b : Bool) → m ≡ cond b 32 0 → leb x m ≡ cond b (leb x 32) (eqb x 0)
under m x true e = ap (leb x) e
under m x false e = ap (leb x) e ∙ same_test (leb x 0) (eqb x 0) (λ h. eq-eqb x 0 (omega (arith, leb-true x 0 h))) (λ h. le-leb x 0 (omega (arith, eqb-true x 0 h)))

all_under : (n : ℕ) (ms clock : List ℕ) → ((j : ℕ) → j < 8 → get_or ms j 0 ≡ cond (ltb j n) 32 0) → under_ok ms clock ≡ clock_ok n clock
unfolding under_ok clock_ok clock_place_ok
all_under n ms clock each = all_ext _ _ 8 (λ j h. under (get_or ms j 0) (get_or clock j 0) (ltb j n) (each j h))

pub returns : goal.returns
returns c =
    let n = c.args.n in
    let each : (j : ℕ) → j < 8 → get_or c.from_fn.result j 0 ≡ cond (ltb j n) 32 0 =
    each_made _ _ (λ j m. m ≡ cond (ltb j n) 32 0) 8 (λ i y q h k. search rules) _ c.from_fn.ensures.items
    in
    λ clock. all_under n c.from_fn.result clock each
