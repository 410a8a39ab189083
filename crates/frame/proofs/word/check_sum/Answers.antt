use Rattle.std.proofs.Common.{◌≡◌, ℕ, ◌+◌, ◌%◌, ap, ◌∙◌, rules}
use Rattle.std.specs.List.{fold}
use Rattle.frame.proofs.Chains.{total_all}
use Rattle.frame.proofs.word.check_sum.Goals as goal

pub returns : goal.returns
returns c =
    let e : c.fold.result ≡ fold (λ (s w : ℕ). (s + w) % 4294967296) 0 c.args.ws.now = search rules in
    ap (λ (x : ℕ). x % 268435456) e ∙ total_all c.args.ws.now
