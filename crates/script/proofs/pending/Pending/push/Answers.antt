use Rattle.std.proofs.Common.{◌≡◌, length, rules}
use Rattle.script.proofs.Pendings.{push_long}
use Rattle.script.proofs.pending.Pending.push.Goals as goal

pub returns-else-self-lt32 : goal.returns-else-self-lt32
returns-else-self-lt32 c = let h : length c.args.self.now.bytes ≡ 32 = search rules in push_long c.args.self.now.bytes c.args.self.now.len c.args.b h c.if-self-lt32.false
