use Rattle.std.proofs.Common.{ap, length, refl, ◌∙◌, arith}
use Rattle.std.proofs.Math.Seq.{length-sets}
use Rattle.script.proofs.Puts.{put_part}
use Rattle.script.proofs.put.Row.text.Goals as goal

pub returns : goal.returns
returns c =
    let row = c.args.self.now in
    let e = put_part row.out.now row.at _ c.args.text.now _ c.requires (omega arith) c.copy_from_slice.ensures.after in
    record { same = refl; room = ap length e ∙ length-sets row.out.now row.at c.args.text.now; put = record { ends = refl; holds = e } }
