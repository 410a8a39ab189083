use Rattle.std.proofs.Common.{◌/◌, ◌%◌}
use Rattle.frame.specs.Words.{pay_at}
use Rattle.frame.specs.Reading.{frame_at}
use Rattle.frame.proofs.reader.frame_of.Goals as goal

pub returns : goal.returns
unfolding frame_at
returns c = let z = c.args in
    λ i.
    record {
      offices = z.n;
      hops = pay_at z.ws.now 0 / 4096 % 16;
      entry =
          record {
            office = pay_at z.ws.now 0 / 16777216;
            serial = pay_at z.ws.now 0 / 65536 % 256;
            plot = pay_at z.ws.now 1;
            value = pay_at z.ws.now 2;
            clock = c.requires.1 i;
            deps = z.deps;
          };
    }
