-- Two runs of bytes, one after the other.
-- Assumes nothing.
use mathlib.Core.Path.{refl}
use mathlib.Core.List.{◌++◌}
use native.Mathlib.Omega.{arith}
use Rattle.buffer.specs.PutsLaws.{then}
use Rattle.encoding_names.specs.Names.{comma, semicolon, pair}
use Rattle.encoding_names.proofs.put_next_pair.Goals as goal

pub returns : goal.returns
returns c =
    let p = c.put_pair.ensures in
    record {
      puts = then (semicolon ++ pair comma c.args.x c.args.y) (omega (arith, c.requires)) c.put_byte-i.ensures p.puts refl;
      most = omega (arith, c.put_byte-i.ensures.place, p.most);
      held = p.held;
    }
