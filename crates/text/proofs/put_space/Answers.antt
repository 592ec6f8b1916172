-- Two runs of bytes, one after the other.
-- Assumes nothing.
use mathlib.Core.Path.{refl}
use native.Mathlib.Omega.{arith}
use Rattle.buffer.specs.PutsLaws.{then}
use Rattle.text.proofs.put_space.Goals as goal

pub returns : goal.returns
returns c =
    let white = c.put_white.ensures in
    record {
      puts = then _ (omega (arith, c.requires)) c.put_bytes-i.ensures white.puts refl;
      most = omega (arith, c.put_bytes-i.ensures.place, white.most);
      held = white.held;
    }
