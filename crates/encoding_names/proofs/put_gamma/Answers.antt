-- Two runs of bytes, one after the other; that the float is a binary32 value is what owning it tells.
-- Assumes nothing.
use mathlib.Core.Path.{refl, sym, subst}
use mathlib.Core.List.{[], ◌∷◌}
use native.Mathlib.Omega.{arith}
use lib.Dec.{T}
use lib.Ieee.{binary32, fits}
use Rattle.buffer.specs.PutsLaws.{then, wrote}
use Rattle.decimal.specs.Seven.{seven_decimals}
use Rattle.decimal.specs.SevenLaws.{length-seven}
use Rattle.encoding_names.proofs.put_gamma.Goals.{Start}
use Rattle.encoding_names.proofs.put_gamma.Goals as goal

-- what owning an `f32` tells: the format holds it
held : (s : Start) → T (fits binary32 s.args.g)
held s = subst T (sym s.well_formed.1.1.0.1) tt

pub returns : goal.returns
returns c =
    record {
      puts =
          then (103 ∷ seven_decimals c.args.g) (omega (arith, c.requires)) (wrote c.args.out.now c.args.at (103 ∷ []) c.put_byte-i.ensures)
          (wrote _ c.put_byte-i.result (seven_decimals c.args.g) c.put_seven_decimals.ensures) refl;
      most = omega (arith, length-seven c.args.g (held (goal.at.returns c).Start));
      held = held (goal.at.returns c).Start;
    }
