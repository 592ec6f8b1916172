-- Three runs of bytes, one after another; that the floats are binary32 values is what owning them tells.
-- Assumes nothing.
use mathlib.Core.Path.{refl, sym, subst}
use mathlib.Core.List.{[], ◌∷◌, ◌++◌}
use native.Mathlib.Omega.{arith}
use lib.Dec.{T}
use lib.Ieee.{binary32, fits}
use Rattle.buffer.specs.PutsLaws.{then, wrote}
use Rattle.decimal.specs.Seven.{seven_decimals}
use Rattle.decimal.specs.SevenLaws.{length-seven}
use Rattle.encoding_names.specs.Names.{pair}
use Rattle.encoding_names.proofs.put_pair.Goals.{Start}
use Rattle.encoding_names.proofs.put_pair.Goals as goal

-- what owning an `f32` tells: the format holds it
held_x : (s : Start) → T (fits binary32 s.args.x)
held_x s = subst T (sym s.well_formed.1.1.0.1) tt

held-y : (s : Start) → T (fits binary32 s.args.y)
held-y s = subst T (sym s.well_formed.1.1.1.1.0.1) tt

pub put_byte-j-requires : goal.put_byte-j-requires
put_byte-j-requires c =
    omega (arith, length-seven c.args.x (held_x (goal.at.put_byte-j-requires c).Start))

pub put_seven_decimals-requires : goal.put_seven_decimals-requires
put_seven_decimals-requires c =
    omega (arith, length-seven c.args.x (held_x (goal.at.put_seven_decimals-requires c).Start))

pub returns : goal.returns
unfolding pair
returns c =
    let l = c.args.out.now in
    let x = seven_decimals c.args.x in
    record {
      puts =
          then (pair (c.args.separator ∷ []) c.args.x c.args.y) (omega (arith, c.requires))
          (then (x ++ (c.args.separator ∷ [])) (omega (arith, c.requires)) (wrote l c.args.at x c.put_seven_decimals-i.ensures)
          (wrote _ c.put_seven_decimals-i.result (c.args.separator ∷ []) c.put_byte-j.ensures) refl)
          (wrote _ c.put_byte-j.result (seven_decimals c.args.y) c.put_seven_decimals.ensures) refl;
      most = omega (arith, length-seven c.args.x (held_x (goal.at.returns c).Start), length-seven c.args.y (held-y (goal.at.returns c).Start));
      held = (held_x (goal.at.returns c).Start, held-y (goal.at.returns c).Start);
    }
