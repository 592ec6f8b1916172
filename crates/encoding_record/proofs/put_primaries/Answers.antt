-- The number, and then the floats of one's own or zeros. Assumes nothing.
use mathlib.Core.Path.{ap, ◌∙◌}
use mathlib.Core.List.{append_assoc}
use Prim.Native.Nat.{◌≤◌}
use native.Mathlib.Omega.{arith}
use lib.ListN.{length}
use Rattle.buffer.specs.PutsLaws.{joined}
use Rattle.encoding_record.specs.EncodingRecord.{primaries_floats}
use Rattle.encoding_record.proofs.Parts.{part, primaries_zeros}
use Rattle.encoding_record.proofs.put_primaries.Goals as goal

pub returns-in-Chromaticities : goal.returns-in-Chromaticities
returns-in-Chromaticities c =
    let room : c.args.at ≤ length c.args.out.now = omega (arith, c.requires) in
    part _ (primaries_floats c.args.primaries) c.number.ensures (ap primaries_floats c.in-Chromaticities.is ∙ simp append_assoc)
    (joined room (joined room (joined room c.put_number-red.ensures c.put_xy-green.ensures) c.put_xy-blue.ensures) c.put_xy.ensures)

pub returns-in_default : goal.returns-in_default
returns-in_default c =
    part _ (primaries_floats c.args.primaries) c.number.ensures (primaries_zeros c.args.primaries c.in_default.not-Chromaticities) (joined (omega (arith, c.requires)) c.put_number-red.ensures c.put_zeros.ensures)
