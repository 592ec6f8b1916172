-- What stands in front and the data are one run. Assumes nothing.
use mathlib.Core.Path.{refl}
use native.Mathlib.Omega.{arith}
use Rattle.buffer.specs.PutsLaws.{then}
use Rattle.app2.specs.Segments.{segment_bytes}
use Rattle.segments_writer.proofs.put_segment.Goals as goal

pub returns : goal.returns
unfolding segment_bytes
returns c =
    then _ (omega arith) c.put_front-at.ensures c.put_bytes.ensures refl
