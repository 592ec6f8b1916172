-- Marker, length, name, sequence number and count are one run. Assumes nothing.
use mathlib.Core.Path.{refl}
use native.Mathlib.Omega.{arith}
use Rattle.words.specs.Words.{be16}
use Rattle.profile.specs.RunsLaws.{next, done, run}
use Rattle.profile.specs.TagTypes.{join}
use Rattle.app2.specs.Segments.{front}
use Rattle.segments_writer.proofs.put_front.Goals as goal

pub returns : goal.returns
unfolding front join be16
returns c =
    run 18 _
    (next c.put_bytes-at.ensures (next c.put_u16_be-at.ensures (next c.put_bytes-at-2.ensures (next c.put_byte-at.ensures (next c.put_byte.ensures done)))))
    (omega arith) refl refl
