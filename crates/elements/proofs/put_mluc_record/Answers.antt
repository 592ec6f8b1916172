-- The parts of the record, one after another: the law `run`.
-- Assumes nothing.
use mathlib.Core.Path.{refl}
use native.Mathlib.Omega.{arith}
use Rattle.words.specs.Words.{be32}
use Rattle.profile.specs.RunsLaws.{next, done, run}
use Rattle.profile.specs.TagTypes.{join}
use Rattle.elements.proofs.put_mluc_record.Goals as goal

pub returns : goal.returns
unfolding join be32
returns c =
    run _ _
    (next c.put_bytes-at.ensures
    (next c.put_u32_be-at.ensures
    (next c.put_u32_be.ensures
    done))) (omega (arith, c.requires)) refl refl
