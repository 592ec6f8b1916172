-- The fields, one after another: the law `run`.
-- Assumes nothing.
use mathlib.Core.Path.{refl}
use native.Mathlib.Omega.{arith}
use Rattle.profile.specs.RunsLaws.{next, done, run}
use Rattle.header.proofs.HeaderParts.{length-device}
use Rattle.header.proofs.put_device.Goals as goal

pub returns : goal.returns
returns c =
    run _ _
    (next c.put_zeros-at.ensures
    (next c.put_u32_be-at.ensures
    (next c.put_u32_be-at-2.ensures
    (next c.put_zeros.ensures
    done)))) (omega (arith, c.requires)) refl (length-device c.args.maker c.args.model)
