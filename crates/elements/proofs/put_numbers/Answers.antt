-- The parts, one after another, whose length is a multiple of 4: the laws `run` and `whole`.
-- Assumes nothing.
use mathlib.Core.Path.{◌≡◌, refl}
use native.Mathlib.Omega.{arith}
use lib.ListN.{length, length-append}
use Rattle.profile.specs.RunsLaws.{next, done, run}
use Rattle.profile.specs.TagTypes.{join}
use Rattle.profile.specs.TagTypesLaws.{length-s15_fixed_16s}
use Rattle.elements.specs.PartsLaws.{whole}
use Rattle.elements.proofs.put_numbers.Goals as goal

pub returns : goal.returns
unfolding join
returns c =
    let eight : length c.args.start.now ≡ 8 = omega arith in
    whole
    (run _ _
    (next c.put_bytes-at.ensures
    (next c.put_each.ensures
    done)) (omega arith) refl (simp (length-append, length-s15_fixed_16s, eight) (omega arith))) (omega arith)
