-- The first i parts are counted. Assumes nothing.
use Rattle.std.proofs.Common.{refl, arith}
use Rattle.profile.specs.TagTypes.{join}
use Rattle.job_output.proofs.parts_length.Goals as goal

pub loop-i-init : goal.loop-i-init
unfolding join
loop-i-init g c = (refl, omega arith)
