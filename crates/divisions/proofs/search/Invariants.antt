-- The measure is what is left of the source.
use Rattle.std.proofs.Common.{◌-◌, length}
use Rattle.divisions.proofs.search.Given as goal

abbrev pub decreases-loop-at : goal.decreases-loop-at
decreases-loop-at g l = length l.s - l.at
