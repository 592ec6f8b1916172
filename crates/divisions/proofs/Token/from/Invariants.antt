-- The measure is what is left of the source.
use Rattle.std.proofs.Common.{◌-◌, length}
use Rattle.divisions.proofs.Token.from.Given as goal

abbrev pub decreases-loop-at : goal.decreases-loop-at
decreases-loop-at l = length l.source - l.at
