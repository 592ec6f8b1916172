-- What is left is less than the size as often as the digit that was last tried says, which is 256 at first. Assumes nothing.
use Rattle.std.proofs.Common.{◌+◌, ◌-◌, ◌∷◌, get_or}
use Rattle.segments_writer.proofs.Digits.{Held}
use Rattle.segments_writer.proofs.segments_for.Given as goal

abbrev pub invariant-loop-digit : goal.invariant-loop-digit
invariant-loop-digit l = Held l.size (l.n + (l.size - 1)) (get_or (256 ∷ l.digit-items) l.digit-index 0) l.left l.count
