-- The parts below i are doubled. Assumes nothing.
use Rattle.decimal.proofs.Doubling.{Doubled}
use Rattle.decimal.proofs.double.Given as goal

abbrev pub invariant-loop-i : goal.invariant-loop-i
invariant-loop-i l = Doubled l.fn.parts l.parts l.i l.carry
