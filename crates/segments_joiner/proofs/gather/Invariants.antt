use Rattle.segments_finder.specs.Found.{Found}
use Rattle.segments_joiner.specs.GatheringLaws.{Gathering}
use Rattle.segments_joiner.proofs.gather.Given as goal

abbrev pub invariant-loop-i : goal.invariant-loop-i
invariant-loop-i l = (w : Found l.buffer l.places l.count) × Gathering l.buffer l.places l.count w l.fn.out l.i l.total l.at l.out
