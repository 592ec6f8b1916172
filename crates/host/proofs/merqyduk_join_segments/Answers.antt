-- The number of what `join_segments` answers. Assumes nothing.
use Rattle.app2.proofs.AnswerNumbers.{joined_told}
use Rattle.host.specs.HostLaws.{number_given}
use Rattle.host.proofs.merqyduk_join_segments.Goals as goal

pub returns : goal.returns
returns c = rw c.answered.ensures (number_given c.join_segments.ensures (joined_told _ _))
