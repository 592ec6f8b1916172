-- The number of what `write_segments` answers. Assumes nothing.
use Rattle.app2.proofs.AnswerNumbers.{written_told}
use Rattle.host.specs.HostLaws.{number_given}
use Rattle.host.proofs.merqyduk_write_segments.Goals as goal

pub returns : goal.returns
returns c = rw c.answered.ensures (number_given c.write_segments.ensures (written_told _ _ _))
