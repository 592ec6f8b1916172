-- The number of the answer, and its count. Assumes nothing.
use Rattle.coded_writer.specs.CodedWriterLaws.{count_measured}
use Rattle.coded_writer.proofs.length_counted.Goals as goal

pub returns : goal.returns
returns c = rw (c.answered.ensures.0, c.answered.ensures.1, ← c.coded.ensures) (count_measured _ c.measured.ensures)
