-- The number of the answer, and its count. Assumes nothing.
use Rattle.coded_writer.specs.CodedWriterLaws.{count_written}
use Rattle.coded_writer.proofs.write_counted.Goals as goal

pub returns : goal.returns
returns c = rw (c.answered.ensures.0, c.answered.ensures.1, ← c.coded.ensures) (count_written _ c.created.ensures)
