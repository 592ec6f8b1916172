-- The number of the answer. Assumes nothing.
use Rattle.coded_writer.specs.CodedWriterLaws.{code_written}
use Rattle.coded_writer.proofs.write.Goals as goal

pub returns : goal.returns
returns c = rw (c.number_of.ensures, ← c.coded.ensures) (code_written c.created.ensures)
