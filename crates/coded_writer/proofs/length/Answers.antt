-- The number of the answer. Assumes nothing.
use Rattle.coded_writer.specs.CodedWriterLaws.{code_measured}
use Rattle.coded_writer.proofs.length.Goals as goal

pub returns : goal.returns
returns c = rw (c.number_of.ensures, ← c.coded.ensures) (code_measured c.measured.ensures)
