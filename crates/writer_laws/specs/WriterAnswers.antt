-- The writer answers to an encoding and an output as the refusal list of 01 says: the number of the first check that fails, or, where all pass, the
-- length of the profile. Assumes nothing.
use Rattle.std.specs.Prelude.{ℕ, ◌≡◌}
use Rattle.encoding_plan.specs.EncodingPlan.{counted_encoding_plan}
use Rattle.encoding_plan.specs.declared.Encoding.{Encoding}
use Rattle.writer.specs.Writer.{answer}
use Rattle.writer.specs.WriterLaws.{any_device}
use Rattle.buffer.specs.Checked.{Checked}
use Rattle.writer.specs.declared.Written.{Written}
use Rattle.writer_laws.specs.RefusalList.{Answers}
use Rattle.writer_laws.specs.WriterAnswersLaws.{answered, answer_unique}

pub writer_answers : (e : Encoding) (n : ℕ) → Answers e.adapted e.color n (answer (counted_encoding_plan e) n)
writer_answers e n = rw (any_device e n) (answered e.adapted e.color n)

-- and nothing else
pub writer_answer_is : (e : Encoding) (n : ℕ) (a : Checked Written) → Answers e.adapted e.color n a → answer (counted_encoding_plan e) n ≡ a
writer_answer_is e n a h = answer_unique (writer_answers e n) h
