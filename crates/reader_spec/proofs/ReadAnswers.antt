-- `read` answers to a file as the refusal list of 01 says: the first check that it does not pass, or the plan that lays out to it.
-- Assumes nothing.
use Rattle.std.specs.Prelude.{ℕ, ◌≡◌, List}
use Rattle.reader_spec.specs.RefusalList.{Answer, Answers}
use Rattle.reader_spec.proofs.RefusalListAnswers.{answer_unique}
use Rattle.reader_spec.specs.Read.{read}
use Rattle.reader_spec.specs.ReadLaws.{answered}

pub read_answers : (f : List ℕ) → Answers f (read f)
read_answers f = answered f

-- and nothing else
pub read_is : (f : List ℕ) (a : Answer) → Answers f a → read f ≡ a
read_is f a h = answer_unique f (read f) a (read_answers f) h
