-- Order 1, "it answers exactly as the writer would on a copy of an output of that capacity, refusal included": for every encoding and every output, the dry
-- call with the output's length answers what the writer answers, in Rattle and from C, where the dry calls are not given maker and model: the answer, count
-- included, does not depend on them (order 6). Assumes nothing.
use Rattle.std.specs.Prelude.{ℕ, ◌≡◌, Bool, List, length}
use Rattle.std.proofs.Common.{sym, ap, ◌∙◌}
use Rattle.buffer.specs.Checked.{Checked}
use Rattle.color_encoding.specs.declared.JxlColorEncoding.{JxlColorEncoding}
use Rattle.encoding_plan.specs.declared.Encoding.{Encoding}
use Rattle.writer.specs.Writer.{number, Creates, MeasuresProfile}
use Rattle.writer.specs.declared.Written.{Written}
use Rattle.coded_writer.specs.CodedWriter.{coded, coded_by, WritesCode, MeasuresCode}
use Rattle.coded_writer.specs.CodedWriterLaws.{any_device_coded, any_device_by}

-- `maybe_create_profile` ensures `Creates`, and `profile_length` ensures `MeasuresProfile`
pub same_answer : (e : Encoding) (before after : List ℕ) (written dry : Checked Written)
    → Creates e before after written → MeasuresProfile e (length before) dry → dry ≡ written
same_answer e before after written dry w m = m.answer ∙ sym w.writes.answer

-- the calls that write ensure `WritesCode`, and the dry ones `MeasuresCode`; the encoding comes by codes, which may have no meaning
module _ (maker model a b : ℕ) (c : Checked JxlColorEncoding) (before after : List ℕ) (written dry : ℕ) where
  pub same_answer_in_c : (m : Bool) → WritesCode (coded m maker model c) before after written → MeasuresCode (coded m a b c) (length before) dry → dry ≡ written
  same_answer_in_c m w d = d.answer ∙ sym (w.writes.answer ∙ ap number (any_device_coded m maker model a b c (length before)))

  -- the same where the mark "adapted" comes by its number
  pub same_answer_by_mark : (m : ℕ) → WritesCode (coded_by m maker model c) before after written → MeasuresCode (coded_by m a b c) (length before) dry → dry ≡ written
  same_answer_by_mark m w d = d.answer ∙ sym (w.writes.answer ∙ ap number (any_device_by m maker model a b c (length before)))
