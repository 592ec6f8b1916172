-- 1,200 bytes are enough for every profile. Assumes nothing.
use Rattle.std.proofs.Common.{ap, ◌∙◌, lit≤}
use Rattle.encoding_plan.specs.EncodingPlanLaws.{plain_counted}
use Rattle.writer.specs.Writer.{answer, max_written}
use Rattle.entry_output.specs.EntryOutputLaws.{enough_answer}
use Rattle.entry_output.proofs.measure.Goals as goal

pub returns : goal.returns
returns c =
    let e = c.args.encoding in
    let call = rw c.into.ensures at c.profile_length.ensures in
    call.answer ∙ ap (λ p. answer p max_written) (plain_counted e) ∙ enough_answer e call.held max_written (lit≤ tt)
