-- What `answer` answers, which does not depend on maker and model. Assumes nothing.
use Rattle.std.proofs.Common.{sym, ap, ◌∙◌}
use Rattle.std.proofs.lemmas.Result.{err_from_is_err_and}
use Rattle.text.proofs.HeldValues.{held_encoding}
use Rattle.writer.specs.Writer.{answer}
use Rattle.writer.specs.WriterLaws.{any_device}
use Rattle.writer.proofs.profile_length.Goals as goal

pub returns-in_err-planned : goal.returns-in_err-planned
returns-in_err-planned c =
    let e = c.args.encoding in
    let n = c.args.capacity in
    let p = err_from_is_err_and c.from_residual.result c.from_residual.ensures.1 in
    rw (p.1, p.2)
    (record { answer = ap (λ q. answer q n) c.in_err-planned.ensures ∙ sym (any_device e n); held = held_encoding e.color _ c.well_formed.0.1.1.0 })

pub returns : goal.returns
returns c =
    let e = c.args.encoding in
    record { answer = c.answer.ensures ∙ sym (any_device e c.args.capacity); held = held_encoding e.color _ c.well_formed.0.1.1.0 }
