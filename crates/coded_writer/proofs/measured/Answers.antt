-- A code without meaning is refused as it says; else the dry call answers. Assumes nothing.
use Rattle.std.proofs.Common.{refl}
use Rattle.std.proofs.lemmas.Result.{err_from_is_err_and}
use Rattle.coded_writer.specs.CodedWriterLaws.{refusal_told, measured_told}
use Rattle.coded_writer.proofs.measured.Goals as goal

pub returns-in_err-code : goal.returns-in_err-code
returns-in_err-code c =
    let p = err_from_is_err_and c.from_residual.result c.from_residual.ensures.1 in
    rw (c.in_err-code.was, p.1, p.2) (record { answer = refl; told = refusal_told _ })

pub returns : goal.returns
returns c = rw c.in_ok-code.was (measured_told c.profile_length.ensures)
