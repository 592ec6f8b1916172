-- A code without meaning is refused as it says; else the writer answers. Assumes nothing.
use Rattle.std.proofs.Common.{refl}
use Rattle.std.proofs.lemmas.Result.{err_from_is_err_and}
use Rattle.coded_writer.specs.CodedWriterLaws.{refusal_told, created_told}
use Rattle.coded_writer.proofs.created.Goals as goal

pub returns-in_err-code : goal.returns-in_err-code
returns-in_err-code c =
    let p = err_from_is_err_and c.from_residual.result c.from_residual.ensures.1 in
    rw (c.in_err-code.was, p.1, p.2) (record { writes = record { answer = refl; output = refl }; told = refusal_told _ })

pub returns : goal.returns
returns c = rw c.in_ok-code.was (created_told c.maybe_create_profile.ensures)
