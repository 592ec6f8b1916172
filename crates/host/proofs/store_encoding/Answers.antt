-- The text's encoding, or its refusal; then 9 where there is no room. Assumes nothing.
use Rattle.std.proofs.Common.{sym}
use Rattle.std.proofs.lemmas.Result.{err_from_is_err_and}
use Rattle.host.specs.HostLaws.{not-stored}
use Rattle.host.proofs.store_encoding.Goals as goal

pub returns-in_err-parsed : goal.returns-in_err-parsed
returns-in_err-parsed c =
    let p = err_from_is_err_and c.from_residual.result c.from_residual.ensures.1 in
    rw (p.1, p.2) (not-stored _ (sym c.in_err-parsed.ensures))
