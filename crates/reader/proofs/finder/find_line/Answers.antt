-- The line of an accepted file is the one that its table has, and there is none in a refused one (`FinderLaws`).
use mathlib.Core.Path.{refl}
use Rattle.reader_spec.specs.Read.{read}
use Rattle.reader_spec.proofs.FinderLaws.{found_refused, found_accepted, table_within}
use Rattle.reader.proofs.Answered.{was_refused, was_accepted}
use Rattle.reader.proofs.finder.find_line.Goals as goal

pub returns-in-Err : goal.returns-in-Err
returns-in-Err c =
    let f = c.args.file.now in
    let (n, e) = was_refused (read f) c.in-Err.ensures in rw (found_refused f c.args.signature n e) refl

pub line_of-requires : goal.line_of-requires
line_of-requires c =
    let f = c.args.file.now in
    let (p, e) = was_accepted (read f) c.in-Ok.ensures in table_within f p e

pub returns-in-Ok : goal.returns-in-Ok
returns-in-Ok c =
    let f = c.args.file.now in
    let (p, e) = was_accepted (read f) c.in-Ok.ensures in rw (found_accepted f c.args.signature p e) c.line_of.ensures
