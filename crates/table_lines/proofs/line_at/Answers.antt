-- The line is there exactly if the table has more tags.
use native.Mathlib.Omega.{arith}
use mathlib.Core.Path.{refl}
use Rattle.reader_spec.specs.LinesLaws.{line_in_lem, line_past}
use Rattle.table_lines.proofs.line_at.Goals as goal

pub returns-then-tag_count-line : goal.returns-then-tag_count-line
returns-then-tag_count-line c = rw (line_past c.args.file.now c.args.line (omega (arith, c.tag_count.ensures))) (refl, refl)

pub returns : goal.returns
returns c =
    rw (line_in_lem c.args.file.now c.args.line (omega (arith, c.tag_count.ensures))) (c.read_u32_be.ensures, c.read_u32_be-2.ensures)
