use mathlib.Core.Path.{◌≡◌}
use Rattle.reader_spec.specs.Table.{entries_of, absent}
use Rattle.reader_spec.specs.Finder.{line_of}
use Rattle.reader_spec.specs.LinesLaws.{lines_from}
use Rattle.table_lines.proofs.line_of.Given as goal

abbrev pub invariant-loop-i : goal.invariant-loop-i
invariant-loop-i l = line_of l.signature (entries_of l.file) absent ≡ line_of l.signature (lines_from l.file l.i) absent
