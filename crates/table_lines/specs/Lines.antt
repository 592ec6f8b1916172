-- A line of code against a line of the tag table. Assumes nothing.
use Rattle.std.specs.Prelude.{ℕ, ◌≡◌, true, List, Option, Some, None}
use Rattle.buffer.specs.Bytes.{same}
use Rattle.profile.specs.Elements.{Entry}
use Rattle.reader_spec.specs.Table.{absent}
use Rattle.table_lines.specs.declared.Line.{Line}

-- the offset and the size are those of an entry
abbrev pub Tells : Line → Entry → Type 0
Tells l e = (l.offset ≡ e.offset) × (l.size ≡ e.size)

-- the entry has the signature that was asked for, or there is none
abbrev pub Found : List ℕ → Option Line → Entry → Type 0
Found s (Some l) e = Tells l e × (same e.signature s ≡ true)
Found s None e = absent ≡ e
