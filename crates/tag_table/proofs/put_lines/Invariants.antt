use Rattle.std.specs.Prelude.{◌*◌, take}
use Rattle.buffer.specs.Puts.{Puts}
use Rattle.profile.specs.Elements.{entries_bytes}
use Rattle.tag_table.specs.Places.{walk}
use Rattle.tag_table.specs.PlacesLaws.{Walked}
use Rattle.tag_table.proofs.put_lines.Given as goal

abbrev pub invariant-loop-tag : goal.invariant-loop-tag
invariant-loop-tag l =
    Walked l.tags l.initial.place l.tag-index l.place
    × Puts l.initial.out l.initial.at (12 * l.tag-index) (entries_bytes (take l.tag-index (walk l.initial.place l.tags))) l.at l.out
