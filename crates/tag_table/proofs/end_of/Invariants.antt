use Rattle.tag_table.specs.PlacesLaws.{Walked}
use Rattle.tag_table.proofs.end_of.Given as goal

abbrev pub invariant-loop-tag : goal.invariant-loop-tag
invariant-loop-tag l = Walked l.tags l.initial.place l.tag-index l.place
