-- None of the names so far stands there. Assumes nothing.
use Rattle.std.proofs.Common.{◌≡◌, drop}
use Rattle.scanner.specs.Places.{first_named}
use Rattle.scanner.proofs.value_at.Given as goal

abbrev pub invariant-loop-name : goal.invariant-loop-name
invariant-loop-name g l = first_named l.names (drop l.at l.text) ≡ first_named (drop l.name-index l.names) (drop l.at l.text)
