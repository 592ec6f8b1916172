use Rattle.std.specs.Prelude.{◌*◌, take}
use Rattle.buffer.specs.Puts.{Puts}
use Rattle.elements.proofs.put_each.Given as goal

abbrev pub invariant-loop-value : goal.invariant-loop-value
invariant-loop-value g l = Puts l.initial.out l.at (g.T.Put.width * l.value-index) (g.T.Put.all (take l.value-index l.values)) l.next l.out
