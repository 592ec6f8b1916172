-- The digits of the highest i parts are written. Assumes nothing.
use Rattle.std.proofs.Common.{◌+◌, ◌-◌, ◌*◌, ◌≤◌, drop}
use Rattle.buffer.specs.Puts.{PutsText}
use Rattle.decimal.specs.Parts.{shown, value_of}
use Rattle.decimal.proofs.put_parts.Given as goal

abbrev pub invariant-loop-i : goal.invariant-loop-i
invariant-loop-i l = PutsText l.fn.out l.at (shown (value_of (drop (5 - l.i) l.parts))) l.next l.out × (l.next ≤ l.at + 8 * l.i)
