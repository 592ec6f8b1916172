use Rattle.std.proofs.Common.{◌≡◌, ◌&&◌, drop}
use Rattle.buffer.specs.Ascii.{is_ascii}
use Rattle.buffer.proofs.is_ascii.Given as goal

abbrev pub invariant-loop-i : goal.invariant-loop-i
invariant-loop-i l = is_ascii l.text ≡ (l.all && is_ascii (drop l.i l.text))
