-- The digits so far, and how large their number is. Assumes nothing.
use Rattle.std.proofs.Common.{◌≡◌, ◌+◌, ◌^◌, ◌<◌, ◌≤◌, drop, length}
use Rattle.scanner.specs.Scan.{found}
use Rattle.decimal_parser.specs.ParseFloat.{more_digits}
use Rattle.decimal_parser.proofs.seven_digits.Given as goal

abbrev pub invariant-loop-i : goal.invariant-loop-i
invariant-loop-i l =
    (0 < l.i → l.at + l.i ≤ length l.text) × (l.q < 10 ^ (l.i + 2)) × (more_digits l.i l.whole (drop l.at l.text) ≡ found l.q (drop (l.at + l.i) l.text))
