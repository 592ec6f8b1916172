-- With i digits behind it, the loop has found what the first i digits say. Assumes nothing.
use Rattle.std.proofs.Common.{refl, sym, rules, drop, ◌+◌, arith, add-zero, add_assoc}
use Rattle.decimal_parser.specs.ParseFloat.{more_digits}
use Rattle.decimal_parser.specs.FloatPlacesLaws.{more_next, more_stops, digit_below, digit_within, next_room}
use Rattle.decimal_parser.proofs.seven_digits.Goals as goal

pub loop-i-init : goal.loop-i-init
unfolding more_digits
loop-i-init c = (search rules, c.requires, rw add-zero refl)

pub returns-in_err-d : goal.returns-in_err-d
returns-in_err-d c =
    let s = c.args in
    let l = c.loop-i in
    rw c.from_residual.ensures (sym (more_stops l.i 7 s.whole l.q (drop s.at s.text.now) (s.at + l.i) s.text.now c.loop-i-test.true l.invariant.2 c.in_err-d.ensures))

pub loop-i-preserved : goal.loop-i-preserved
loop-i-preserved c =
    let s = c.args in
    let l = c.loop-i in
    let within = digit_within (s.at + l.i) s.text.now c.in_ok-d.ensures in (
      λ _. omega (arith, within),
      next_room l.i l.q c.in_ok-d.d l.invariant.1 (digit_below (drop (s.at + l.i) s.text.now) c.in_ok-d.ensures),
      rw (← add_assoc s.at l.i 1) (more_next l.i s.whole l.q (drop s.at s.text.now) (s.at + l.i) s.text.now l.invariant.2 c.in_ok-d.ensures),
    )
