-- One law of `FloatPlacesLaws` for each answer. Assumes nothing.
use Rattle.std.proofs.Common.{sym}
use Rattle.decimal_parser.specs.FloatPlacesLaws.{no_digit, one_whole, needless_zero, no_second, two_whole, no_second_point}
use Rattle.decimal_parser.proofs.whole_at.Goals as goal

pub returns-in_err-a : goal.returns-in_err-a
returns-in_err-a c = rw c.from_residual.ensures (sym (no_digit c.args.text.now c.args.at c.in_err-a.ensures))

pub returns-in-Some : goal.returns-in-Some
returns-in-Some c = sym (one_whole c.args.text.now c.args.at c.in_ok-a.ensures c.in-Some.next c.in-Some.ensures)

pub returns-then-a-eq0 : goal.returns-then-a-eq0
returns-then-a-eq0 c = sym (needless_zero c.args.text.now c.args.at c.in_ok-a.ensures c.in_default.ensures c.if-a-eq0.true)

pub returns-in_err-b : goal.returns-in_err-b
returns-in_err-b c =
    rw c.from_residual-in_err-b.ensures (sym (no_second c.args.text.now c.args.at c.in_ok-a.ensures c.in_default.ensures c.if-a-eq0.false c.in_err-b.ensures))

pub returns-in_err-next : goal.returns-in_err-next
returns-in_err-next c =
    rw c.from_residual-in_err-next.ensures (sym (no_second_point c.args.text.now c.args.at c.in_ok-a.ensures c.in_default.ensures c.if-a-eq0.false c.in_ok-b.ensures c.in_err-next.ensures))

pub returns : goal.returns
returns c = sym (two_whole c.args.text.now c.args.at c.in_ok-a.ensures c.in_default.ensures c.if-a-eq0.false c.in_ok-b.ensures c.in_ok-next.next c.in_ok-next.ensures)
