-- Three runs of bytes, one after another. Assumes nothing.
use Rattle.std.proofs.Common.{ℕ, ◌≡◌, ◌<◌, ◌++◌, refl, arith, length-append}
use Rattle.buffer.specs.Ascii.{ascii}
use Rattle.buffer.specs.PutsLaws.{then, wrote}
use Rattle.digits.specs.Digits.{digits}
use Rattle.digits.specs.DigitsLaws.{length_digits}
use Rattle.job.specs.Job.{number}
use Rattle.job.specs.declared.Section.{Section}
use Rattle.job.specs.BoundsLaws.{section_number}
use Rattle.line_text.proofs.put_place.Goals as goal

one_digit : (s : Section) {n : ℕ} → n ≡ number s → n < 10
one_digit s e = rw e (omega (arith, section_number s))

pub put_up_to_four-first-requires : goal.put_up_to_four-first-requires
put_up_to_four-first-requires c = (omega (arith, one_digit c.args.section c.number.ensures), omega arith)

pub put_worded-second-requires : goal.put_worded-second-requires
put_worded-second-requires c =
    let s = one_digit c.args.section c.number.ensures in
    (omega arith, omega (arith, length_digits 0 c.number.result s))

pub put_byte-requires : goal.put_byte-requires
put_byte-requires c =
    let s = one_digit c.args.section c.number.ensures in
    omega (arith, length_digits 0 c.number.result s, length_digits 2 c.args.place (omega arith), length-append (ascii " ") (digits c.args.place))

pub returns : goal.returns
returns c =
    let start = c.args in
    let first = c.put_up_to_four-first in
    let second = c.put_worded-second in
    let two = then (digits c.number.result ++ (ascii " " ++ digits start.place)) (omega arith) first.ensures second.ensures refl in
    rw (← c.number.ensures)
    (then (digits c.number.result ++ (ascii " " ++ digits start.place) ++ ascii " ") (omega arith) two (wrote second.new.out second.result (ascii " ") c.put_byte.ensures) refl)
