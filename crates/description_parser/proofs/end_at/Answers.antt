-- The intent, and then the curve. Assumes nothing.
use Rattle.std.proofs.Common.{drop}
use Rattle.scanner.specs.PlacesLaws.{after_some}
use Rattle.text.specs.Description.{underscore}
use Rattle.names_parser.specs.ParseNames.{intent, transfer}
use Rattle.description_parser.specs.Parse.{ending}
use Rattle.description_parser.proofs.end_at.Goals as goal

pub returns-in_err-transfer_function : goal.returns-in_err-transfer_function
unfolding ending
returns-in_err-transfer_function c =
    let s = c.args in
    rw (c.from_residual-in_err-transfer_function.ensures, after_some underscore (drop s.at s.text.now) intent c.in_ok-next.ensures, ← c.in_ok-rendering_intent.ensures, after_some underscore (drop c.in_ok-rendering_intent.next s.text.now) transfer c.in_ok-next-2.ensures, ← c.in_err-transfer_function.ensures)

pub returns : goal.returns
unfolding ending
returns c =
    let s = c.args in
    rw (after_some underscore (drop s.at s.text.now) intent c.in_ok-next.ensures, ← c.in_ok-rendering_intent.ensures, after_some underscore (drop c.in_ok-rendering_intent.next s.text.now) transfer c.in_ok-next-2.ensures, ← c.in_ok-transfer_function.ensures)
