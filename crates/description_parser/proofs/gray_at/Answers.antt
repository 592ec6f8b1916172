-- The white, and then the end. Assumes nothing.
use Rattle.std.proofs.Common.{sym, ◌∙◌}
use Rattle.buffer.specs.Ascii.{ascii}
use Rattle.scanner.specs.PlacesLaws.{after_some}
use Rattle.names_parser.specs.ParseNames.{white}
use Rattle.description_parser.specs.StepLaws.{gray_ends}
use Rattle.description_parser.proofs.gray_at.Goals as goal

pub returns-in_err-rendering_intent : goal.returns-in_err-rendering_intent
returns-in_err-rendering_intent c =
    let text = c.args.text.now in
    let first = after_some (ascii "Gra_") text white c.in_ok-next.ensures ∙ sym c.in_ok-white_point.ensures in
    rw (c.from_residual-in_err-rendering_intent.ensures, gray_ends text first, ← c.in_err-rendering_intent.ensures)

pub returns : goal.returns
returns c =
    let text = c.args.text.now in
    let first = after_some (ascii "Gra_") text white c.in_ok-next.ensures ∙ sym c.in_ok-white_point.ensures in
    rw (gray_ends text first, ← c.in_ok-rendering_intent.ensures)
