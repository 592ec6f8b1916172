-- White, primaries, and then the end. Assumes nothing.
use Rattle.std.proofs.Common.{sym, ◌≡◌, ◌∙◌, List, [], ℕ, drop}
use Rattle.buffer.specs.Ascii.{ascii}
use Rattle.color_encoding.specs.declared.JxlWhitePoint.{JxlWhitePoint}
use Rattle.color_encoding.specs.declared.JxlPrimaries.{JxlPrimaries}
use Rattle.scanner.specs.Scan.{mapped}
use Rattle.scanner.specs.PlacesLaws.{after_some}
use Rattle.text.specs.Description.{underscore}
use Rattle.names_parser.specs.ParseNames.{white, primaries}
use Rattle.description_parser.specs.StepLaws.{rgb_primaries, rgb_none, rgb_ends, replaced}
use Rattle.description_parser.proofs.rgb_at.Goals.{After-primaries_at}
use Rattle.description_parser.proofs.rgb_at.Goals as goal

-- the primaries beside the white
module _ (c : After-primaries_at) where
  abbrev text : List ℕ
  text = c.args.text.now

  both : rgb_primaries text ≡ mapped {B = JxlWhitePoint × JxlPrimaries} (λ p. (c.in_ok-white_point.white_point, p)) (primaries (drop c.in_ok-next-2.next text))
  both =
      let first = after_some (ascii "RGB_") text white c.in_ok-next.ensures ∙ sym c.in_ok-white_point.ensures in
      rw (first, after_some underscore (drop c.in_ok-white_point.next text) primaries c.in_ok-next-2.ensures)

pub returns-in_err-primaries : goal.returns-in_err-primaries
returns-in_err-primaries c =
    let e = both (goal.at.returns-in_err-primaries c).After-primaries_at in
    rw c.from_residual-in_err-primaries.ensures (sym (rgb_none c.args.text.now (rw (← c.in_err-primaries.ensures) at e)))

pub returns-in_err-rendering_intent : goal.returns-in_err-rendering_intent
returns-in_err-rendering_intent c =
    let e = both (goal.at.returns-in_err-rendering_intent c).After-primaries_at in
    rw (c.from_residual-in_err-rendering_intent.ensures, rgb_ends c.args.text.now (rw (← c.in_ok-primaries.ensures) at e), ← c.in_err-rendering_intent.ensures)

pub returns-in-Some : goal.returns-in-Some
returns-in-Some c =
    let e = both (goal.at.returns-in-Some c).After-primaries_at in
    rw (rgb_ends c.args.text.now (rw (← c.in_ok-primaries.ensures) at e), ← c.in_ok-rendering_intent.ensures, c.in-Some.ensures.named []) (sym (replaced _ _ _ c.in-Some.ensures.room.0))

pub returns-in-None : goal.returns-in-None
returns-in-None c =
    let e = both (goal.at.returns-in-None c).After-primaries_at in
    rw (rgb_ends c.args.text.now (rw (← c.in_ok-primaries.ensures) at e), ← c.in_ok-rendering_intent.ensures, c.in-None.ensures.named [])
