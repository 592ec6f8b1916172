-- The parts of an encoding read from the front of a text: the intent, the white point, the primaries and the transfer function, by the names that
-- `encoding_names` gives them. Assumes nothing.
use Rattle.std.specs.Prelude.{ℕ, List, [], ◌∷◌, Float}
use Rattle.buffer.specs.Ascii.{ascii}
use Rattle.color_encoding.specs.declared.RenderingIntent.{RenderingIntent}
use Rattle.color_encoding.specs.declared.JxlWhitePoint.{JxlWhitePoint}
use Rattle.color_encoding.specs.declared.JxlWhitePoint.TheVariants as W
use Rattle.color_encoding.specs.declared.JxlPrimaries.{JxlPrimaries}
use Rattle.color_encoding.specs.declared.JxlPrimaries.TheVariants as P
use Rattle.color_encoding.specs.declared.JxlTransferFunction.{JxlTransferFunction}
use Rattle.color_encoding.specs.declared.JxlTransferFunction.TheVariants as F
use Rattle.color_encoding.specs.Codes.{intent_list}
use Rattle.color_encoding.specs.Intent.{intent_name}
use Rattle.encoding_names.specs.Names.{comma, semicolon, white_name, primaries_name, transfer_name}
use Rattle.scanner.specs.Scan.{Found, or_else, mapped, after, joined, any_of}
use Rattle.decimal_parser.specs.ParseFloat.{float}

unfoldable pub intent : List ℕ → Found RenderingIntent
intent l = any_of intent_name intent_list l

-- x and y with a separator between them
unfoldable pub pair : List ℕ → List ℕ → Found (Float × Float)
unfolding float
pair separator l = joined float separator float l

abbrev pub own_white : Float × Float → JxlWhitePoint
own_white (wx, wy) = W.Chromaticity wx wy

-- those that have a name
abbrev pub whites : List JxlWhitePoint
whites = W.D65 ∷ W.E ∷ W.DCI ∷ []

unfoldable pub white : List ℕ → Found JxlWhitePoint
unfolding pair white_name
white l = or_else (any_of white_name whites l) (mapped own_white (pair semicolon l))

abbrev pub ThreePairs : Type 0
ThreePairs = ((Float × Float) × (Float × Float)) × (Float × Float)

abbrev pub own_primaries : ThreePairs → JxlPrimaries
own_primaries (((rx, ry), (gx, gy)), (bx, by)) = P.Chromaticities rx ry gx gy bx by

-- red, green, blue
unfoldable pub three_pairs : List ℕ → Found ThreePairs
unfolding pair
three_pairs l = joined (joined (pair comma) semicolon (pair comma)) semicolon (pair comma) l

abbrev pub primary_sets : List JxlPrimaries
primary_sets = P.SRGB ∷ P.BT2100 ∷ P.P3 ∷ []

unfoldable pub primaries : List ℕ → Found JxlPrimaries
unfolding three_pairs primaries_name
primaries l = or_else (any_of primaries_name primary_sets l) (mapped own_primaries (three_pairs l))

abbrev pub transfers : List JxlTransferFunction
transfers = F.BT709 ∷ F.Linear ∷ F.SRGB ∷ F.PQ ∷ F.DCI ∷ F.HLG ∷ []

unfoldable pub transfer : List ℕ → Found JxlTransferFunction
unfolding float transfer_name
transfer l = or_else (any_of transfer_name transfers l) (mapped F.Gamma (after (ascii "g") float l))
