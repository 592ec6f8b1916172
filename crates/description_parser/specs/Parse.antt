-- The encoding that a text describes, by reading the text from its front. No text of a part is the front of another, so what is found never turns on
-- what follows. Assumes nothing.
use Rattle.std.specs.Prelude.{ℕ, cond, List, [], ◌∷◌}
use Rattle.buffer.specs.Ascii.{ascii}
use Rattle.buffer.specs.Checked.{Checked, is, refused}
use Rattle.color_encoding.specs.declared.RenderingIntent.{RenderingIntent}
use Rattle.color_encoding.specs.declared.RenderingIntent.TheVariants.{Perceptual, Relative}
use Rattle.color_encoding.specs.declared.JxlWhitePoint.{JxlWhitePoint}
use Rattle.color_encoding.specs.declared.JxlWhitePoint.TheVariants as W
use Rattle.color_encoding.specs.declared.JxlPrimaries.{JxlPrimaries}
use Rattle.color_encoding.specs.declared.JxlPrimaries.TheVariants as P
use Rattle.color_encoding.specs.declared.JxlTransferFunction.{JxlTransferFunction}
use Rattle.color_encoding.specs.declared.JxlTransferFunction.TheVariants as F
use Rattle.color_encoding.specs.declared.JxlColorEncoding.{JxlColorEncoding}
use Rattle.color_encoding.specs.declared.JxlColorEncoding.TheVariants.{RgbColorSpace, GrayscaleColorSpace, XYB}
use Rattle.text.specs.Description.{underscore, description}
use Rattle.scanner.specs.Scan.{Found, nothing, found, and_then, or_else, mapped, after, joined, any_of}
use Rattle.names_parser.specs.ParseNames.{intent, white, primaries, transfer}
use Rattle.description_parser.specs.Language.{common_name, zero_gamma}

-- ---- the long forms

-- white, primaries, intent, curve
abbrev pub RgbFields : Type 0
RgbFields = ((JxlWhitePoint × JxlPrimaries) × RenderingIntent) × JxlTransferFunction

unfoldable pub rgb_fields : List ℕ → Found RgbFields
unfolding white primaries intent transfer
rgb_fields l = joined (joined (joined (after (ascii "RGB_") white) underscore primaries) underscore intent) underscore transfer l

-- nothing where a common name replaces the long form
abbrev pub unless_named : List ℕ → JxlColorEncoding → List ℕ → Found JxlColorEncoding
unless_named [] e l = found e l
unless_named (c ∷ name) e l = nothing

abbrev pub rgb_of : RgbFields → List ℕ → Found JxlColorEncoding
rgb_of (((w, p), i), t) l = unless_named (common_name w p t i) (RgbColorSpace w p t i) l

-- white, intent, curve
abbrev pub GrayFields : Type 0
GrayFields = (JxlWhitePoint × RenderingIntent) × JxlTransferFunction

unfoldable pub gray_fields : List ℕ → Found GrayFields
unfolding white intent transfer
gray_fields l = joined (joined (after (ascii "Gra_") white) underscore intent) underscore transfer l

abbrev pub gray_of : GrayFields → JxlColorEncoding
gray_of ((w, i), t) = GrayscaleColorSpace w t i

-- the end of a long form: the intent and the curve, an underscore before each
unfoldable pub ending : List ℕ → Found (RenderingIntent × JxlTransferFunction)
unfolding intent transfer
ending l = joined (after underscore intent) underscore transfer l

-- ---- the whole

-- those that have a common name
abbrev pub common_encodings : List JxlColorEncoding
common_encodings =
    RgbColorSpace W.D65 P.SRGB F.SRGB Perceptual ∷ RgbColorSpace W.D65 P.P3 F.SRGB Perceptual
    ∷ RgbColorSpace W.D65 P.BT2100 F.PQ Relative ∷ RgbColorSpace W.D65 P.BT2100 F.HLG Relative ∷ []

unfoldable pub rgb : List ℕ → Found JxlColorEncoding
unfolding rgb_fields
rgb l = and_then (rgb_fields l) rgb_of

unfoldable pub gray : List ℕ → Found JxlColorEncoding
unfolding gray_fields
gray l = mapped gray_of (gray_fields l)

unfoldable pub xyb : List ℕ → Found JxlColorEncoding
unfolding intent
xyb l = mapped XYB (after (ascii "XYB_") intent l)

unfoldable pub common : List ℕ → Found JxlColorEncoding
unfolding description
common l = any_of description common_encodings l

unfoldable pub encoding : List ℕ → Found JxlColorEncoding
unfolding rgb gray xyb common
encoding l = or_else (rgb l) (or_else (gray l) (or_else (xyb l) (common l)))

-- ---- the answer

-- 51: the text is not in the language
abbrev pub not_in_language : ℕ
not_in_language = 51

-- 52: a gamma is zero
abbrev pub gamma_is_zero : ℕ
gamma_is_zero = 52

-- nothing may follow
abbrev pub answer : Found JxlColorEncoding → Checked JxlColorEncoding
answer nothing = refused not_in_language
answer (found e (c ∷ l)) = refused not_in_language
answer (found e []) = cond (zero_gamma e) (refused gamma_is_zero) (is e)

unfoldable pub parse : List ℕ → Checked JxlColorEncoding
unfolding encoding
parse text = answer (encoding text)
