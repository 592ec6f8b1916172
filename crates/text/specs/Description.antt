-- The text that describes an encoding: the `Display` impls of api/color.rs and `get_color_encoding_description`.
-- Assumes nothing.
use Rattle.std.specs.Prelude.{ℕ, List, ◌++◌}
use Rattle.color_encoding.specs.declared.RenderingIntent.{RenderingIntent}
use Rattle.color_encoding.specs.declared.JxlWhitePoint.{JxlWhitePoint}
use Rattle.color_encoding.specs.declared.JxlPrimaries.{JxlPrimaries}
use Rattle.color_encoding.specs.declared.JxlTransferFunction.{JxlTransferFunction}
use Rattle.color_encoding.specs.declared.JxlColorEncoding.{JxlColorEncoding}
use Rattle.color_encoding.specs.declared.JxlColorEncoding.TheVariants.{RgbColorSpace, GrayscaleColorSpace, XYB}
use Rattle.color_encoding.specs.Intent.{intent_name}
use Rattle.buffer.specs.Ascii.{ascii}
use Rattle.common_names.specs.Common.{common}
pub use Rattle.common_names.specs.Common.{matches, srgb, display_p3, rec2100_pq, rec2100_hlg}
pub use Rattle.encoding_names.specs.Names.{comma, semicolon}
unfoldable pub use Rattle.encoding_names.specs.Names.{pair, white_name, primaries_name, transfer_name}

abbrev pub underscore : List ℕ
underscore = ascii "_"

-- white, primaries, intent, curve
unfoldable pub rgb_text : JxlWhitePoint → JxlPrimaries → JxlTransferFunction → RenderingIntent → List ℕ
unfolding white_name primaries_name transfer_name
rgb_text w p t i = ascii "RGB_" ++ white_name w ++ underscore ++ primaries_name p ++ underscore ++ intent_name i ++ underscore ++ transfer_name t

-- white, intent, curve
unfoldable pub gray_text : JxlWhitePoint → JxlTransferFunction → RenderingIntent → List ℕ
unfolding white_name transfer_name
gray_text w t i = ascii "Gra_" ++ white_name w ++ underscore ++ intent_name i ++ underscore ++ transfer_name t

unfoldable pub xyb_text : RenderingIntent → List ℕ
xyb_text i = ascii "XYB_" ++ intent_name i

-- a common name, or the text
unfoldable pub rgb_description : JxlWhitePoint → JxlPrimaries → JxlTransferFunction → RenderingIntent → List ℕ
rgb_description w p t i = common w p t i (rgb_text w p t i)

unfoldable pub description : JxlColorEncoding → List ℕ
unfolding rgb_description gray_text xyb_text
description (RgbColorSpace w p t i) = rgb_description w p t i
description (GrayscaleColorSpace w t i) = gray_text w t i
description (XYB i) = xyb_text i

-- the most bytes that a description has (Bounds), and that one has whose white is in range
abbrev pub max_bytes : ℕ
max_bytes = 449

abbrev pub max_bytes_in_range : ℕ
max_bytes_in_range = 372
