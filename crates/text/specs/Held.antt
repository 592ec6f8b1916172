-- Which encodings the bounds of Bounds.antt are about: those whose floats are binary32 values, as the floats of an `f32` are; and whites in range.
-- Assumes nothing.
use Rattle.std.specs.Prelude.{◌≡◌, true}
use Rattle.color_encoding.specs.declared.JxlWhitePoint.{JxlWhitePoint}
use Rattle.color_encoding.specs.declared.JxlColorEncoding.{JxlColorEncoding}
use Rattle.color_encoding.specs.declared.JxlColorEncoding.TheVariants.{RgbColorSpace, GrayscaleColorSpace, XYB}
use Rattle.color_encoding.specs.Coordinates.{white_xy}
use Rattle.color_encoding.specs.Range.{in_range}
pub use Rattle.encoding_names.specs.Held.{Held, HeldWhite, HeldPrimaries, HeldTransfer}

abbrev pub HeldEncoding : JxlColorEncoding → Type 0
HeldEncoding (RgbColorSpace w p t i) = HeldWhite w × (HeldPrimaries p × HeldTransfer t)
HeldEncoding (GrayscaleColorSpace w t i) = HeldWhite w × HeldTransfer t
HeldEncoding (XYB i) = Unit {0}

-- the coordinates of the white are in the range of `adapt_to_xyz_d50`
abbrev pub InRange : JxlWhitePoint → Type 0
InRange w = in_range (white_xy w) ≡ true

-- the white of an RGB encoding is in range; of gray and XYB nothing is asked
abbrev pub WhiteInRange : JxlColorEncoding → Type 0
WhiteInRange (RgbColorSpace w p t i) = InRange w
WhiteInRange (GrayscaleColorSpace w t i) = Unit {0}
WhiteInRange (XYB i) = Unit {0}
