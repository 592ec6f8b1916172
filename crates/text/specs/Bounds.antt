-- How long a description can be, and which letters it has. The parts are in BoundsLaws.antt.
-- Assumes nothing.
use Rattle.std.specs.Prelude.{◌≤◌, length}
use Rattle.std.proofs.Common.{le_trans, lit≤}
use Rattle.color_encoding.specs.declared.JxlColorEncoding.{JxlColorEncoding}
use Rattle.color_encoding.specs.declared.JxlColorEncoding.TheVariants.{RgbColorSpace, GrayscaleColorSpace, XYB}
use Rattle.buffer.specs.Ascii.{Ascii}
use Rattle.text.specs.Description.{description, max_bytes, max_bytes_in_range}
use Rattle.text.specs.Held.{HeldEncoding, WhiteInRange}
use Rattle.text.specs.BoundsLaws.{length-white, length-white_in_range, length-rgb, length-gray_text, length-xyb_text_lem, some-rgb, some-gray, some-xyb, ascii_rgb, ascii_gray, ascii_xyb}

-- a description has at most 449 bytes
pub length-description : (e : JxlColorEncoding) → HeldEncoding e → length (description e) ≤ max_bytes
unfolding description
length-description (RgbColorSpace w p t i) h = length-rgb w p t i 97 (length-white w h.0) h.1.0 h.1.1
length-description (GrayscaleColorSpace w t i) h = le_trans (length-gray_text w t i h.0 h.1) (lit≤ tt)
length-description (XYB i) h = le_trans (length-xyb_text_lem i) (lit≤ tt)

-- and at most 372 where the white of an RGB encoding is in range
pub length-in_range : (e : JxlColorEncoding) → HeldEncoding e → WhiteInRange e → length (description e) ≤ max_bytes_in_range
unfolding description
length-in_range (RgbColorSpace w p t i) h r = length-rgb w p t i 20 (length-white_in_range w r) h.1.0 h.1.1
length-in_range (GrayscaleColorSpace w t i) h r = le_trans (length-gray_text w t i h.0 h.1) (lit≤ tt)
length-in_range (XYB i) h r = le_trans (length-xyb_text_lem i) (lit≤ tt)

-- no description is empty
pub some-letter : (e : JxlColorEncoding) → 1 ≤ length (description e)
unfolding description
some-letter (RgbColorSpace w p t i) = some-rgb w p t i
some-letter (GrayscaleColorSpace w t i) = some-gray w t i
some-letter (XYB i) = some-xyb i

-- every letter is at most 127
pub ascii_description : (e : JxlColorEncoding) → Ascii (description e)
unfolding description
ascii_description (RgbColorSpace w p t i) = ascii_rgb w p t i
ascii_description (GrayscaleColorSpace w t i) = ascii_gray w t i
ascii_description (XYB i) = ascii_xyb i
