-- The sheets of 01 that are to be proved ("Sheets to try", marked with a star), and those that later orders of 02 name: one table of cases with what each must give,
-- and one theorem over it.
-- Assumes nothing.
use Rattle.std.specs.Prelude.{Option, None, ℕ, ◌≡◌, true, false, List, [], ◌∷◌, pos, negsuc}
use Prim.Native.String.{String}
use Rattle.std.specs.Float.{binary32}
use Rattle.std.specs.Float.Ieee.{of_bits}
use Rattle.buffer.specs.All.{All, none, more}
use Rattle.buffer.specs.Ascii.{ascii}
use Rattle.numbers.specs.Fixed.{some_number, s15_fixed16}
use Rattle.numbers.specs.declared.fixed.S15Fixed16.{S15Fixed16}
use Rattle.color_encoding.specs.declared.RenderingIntent.TheVariants.{Perceptual, Relative, Saturation, Absolute}
use Rattle.color_encoding.specs.declared.JxlColorEncoding.{JxlColorEncoding}
use Rattle.color_encoding.specs.declared.JxlWhitePoint.TheVariants as W
use Rattle.color_encoding.specs.declared.JxlPrimaries.TheVariants as P
use Rattle.color_encoding.specs.declared.JxlTransferFunction.TheVariants as F
use Rattle.color_encoding.specs.declared.JxlColorEncoding.TheVariants.{RgbColorSpace, GrayscaleColorSpace, XYB}
use Rattle.decimal.specs.Seven.{seven_decimals}
use Rattle.text.specs.Description.{description}
use Rattle.encoding_plan.specs.FixedFloats.{counted_color_plan, counted_plan}
use Rattle.writer.specs.Writer.{profile, answer}
use Rattle.examples.specs.SheetsLaws as Laws

pub data Sheet : Type 0 where
  -- the f32 of these bits has this fixed number, exact or not, or none
  fixed : ℕ → Option S15Fixed16 → Sheet
  -- it prints so
  prints : ℕ → String → Sheet
  -- the encoding has this text
  text : JxlColorEncoding → String → Sheet
  -- its profile has so many bytes, and an output of just as many is enough; so many of its fixed numbers are rounded
  bytes : JxlColorEncoding → ℕ → ℕ → Sheet
  -- the same of gray with the mark "adapted" (02, order 9)
  adapted_bytes : JxlColorEncoding → ℕ → ℕ → Sheet

abbrev pub Holds : Sheet → Type 0
Holds (fixed x n) = s15_fixed16 (of_bits binary32 x) ≡ n
Holds (prints x s) = seven_decimals (of_bits binary32 x) ≡ ascii s
Holds (text e s) = description e ≡ ascii s
Holds (bytes e n k) = answer (counted_plan e) n ≡ profile n k
Holds (adapted_bytes e n k) = answer (counted_color_plan true e) n ≡ profile n k

abbrev pub table : List Sheet
table =
    -- 1.0
    fixed 0x3f80_0000 (some_number (pos 65536) true)
    -- 32767.994140625, and the next f32 up
    ∷ fixed 0x46ff_fffd (some_number (pos 2147483264) true)
    ∷ fixed 0x46ff_fffe None
    -- two to the -17, and negated: halves go away from zero
    ∷ fixed 0x3700_0000 (some_number (pos 1) false)
    ∷ fixed 0xb700_0000 (some_number (negsuc 0) false)
    -- 2.4
    ∷ fixed 0x4019_999a (some_number (pos 157286) false)
    -- 1/256 and 3/256: ties go to the even digit
    ∷ prints 0x3b80_0000 "0.0039062"
    ∷ prints 0x3c40_0000 "0.0117188"
    -- -0
    ∷ prints 0x8000_0000 "-0.0000000"
    ∷ text (RgbColorSpace W.D65 P.SRGB F.SRGB Perceptual) "sRGB"
    ∷ bytes (RgbColorSpace W.D65 P.SRGB F.SRGB Perceptual) 504 24
    ∷ bytes (RgbColorSpace W.D65 P.SRGB F.SRGB Relative) 536 24
    ∷ bytes (GrayscaleColorSpace W.D65 F.SRGB Relative) 328 7
    ∷ adapted_bytes (GrayscaleColorSpace W.D65 F.SRGB Relative) 384 16
    ∷ bytes (XYB Perceptual) 720 30
    ∷ bytes (XYB Relative) 720 30
    ∷ bytes (XYB Saturation) 720 30
    ∷ bytes (XYB Absolute) 720 30
    ∷ []

pub sheets : All Holds table
sheets =
    more Laws.one
    (more Laws.largest
    (more Laws.too_large
    (more Laws.half
    (more Laws.minus_half
    (more Laws.srgb_gamma
    (more Laws.tie_down
    (more Laws.tie_up
    (more Laws.minus_zero
    (more Laws.srgb_text
    (more Laws.perceptual_504
    (more Laws.relative_536
    (more Laws.gray_328
    (more Laws.adapted_384
    (more (Laws.xyb_720 Perceptual) (more (Laws.xyb_720 Relative) (more (Laws.xyb_720 Saturation) (more (Laws.xyb_720 Absolute) none)))))))))))))))))
