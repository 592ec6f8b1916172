-- What some typed texts are answered (02, order 2). Assumes nothing.
use Rattle.std.specs.Prelude.{ℕ, ◌≡◌, refl, Float}
use Rattle.std.specs.Float.{binary32}
use Rattle.std.specs.Float.Ieee.{of_bits, round}
use Rattle.buffer.specs.Ascii.{ascii}
use Rattle.buffer.specs.Checked.{is, refused}
use Rattle.color_encoding.specs.declared.RenderingIntent.TheVariants.{Perceptual, Relative}
use Rattle.color_encoding.specs.declared.JxlWhitePoint.TheVariants as W
use Rattle.color_encoding.specs.declared.JxlPrimaries.TheVariants as P
use Rattle.color_encoding.specs.declared.JxlTransferFunction.TheVariants as F
use Rattle.color_encoding.specs.declared.JxlColorEncoding.TheVariants.{RgbColorSpace, GrayscaleColorSpace, XYB}
use Rattle.description_parser.specs.Parse.{parse}

-- an f32 by its bits
abbrev f32 : ℕ → Float
f32 n = of_bits binary32 n

-- ---- common names

pub common_srgb : parse (ascii "sRGB") ≡ is (RgbColorSpace W.D65 P.SRGB F.SRGB Perceptual)
unfolding parse
common_srgb = refl

pub common_display_p3 : parse (ascii "DisplayP3") ≡ is (RgbColorSpace W.D65 P.P3 F.SRGB Perceptual)
unfolding parse
common_display_p3 = refl

pub common_pq : parse (ascii "Rec2100PQ") ≡ is (RgbColorSpace W.D65 P.BT2100 F.PQ Relative)
unfolding parse
common_pq = refl

pub common_hlg : parse (ascii "Rec2100HLG") ≡ is (RgbColorSpace W.D65 P.BT2100 F.HLG Relative)
unfolding parse
common_hlg = refl

-- ---- long forms that a common name replaces

pub long_srgb : parse (ascii "RGB_D65_SRG_Per_SRG") ≡ refused 51
unfolding parse
long_srgb = refl

pub long_display_p3 : parse (ascii "RGB_D65_DCI_Per_SRG") ≡ refused 51
unfolding parse
long_display_p3 = refl

pub long_pq : parse (ascii "RGB_D65_202_Rel_PeQ") ≡ refused 51
unfolding parse
long_pq = refl

pub long_hlg : parse (ascii "RGB_D65_202_Rel_HLG") ≡ refused 51
unfolding parse
long_hlg = refl

-- ---- long forms

pub rgb_relative_linear : parse (ascii "RGB_D65_SRG_Rel_Lin") ≡ is (RgbColorSpace W.D65 P.SRGB F.Linear Relative)
unfolding parse
rgb_relative_linear = refl

-- of another intent than that of the common name
pub hlg_perceptual : parse (ascii "RGB_D65_202_Per_HLG") ≡ is (RgbColorSpace W.D65 P.BT2100 F.HLG Perceptual)
unfolding parse
hlg_perceptual = refl

pub xyb_relative : parse (ascii "XYB_Rel") ≡ is (XYB Relative)
unfolding parse
xyb_relative = refl

pub own_primaries_lem : parse (ascii "RGB_EER_0.6400000,0.3300000;0.3000000,0.6000000;0.1500000,0.0600000_Rel_g-2.4000000")
    ≡ is (RgbColorSpace W.E (P.Chromaticities (f32 0x3f23_d70a) (f32 0x3ea8_f5c3) (f32 0x3e99_999a) (f32 0x3f19_999a) (f32 0x3e19_999a) (f32 0x3d75_c28f)) (F.Gamma (f32 0xc019_999a)) Relative)
unfolding parse of_bits round
own_primaries_lem = refl

-- two whole digits, where a name of primaries begins with the same two
pub primaries_of_20 : parse (ascii "RGB_D65_20.0000000,0.0000000;0.0000000,0.0000000;0.0000000,1.0000000_Rel_Lin")
    ≡ is (RgbColorSpace W.D65 (P.Chromaticities (f32 0x41a0_0000) (f32 0) (f32 0) (f32 0) (f32 0) (f32 0x3f80_0000)) F.Linear Relative)
unfolding parse of_bits round
primaries_of_20 = refl

-- ---- floats

pub rounded_to_100 : parse (ascii "Gra_D65_Per_g99.9999999") ≡ is (GrayscaleColorSpace W.D65 (F.Gamma (f32 0x42c8_0000)) Perceptual)
unfolding parse of_bits round
rounded_to_100 = refl

pub least_gamma : parse (ascii "Gra_D65_Per_g0.0000001") ≡ is (GrayscaleColorSpace W.D65 (F.Gamma (f32 0x33d6_bf95)) Perceptual)
unfolding parse of_bits round
least_gamma = refl

pub negative_zero : parse (ascii "Gra_-0.0000000;0.5000000_Per_Lin") ≡ is (GrayscaleColorSpace (W.Chromaticity (f32 0x8000_0000) (f32 0x3f00_0000)) F.Linear Perceptual)
unfolding parse of_bits round
negative_zero = refl

pub needless_leading_zero : parse (ascii "Gra_D65_Per_g00.0000000") ≡ refused 51
unfolding parse
needless_leading_zero = refl

-- ---- a gamma that is zero

pub gamma_of_negative_zero : parse (ascii "Gra_D65_Per_g-0.0000000") ≡ refused 52
unfolding parse round
gamma_of_negative_zero = refl

-- 51 comes first
pub zero-gamma_outside_language : parse (ascii "Gra_D65_Per_g0.0000000_") ≡ refused 51
unfolding parse
zero-gamma_outside_language = refl

-- ---- more or less than a text of the language

pub space_behind : parse (ascii "sRGB ") ≡ refused 51
unfolding parse
space_behind = refl

pub no_text : parse (ascii "") ≡ refused 51
unfolding parse
no_text = refl
