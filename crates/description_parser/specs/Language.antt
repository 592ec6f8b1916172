-- The language of the texts that describe encodings (02, order 2): that of `get_color_encoding_description` (text/specs/Description.antt), by the same
-- names, where a float may be any decimal of the form of `FloatText`. Nothing here reads a text. Assumes nothing.
use Rattle.std.specs.Prelude.{ℕ, zero, suc, ◌≡◌, Bool, true, false, List, [], Float}
use Rattle.std.specs.Float.{nan, inf, fin}
use Rattle.buffer.specs.Ascii.{ascii}
use Rattle.color_encoding.specs.declared.RenderingIntent.{RenderingIntent}
use Rattle.color_encoding.specs.declared.RenderingIntent.TheVariants.{Perceptual, Relative}
use Rattle.color_encoding.specs.declared.JxlWhitePoint.{JxlWhitePoint}
use Rattle.color_encoding.specs.declared.JxlWhitePoint.TheVariants as W
use Rattle.color_encoding.specs.declared.JxlPrimaries.{JxlPrimaries}
use Rattle.color_encoding.specs.declared.JxlPrimaries.TheVariants as P
use Rattle.color_encoding.specs.declared.JxlTransferFunction.{JxlTransferFunction}
use Rattle.color_encoding.specs.declared.JxlTransferFunction.TheVariants as F
use Rattle.color_encoding.specs.declared.JxlColorEncoding.{JxlColorEncoding}
use Rattle.color_encoding.specs.declared.JxlColorEncoding.TheVariants.{RgbColorSpace, GrayscaleColorSpace, XYB}
use Rattle.color_encoding.specs.Intent.{intent_name}
use Rattle.common_names.specs.Common.{common}
use Rattle.text.specs.Description.{comma, semicolon, underscore, white_name, primaries_name, transfer_name, display_p3, rec2100_pq, rec2100_hlg}
use Rattle.text.specs.Description as the-names
use Rattle.scanner.specs.Grammar.{Headed, Joined}
use Rattle.decimal_parser.specs.FloatText.{FloatText}

-- ---- the parts

abbrev pub IntentText : RenderingIntent → List ℕ → Type 0
IntentText i text = text ≡ intent_name i

-- x and y with a separator between them
abbrev pub PairText : List ℕ → Float × Float → List ℕ → Type 0
PairText separator = Joined FloatText separator FloatText

abbrev pub WhiteText : JxlWhitePoint → List ℕ → Type 0
WhiteText W.D65 text = text ≡ white_name W.D65
WhiteText W.E text = text ≡ white_name W.E
WhiteText W.DCI text = text ≡ white_name W.DCI
WhiteText (W.Chromaticity wx wy) text = PairText semicolon (wx, wy) text

-- the pairs of red, green and blue
abbrev pub ChromaticitiesText : ((Float × Float) × (Float × Float)) × (Float × Float) → List ℕ → Type 0
ChromaticitiesText = Joined (Joined (PairText comma) semicolon (PairText comma)) semicolon (PairText comma)

abbrev pub PrimariesText : JxlPrimaries → List ℕ → Type 0
PrimariesText P.SRGB text = text ≡ primaries_name P.SRGB
PrimariesText P.BT2100 text = text ≡ primaries_name P.BT2100
PrimariesText P.P3 text = text ≡ primaries_name P.P3
PrimariesText (P.Chromaticities rx ry gx gy bx by) text = ChromaticitiesText (((rx, ry), (gx, gy)), (bx, by)) text

abbrev pub TransferText : JxlTransferFunction → List ℕ → Type 0
TransferText F.BT709 text = text ≡ transfer_name F.BT709
TransferText F.Linear text = text ≡ transfer_name F.Linear
TransferText F.SRGB text = text ≡ transfer_name F.SRGB
TransferText F.PQ text = text ≡ transfer_name F.PQ
TransferText F.DCI text = text ≡ transfer_name F.DCI
TransferText F.HLG text = text ≡ transfer_name F.HLG
TransferText (F.Gamma g) text = Headed (ascii "g") FloatText g text

-- ---- the long forms

-- white, primaries, intent, curve
abbrev pub RgbText : ((JxlWhitePoint × JxlPrimaries) × RenderingIntent) × JxlTransferFunction → List ℕ → Type 0
RgbText = Joined (Joined (Joined (Headed (ascii "RGB_") WhiteText) underscore PrimariesText) underscore IntentText) underscore TransferText

-- white, intent, curve
abbrev pub GrayText : (JxlWhitePoint × RenderingIntent) × JxlTransferFunction → List ℕ → Type 0
GrayText = Joined (Joined (Headed (ascii "Gra_") WhiteText) underscore IntentText) underscore TransferText

-- intent
abbrev pub XybText : RenderingIntent → List ℕ → Type 0
XybText = Headed (ascii "XYB_") IntentText

-- ---- the whole

-- the common name of an RGB encoding, and no letter where it has none
abbrev pub common_name : JxlWhitePoint → JxlPrimaries → JxlTransferFunction → RenderingIntent → List ℕ
common_name w p t i = common w p t i []

-- The text describes the encoding. A long form that a common name replaces does not.
pub data Describes (text : List ℕ) : JxlColorEncoding → Type 0 where
  srgb : text ≡ the-names.srgb → Describes text (RgbColorSpace W.D65 P.SRGB F.SRGB Perceptual)
  p3 : text ≡ display_p3 → Describes text (RgbColorSpace W.D65 P.P3 F.SRGB Perceptual)
  pq : text ≡ rec2100_pq → Describes text (RgbColorSpace W.D65 P.BT2100 F.PQ Relative)
  hlg : text ≡ rec2100_hlg → Describes text (RgbColorSpace W.D65 P.BT2100 F.HLG Relative)
  rgb : {w : JxlWhitePoint} {p : JxlPrimaries} {t : JxlTransferFunction} {i : RenderingIntent} → common_name w p t i ≡ [] → RgbText (((w, p), i), t) text → Describes text (RgbColorSpace w p t i)
  gray : {w : JxlWhitePoint} {t : JxlTransferFunction} {i : RenderingIntent} → GrayText ((w, i), t) text → Describes text (GrayscaleColorSpace w t i)
  xyb : {i : RenderingIntent} → XybText i text → Describes text (XYB i)

-- the text is in the language
abbrev pub InLanguage : List ℕ → Type 0
InLanguage text = (e : JxlColorEncoding) × Describes text e

-- ---- a gamma that is zero, of either sign

abbrev pub is_zero : Float → Bool
is_zero nan = false
is_zero (inf s) = false
is_zero (fin s zero e) = true
is_zero (fin s (suc m) e) = false

abbrev pub zero_transfer : JxlTransferFunction → Bool
zero_transfer F.BT709 = false
zero_transfer F.Linear = false
zero_transfer F.SRGB = false
zero_transfer F.PQ = false
zero_transfer F.DCI = false
zero_transfer F.HLG = false
zero_transfer (F.Gamma g) = is_zero g

abbrev pub zero_gamma : JxlColorEncoding → Bool
zero_gamma (RgbColorSpace w p t i) = zero_transfer t
zero_gamma (GrayscaleColorSpace w t i) = zero_transfer t
zero_gamma (XYB i) = false
