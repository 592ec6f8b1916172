-- An encoding as it is read has the description that it is read from. Assumes nothing.
use Rattle.std.specs.Prelude.{ℕ, ◌≡◌, refl, List, ◌++◌, Float}
use Rattle.std.proofs.Common.{ap, ap₂}
use Rattle.buffer.specs.Ascii.{ascii}
use Rattle.color_encoding.specs.declared.RenderingIntent.{RenderingIntent}
use Rattle.color_encoding.specs.declared.JxlWhitePoint.{JxlWhitePoint}
use Rattle.color_encoding.specs.declared.JxlWhitePoint.TheVariants as W
use Rattle.color_encoding.specs.declared.JxlPrimaries.{JxlPrimaries}
use Rattle.color_encoding.specs.declared.JxlPrimaries.TheVariants as P
use Rattle.color_encoding.specs.declared.JxlTransferFunction.{JxlTransferFunction}
use Rattle.color_encoding.specs.declared.JxlTransferFunction.TheVariants as F
use Rattle.color_encoding.specs.declared.JxlColorEncoding.{JxlColorEncoding}
use Rattle.color_encoding.specs.declared.JxlColorEncoding.TheVariants.{RgbColorSpace, GrayscaleColorSpace, XYB}
use Rattle.color_encoding.specs.Codes.{white_point_number, primaries_number, transfer_function_number}
use Rattle.common_names.specs.Common.{common}
use Rattle.text.specs.Description.{comma, semicolon, pair, white_name, primaries_name, transfer_name, rgb_text, gray_text, description}
use Rattle.text.specs.Held.{Held, HeldWhite, HeldPrimaries, HeldTransfer, HeldEncoding}
use Rattle.description_round_trip.specs.TwoDigits.{TwoDigits, WhiteTwoDigits, PrimariesTwoDigits, TransferTwoDigits, FloatsTwoDigits}
use Rattle.description_round_trip.specs.AsRead.{float_as_read, white_as_read, primaries_as_read, transfer_as_read, encoding_as_read}
use Rattle.description_round_trip.specs.SameDecimalsLaws.{decimals_again}

-- ---- the common name goes by the variants, which are the same

white_number : (w : JxlWhitePoint) → white_point_number (white_as_read w) ≡ white_point_number w
white_number W.D65 = refl
white_number W.E = refl
white_number W.DCI = refl
white_number (W.Chromaticity wx wy) = refl

primaries_number_lem : (p : JxlPrimaries) → primaries_number (primaries_as_read p) ≡ primaries_number p
primaries_number_lem P.SRGB = refl
primaries_number_lem P.BT2100 = refl
primaries_number_lem P.P3 = refl
primaries_number_lem (P.Chromaticities rx ry gx gy bx by) = refl

transfer_number : (t : JxlTransferFunction) → transfer_function_number (transfer_as_read t) ≡ transfer_function_number t
transfer_number F.BT709 = refl
transfer_number F.Linear = refl
transfer_number F.SRGB = refl
transfer_number F.PQ = refl
transfer_number F.DCI = refl
transfer_number F.HLG = refl
transfer_number (F.Gamma g) = refl

pub common_again : (w : JxlWhitePoint) (p : JxlPrimaries) (t : JxlTransferFunction) (i : RenderingIntent) (text : List ℕ)
    → common (white_as_read w) (primaries_as_read p) (transfer_as_read t) i text ≡ common w p t i text
common_again w p t i text = rw (white_number w, primaries_number_lem p, transfer_number t) refl

-- ---- the parts

pair_again : (separator : List ℕ) (x y : Float) → Held x × Held y → TwoDigits x × TwoDigits y
    → pair separator (float_as_read x) (float_as_read y) ≡ pair separator x y
unfolding pair
pair_again separator x y h q = ap₂ (λ (a b : List ℕ). a ++ separator ++ b) (decimals_again x h.0 q.0) (decimals_again y h.1 q.1)

white_again : (w : JxlWhitePoint) → HeldWhite w → WhiteTwoDigits w → white_name (white_as_read w) ≡ white_name w
unfolding white_name
white_again W.D65 h q = refl
white_again W.E h q = refl
white_again W.DCI h q = refl
white_again (W.Chromaticity wx wy) h q = pair_again semicolon wx wy h q

primaries_again : (p : JxlPrimaries) → HeldPrimaries p → PrimariesTwoDigits p → primaries_name (primaries_as_read p) ≡ primaries_name p
unfolding primaries_name
primaries_again P.SRGB h q = refl
primaries_again P.BT2100 h q = refl
primaries_again P.P3 h q = refl
primaries_again (P.Chromaticities rx ry gx gy bx by) h q =
    rw (pair_again comma rx ry h.0 q.0.0, pair_again comma gx gy h.1.0 q.0.1, pair_again comma bx by h.1.1 q.1) refl

transfer_again : (t : JxlTransferFunction) → HeldTransfer t → TransferTwoDigits t → transfer_name (transfer_as_read t) ≡ transfer_name t
unfolding transfer_name
transfer_again F.BT709 h q = refl
transfer_again F.Linear h q = refl
transfer_again F.SRGB h q = refl
transfer_again F.PQ h q = refl
transfer_again F.DCI h q = refl
transfer_again F.HLG h q = refl
transfer_again (F.Gamma g) h q = ap (λ (l : List ℕ). ascii "g" ++ l) (decimals_again g h q)

-- ---- the whole

pub description_again : (e : JxlColorEncoding) → HeldEncoding e → FloatsTwoDigits e → description (encoding_as_read e) ≡ description e
unfolding description rgb_text gray_text
description_again (RgbColorSpace w p t i) h q =
    rw (white_again w h.0 q.0, primaries_again p h.1.0 q.1.0, transfer_again t h.1.1 q.1.1) (common_again w p t i (rgb_text w p t i))
description_again (GrayscaleColorSpace w t i) h q = rw (white_again w h.0 q.0, transfer_again t h.1 q.1) refl
description_again (XYB i) h q = refl
