-- The floats of an encoding that a text describes are binary32 values. Assumes nothing.
use Rattle.std.specs.Prelude.{ℕ, ◌^◌, List, Float}
use Rattle.std.specs.Float.{binary32}
use Rattle.std.specs.Float.Ieee.Fits.{round-fits}
use Rattle.color_encoding.specs.declared.JxlWhitePoint.{JxlWhitePoint}
use Rattle.color_encoding.specs.declared.JxlWhitePoint.TheVariants as W
use Rattle.color_encoding.specs.declared.JxlPrimaries.{JxlPrimaries}
use Rattle.color_encoding.specs.declared.JxlPrimaries.TheVariants as P
use Rattle.color_encoding.specs.declared.JxlTransferFunction.{JxlTransferFunction}
use Rattle.color_encoding.specs.declared.JxlTransferFunction.TheVariants as F
use Rattle.color_encoding.specs.declared.JxlColorEncoding.{JxlColorEncoding}
use Rattle.text.specs.Held.{Held, HeldWhite, HeldPrimaries, HeldTransfer, HeldEncoding}
use Rattle.decimal_parser.specs.FloatText.{FloatText}
use Rattle.description_parser.specs.Language.{PairText, WhiteText, PrimariesText, TransferText, Describes, srgb, p3, pq, hlg, rgb, gray, xyb}

float_held : {x : Float} {text : List ℕ} → FloatText x text → Held x
float_held h = rw h.value (round-fits binary32 h.negative h.q (10 ^ 7))

pair_held : {separator : List ℕ} {p : Float × Float} {text : List ℕ} → PairText separator p text → Held p.0 × Held p.1
pair_held h = (float_held h.is_first, float_held h.is_second)

white_held : (w : JxlWhitePoint) (text : List ℕ) → WhiteText w text → HeldWhite w
white_held W.D65 text h = tt
white_held W.E text h = tt
white_held W.DCI text h = tt
white_held (W.Chromaticity wx wy) text h = pair_held h

primaries_held : (p : JxlPrimaries) (text : List ℕ) → PrimariesText p text → HeldPrimaries p
primaries_held P.SRGB text h = tt
primaries_held P.BT2100 text h = tt
primaries_held P.P3 text h = tt
primaries_held (P.Chromaticities rx ry gx gy bx by) text h =
    (pair_held h.is_first.is_first, (pair_held h.is_first.is_second, pair_held h.is_second))

transfer_held : (t : JxlTransferFunction) (text : List ℕ) → TransferText t text → HeldTransfer t
transfer_held F.BT709 text h = tt
transfer_held F.Linear text h = tt
transfer_held F.SRGB text h = tt
transfer_held F.PQ text h = tt
transfer_held F.DCI text h = tt
transfer_held F.HLG text h = tt
transfer_held (F.Gamma g) text h = float_held h.is

pub typed_held : (text : List ℕ) (e : JxlColorEncoding) → Describes text e → HeldEncoding e
typed_held text e (srgb h) = (tt, (tt, tt))
typed_held text e (p3 h) = (tt, (tt, tt))
typed_held text e (pq h) = (tt, (tt, tt))
typed_held text e (hlg h) = (tt, (tt, tt))
typed_held text e (rgb {w} {p} {t} c h) =
    (white_held w _ h.is_first.is_first.is_first.is, (primaries_held p _ h.is_first.is_first.is_second, transfer_held t _ h.is_second))
typed_held text e (gray {w} {t} h) = (white_held w _ h.is_first.is_first.is, transfer_held t _ h.is_second)
typed_held text e (xyb h) = tt
