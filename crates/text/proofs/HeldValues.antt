-- What owning an encoding tells: its floats are binary32 values. Assumes nothing.
use mathlib.Core.Path.{sym, subst}
use mathlib.Core.List.{List}
use mir.Val.{Val}
use lib.Dec.{T}
use lib.Ieee.{Float}
use denote.Struct.Field.{f32-field}
use denote.Laws.{Is}
use denote.Enum.Declared.{row}
use denote.Enum.Laws.{owed}
use Rattle.color_encoding.specs.declared.JxlColorEncoding.{JxlColorEncoding}
use Rattle.color_encoding.specs.declared.JxlColorEncoding.TheVariants.{RgbColorSpace, GrayscaleColorSpace, XYB}
use Rattle.color_encoding.specs.declared.JxlWhitePoint.{JxlWhitePoint}
use Rattle.color_encoding.specs.declared.JxlWhitePoint.TheVariants as W
use Rattle.color_encoding.specs.declared.JxlPrimaries.{JxlPrimaries}
use Rattle.color_encoding.specs.declared.JxlPrimaries.TheVariants as P
use Rattle.color_encoding.specs.declared.JxlTransferFunction.{JxlTransferFunction}
use Rattle.color_encoding.specs.declared.JxlTransferFunction.TheVariants as F
use Rattle.color_encoding.specs.contracts.JxlWhitePoint as White
use Rattle.color_encoding.proofs.JxlWhitePoint.TheLaws as WhiteLaws
use Rattle.color_encoding.specs.contracts.JxlPrimaries as Primaries
use Rattle.color_encoding.proofs.JxlPrimaries.TheLaws as PrimariesLaws
use Rattle.color_encoding.specs.contracts.JxlTransferFunction as Transfer
use Rattle.color_encoding.proofs.JxlTransferFunction.TheLaws as TransferLaws
use Rattle.color_encoding.specs.contracts.JxlColorEncoding as Encoding
use Rattle.color_encoding.proofs.JxlColorEncoding.TheLaws as EncodingLaws
use Rattle.text.specs.Held.{Held, HeldWhite, HeldPrimaries, HeldTransfer, HeldEncoding}

-- an `f32`
pub held : (x : Float) (vs : List Val) → Is f32-field.row x vs → Held x
held x vs p = subst T (sym p.1) tt

pub held_white : (w : JxlWhitePoint) (vs : List Val) → Is (row White.the_type) w vs → HeldWhite w
held_white W.D65 vs p = tt
held_white W.E vs p = tt
held_white W.DCI vs p = tt
held_white (W.Chromaticity wx wy) vs p = let f = owed White.the_type WhiteLaws.the_laws (W.Chromaticity wx wy) vs p in (held wx _ f.0, held wy _ f.1.0)

pub held_primaries : (q : JxlPrimaries) (vs : List Val) → Is (row Primaries.the_type) q vs → HeldPrimaries q
held_primaries P.SRGB vs p = tt
held_primaries P.BT2100 vs p = tt
held_primaries P.P3 vs p = tt
held_primaries (P.Chromaticities rx ry gx gy bx by) vs p =
    let f = owed Primaries.the_type PrimariesLaws.the_laws (P.Chromaticities rx ry gx gy bx by) vs p in (
      (held rx _ f.0, held ry _ f.1.0),
      ((held gx _ f.1.1.0, held gy _ f.1.1.1.0), (held bx _ f.1.1.1.1.0, held by _ f.1.1.1.1.1.0)),
    )

pub held_transfer : (t : JxlTransferFunction) (vs : List Val) → Is (row Transfer.the_type) t vs → HeldTransfer t
held_transfer F.BT709 vs p = tt
held_transfer F.Linear vs p = tt
held_transfer F.SRGB vs p = tt
held_transfer F.PQ vs p = tt
held_transfer F.DCI vs p = tt
held_transfer F.HLG vs p = tt
held_transfer (F.Gamma g) vs p = held g _ (owed Transfer.the_type TransferLaws.the_laws (F.Gamma g) vs p).0

pub held_encoding : (e : JxlColorEncoding) (vs : List Val) → Is (row Encoding.the_type) e vs → HeldEncoding e
held_encoding (RgbColorSpace w q t i) vs p =
    let f = owed Encoding.the_type EncodingLaws.the_laws (RgbColorSpace w q t i) vs p in
    (held_white w _ f.0, (held_primaries q _ f.1.0, held_transfer t _ f.1.1.0))
held_encoding (GrayscaleColorSpace w t i) vs p =
    let f = owed Encoding.the_type EncodingLaws.the_laws (GrayscaleColorSpace w t i) vs p in
    (held_white w _ f.0, held_transfer t _ f.1.0)
held_encoding (XYB i) vs p = tt
