-- The four common names of RGB encodings: `get_color_encoding_description` of api/color.rs. Assumes nothing.
use Rattle.std.specs.Prelude.{ℕ, ◌<◌, ◌≤◌, ◌≡◌, Bool, cond, ◌&&◌, List, eqb, length, Option, Some, None}
use Rattle.buffer.specs.Ascii.{ascii}
use Rattle.color_encoding.specs.declared.RenderingIntent.{RenderingIntent}
use Rattle.color_encoding.specs.declared.RenderingIntent.TheVariants.{Perceptual, Relative}
use Rattle.color_encoding.specs.declared.JxlWhitePoint.{JxlWhitePoint}
use Rattle.color_encoding.specs.declared.JxlWhitePoint.TheVariants as W
use Rattle.color_encoding.specs.declared.JxlPrimaries.{JxlPrimaries}
use Rattle.color_encoding.specs.declared.JxlPrimaries.TheVariants as P
use Rattle.color_encoding.specs.declared.JxlTransferFunction.{JxlTransferFunction}
use Rattle.color_encoding.specs.declared.JxlTransferFunction.TheVariants as F
use Rattle.color_encoding.specs.declared.JxlColorEncoding.{JxlColorEncoding}
use Rattle.color_encoding.specs.declared.JxlColorEncoding.TheVariants.{RgbColorSpace, GrayscaleColorSpace, XYB}
use Rattle.color_encoding.specs.Codes.{white_point_number, primaries_number, transfer_function_number}
use Rattle.color_encoding.specs.Intent.{intent_number}

-- the four are the variants that a pattern of the Rust's `match` names; variants are told apart by their numbers
abbrev pub matches : JxlWhitePoint → JxlPrimaries → JxlTransferFunction → RenderingIntent → JxlWhitePoint → JxlPrimaries → JxlTransferFunction → RenderingIntent → Bool
matches w p t i w' p' t' i' =
    eqb (white_point_number w) (white_point_number w') && eqb (primaries_number p) (primaries_number p') && eqb (transfer_function_number t) (transfer_function_number t')
    && eqb (intent_number i) (intent_number i')

abbrev pub srgb : List ℕ
srgb = ascii "sRGB"

abbrev pub display_p3 : List ℕ
display_p3 = ascii "DisplayP3"

abbrev pub rec2100_pq : List ℕ
rec2100_pq = ascii "Rec2100PQ"

abbrev pub rec2100_hlg : List ℕ
rec2100_hlg = ascii "Rec2100HLG"

-- the common name, or a text for an encoding that has none
abbrev pub common : JxlWhitePoint → JxlPrimaries → JxlTransferFunction → RenderingIntent → List ℕ → List ℕ
common w p t i text =
    cond (matches w p t i W.D65 P.SRGB F.SRGB Perceptual) srgb
    (cond (matches w p t i W.D65 P.P3 F.SRGB Perceptual) display_p3
    (cond (matches w p t i W.D65 P.BT2100 F.PQ Relative) rec2100_pq
    (cond (matches w p t i W.D65 P.BT2100 F.HLG Relative) rec2100_hlg
    text)))

-- ---- what the code answers: a name, or none

abbrev pub called : Option (List ℕ) → List ℕ → List ℕ
called None text = text
called (Some name) text = name

-- a name has a letter, and at most ten
abbrev pub Room : Option (List ℕ) → Type 0
Room None = Unit {0}
Room (Some name) = (0 < length name) × (length name ≤ 10)

pub record Named (w : JxlWhitePoint) (p : JxlPrimaries) (t : JxlTransferFunction) (i : RenderingIntent) (name : Option (List ℕ)) : Type 0 where
  pub room : Room name
  pub named : (text : List ℕ) → common w p t i text ≡ called name text

-- none but RGB encodings have one
abbrev pub IsNamed : JxlColorEncoding → Option (List ℕ) → Type 0
IsNamed (RgbColorSpace w p t i) name = Named w p t i name
IsNamed (GrayscaleColorSpace w t i) name = name ≡ None
IsNamed (XYB i) name = name ≡ None
