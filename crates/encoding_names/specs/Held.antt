-- What the functions that write a name ensure. A name's length is bounded where its floats are binary32 values, as the floats of an `f32` are.
-- Assumes nothing.
use Rattle.std.specs.Prelude.{ℕ, ◌+◌, ◌≤◌, List, T, Float}
use Rattle.std.specs.Float.{binary32}
use Rattle.std.specs.Float.Ieee.{fits}
use Rattle.color_encoding.specs.declared.JxlWhitePoint.{JxlWhitePoint}
use Rattle.color_encoding.specs.declared.JxlWhitePoint.TheVariants as W
use Rattle.color_encoding.specs.declared.JxlPrimaries.{JxlPrimaries}
use Rattle.color_encoding.specs.declared.JxlPrimaries.TheVariants as P
use Rattle.color_encoding.specs.declared.JxlTransferFunction.{JxlTransferFunction}
use Rattle.color_encoding.specs.declared.JxlTransferFunction.TheVariants as F
use Rattle.buffer.specs.Puts.{PutsText}

-- a float that binary32 holds
abbrev pub Held : Float → Type 0
Held x = T (fits binary32 x)

abbrev pub HeldWhite : JxlWhitePoint → Type 0
HeldWhite W.D65 = Unit {0}
HeldWhite W.E = Unit {0}
HeldWhite W.DCI = Unit {0}
HeldWhite (W.Chromaticity wx wy) = Held wx × Held wy

abbrev pub HeldPrimaries : JxlPrimaries → Type 0
HeldPrimaries P.SRGB = Unit {0}
HeldPrimaries P.BT2100 = Unit {0}
HeldPrimaries P.P3 = Unit {0}
HeldPrimaries (P.Chromaticities rx ry gx gy bx by) = (Held rx × Held ry) × ((Held gx × Held gy) × (Held bx × Held by))

abbrev pub HeldTransfer : JxlTransferFunction → Type 0
HeldTransfer F.BT709 = Unit {0}
HeldTransfer F.Linear = Unit {0}
HeldTransfer F.SRGB = Unit {0}
HeldTransfer F.PQ = Unit {0}
HeldTransfer F.DCI = Unit {0}
HeldTransfer F.HLG = Unit {0}
HeldTransfer (F.Gamma g) = Held g

-- a part of at most n bytes, put at a place; what is held are its floats
pub record PutsPart (n : ℕ) (Floats : Type 0) (l : List ℕ) (at : ℕ) (part : List ℕ) (r : ℕ) (out : List ℕ) : Type 0 where
  pub puts : PutsText l at part r out
  pub most : r ≤ at + n
  pub held : Floats
