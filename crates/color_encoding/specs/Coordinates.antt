-- The CIE xy coordinates of white points and primaries: `to_xy_coords` of api/color.rs. Constants stand by their bits.
-- Assumes nothing.
use Rattle.std.specs.Prelude.{ℕ, Float}
use Rattle.std.specs.Float.{binary32}
use Rattle.std.specs.Float.Ieee.{of_bits}
use Rattle.color_encoding.specs.declared.JxlWhitePoint.{JxlWhitePoint}
use Rattle.color_encoding.specs.declared.JxlWhitePoint.TheVariants as W
use Rattle.color_encoding.specs.declared.JxlPrimaries.{JxlPrimaries}
use Rattle.color_encoding.specs.declared.JxlPrimaries.TheVariants as P
use Rattle.color_encoding.specs.declared.WhiteXy.{WhiteXy}
use Rattle.color_encoding.specs.declared.PrimariesXy.{PrimariesXy}

abbrev pub white : Float → Float → WhiteXy
white x y = record { wx = x; wy = y }

abbrev pub primaries : Float → Float → Float → Float → Float → Float → PrimariesXy
primaries rx ry gx gy bx by = record { rx = rx; ry = ry; gx = gx; gy = gy; bx = bx; by = by }

abbrev b32 : ℕ → Float
b32 n = of_bits binary32 n

abbrev pub white_xy : JxlWhitePoint → WhiteXy
-- 0.3127, 0.3290
white_xy W.D65 = white (b32 0x3ea01a37) (b32 0x3ea872b0)
-- 1/3, 1/3
white_xy W.E = white (b32 0x3eaaaaab) (b32 0x3eaaaaab)
-- 0.314, 0.351
white_xy W.DCI = white (b32 0x3ea0c49c) (b32 0x3eb3b646)
white_xy (W.Chromaticity x y) = white x y

abbrev pub primaries_xy : JxlPrimaries → PrimariesXy
-- (0.6399987, 0.33001015), (0.3000038, 0.60000336), (0.15000205, 0.059997204)
primaries_xy P.SRGB =
    primaries (b32 0x3f23d6f4) (b32 0x3ea8f717) (b32 0x3e999a19) (b32 0x3f1999d2) (b32 0x3e199a23) (b32 0x3d75bfa1)
-- (0.708, 0.292), (0.170, 0.797), (0.131, 0.046)
primaries_xy P.BT2100 =
    primaries (b32 0x3f353f7d) (b32 0x3e958106) (b32 0x3e2e147b) (b32 0x3f4c0831) (b32 0x3e0624dd) (b32 0x3d3c6a7f)
-- (0.680, 0.320), (0.265, 0.690), (0.150, 0.060)
primaries_xy P.P3 =
    primaries (b32 0x3f2e147b) (b32 0x3ea3d70a) (b32 0x3e87ae14) (b32 0x3f30a3d7) (b32 0x3e19999a) (b32 0x3d75c28f)
primaries_xy (P.Chromaticities rx ry gx gy bx by) = primaries rx ry gx gy bx by
