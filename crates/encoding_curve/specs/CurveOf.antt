-- The curve of an encoding and its `cicp` value, or the refusal (01, the refusal list); the floats that its fixed numbers are made from.
-- Assumes nothing.
use Rattle.std.specs.Prelude.{ℕ, Option, Some, None, List, [], ◌∷◌, Float}
use Rattle.floats.specs.Binary32.{◌⊘◌, one}
use Rattle.numbers.specs.Fixed.{fixed_or}
use Rattle.color_encoding.specs.declared.JxlWhitePoint.{JxlWhitePoint}
use Rattle.color_encoding.specs.declared.JxlWhitePoint.TheVariants as W
use Rattle.color_encoding.specs.declared.JxlPrimaries.{JxlPrimaries}
use Rattle.color_encoding.specs.declared.JxlPrimaries.TheVariants as P
use Rattle.color_encoding.specs.declared.JxlTransferFunction.{JxlTransferFunction}
use Rattle.color_encoding.specs.declared.JxlTransferFunction.TheVariants as F
use Rattle.profile.specs.FixedConstants.{parameter_floats}
use Rattle.profile.specs.declared.CurveName.TheVariants as Name
use Rattle.profile.specs.declared.Curve.{Curve}
use Rattle.profile.specs.declared.Curve.TheVariants.{Named, Gamma}
use Rattle.buffer.specs.Checked.{Checked, is, refused, then}
use Rattle.encoding_curve.specs.declared.SupportedCurve.{SupportedCurve}
use Rattle.encoding_curve.specs.declared.SupportedCurve.TheVariants as Supported

-- ---- the curve

-- 1: the curve is PQ or HLG
abbrev pub unsupported : {A : Type 0} → Checked A
unsupported = refused 1

-- 8: a gamma's reciprocal does not fit
abbrev pub reciprocal_refusal : ℕ
reciprocal_refusal = 8

abbrev pub supported : JxlTransferFunction → Checked SupportedCurve
supported F.PQ = unsupported
supported F.HLG = unsupported
supported F.BT709 = is (Supported.Named Name.BT709)
supported F.Linear = is (Supported.Named Name.Linear)
supported F.SRGB = is (Supported.Named Name.SRGB)
supported F.DCI = is (Supported.Named Name.DCI)
supported (F.Gamma g) = is (Supported.Gamma g)

-- a gamma's reciprocal is divided in f32
abbrev pub curve_of : SupportedCurve → Checked Curve
curve_of (Supported.Named n) = is (Named n)
curve_of (Supported.Gamma g) = then (fixed_or reciprocal_refusal (one ⊘ g)) (λ n. is (Gamma n))

-- the floats of its numbers: g, a, b, c, d of function type 3, or g of function type 0
abbrev pub curve_floats : SupportedCurve → List Float
curve_floats (Supported.Named n) = parameter_floats n
curve_floats (Supported.Gamma g) = one ⊘ g ∷ []

-- ---- the `cicp` tag

-- ColourPrimaries of H.273: primaries that it names with D65, and with DCI
abbrev with_d65 : JxlPrimaries → Option ℕ
with_d65 P.SRGB = Some 1
with_d65 P.BT2100 = Some 9
with_d65 P.P3 = Some 12
with_d65 (P.Chromaticities rx ry gx gy bx by) = None

abbrev with_dci : JxlPrimaries → Option ℕ
with_dci P.P3 = Some 11
with_dci P.SRGB = None
with_dci P.BT2100 = None
with_dci (P.Chromaticities rx ry gx gy bx by) = None

abbrev pub cicp_pair : JxlWhitePoint → JxlPrimaries → Option ℕ
cicp_pair W.D65 p = with_d65 p
cicp_pair W.DCI p = with_dci p
cicp_pair W.E p = None
cicp_pair (W.Chromaticity wx wy) p = None

-- no gamma has the tag
abbrev pub cicp_of : JxlWhitePoint → JxlPrimaries → Curve → Option ℕ
cicp_of w p (Named n) = cicp_pair w p
cicp_of w p (Gamma g) = None
