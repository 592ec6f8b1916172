-- The fixed numbers in the elements of a plan's file, in the order of the file, each as often as it stands there (Layout, `elements_for`; Xyb, `a2b0` and
-- `b2a0`), and how many they are (02, order 5). Assumes nothing.
use Rattle.std.specs.Prelude.{ℕ, List, [], ◌∷◌, ◌++◌, ℤ, pos}
use Rattle.xyb_constants.specs.XybNumbers as Xyb
use Rattle.profile.specs.Plan.{Content, gray, rgb, xyb}
use Rattle.profile.specs.declared.GrayWhite.{GrayWhite}
use Rattle.profile.specs.declared.GrayWhite.TheVariants.{Unadapted as unadapted, Adapted as adapted}
use Rattle.profile.specs.TagTypes.{parameters}
use Rattle.profile.specs.Layout.{D50}
use Rattle.profile.specs.declared.Curve.{Curve}
use Rattle.profile.specs.declared.Curve.TheVariants.{Named, Gamma}

abbrev pub curve_numbers : Curve → List ℤ
curve_numbers (Named n) = parameters n
curve_numbers (Gamma g) = g ∷ []

-- `wtpt` of a gray file, and `chad` where its white is adapted (02, order 9)
abbrev pub white_and_chad : GrayWhite → List ℤ
white_and_chad (unadapted x z) = x ∷ pos 65536 ∷ z ∷ []
white_and_chad (adapted m) = D50 ++ m

-- three identity curves
abbrev pub identity_numbers : List ℤ
identity_numbers = Xyb.identity_gamma ∷ Xyb.identity_gamma ∷ Xyb.identity_gamma ∷ []

abbrev pub fixed_numbers : Content → List ℤ
fixed_numbers (gray g) = white_and_chad g.white ++ curve_numbers g.curve
fixed_numbers (rgb g) = D50 ++ g.chad ++ g.columns ++ curve_numbers g.curve
fixed_numbers xyb = D50 ++ (Xyb.chad ++ identity_numbers ++ Xyb.m_curves ++ Xyb.matrix ++ identity_numbers)

-- with a named curve, and with a gamma
abbrev pub by_curve : Curve → ℕ → ℕ → ℕ
by_curve (Named n) named gamma = named
by_curve (Gamma g) named gamma = gamma

abbrev pub gray_count : Curve → GrayWhite → ℕ
gray_count c (unadapted x z) = by_curve c 8 4
gray_count c (adapted m) = by_curve c 17 13

abbrev pub number_count : Content → ℕ
number_count (gray g) = gray_count g.curve g.white
number_count (rgb g) = by_curve g.curve 26 22
number_count xyb = 45
