-- The fixed numbers of an encoding's floats, part by part. Assumes nothing.
use Rattle.std.specs.Prelude.{ℕ, ◌+◌, ◌≡◌, refl, Bool, true, false, List, [], ◌∷◌, ◌++◌, map, ℤ, pos, Float, length}
use Rattle.std.proofs.Common.{ap, ap₂, subst, ◌∙◌, length-append}
use Rattle.std.proofs.lemmas.List.{map-append}
use Rattle.std.specs.Float.Ieee.{of_bits}
use Rattle.buffer.specs.Checked.{Checked, is, value_or, then}
use Rattle.buffer.specs.CheckedLaws.{both}
use Rattle.floats.specs.Binary32.{one}
use Rattle.numbers.specs.Fixed.{s15_fixed16, fixed_or, number_of, fixed_number}
use Rattle.numbers.specs.FixedLaws.{number_if, fixed_numbers_are}
use Rattle.linalg.specs.Linalg.{component, rows, columns}
use Rattle.color_encoding.specs.Coordinates.{white_xy, primaries_xy}
use Rattle.color_encoding.specs.declared.WhiteXy.{WhiteXy}
use Rattle.color_encoding.specs.declared.PrimariesXy.{PrimariesXy}
use Rattle.color_encoding.specs.declared.JxlTransferFunction.{JxlTransferFunction}
use Rattle.color_encoding.specs.declared.JxlColorEncoding.{JxlColorEncoding}
use Rattle.color_encoding.specs.declared.JxlColorEncoding.TheVariants.{RgbColorSpace, GrayscaleColorSpace, XYB}
use Rattle.white_point.specs.GrayWhite.{cie_xyz_from_white_cie_xy}
use Rattle.white_point.specs.GrayWhiteLaws.{gray_white_lem}
use Rattle.adaptation.specs.Adapt.{chad_matrix}
use Rattle.colorimetry.specs.Primaries.{create_icc_rgb_matrix}
use Rattle.xyb_constants.specs.XybNumbers as Xyb
use Rattle.xyb_constants.proofs.XybNumbersLaws as XybLaws
use Rattle.profile.specs.Plan.{Plan, Content, gray, rgb, xyb, InRange}
use Rattle.profile.specs.declared.GrayWhite.{GrayWhite}
use Rattle.profile.specs.declared.GrayWhite.TheVariants.{Unadapted as unadapted, Adapted as adapted}
use Rattle.profile.specs.PlanLaws.{WhiteNines, Nines, white_nines}
use Rattle.profile.specs.Layout.{D50}
use Rattle.profile.specs.FixedConstants.{d50_floats, d50_rounded, parameters_rounded_lem}
use Rattle.profile.specs.declared.CurveName.TheVariants as Name
use Rattle.profile.specs.declared.Curve.{Curve}
use Rattle.profile.specs.declared.Curve.TheVariants.{Named, Gamma}
use Rattle.encoding_curve.specs.CurveOf.{supported, curve_of, curve_floats, reciprocal_refusal}
use Rattle.encoding_curve.specs.declared.SupportedCurve.{SupportedCurve}
use Rattle.encoding_curve.specs.declared.SupportedCurve.TheVariants as Supported
use Rattle.encoding_numbers.specs.NumbersOf.{gray_numbers, chad_numbers, column_numbers, gray_floats, chad_floats, column_floats}
use Rattle.encoding_plan.specs.FixedFloats.{transfer_floats, white_floats, color_floats}
use Rattle.encoding_plan.specs.PlanOf.{gray_white, xyb_plan, color_plan}
use Rattle.writer_laws.specs.PlanLaws.{chad_nine, columns_nine, white_good, gray_parts, rgb_parts}
use Rattle.writer_laws.specs.FileNumbers.{curve_numbers, white_and_chad, identity_numbers, fixed_numbers, by_curve, gray_count, number_count}

abbrev pub numbers_of : List Float → List ℤ
numbers_of xs = map fixed_number xs

-- floats one after another
pub after : (xs ys : List Float) {m n : List ℤ} → numbers_of xs ≡ m → numbers_of ys ≡ n → numbers_of (xs ++ ys) ≡ m ++ n
after xs ys a b = map-append fixed_number xs ys ∙ ap₂ (λ (l r : List ℤ). l ++ r) a b

-- a float that has a fixed number
number_is : (n : ℕ) (x : Float) {z : ℤ} → fixed_or n x ≡ is z → fixed_number x ≡ z
number_is n x e = ap number_of (number_if n x e)

one_is : fixed_number one ≡ pos 65536
unfolding s15_fixed16 of_bits
one_is = refl

-- ---- the white of gray

pub gray_numbers_lem : (w : WhiteXy) {xz : ℤ × ℤ} → gray_numbers w ≡ is xz → numbers_of (gray_floats w) ≡ xz.0 ∷ pos 65536 ∷ xz.1 ∷ []
gray_numbers_lem w {xz} e =
    let v = both (cie_xyz_from_white_cie_xy w) _ e in
    let a = both (fixed_or 7 (component v.value 0)) _ v.second in
    let b = both (fixed_or 7 (component v.value 2)) _ a.second in
    let same : (a.value, b.value) ≡ xz = cc b.second in
    ap (λ (c : Checked (List Float)). numbers_of (value_or [] c)) v.first
    ∙ ap numbers_of (gray_white_lem w v.first)
    ∙ white _ _ (number_is 7 _ a.first) (number_is 7 _ b.first)
    ∙ ap (λ (p : ℤ × ℤ). p.0 ∷ pos 65536 ∷ p.1 ∷ []) same
  where
    white : (x z : Float) {a b : ℤ} → fixed_number x ≡ a → fixed_number z ≡ b → numbers_of (x ∷ one ∷ z ∷ []) ≡ a ∷ pos 65536 ∷ b ∷ []
    white x z {a} {b} h g = ap₂ (λ (m n : ℤ). m ∷ fixed_number one ∷ n ∷ []) h g ∙ ap (λ (m : ℤ). a ∷ m ∷ b ∷ []) one_is

-- ---- `chad` and the columns

pub chad_numbers_lem : (w : WhiteXy) {m : List ℤ} → chad_numbers w ≡ is m → numbers_of (chad_floats w) ≡ m
chad_numbers_lem w {m} e =
    let g = both (chad_matrix w) _ e in
    ap (λ (c : Checked (List (List Float))). numbers_of (value_or [] (then c (λ x. is (rows x))))) g.first ∙ fixed_numbers_are 5 (rows g.value) m g.second

pub column_numbers_lem : (p : PrimariesXy) (w : WhiteXy) {k : List ℤ} → column_numbers p w ≡ is k → numbers_of (column_floats p w) ≡ k
column_numbers_lem p w {k} e =
    let g = both (create_icc_rgb_matrix p w) _ e in
    ap (λ (c : Checked (List (List Float))). numbers_of (value_or [] (then c (λ x. is (columns x))))) g.first ∙ fixed_numbers_are 7 (columns g.value) k g.second

-- of gray, with the mark and without

white_numbers_lem : (a : Bool) (w : WhiteXy) {white : GrayWhite} → gray_white a w ≡ is white → numbers_of (white_floats a w) ≡ white_and_chad white
white_numbers_lem true w {white} e =
    let m = both (chad_numbers w) _ e in
    let same : adapted m.value ≡ white = cc m.second in
    after d50_floats (chad_floats w) d50_rounded (chad_numbers_lem w m.first) ∙ ap white_and_chad same
white_numbers_lem false w {white} e =
    let xz = both (gray_numbers w) _ e in
    let same : unadapted xz.value.0 xz.value.1 ≡ white = cc xz.second in
    gray_numbers_lem w xz.first ∙ ap white_and_chad same

-- ---- the curve

curve_numbers_lem : (s : SupportedCurve) {c : Curve} → curve_of s ≡ is c → numbers_of (curve_floats s) ≡ curve_numbers c
curve_numbers_lem (Supported.Named n) {c} e = let same : Named n ≡ c = cc in parameters_rounded_lem n ∙ ap curve_numbers same
curve_numbers_lem (Supported.Gamma g) {c} e =
    let a = both (fixed_or reciprocal_refusal _) _ e in
    let same : Gamma a.value ≡ c = cc a.second in
    ap (λ (z : ℤ). z ∷ []) (number_is reciprocal_refusal _ a.first) ∙ ap curve_numbers same

pub transfer_numbers : (t : JxlTransferFunction) {s : SupportedCurve} {c : Curve} → supported t ≡ is s → curve_of s ≡ is c → numbers_of (transfer_floats t) ≡ curve_numbers c
transfer_numbers t {s} h e = ap (λ (r : Checked SupportedCurve). numbers_of (value_or [] (then r (λ x. is (curve_floats x))))) h ∙ curve_numbers_lem s e

-- ---- how many there are

curve_count : (c : Curve) (n : ℕ) → n + length (curve_numbers c) ≡ by_curve c (n + 5) (n + 1)
curve_count (Named Name.BT709) n = refl
curve_count (Named Name.Linear) n = refl
curve_count (Named Name.SRGB) n = refl
curve_count (Named Name.DCI) n = refl
curve_count (Gamma g) n = refl

pub number_count_lem : (c : Content) → Nines c → length (fixed_numbers c) ≡ number_count c
number_count_lem (gray g) h = length-append (white_and_chad g.white) (curve_numbers g.curve) ∙ by_white g.white h
  where
    by_white : (w : GrayWhite) → WhiteNines w → length (white_and_chad w) + length (curve_numbers g.curve) ≡ gray_count g.curve w
    by_white (unadapted x z) h = curve_count g.curve 3
    by_white (adapted m) h =
        let first : length (D50 ++ m) ≡ 12 = simp h in
        ap (λ (n : ℕ). n + length (curve_numbers g.curve)) first ∙ curve_count g.curve 12
number_count_lem (rgb g) h =
    let first : length (D50 ++ g.chad ++ g.columns) ≡ 21 = simp (length-append (D50 ++ g.chad) g.columns, h.0, h.1) in
    length-append (D50 ++ g.chad ++ g.columns) (curve_numbers g.curve) ∙ ap (λ (n : ℕ). n + length (curve_numbers g.curve)) first ∙ curve_count g.curve 21
number_count_lem xyb h =
    simp (length-append, XybLaws.length-chad, XybLaws.length-m_curves, XybLaws.length-matrix)

-- ---- XYB

pub xyb_numbers_lem : numbers_of Xyb.fixed_floats ≡ Xyb.chad ++ identity_numbers ++ Xyb.m_curves ++ Xyb.matrix ++ identity_numbers
unfolding Xyb.chad Xyb.m_curves Xyb.matrix Xyb.identity_gamma
xyb_numbers_lem =
    let chad = Xyb.chad_floats in
    let ones = Xyb.identity_floats in
    let curves = Xyb.m_curve_floats in
    after (chad ++ ones ++ curves ++ Xyb.matrix_floats) ones (after (chad ++ ones ++ curves) Xyb.matrix_floats (after (chad ++ ones) curves (after chad ones refl refl) refl) refl) refl

-- ---- all parts, in their order, and the nine numbers of `chad` and of the columns

abbrev Numbers : Bool → JxlColorEncoding → Plan → Type 0
Numbers a e p = (numbers_of (color_floats a e) ≡ fixed_numbers p.content) × Nines p.content

pub file_numbers : (a : Bool) (e : JxlColorEncoding) {p : Plan} → color_plan a e ≡ is p → Numbers a e p
unfolding color_plan color_floats
file_numbers a (GrayscaleColorSpace w t i) {p} e =
    let g = gray_parts a w t i e in
    let floats = after (white_floats a (white_xy w)) (transfer_floats t) (white_numbers_lem a (white_xy w) g.white_is) (transfer_numbers t g.support_is g.curve_is) in
    subst (Numbers a (GrayscaleColorSpace w t i)) g.plan_is (floats, white_nines InRange g.white (white_good a (white_xy w) g.white_is))
file_numbers a (RgbColorSpace w q t i) {p} e =
    let g = rgb_parts a w q t i e in
    let chad = chad_floats (white_xy w) in
    let columns = column_floats (primaries_xy q) (white_xy w) in
    let matrices =
    after (d50_floats ++ chad) columns (after d50_floats chad d50_rounded (chad_numbers_lem (white_xy w) g.chad_is)) (column_numbers_lem (primaries_xy q) (white_xy w) g.columns_are) in
    let floats = after (d50_floats ++ chad ++ columns) (transfer_floats t) matrices (transfer_numbers t g.support_is g.curve_is) in
    subst (Numbers a (RgbColorSpace w q t i)) g.plan_is (floats, (chad_nine (white_xy w) g.chad_is, columns_nine (primaries_xy q) (white_xy w) g.columns_are))
file_numbers a (XYB i) {p} e =
    let same : xyb_plan i ≡ p = cc in
    subst (Numbers a (XYB i)) same (after d50_floats Xyb.fixed_floats d50_rounded xyb_numbers_lem, tt)
