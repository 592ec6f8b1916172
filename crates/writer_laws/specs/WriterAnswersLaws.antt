-- The writer's answer to gray, to RGB and to XYB, check by check. Assumes nothing.
use Rattle.std.specs.Prelude.{ℕ, ◌≡◌, refl, Bool, [], ◌∷◌, length, Float}
use Rattle.std.proofs.Common.{sym, ap, subst, ◌∙◌, arith}
use Rattle.std.proofs.Math.Bool.{true, false}
use Rattle.std.specs.Float.Ieee.{lt}
use Rattle.buffer.specs.Checked.{Checked, is, refused}
use Rattle.buffer.specs.CheckedLaws.{never}
use Rattle.buffer.specs.FirstLaws.{first_unique, first_not_all}
use Rattle.floats.specs.Abs.{abs}
use Rattle.floats.specs.Binary32.{◌⊘◌, one}
use Rattle.numbers.specs.Rounded.{rounded_in}
use Rattle.linalg.specs.Linalg.{rows, columns}
use Rattle.matrix_inverse.specs.Inverse.{singular}
use Rattle.color_encoding.specs.Coordinates.{white_xy, primaries_xy}
use Rattle.color_encoding.specs.declared.WhiteXy.{WhiteXy}
use Rattle.color_encoding.specs.declared.PrimariesXy.{PrimariesXy}
use Rattle.color_encoding.specs.declared.RenderingIntent.{RenderingIntent}
use Rattle.color_encoding.specs.declared.JxlWhitePoint.{JxlWhitePoint}
use Rattle.color_encoding.specs.declared.JxlPrimaries.{JxlPrimaries}
use Rattle.color_encoding.specs.declared.JxlTransferFunction.{JxlTransferFunction}
use Rattle.color_encoding.specs.declared.JxlTransferFunction.TheVariants as F
use Rattle.color_encoding.specs.declared.JxlColorEncoding.{JxlColorEncoding}
use Rattle.color_encoding.specs.declared.JxlColorEncoding.TheVariants.{RgbColorSpace, GrayscaleColorSpace, XYB}
use Rattle.white_point.specs.GrayWhite.{epsilon, cie_xyz_from_white_cie_xy}
use Rattle.white_point.specs.GrayWhiteLaws.{white_given, white_refused}
use Rattle.adaptation.specs.Adapt.{adaptable, chad_matrix}
use Rattle.adaptation.specs.AdaptLaws.{chad_given, chad_refused}
use Rattle.colorimetry.specs.Primaries.{primaries_matrix, create_icc_rgb_matrix}
use Rattle.colorimetry.specs.PrimariesLaws.{matrix_given, matrix_refused}
use Rattle.profile.specs.Plan.{Plan}
use Rattle.profile.specs.declared.GrayWhite.TheVariants.{Unadapted as unadapted, Adapted as adapted}
use Rattle.profile.specs.declared.Curve.TheVariants.{Named, Gamma}
use Rattle.profile.specs.declared.CurveName.{CurveName}
use Rattle.profile.specs.declared.CurveName.TheVariants as Name
use Rattle.encoding_plan.specs.Answers.{reciprocal_refusal}
use Rattle.encoding_plan.specs.PlanOf.{supported, curve_of, cicp_of, gray_numbers, chad_numbers, gray_plan, rgb_plan, xyb_plan, color_plan}
use Rattle.encoding_curve.specs.declared.SupportedCurve.{SupportedCurve}
use Rattle.encoding_curve.specs.declared.SupportedCurve.TheVariants as Supported
use Rattle.encoding_plan.specs.FixedFloats.{color_floats, counted_color_plan}
use Rattle.profile.specs.Layout.{layout}
use Rattle.writer.specs.Writer.{answer}
use Rattle.writer.specs.declared.Written.{Written}
use Rattle.writer.specs.Writer.{profile}
use Rattle.writer_laws.specs.RefusalList.{Fits, NeitherPqNorHlg, ReciprocalFits, chad_of, matrix_of, gray_x, gray_z, Check, c1, c3, c4, c5, c6, c7, c8, number, checks, Answers, refuses as refuses-by, writes as writes-it}
use Rattle.writer_laws.specs.RefusalListLaws.{Decides, passes, refuses, DecidesAs, decides_by, value_of, both_decide, fixed_decides, each_decides, test_decides, From, stops, writes, onward, step, step_as, apart, last}

-- ---- the curve

neither : (t : JxlTransferFunction) {s : SupportedCurve} → supported t ≡ is s → NeitherPqNorHlg t
neither t h = (λ e. never (sym (ap supported e) ∙ h), λ e. never (sym (ap supported e) ∙ h))

pub supported_decides : (t : JxlTransferFunction) → Decides (NeitherPqNorHlg t) 1 (supported t)
supported_decides F.BT709 = passes (neither F.BT709 refl) (Supported.Named Name.BT709) refl
supported_decides F.Linear = passes (neither F.Linear refl) (Supported.Named Name.Linear) refl
supported_decides F.SRGB = passes (neither F.SRGB refl) (Supported.Named Name.SRGB) refl
supported_decides F.DCI = passes (neither F.DCI refl) (Supported.Named Name.DCI) refl
supported_decides (F.Gamma g) = passes (neither (F.Gamma g) refl) (Supported.Gamma g) refl
supported_decides F.PQ = refuses (λ n. n.0 refl) refl
supported_decides F.HLG = refuses (λ n. n.1 refl) refl

same_gamma : {g k : Float} → is (Supported.Gamma k) ≡ is (Supported.Gamma g) → k ≡ g
same_gamma e = cc

not_named : {A : Type 0} {g : Float} {n : CurveName} → is (Supported.Gamma g) ≡ is (Supported.Named n) → A
not_named e = let z : ◌≡◌ {A = ℕ} 0 1 = cc in absurd (omega arith)

gamma_if : (t : JxlTransferFunction) {g : Float} → supported t ≡ is (Supported.Gamma g) → t ≡ F.Gamma g
gamma_if (F.Gamma k) e = ap F.Gamma (same_gamma e)
gamma_if F.BT709 e = not_named (sym e)
gamma_if F.Linear e = not_named (sym e)
gamma_if F.SRGB e = not_named (sym e)
gamma_if F.DCI e = not_named (sym e)
gamma_if F.PQ e = absurd (never e)
gamma_if F.HLG e = absurd (never e)

pub curve_decides : (t : JxlTransferFunction) (s : SupportedCurve) → supported t ≡ is s → Decides (ReciprocalFits t) reciprocal_refusal (curve_of s)
curve_decides t (Supported.Named n) h = passes (λ g e. not_named (sym (ap supported e) ∙ h)) (Named n) refl
curve_decides t (Supported.Gamma g) h =
    decides_by
    (λ fits k e. subst (λ (x : Float). Fits (one ⊘ x)) (sym (same_gamma (sym (ap supported e) ∙ h))) fits)
    (λ fits. fits g (gamma_if t h))
    (value_of Gamma (fixed_decides reciprocal_refusal (one ⊘ g)))

-- ---- white and primaries

white_decides : (w : WhiteXy) → DecidesAs (lt (abs w.wy) epsilon ≡ false) 3 (cie_xyz_from_white_cie_xy w) (gray_x w ∷ one ∷ gray_z w ∷ [])
white_decides w = test_decides (lt (abs w.wy) epsilon) false 3 _ _ (white_given w) (white_refused w)

chad_decides : (w : WhiteXy) → DecidesAs (adaptable w ≡ true) 4 (chad_matrix w) (chad_of w)
chad_decides w = test_decides (adaptable w) true 4 _ _ (chad_given w) (chad_refused w)

matrix_decides : (p : PrimariesXy) (w : WhiteXy) → adaptable w ≡ true → DecidesAs (singular (primaries_matrix p) ≡ false) 6 (create_icc_rgb_matrix p w) (matrix_of p w)
matrix_decides p w ok = test_decides (singular (primaries_matrix p)) false 6 _ _ (matrix_given w p ok) (matrix_refused w p ok)

-- ---- the three kinds

module _ (w : JxlWhitePoint) (t : JxlTransferFunction) (i : RenderingIntent) (n : ℕ) where
  abbrev gray : JxlColorEncoding
  gray = GrayscaleColorSpace w t i

  pub gray_answered : From false gray n checks (answer (counted_color_plan false gray) n)
  unfolding color_plan
  gray_answered =
      let xy = white_xy w in
      step false gray n c1 _ (supported_decides t) (λ s _ a.
      apart false gray n (gray_numbers xy) _ _
      (apart false gray n (cie_xyz_from_white_cie_xy xy) _ _
      (step_as false gray n c3 (gray_x xy ∷ one ∷ gray_z xy ∷ []) _ (white_decides xy) (λ _ b.
      onward false gray n tt
      (onward false gray n tt
      (onward false gray n tt
      (step false gray n c7 _ (both_decide (fixed_decides 7 (gray_x xy)) (λ x. value_of (λ z. (x, z)) (fixed_decides 7 (gray_z xy)))) (λ xz _ c.
      step false gray n c8 _ (curve_decides t s a) (λ k _ d.
      last false gray n (gray_plan gray i k (unadapted xz.0 xz.1)) (rw (a, b, c, d) refl))))))))))

  -- with the mark
  pub adapted_answered : From true gray n checks (answer (counted_color_plan true gray) n)
  unfolding color_plan
  adapted_answered =
      let xy = white_xy w in
      step true gray n c1 _ (supported_decides t) (λ s _ a.
      onward true gray n tt
      (apart true gray n (chad_numbers xy) _ _
      (apart true gray n (chad_matrix xy) _ _
      (step_as true gray n c4 (chad_of xy) _ (chad_decides xy) (λ _ b.
      step true gray n c5 _ (each_decides 5 (rows (chad_of xy))) (λ m _ c.
      onward true gray n tt
      (onward true gray n tt
      (step true gray n c8 _ (curve_decides t s a) (λ k _ d.
      last true gray n (gray_plan gray i k (adapted m)) (rw (a, b, c, d) refl))))))))))

module _ (m : Bool) (w : JxlWhitePoint) (p : JxlPrimaries) (t : JxlTransferFunction) (i : RenderingIntent) (n : ℕ) where
  abbrev color : JxlColorEncoding
  color = RgbColorSpace w p t i

  pub rgb_answered : From m color n checks (answer (counted_color_plan m color) n)
  unfolding color_plan
  rgb_answered =
      let xy = white_xy w in
      let ps = primaries_xy p in
      step m color n c1 _ (supported_decides t) (λ s _ a.
      onward m color n tt
      (apart m color n (chad_matrix xy) _ _
      (step_as m color n c4 (chad_of xy) _ (chad_decides xy) (λ ok b.
      step m color n c5 _ (each_decides 5 (rows (chad_of xy))) (λ chad _ c.
      apart m color n (create_icc_rgb_matrix ps xy) _ _
      (step_as m color n c6 (matrix_of ps xy) _ (matrix_decides ps xy ok) (λ _ d.
      step m color n c7 _ (each_decides 7 (columns (matrix_of ps xy))) (λ k _ e.
      step m color n c8 _ (curve_decides t s a) (λ v _ f.
      last m color n (rgb_plan color i v (cicp_of w p v) chad k) (rw (a, b, c, d, e, f) refl))))))))))

pub xyb_answered : (m : Bool) (i : RenderingIntent) (n : ℕ) → From m (XYB i) n checks (answer (counted_color_plan m (XYB i)) n)
unfolding color_plan
xyb_answered m i n =
    let e = XYB i in
    onward m e n tt
    (onward m e n tt
    (onward m e n tt
    (onward m e n tt
    (onward m e n tt
    (onward m e n tt
    (onward m e n tt
    (last m e n (xyb_plan i) refl)))))))

-- ---- every encoding

pub answered : (m : Bool) (e : JxlColorEncoding) (n : ℕ) → Answers m e n (answer (counted_color_plan m e) n)
answered m e n = given (go m e)
  where
    go : (m : Bool) (e : JxlColorEncoding) → From m e n checks (answer (counted_color_plan m e) n)
    go true (GrayscaleColorSpace w t i) = adapted_answered w t i n
    go false (GrayscaleColorSpace w t i) = gray_answered w t i n
    go m (RgbColorSpace w p t i) = rgb_answered m w p t i n
    go m (XYB i) = xyb_answered m i n

    given : {a : Checked Written} → From m e n checks a → Answers m e n a
    given (stops f) = refuses-by f
    given (writes p h all) = writes-it p h all

pub answer_unique : {m : Bool} {e : JxlColorEncoding} {n : ℕ} {a b : Checked Written} → Answers m e n a → Answers m e n b → a ≡ b
answer_unique (refuses-by f) (refuses-by g) = ap (λ (c : Check). refused (number c)) (first_unique f g)
answer_unique (refuses-by f) (writes-it p h all) = absurd (first_not_all f all)
answer_unique (writes-it p h all) (refuses-by g) = absurd (first_not_all g all)
answer_unique {m} {e} (writes-it p h _) (writes-it q k _) = let same : p ≡ q = cc (sym h ∙ k) in ap (λ (r : Plan). profile (length (layout r)) (rounded_in (color_floats m e))) same
