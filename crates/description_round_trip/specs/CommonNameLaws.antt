-- What holds of the four encodings with a common name and of every RGB encoding without one holds of every RGB encoding. Assumes nothing.
use Rattle.std.specs.Prelude.{ℕ, ◌≡◌, refl, Bool, true, false, cond, ◌&&◌, List, eqb, get_or}
use Rattle.std.proofs.Common.{sym, ap₂, ◌∙◌, subst, eqb→eq}
use Rattle.buffer.specs.BoolLaws.{holds, both_left, both_right}
use Rattle.color_encoding.specs.declared.RenderingIntent.{RenderingIntent}
use Rattle.color_encoding.specs.declared.RenderingIntent.TheVariants.{Perceptual, Relative, Saturation, Absolute}
use Rattle.color_encoding.specs.declared.JxlWhitePoint.{JxlWhitePoint}
use Rattle.color_encoding.specs.declared.JxlWhitePoint.TheVariants as W
use Rattle.color_encoding.specs.declared.JxlPrimaries.{JxlPrimaries}
use Rattle.color_encoding.specs.declared.JxlPrimaries.TheVariants as P
use Rattle.color_encoding.specs.declared.JxlTransferFunction.{JxlTransferFunction}
use Rattle.color_encoding.specs.declared.JxlTransferFunction.TheVariants as F
use Rattle.color_encoding.specs.declared.JxlColorEncoding.{JxlColorEncoding}
use Rattle.color_encoding.specs.declared.JxlColorEncoding.TheVariants.{RgbColorSpace}
use Rattle.color_encoding.specs.Codes.{intent_list, white_point_number, primaries_number, transfer_function_number}
use Rattle.color_encoding.specs.Intent.{intent_number}
use Rattle.common_names.specs.Common.{matches, common, srgb, display_p3, rec2100_pq, rec2100_hlg}
use Rattle.names_parser.specs.ParseNames.{whites, primary_sets, transfers}

-- ---- a variant without floats by its number

white_by_lem : (w : JxlWhitePoint) → get_or whites (white_point_number w) w ≡ w
white_by_lem W.D65 = refl
white_by_lem W.E = refl
white_by_lem W.DCI = refl
white_by_lem (W.Chromaticity wx wy) = refl

primaries_by : (p : JxlPrimaries) → get_or primary_sets (primaries_number p) p ≡ p
primaries_by P.SRGB = refl
primaries_by P.BT2100 = refl
primaries_by P.P3 = refl
primaries_by (P.Chromaticities rx ry gx gy bx by) = refl

transfer_by : (t : JxlTransferFunction) → get_or transfers (transfer_function_number t) t ≡ t
transfer_by F.BT709 = refl
transfer_by F.Linear = refl
transfer_by F.SRGB = refl
transfer_by F.PQ = refl
transfer_by F.DCI = refl
transfer_by F.HLG = refl
transfer_by (F.Gamma g) = refl

intent_by : (i : RenderingIntent) → get_or intent_list (intent_number i) i ≡ i
intent_by Perceptual = refl
intent_by Relative = refl
intent_by Saturation = refl
intent_by Absolute = refl

module _ (w : JxlWhitePoint) (p : JxlPrimaries) (t : JxlTransferFunction) (i : RenderingIntent) where
  -- the encoding by the numbers of its parts, which are those of w, p, t and i where a number stands for floats
  abbrev by_numbers : ℕ → ℕ → ℕ → ℕ → JxlColorEncoding
  by_numbers a b c d = RgbColorSpace (get_or whites a w) (get_or primary_sets b p) (get_or transfers c t) (get_or intent_list d i)

  itself : by_numbers (white_point_number w) (primaries_number p) (transfer_function_number t) (intent_number i) ≡ RgbColorSpace w p t i
  itself = rw (white_by_lem w, primaries_by p, transfer_by t, intent_by i) refl

  matched : (w' : JxlWhitePoint) (p' : JxlPrimaries) (t' : JxlTransferFunction) (i' : RenderingIntent) → matches w p t i w' p' t' i' ≡ true
      → by_numbers (white_point_number w') (primaries_number p') (transfer_function_number t') (intent_number i') ≡ RgbColorSpace w p t i
  matched w' p' t' i' e =
      let same_w = eqb (white_point_number w) (white_point_number w') in
      let same-p = eqb (primaries_number p) (primaries_number p') in
      let same-t = eqb (transfer_function_number t) (transfer_function_number t') in
      let same-i = eqb (intent_number i) (intent_number i') in
      let three = both_left (same_w && same-p && same-t) same-i e in
      let two = both_left (same_w && same-p) same-t three in
      let is_w : white_point_number w' ≡ white_point_number w = equal (white_point_number w) (white_point_number w') (both_left same_w same-p two) in
      let is_p : primaries_number p' ≡ primaries_number p = equal (primaries_number p) (primaries_number p') (both_right same_w same-p two) in
      let is_t : transfer_function_number t' ≡ transfer_function_number t =
      equal (transfer_function_number t) (transfer_function_number t') (both_right (same_w && same-p) same-t three) in
      let is_i : intent_number i' ≡ intent_number i = equal (intent_number i) (intent_number i') (both_right (same_w && same-p && same-t) same-i e) in
      rw (is_w, is_p, is_t, is_i) itself
    where
      equal : (a b : ℕ) → eqb a b ≡ true → b ≡ a
      equal a b e = sym (eqb→eq a b (holds e))

  -- a text takes the place of no common name
  abbrev Unnamed : Type 0
  Unnamed = (text : List ℕ) → common w p t i text ≡ text

  pub by_common_name : (Q : JxlColorEncoding → Type 0) → Q (RgbColorSpace W.D65 P.SRGB F.SRGB Perceptual) → Q (RgbColorSpace W.D65 P.P3 F.SRGB Perceptual)
      → Q (RgbColorSpace W.D65 P.BT2100 F.PQ Relative) → Q (RgbColorSpace W.D65 P.BT2100 F.HLG Relative)
      → (Unnamed → Q (RgbColorSpace w p t i)) → Q (RgbColorSpace w p t i)
  by_common_name Q of_srgb of_p3 of_pq of_hlg long = go srgb_test p3_test pq_test hlg_test refl refl refl refl
    where
      srgb_test : Bool
      srgb_test = matches w p t i W.D65 P.SRGB F.SRGB Perceptual

      p3_test : Bool
      p3_test = matches w p t i W.D65 P.P3 F.SRGB Perceptual

      pq_test : Bool
      pq_test = matches w p t i W.D65 P.BT2100 F.PQ Relative

      hlg_test : Bool
      hlg_test = matches w p t i W.D65 P.BT2100 F.HLG Relative

      go : (a b c d : Bool) → srgb_test ≡ a → p3_test ≡ b → pq_test ≡ c → hlg_test ≡ d → Q (RgbColorSpace w p t i)
      go true b c d e f g h = subst Q (matched W.D65 P.SRGB F.SRGB Perceptual e) of_srgb
      go false true c d e f g h = subst Q (matched W.D65 P.P3 F.SRGB Perceptual f) of_p3
      go false false true d e f g h = subst Q (matched W.D65 P.BT2100 F.PQ Relative g) of_pq
      go false false false true e f g h = subst Q (matched W.D65 P.BT2100 F.HLG Relative h) of_hlg
      go false false false false e f g h =
          long (λ text.
          ap₂ (λ (a b : Bool). cond a srgb (cond b display_p3 (cond pq_test rec2100_pq (cond hlg_test rec2100_hlg text)))) e f
          ∙ ap₂ (λ (c d : Bool). cond c rec2100_pq (cond d rec2100_hlg text)) g h)
