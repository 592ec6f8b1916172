-- The letters of an RGB text beside a named curve, and how long files with so many letters are. Assumes nothing.
use Rattle.std.specs.Prelude.{ℕ, ◌≤◌, ◌≡◌, Bool, true, false, cond, List, [], ◌∷◌, ◌++◌, length, Float}
use Rattle.std.proofs.Math.Path.{refl}
use Rattle.std.proofs.Common.{ap, ◌∙◌, arith, lit≤, length-append}
use Rattle.std.specs.Float.{binary32}
use Rattle.std.specs.Float.Ieee.{size, of_bits}
use Rattle.std.specs.Float.Ieee.Bits.{of_bits-fits}
use Rattle.buffer.specs.Checked.{is}
use Rattle.buffer.specs.CheckedLaws.{never, both}
use Rattle.numbers.specs.Fixed.{fixed_or}
use Rattle.color_encoding.specs.Intent.{intent_name}
use Rattle.color_encoding.specs.declared.RenderingIntent.{RenderingIntent}
use Rattle.color_encoding.specs.declared.RenderingIntent.TheVariants.{Perceptual, Relative}
use Rattle.color_encoding.specs.declared.JxlWhitePoint.{JxlWhitePoint}
use Rattle.color_encoding.specs.declared.JxlWhitePoint.TheVariants as W
use Rattle.color_encoding.specs.declared.JxlPrimaries.{JxlPrimaries}
use Rattle.color_encoding.specs.declared.JxlPrimaries.TheVariants as P
use Rattle.color_encoding.specs.declared.JxlTransferFunction.{JxlTransferFunction}
use Rattle.color_encoding.specs.declared.JxlTransferFunction.TheVariants as F
use Rattle.color_encoding.specs.declared.JxlColorEncoding.TheVariants.{RgbColorSpace}
use Rattle.decimal.specs.Seven.{seven_decimals, with_point}
use Rattle.digits.specs.Digits.{digits, digits_up_to, last_digits}
use Rattle.text.specs.Description.{underscore, white_name, primaries_name, transfer_name, rgb_text, rgb_description, description, srgb, display_p3, rec2100_pq, rec2100_hlg, matches}
use Rattle.text.specs.Held.{HeldEncoding, HeldPrimaries, InRange}
use Rattle.text.specs.Bounds.{length-in_range}
use Rattle.text.specs.BoundsLaws.{length-white_in_range, length-rgb_text}
use Rattle.profile.specs.Plan.{max_letters}
use Rattle.profile.specs.Elements.{file_length, start, body_size, tag_count, padding}
use Rattle.profile.specs.Shape.{slots_of}
use Rattle.profile.specs.declared.Kind.TheVariants.{Gray, Rgb}
use Rattle.profile.specs.declared.Curve.{Curve}
use Rattle.profile.specs.declared.Curve.TheVariants.{Named, Gamma}
use Rattle.profile.specs.declared.CurveName.{CurveName}
use Rattle.profile.specs.declared.CurveName.TheVariants as Name
use Rattle.encoding_plan.specs.Answers.{reciprocal_refusal}
use Rattle.encoding_plan.specs.PlanOf.{supported, curve_of}
use Rattle.writer.specs.Writer.{max_written}
use Rattle.encoding_curve.specs.declared.SupportedCurve.{SupportedCurve}
use Rattle.encoding_curve.specs.declared.SupportedCurve.TheVariants as Supported

-- ---- the letters beside a named curve

-- -3.4028235e38, whose text is the longest
abbrev least : Float
least = of_bits binary32 0xff7f_ffff

least_letters : length (transfer_name (F.Gamma least)) ≡ 49
unfolding transfer_name seven_decimals with_point digits digits_up_to last_digits size of_bits
least_letters = refl

-- the text has as much room as beside that gamma, less 46
named_text : (w : JxlWhitePoint) (p : JxlPrimaries) (t : JxlTransferFunction) (i : RenderingIntent) → InRange w → HeldPrimaries p → length (transfer_name t) ≡ 3
    → length (rgb_text w p t i) ≤ 326
unfolding rgb_text
named_text w p t i r h e =
    let most : length (rgb_text w p (F.Gamma least) i) ≤ 372 = length-rgb_text w p (F.Gamma least) i 20 (length-white_in_range w r) h (of_bits-fits binary32 0xff7f_ffff) in
    let front = (82 ∷ 71 ∷ 66 ∷ 95 ∷ []) ++ white_name w ++ underscore ++ primaries_name p ++ underscore ++ intent_name i ++ underscore in
    let gamma = length-append front (transfer_name (F.Gamma least)) in
    let named = length-append front (transfer_name t) in
    omega (arith, most, gamma, named, least_letters, e)

one_of : (n : ℕ) (z : List ℕ) → 10 ≤ n → length z ≤ n → (a b c d : Bool) → length (cond a srgb (cond b display_p3 (cond c rec2100_pq (cond d rec2100_hlg z)))) ≤ n
one_of n z h g true b c d = omega arith
one_of n z h g false true c d = omega arith
one_of n z h g false false true d = omega arith
one_of n z h g false false false true = omega arith
one_of n z h g false false false false = g

named_letters : (w : JxlWhitePoint) (p : JxlPrimaries) (t : JxlTransferFunction) (i : RenderingIntent) → InRange w → HeldPrimaries p → length (transfer_name t) ≡ 3
    → length (description (RgbColorSpace w p t i)) ≤ 326
unfolding description rgb_description
named_letters w p t i r h e =
    one_of 326 (rgb_text w p t i) (lit≤ tt) (named_text w p t i r h e)
    (matches w p t i W.D65 P.SRGB F.SRGB Perceptual) (matches w p t i W.D65 P.P3 F.SRGB Perceptual) (matches w p t i W.D65 P.BT2100 F.PQ Relative) (matches w p t i W.D65 P.BT2100 F.HLG Relative)

-- the most letters of an RGB text
abbrev pub most_letters : Curve → ℕ
most_letters (Named n) = 326
most_letters (Gamma g) = 372

named_curve : (n : CurveName) {s : SupportedCurve} {c : Curve} → is (Supported.Named n) ≡ is s → curve_of s ≡ is c → Named n ≡ c
named_curve n {s} {c} e f =
    let same : Supported.Named n ≡ s = cc in
    let given : is (Named n) ≡ is c = ap curve_of same ∙ f in
    cc

gamma_curve : (g : Float) {s : SupportedCurve} {c : Curve} → is (Supported.Gamma g) ≡ is s → curve_of s ≡ is c → 372 ≡ most_letters c
gamma_curve g {s} {c} e f =
    let same : Supported.Gamma g ≡ s = cc in
    let a = both (fixed_or reciprocal_refusal _) _ (ap curve_of same ∙ f) in
    let given : Gamma a.value ≡ c = cc a.second in
    ap most_letters given

module _ (w : JxlWhitePoint) (p : JxlPrimaries) (i : RenderingIntent) (r : InRange w) {s : SupportedCurve} {c : Curve} (f : curve_of s ≡ is c) where
  named_most : (t : JxlTransferFunction) (n : CurveName) → length (transfer_name t) ≡ 3 → HeldEncoding (RgbColorSpace w p t i) → is (Supported.Named n) ≡ is s
      → length (description (RgbColorSpace w p t i)) ≤ most_letters c
  named_most t n l h e = rw (← named_curve n e f) (named_letters w p t i r h.1.0 l)

  pub rgb_letters : (t : JxlTransferFunction) → HeldEncoding (RgbColorSpace w p t i) → supported t ≡ is s → length (description (RgbColorSpace w p t i)) ≤ most_letters c
  unfolding transfer_name
  rgb_letters F.BT709 h e = named_most F.BT709 Name.BT709 refl h e
  rgb_letters F.Linear h e = named_most F.Linear Name.Linear refl h e
  rgb_letters F.SRGB h e = named_most F.SRGB Name.SRGB refl h e
  rgb_letters F.DCI h e = named_most F.DCI Name.DCI refl h e
  rgb_letters (F.Gamma g) h e = rw (← gamma_curve g e f) (length-in_range (RgbColorSpace w p (F.Gamma g) i) h r)
  rgb_letters F.PQ h e = absurd (never e)
  rgb_letters F.HLG h e = absurd (never e)

-- ---- the lengths of the files

pub gray_most : (n : ℕ) (g a : Bool) → n ≤ max_letters → file_length (slots_of (record { kind = Gray; letters = n; gamma = g; cicp = false; adapted = a })) ≤ max_written
unfolding slots_of file_length start body_size tag_count padding
gray_most n true true h = omega arith
gray_most n true false h = omega arith
gray_most n false true h = omega arith
gray_most n false false h = omega arith

pub gamma_most : (n : ℕ) → n ≤ max_letters → file_length (slots_of (record { kind = Rgb; letters = n; gamma = true; cicp = false; adapted = false })) ≤ max_written
unfolding slots_of file_length start body_size tag_count padding
gamma_most n h = omega arith

pub named_file : (n : ℕ) (v : Bool) → n ≤ 326 → file_length (slots_of (record { kind = Rgb; letters = n; gamma = false; cicp = v; adapted = false })) ≤ max_written
unfolding slots_of file_length start body_size tag_count padding
named_file n true h = omega arith
named_file n false h = omega arith
