-- A description is in the language exactly if every float of the encoding prints with at most two whole digits, and then it describes the encoding as
-- it is read. Assumes nothing.
use Prim.Native.Nat.{ℕ}
use Rattle.std.specs.Prelude.{◌≡◌, refl}
use Rattle.std.proofs.Common.{sym, ap, ◌∙◌}
use Rattle.std.proofs.Math.Path.{subst}
use Rattle.std.proofs.Math.Logic.{⊎_elim}
use mathlib.Core.List.{List, [], ◌++◌}
use Rattle.color_encoding.specs.declared.RenderingIntent.{RenderingIntent}
use Rattle.color_encoding.specs.declared.JxlWhitePoint.{JxlWhitePoint}
use Rattle.color_encoding.specs.declared.JxlPrimaries.{JxlPrimaries}
use Rattle.color_encoding.specs.declared.JxlTransferFunction.{JxlTransferFunction}
use Rattle.color_encoding.specs.declared.JxlColorEncoding.{JxlColorEncoding}
use Rattle.color_encoding.specs.declared.JxlColorEncoding.TheVariants.{RgbColorSpace, GrayscaleColorSpace, XYB}
use Rattle.common_names.specs.Common.{common}
use Rattle.text.specs.Description.{rgb_text, gray_text, description}
use Rattle.scanner.specs.Scan.{found, or_else}
use Rattle.scanner.specs.ScanLaws.{nothing≢found, steps, either}
use Rattle.description_parser.specs.Language.{Describes, srgb, p3, pq, hlg, rgb, gray, xyb, InLanguage}
use Rattle.description_parser.specs.Parse.{rgb_fields, rgb_of, gray_fields, gray_of, encoding}
use Rattle.description_parser.specs.Parse as Parse
use Rattle.description_laws.specs.EncodingLaws.{encoding_exact}
use Rattle.description_round_trip.specs.TwoDigits.{FloatsTwoDigits}
use Rattle.description_round_trip.specs.AsRead.{encoding_as_read}
use Rattle.description_round_trip.proofs.PrintedPartLaws.{rgb_part, gray_part}
use Rattle.description_round_trip.specs.SameDescriptionLaws.{common_again}
use Rattle.description_round_trip.specs.CommonNameLaws.{by_common_name}

pub record Tells (e : JxlColorEncoding) : Type 0 where
  pub describes : FloatsTwoDigits e → Describes (description e) (encoding_as_read e)
  pub only : InLanguage (description e) → FloatsTwoDigits e

-- ---- RGB without a common name

module _ (w : JxlWhitePoint) (p : JxlPrimaries) (t : JxlTransferFunction) (i : RenderingIntent) where
  rgb_only : (e : JxlColorEncoding) → encoding (rgb_text w p t i ++ []) ≡ found e [] → FloatsTwoDigits (RgbColorSpace w p t i)
  unfolding encoding rgb_text
  rgb_only e h = ⊎_elim long (λ n. absurd (nothing≢found n)) (either (Parse.rgb l) (or_else (Parse.gray l) (or_else (Parse.xyb l) (Parse.common l))) h)
    where
      l : List ℕ
      l = rgb_text w p t i ++ []

      long : Parse.rgb l ≡ found e [] → FloatsTwoDigits (RgbColorSpace w p t i)
      long h =
          let s = steps (rgb_fields l) rgb_of h in
          let q = (rgb_part w p t i {E = λ m. Unit {0}}).only [] s.rest s.value tt s.first in
          (q.0.0.0, (q.0.0.1, q.1))

  rgb_tells : ((text : List ℕ) → common w p t i text ≡ text) → Tells (RgbColorSpace w p t i)
  unfolding description
  rgb_tells unnamed =
      record {
        describes = λ q. subst (λ (l : List ℕ). Describes l (encoding_as_read (RgbColorSpace w p t i))) (sym (unnamed (rgb_text w p t i)))
            (rgb (common_again w p t i [] ∙ unnamed []) ((rgb_part w p t i {E = λ m. Unit {0}}).text (((q.0, q.1.0), tt), q.1.1)));
        only = λ d.
            rgb_only d.0
            (ap (λ (l : List ℕ). encoding (l ++ [])) (sym (unnamed (rgb_text w p t i)))
            ∙ encoding_exact.finds d.0 (description (RgbColorSpace w p t i)) [] d.1);
      }

-- ---- gray

gray_only : (w : JxlWhitePoint) (t : JxlTransferFunction) (i : RenderingIntent) (e : JxlColorEncoding) → encoding (gray_text w t i ++ []) ≡ found e []
    → FloatsTwoDigits (GrayscaleColorSpace w t i)
unfolding encoding gray_text
gray_only w t i e h = ⊎_elim long (λ n. absurd (nothing≢found n)) (either (Parse.gray l) (or_else (Parse.xyb l) (Parse.common l)) h)
  where
    l : List ℕ
    l = gray_text w t i ++ []

    long : Parse.gray l ≡ found e [] → FloatsTwoDigits (GrayscaleColorSpace w t i)
    long h =
        let s = steps (gray_fields l) (λ f. found (gray_of f)) h in
        let q = (gray_part w t i {E = λ m. Unit {0}}).only [] s.rest s.value tt s.first in
        (q.0.0, q.1)

-- ---- every encoding

pub tells : (e : JxlColorEncoding) → Tells e
unfolding description
tells (RgbColorSpace w p t i) =
    by_common_name w p t i Tells
    (record { describes = λ q. srgb refl; only = λ d. (tt, (tt, tt)) })
    (record { describes = λ q. p3 refl; only = λ d. (tt, (tt, tt)) })
    (record { describes = λ q. pq refl; only = λ d. (tt, (tt, tt)) })
    (record { describes = λ q. hlg refl; only = λ d. (tt, (tt, tt)) })
    (rgb_tells w p t i)
tells (GrayscaleColorSpace w t i) =
    record {
      describes = λ q. gray ((gray_part w t i {E = λ m. Unit {0}}).text ((q.0, tt), q.1));
      only = λ d. gray_only w t i d.0 (encoding_exact.finds d.0 (gray_text w t i) [] d.1);
    }
tells (XYB i) = record { describes = λ q. xyb (record { tail = _; is = refl; split = refl }); only = λ d. tt }
