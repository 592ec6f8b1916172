-- What `parse` answers to a description, by the floats of the encoding. Assumes nothing.
use Rattle.std.specs.Prelude.{◌≡◌, refl, ◌↔◌, true, false, [], Float}
use Rattle.std.proofs.Common.{sym, ap, ◌∙◌, subst}
use Rattle.std.specs.Float.{nan, inf, fin}
use Rattle.buffer.specs.Checked.{is, refused}
use Rattle.color_encoding.specs.declared.JxlTransferFunction.{JxlTransferFunction}
use Rattle.color_encoding.specs.declared.JxlTransferFunction.TheVariants as F
use Rattle.color_encoding.specs.declared.JxlColorEncoding.{JxlColorEncoding}
use Rattle.color_encoding.specs.declared.JxlColorEncoding.TheVariants.{RgbColorSpace, GrayscaleColorSpace, XYB}
use Rattle.decimal.specs.Seven.{seven_decimals}
use Rattle.text.specs.Description.{description}
use Rattle.text.specs.Held.{Held, HeldEncoding}
use Rattle.scanner.specs.ScanLaws.{one_value}
use Rattle.decimal_parser.specs.FloatText.{FloatText}
use Rattle.decimal_parser.specs.FloatLaws.{float_exact}
use Rattle.description_parser.specs.Language.{Describes, is_zero, zero_transfer, zero_gamma}
use Rattle.description_parser.specs.Parse.{not_in_language, gamma_is_zero, parse}
use Rattle.description_laws.proofs.ReadsTexts.{one_reading, answers_encoding, answers_51, answers_52}
use Rattle.description_laws.specs.ZeroLaws.{rounds_to_zero}
use Rattle.description_round_trip.specs.TwoDigits.{ten_millionths, TwoDigits, FloatsTwoDigits, prints_zero, transfer_prints_zero, gamma_prints_zero}
use Rattle.description_round_trip.specs.AsRead.{float_as_read, transfer_as_read, encoding_as_read}
use Rattle.description_round_trip.specs.SameDecimalsLaws.{decimals_again}
use Rattle.description_round_trip.proofs.PrintedFloatLaws.{float_text, float_only}
use Rattle.description_round_trip.specs.SameDescriptionLaws.{description_again}
use Rattle.description_round_trip.proofs.InLanguageLaws.{tells}

-- ---- a float

text_only : (x y : Float) → FloatText y (seven_decimals x) → TwoDigits x × (y ≡ float_as_read x)
text_only x y f =
    let q : TwoDigits x = float_only x [] [] y (float_exact.finds y (seven_decimals x) [] f) in
    (q, one_value float_exact (seven_decimals x) y (float_as_read x) f (float_text x q))

pub float_told : (x y : Float) → FloatText y (seven_decimals x) ↔ (TwoDigits x × (y ≡ float_as_read x))
float_told x y = (text_only x y, λ q. subst (λ (z : Float). FloatText z (seven_decimals x)) (sym q.1) (float_text x q.0))

pub same_seven : (x y : Float) → Held x → FloatText y (seven_decimals x) → seven_decimals y ≡ seven_decimals x
same_seven x y h f = let q = text_only x y f in ap seven_decimals q.1 ∙ decimals_again x h q.0

-- ---- a gamma reads as zero exactly if it prints as zero

float_zero : (x : Float) → is_zero (float_as_read x) ≡ prints_zero x
float_zero nan = refl
float_zero (inf s) = refl
float_zero (fin s m e) = rounds_to_zero s (ten_millionths m e)

transfer_zero : (t : JxlTransferFunction) → zero_transfer (transfer_as_read t) ≡ transfer_prints_zero t
transfer_zero F.BT709 = refl
transfer_zero F.Linear = refl
transfer_zero F.SRGB = refl
transfer_zero F.PQ = refl
transfer_zero F.DCI = refl
transfer_zero F.HLG = refl
transfer_zero (F.Gamma g) = float_zero g

gamma_zero : (e : JxlColorEncoding) → zero_gamma (encoding_as_read e) ≡ gamma_prints_zero e
gamma_zero (RgbColorSpace w p t i) = transfer_zero t
gamma_zero (GrayscaleColorSpace w t i) = transfer_zero t
gamma_zero (XYB i) = refl

-- ---- the answers

-- what a description describes
record Reading (e e' : JxlColorEncoding) : Type 0 where
  floats : FloatsTwoDigits e
  same : e' ≡ encoding_as_read e
  zero : zero_gamma e' ≡ gamma_prints_zero e

reading : (e e' : JxlColorEncoding) → Describes (description e) e' → Reading e e'
reading e e' d =
    let q : FloatsTwoDigits e = (tells e).only (e', d) in
    let same : e' ≡ encoding_as_read e = one_reading (description e) e' (encoding_as_read e) d ((tells e).describes q) in
    record { floats = q; same = same; zero = ap zero_gamma same ∙ gamma_zero e }

pub encoding_told : (e e' : JxlColorEncoding)
    → (parse (description e) ≡ is e') ↔ (FloatsTwoDigits e × (gamma_prints_zero e ≡ false) × (e' ≡ encoding_as_read e))
encoding_told e e' = (to, from)
  where
    to : parse (description e) ≡ is e' → FloatsTwoDigits e × (gamma_prints_zero e ≡ false) × (e' ≡ encoding_as_read e)
    to p =
        let a = (answers_encoding (description e) e').0 p in
        let r : Reading e e' = reading e e' a.0 in
        (r.floats, sym r.zero ∙ a.1, r.same)

    from : FloatsTwoDigits e × (gamma_prints_zero e ≡ false) × (e' ≡ encoding_as_read e) → parse (description e) ≡ is e'
    from (q, z, s) = (answers_encoding (description e) (encoding_as_read e)).1 ((tells e).describes q, gamma_zero e ∙ z) ∙ ap is (sym s)

pub told_51 : (e : JxlColorEncoding) → (parse (description e) ≡ refused not_in_language) ↔ (¬ FloatsTwoDigits e)
told_51 e = (
  λ p q. (answers_51 (description e)).0 p (encoding_as_read e, (tells e).describes q),
  λ n. (answers_51 (description e)).1 (λ d. n ((tells e).only d)),
)

pub told_52 : (e : JxlColorEncoding) → (parse (description e) ≡ refused gamma_is_zero) ↔ (FloatsTwoDigits e × (gamma_prints_zero e ≡ true))
told_52 e = (to, λ q. (answers_52 (description e)).1 (encoding_as_read e, (tells e).describes q.0, gamma_zero e ∙ q.1))
  where
    to : parse (description e) ≡ refused gamma_is_zero → FloatsTwoDigits e × (gamma_prints_zero e ≡ true)
    to p =
        let a = (answers_52 (description e)).0 p in
        let r : Reading e a.0 = reading e a.0 a.1 in
        (r.floats, sym r.zero ∙ a.2)

pub same_description : (e e' : JxlColorEncoding) → HeldEncoding e → parse (description e) ≡ is e' → description e' ≡ description e
same_description e e' h p =
    let r : Reading e e' = reading e e' ((answers_encoding (description e) e').0 p).0 in
    ap description r.same ∙ description_again e h r.floats
