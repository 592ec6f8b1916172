-- What is promised of a description that is read again (02, order 2): which descriptions are in the language, what each is answered, and that the
-- encoding that is read has the same description. Assumes nothing.
use Rattle.std.specs.Prelude.{◌≡◌, ◌↔◌, true, false, Float}
use Rattle.buffer.specs.Checked.{is, refused}
use Rattle.color_encoding.specs.declared.JxlColorEncoding.{JxlColorEncoding}
use Rattle.decimal.specs.Seven.{seven_decimals}
use Rattle.text.specs.Description.{description}
use Rattle.text.specs.Held.{Held, HeldEncoding}
use Rattle.decimal_parser.specs.FloatText.{FloatText}
use Rattle.description_parser.specs.Language.{InLanguage}
use Rattle.description_parser.specs.Parse.{not_in_language, gamma_is_zero, parse}
use Rattle.description_round_trip.specs.TwoDigits.{TwoDigits, FloatsTwoDigits, gamma_prints_zero}
use Rattle.description_round_trip.specs.AsRead.{float_as_read, encoding_as_read}
use Rattle.description_round_trip.proofs.InLanguageLaws.{tells}
use Rattle.description_round_trip.proofs.RoundTripLaws.{float_told, encoding_told, told_51, told_52, same_description, same_seven}

-- a description is in the language exactly if every float of the encoding prints with at most two whole digits
pub in_language_exactly : (e : JxlColorEncoding) → InLanguage (description e) ↔ FloatsTwoDigits e
in_language_exactly e = ((tells e).only, λ q. (encoding_as_read e, (tells e).describes q))

-- what is read from the description of an encoding has that description
pub reads_back : (e e' : JxlColorEncoding) → HeldEncoding e → parse (description e) ≡ is e' → description e' ≡ description e
reads_back e e' h p = same_description e e' h p

-- ---- the answer to a description

pub reads_encoding : (e e' : JxlColorEncoding)
    → (parse (description e) ≡ is e') ↔ (FloatsTwoDigits e × (gamma_prints_zero e ≡ false) × (e' ≡ encoding_as_read e))
reads_encoding e e' = encoding_told e e'

pub reads_51 : (e : JxlColorEncoding) → (parse (description e) ≡ refused not_in_language) ↔ (¬ FloatsTwoDigits e)
reads_51 e = told_51 e

pub reads_52 : (e : JxlColorEncoding) → (parse (description e) ≡ refused gamma_is_zero) ↔ (FloatsTwoDigits e × (gamma_prints_zero e ≡ true))
reads_52 e = told_52 e

-- ---- the floats

-- the seven decimals of x are the text of a float exactly if they have at most two whole digits
pub decimals_in_language_exactly : (x y : Float) → FloatText y (seven_decimals x) ↔ (TwoDigits x × (y ≡ float_as_read x))
decimals_in_language_exactly x y = float_told x y

-- and that float has the same seven decimals
pub same_decimals : (x y : Float) → Held x → FloatText y (seven_decimals x) → seven_decimals y ≡ seven_decimals x
same_decimals x y h f = same_seven x y h f
