-- What is promised of a typed text (02, order 2): it has one reading at most; it is answered by the encoding that it describes, by 51 exactly where it is
-- not in the language, and by 52 exactly where a gamma is zero; each float is the f32 nearest to the decimal that was typed. Assumes nothing.
use Rattle.std.specs.Prelude.{ℕ, ◌^◌, ◌≡◌, ◌⊎◌, ◌↔◌, true, false, List, eqb, Float}
use Rattle.std.proofs.Common.{lt_of_lt_of_le, ap, ◌∙◌, lit<, lit≤}
use Rattle.std.specs.Float.{binary32}
use Rattle.buffer.specs.Checked.{is, refused}
use Rattle.color_encoding.specs.declared.JxlColorEncoding.{JxlColorEncoding}
use Rattle.decimal_parser.specs.FloatText.{FloatText}
use Rattle.description_parser.specs.Language.{Describes, InLanguage, is_zero, zero_gamma}
use Rattle.description_parser.specs.Parse.{not_in_language, gamma_is_zero, parse}
use Rattle.description_laws.specs.Distance.{Nearest}
use Rattle.description_laws.specs.ReadsLaws.{outside, zero, read, reading, gives, given, told_encoding, told_51, told_52, told_number}
use Rattle.description_laws.specs.ZeroLaws.{rounds_to_zero}
use Rattle.description_laws.specs.NearestLaws.{round-nearest}

pub one_reading : (text : List ℕ) (e e' : JxlColorEncoding) → Describes text e → Describes text e' → e ≡ e'
one_reading text e e' h h' = reading text e e' h h'

-- ---- the answer

pub answers_encoding : (text : List ℕ) (e : JxlColorEncoding) → (parse text ≡ is e) ↔ (Describes text e × (zero_gamma e ≡ false))
answers_encoding text e = (λ p. told_encoding text e (given text p), λ h. gives text (read h.0 h.1))

pub answers_51 : (text : List ℕ) → (parse text ≡ refused not_in_language) ↔ (¬ InLanguage text)
answers_51 text = (λ p. told_51 text (given text p), λ o. gives text (outside o))

pub answers_52 : (text : List ℕ) → (parse text ≡ refused gamma_is_zero) ↔ ((e : JxlColorEncoding) × Describes text e × (zero_gamma e ≡ true))
answers_52 text = (λ p. told_52 text (given text p), λ h. gives text (zero h.1 h.2))

pub no_other_answer : (text : List ℕ) (n : ℕ) → parse text ≡ refused n → (n ≡ not_in_language) ⊎ (n ≡ gamma_is_zero)
no_other_answer text n p = told_number text n (given text p)

-- ---- the floats

-- 52 is for a gamma whose digits are all zero
pub zero-exactly : (x : Float) (text : List ℕ) (h : FloatText x text) → is_zero x ≡ eqb h.q 0
zero-exactly x text h = ap is_zero h.value ∙ rounds_to_zero h.negative h.q

-- the float of a decimal q / 10 ^ 7 is the f32 nearest to it, and has its sign: a minus before zero gives negative zero
pub nearest : (x : Float) (text : List ℕ) (h : FloatText x text) → Nearest binary32 h.negative h.q (10 ^ 7) x
nearest x text h = rw h.value (round-nearest h.negative h.q (10 ^ 7) (lit< tt) (lt_of_lt_of_le h.below (lit≤ tt)))
