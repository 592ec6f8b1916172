-- The long forms, by what is found part after part; and a gamma that is zero. Assumes nothing.
use Rattle.std.specs.Prelude.{ℕ, zero, suc, ◌*◌, ◌≤◌, ◌<◌, ◌≡◌, refl, Bool, true, false, cond, ◌&&◌, ◌||◌, List, [], ◌∷◌, eqb, Float, length, drop}
use Rattle.std.proofs.Common.{mul-one, zero-mul, mul-pos, zero-lt-suc, arith, ◌∙◌, eq-eqb, ne_eqb, drop-cons, drop_of_length-le}
use Rattle.std.proofs.Math.Path.{ap}
use Rattle.std.specs.Bool.{beq}
use Rattle.std.specs.Float.{nan, inf, fin, binary32}
use Rattle.std.specs.Float.Ieee.{up, down, level, eq, of_bits}
use Rattle.std.specs.Float.Ieee.Fits.{up_pos}
use Rattle.buffer.specs.Ascii.{ascii}
use Rattle.buffer.specs.Checked.{is, refused}
use Rattle.color_encoding.specs.declared.JxlWhitePoint.{JxlWhitePoint}
use Rattle.color_encoding.specs.declared.JxlPrimaries.{JxlPrimaries}
use Rattle.color_encoding.specs.declared.JxlColorEncoding.{JxlColorEncoding}
use Rattle.text.specs.Description.{underscore}
use Rattle.scanner.specs.Scan.{Found, nothing, found, and_then, mapped, after, joined}
use Rattle.names_parser.specs.ParseNames.{intent, white, primaries, transfer}
use Rattle.description_parser.specs.Language.{is_zero, zero_gamma}
use Rattle.description_parser.specs.Parse.{RgbFields, rgb_fields, unless_named, rgb_of, rgb, GrayFields, gray_fields, gray_of, gray, ending, not_in_language, gamma_is_zero, answer}

-- ---- three parts: what follows the first

module _ {A B C : Type 0} (f : List ℕ → Found A) (n : List ℕ) (g : List ℕ → Found B) (m : List ℕ) (h : List ℕ → Found C) (l : List ℕ) where
  -- the third part beside what was found before it
  abbrev third : {D : Type 0} → D → List ℕ → Found (D × C)
  third d s = mapped (λ c. (d, c)) (after m h s)

  -- the first part beside the two others
  abbrev beside : A → B × C → (A × B) × C
  beside a q = ((a, q.0), q.1)

  pub joined_rest : {a : A} {r : List ℕ} → f l ≡ found a r → joined (joined f n g) m h l ≡ mapped (beside a) (joined (after n g) m h r)
  joined_rest {a} {r} e = ap (λ (x : Found A). and_then (and_then x (λ a r. mapped (λ b. (a, b)) (after n g r))) third) e ∙ second (after n g r)
    where
      last : (b : B) (y : Found C) → mapped {B = (A × B) × C} (λ c. ((a, b), c)) y ≡ mapped (beside a) (mapped {B = B × C} (λ c. (b, c)) y)
      last b nothing = refl
      last b (found c s) = refl

      second : (x : Found B) → and_then (mapped {B = A × B} (λ b. (a, b)) x) third ≡ mapped (beside a) (and_then x third)
      second nothing = refl
      second (found b s) = last b (after m h s)

-- the white and the primaries of a long form
abbrev pub rgb_primaries : List ℕ → Found (JxlWhitePoint × JxlPrimaries)
rgb_primaries = joined (after (ascii "RGB_") white) underscore primaries

module _ (l : List ℕ) where
  -- without a white or primaries there is no RGB encoding
  pub rgb_none : rgb_primaries l ≡ nothing → rgb l ≡ nothing
  unfolding rgb rgb_fields
  rgb_none e =
      ap (λ (x : Found (JxlWhitePoint × JxlPrimaries)). and_then (and_then (and_then x (λ a m. mapped (λ b. (a, b)) (after underscore intent m))) (λ a m. mapped (λ b. (a, b)) (after underscore transfer m))) rgb_of) e

  -- what stands behind the primaries
  pub rgb_ends : {w : JxlWhitePoint} {p : JxlPrimaries} {o : List ℕ} → rgb_primaries l ≡ found (w, p) o → rgb l ≡ and_then (mapped {B = RgbFields} (λ q. (((w, p), q.0), q.1)) (ending o)) rgb_of
  unfolding rgb rgb_fields ending
  rgb_ends e = ap (λ (x : Found RgbFields). and_then x rgb_of) (joined_rest rgb_primaries underscore intent underscore transfer l e)

  -- and behind a gray white
  pub gray_ends : {w : JxlWhitePoint} {m : List ℕ} → after (ascii "Gra_") white l ≡ found w m → gray l ≡ mapped gray_of (mapped {B = GrayFields} (λ q. ((w, q.0), q.1)) (ending m))
  unfolding gray gray_fields ending
  gray_ends e = ap (mapped gray_of) (joined_rest (after (ascii "Gra_") white) underscore intent underscore transfer l e)

-- nothing where there is a name
pub replaced : (name : List ℕ) (e : JxlColorEncoding) (l : List ℕ) → 0 < length name → unless_named name e l ≡ nothing
replaced [] e l h = absurd (no h)
  where
    no : 0 < 0 → ⊥
    no h = omega arith
replaced (c ∷ name) e l h = refl

-- ---- what follows

-- a text that goes on behind an encoding is none of the language
pub more_left : (e : JxlColorEncoding) (n : ℕ) (text : List ℕ) → n < length text → answer (found e (drop n text)) ≡ refused not_in_language
more_left e n text h = ap (λ (r : List ℕ). answer (found e r)) (drop-cons text n 0 h)

-- where it ends, the answer goes by the gamma
pub ends : (e : JxlColorEncoding) (n : ℕ) (text : List ℕ) → length text ≤ n → answer (found e (drop n text)) ≡ cond (zero_gamma e) (refused gamma_is_zero) (is e)
ends e n text h = ap (λ (r : List ℕ). answer (found e r)) (drop_of_length-le text h)

-- ---- a gamma that is zero

-- 0.0 equals a zero of either sign
same_as_zero : (s : Bool) (a : ℕ) → level s a false 0 ≡ eqb a 0
same_as_zero s a = go (eqb a 0)
  where
    go : (z : Bool) → (z && (beq s false || z)) ≡ z
    go true = or_true (beq s false)
      where
        or_true : (b : Bool) → (b || true) ≡ true
        or_true true = refl
        or_true false = refl
    go false = refl

pub zero_is : (x : Float) → eq x (of_bits binary32 0) ≡ is_zero x
unfolding eq of_bits
zero_is nan = refl
zero_is (inf s) = refl
zero_is (fin s m e) = by m
  where
    none : zero * up e * 1 ≡ 0
    none = mul-one (0 * up e) ∙ zero-mul (up e)

    some : (m : ℕ) → suc m * up e * 1 ≡ 0 → ⊥
    some m z = let p : 0 < suc m * up e = mul-pos (zero-lt-suc m) (up_pos e) in omega (arith, mul-one (suc m * up e))

    by : (m : ℕ) → level s (m * up e * 1) false (0 * down e) ≡ is_zero (fin s m e)
    by zero = rw (zero-mul (down e)) (same_as_zero s (0 * up e * 1) ∙ eq-eqb (0 * up e * 1) 0 none)
    by (suc m) = rw (zero-mul (down e)) (same_as_zero s (suc m * up e * 1) ∙ ne_eqb (suc m * up e * 1) 0 (some m))
