-- A printed part in front of a text: something is found there only if every float of the part was printed with at most two whole digits, and then the
-- part is a text of the part as it is read. Assumes nothing.
use Rattle.std.specs.Prelude.{ℕ, ◌≡◌, refl, true, false, List, ◌++◌, Float, length, drop}
use Rattle.std.proofs.Common.{sym, ap, ◌∙◌, subst, ⊎_elim, append_assoc}
use Rattle.buffer.specs.Ascii.{ascii}
use Rattle.buffer.specs.BoolLaws.{true≢false}
use Rattle.color_encoding.specs.declared.RenderingIntent.{RenderingIntent}
use Rattle.color_encoding.specs.declared.JxlWhitePoint.{JxlWhitePoint}
use Rattle.color_encoding.specs.declared.JxlWhitePoint.TheVariants as W
use Rattle.color_encoding.specs.declared.JxlPrimaries.{JxlPrimaries}
use Rattle.color_encoding.specs.declared.JxlPrimaries.TheVariants as P
use Rattle.color_encoding.specs.declared.JxlTransferFunction.{JxlTransferFunction}
use Rattle.color_encoding.specs.declared.JxlTransferFunction.TheVariants as F
use Rattle.color_encoding.specs.Intent.{intent_name}
use Rattle.decimal.specs.Seven.{seven_decimals}
use Rattle.encoding_names.specs.Names.{comma, semicolon, white_name, primaries_name, transfer_name}
use Rattle.encoding_names.specs.Names as Names
use Rattle.text.specs.Description.{underscore, rgb_text, gray_text}
use Rattle.scanner.specs.Grammar.{Headed, Joined}
use Rattle.scanner.specs.Scan.{Found, found, and_then, or_else, mapped, starts_with, after, joined, any_of}
use Rattle.scanner.specs.ScanLaws.{same_rest, kept, Steps, steps, either, starts_split, after_finds, Front, Exact, Each, any_of_holds, headed, joint}
use Rattle.decimal_parser.specs.FloatText.{FloatText}
use Rattle.decimal_parser.specs.ParseFloat.{float}
use Rattle.decimal_parser.specs.FloatLaws.{float_exact}
use Rattle.names_parser.specs.ParseNames.{intent, pair, own_white, whites, white, own_primaries, three_pairs, primary_sets, primaries, transfer}
use Rattle.description_parser.specs.Language.{IntentText, PairText, WhiteText, PrimariesText, TransferText, RgbText, GrayText}
use Rattle.description_parser.specs.Parse.{rgb_fields, gray_fields}
use Rattle.description_laws.specs.PartsLaws.{intent_exact, pair_exact, white_exact, primaries_exact}
use Rattle.description_round_trip.specs.TwoDigits.{TwoDigits, WhiteTwoDigits, PrimariesTwoDigits, TransferTwoDigits}
use Rattle.description_round_trip.specs.AsRead.{float_as_read, white_as_read, primaries_as_read, transfer_as_read}
use Rattle.description_round_trip.proofs.PrintedFloatLaws.{like_printed, like_printed_lem, float_only, float_text}

-- ---- parts

-- The text `name` in front of another: something with a rest for which E holds is found there only if Q holds, and then `name` is a text of a.
-- (The rest counts for primaries: "202.0000000," has the name of BT2100 in front, but no underscore after that.)
pub record Part {A : Type 0} (F : A → List ℕ → Type 0) (scan : List ℕ → Found A) (name : List ℕ) (a : A) (E : List ℕ → Type 0) (Q : Type 0) : Type 0 where
  pub only : (r m : List ℕ) (b : A) → E m → scan (name ++ r) ≡ found b m → Q
  pub text : Q → F a name

abbrev Starts : List ℕ → List ℕ → Type 0
Starts letters l = starts_with letters l ≡ true

module _ {A B : Type 0} {F : A → List ℕ → Type 0} {f : List ℕ → Found A} {G : B → List ℕ → Type 0} {g : List ℕ → Found B} (x : Exact F f)
    (separator : List ℕ) {n k : List ℕ} {a : A} {b : B} {E : List ℕ → Type 0} {P Q : Type 0}
    (v : Part F f n a (Starts separator) P) (w : Part G g k b E Q) where
  abbrev pair_with : A → B → List ℕ → Found (A × B)
  pair_with c d l = found (c, d) l

  abbrev last : A → List ℕ → Found (A × B)
  last c l = and_then (after separator g l) (pair_with c)

  joined_second : (r m : List ℕ) (c : A × B) (s : Steps (f (n ++ (separator ++ (k ++ r)))) last c m)
      → Steps (after separator g s.rest) (pair_with s.value) c m → E m → P × Q
  joined_second r m c s t e =
      let starts : Starts separator s.rest = (kept (starts_with separator s.rest) (g (drop (length separator) s.rest)) t.first).0 in
      let p : P = v.only (separator ++ (k ++ r)) s.rest s.value starts s.first in
      let rest : separator ++ (k ++ r) ≡ s.rest = same_rest (sym (x.finds a n (separator ++ (k ++ r)) (v.text p)) ∙ s.first) in
      let here : g (k ++ r) ≡ found t.value t.rest = sym (after_finds separator g (k ++ r)) ∙ ap (after separator g) rest ∙ t.first in
      (p, w.only r t.rest t.value (subst E (sym (same_rest t.second)) e) here)

  joined_only : (r m : List ℕ) (c : A × B) → E m → joined f separator g (n ++ separator ++ k ++ r) ≡ found c m → P × Q
  joined_only r m c e h =
      let parts = append_assoc (n ++ separator) k r ∙ append_assoc n separator (k ++ r) in
      let front = f (n ++ (separator ++ (k ++ r))) in
      let s : Steps front last c m = steps front last (ap (joined f separator g) (sym parts) ∙ h) in
      joined_second r m c s (steps (after separator g s.rest) (pair_with s.value) s.second) e

  joined_part : Part (Joined F separator G) (joined f separator g) (n ++ separator ++ k) (a, b) E (P × Q)
  joined_part =
      record {
        only = joined_only;
        text = λ q. record { first = n; second = k; is_first = v.text q.0; is_second = w.text q.1; split = refl };
      }

headed_part : {A : Type 0} {F : A → List ℕ → Type 0} {f : List ℕ → Found A} (letters : List ℕ) {n : List ℕ} {a : A} {E : List ℕ → Type 0} {Q : Type 0}
    → Part F f n a E Q → Part (Headed letters F) (after letters f) (letters ++ n) a E Q
headed_part {f} letters {n} v =
    record {
      only = λ r m b e h. v.only r m b e (sym (ap (after letters f) (append_assoc letters n r) ∙ after_finds letters f (n ++ r)) ∙ h);
      text = λ q. record { tail = n; is = v.text q; split = refl };
    }

-- ---- names, and then values of one's own, which begin with a printed float

-- with an underscore after it, it does not look like a printed float
abbrev Apart : {A : Type 0} → A → List ℕ → Type 0
Apart a t = (o : List ℕ) → like_printed (t ++ (underscore ++ o)) ≡ false

module _ {A B : Type 0} (F : A → List ℕ → Type 0) (name : A → List ℕ) (values : List A) (own : B → A) {G : B → List ℕ → Type 0} {g : List ℕ → Found B}
    {n : List ℕ} {b : B} {Q : Type 0} (apart : Each Apart name values) (to : G b n → F (own b) n) (begins : (r : List ℕ) → like_printed (n ++ r) ≡ true)
    (v : Part G g n b (Starts underscore) Q) where
  no_name : (r m : List ℕ) (a : A) → Starts underscore m → any_of name values (n ++ r) ≡ found a m → ⊥
  no_name r m a u h =
      let x : Front Apart a (n ++ r) m = any_of_holds Apart name values apart (n ++ r) a m h in
      true≢false (sym (begins r) ∙ ap like_printed (x.split ∙ ap (λ (l : List ℕ). x.text ++ l) (starts_split underscore m u)) ∙ x.is (drop 1 m))

  own_only : (r m : List ℕ) (a : A) → Starts underscore m → or_else (any_of name values (n ++ r)) (mapped own (g (n ++ r))) ≡ found a m → Q
  own_only r m a u h =
      ⊎_elim (λ (e : any_of name values (n ++ r) ≡ found a m). absurd (no_name r m a u e))
      (λ (e : mapped own (g (n ++ r)) ≡ found a m). mine (steps (g (n ++ r)) (λ c. found (own c)) e))
      (either (any_of name values (n ++ r)) (mapped own (g (n ++ r))) h)
    where
      mine : Steps (g (n ++ r)) (λ c. found (own c)) a m → Q
      mine s = v.only r s.rest s.value (subst (Starts underscore) (sym (same_rest s.second)) u) s.first

  own_part : Part F (λ l. or_else (any_of name values l) (mapped own (g l))) n (own b) (Starts underscore) Q
  own_part = record { only = own_only; text = λ q. to (v.text q) }

-- ---- floats

float_part : (x : Float) {E : List ℕ → Type 0} → Part FloatText float (seven_decimals x) (float_as_read x) E (TwoDigits x)
float_part x = record { only = λ r m y e h. float_only x r m y h; text = float_text x }

pair_part : (separator : List ℕ) (x y : Float) {E : List ℕ → Type 0}
    → Part (PairText separator) (pair separator) (Names.pair separator x y) (float_as_read x, float_as_read y) E (TwoDigits x × TwoDigits y)
unfolding pair Names.pair
pair_part separator x y = joined_part float_exact separator (float_part x) (float_part y)

-- ---- the parts of a description

white_part : (w : JxlWhitePoint) → Part WhiteText white (white_name w) (white_as_read w) (Starts underscore) (WhiteTwoDigits w)
unfolding white white_name
white_part W.D65 = record { only = λ r m b e h. tt; text = λ q. refl }
white_part W.E = record { only = λ r m b e h. tt; text = λ q. refl }
white_part W.DCI = record { only = λ r m b e h. tt; text = λ q. refl }
white_part (W.Chromaticity x y) =
    own_part WhiteText white_name whites own_white ((λ o. refl), ((λ o. refl), ((λ o. refl), tt))) (λ h. h) begins (pair_part semicolon x y)
  where
    begins : (r : List ℕ) → like_printed (Names.pair semicolon x y ++ r) ≡ true
    begins r = simp append_assoc (like_printed_lem x _)

primaries_part : (p : JxlPrimaries) → Part PrimariesText primaries (primaries_name p) (primaries_as_read p) (Starts underscore) (PrimariesTwoDigits p)
unfolding primaries three_pairs primaries_name
primaries_part P.SRGB = record { only = λ r m b e h. tt; text = λ q. refl }
primaries_part P.BT2100 = record { only = λ r m b e h. tt; text = λ q. refl }
primaries_part P.P3 = record { only = λ r m b e h. tt; text = λ q. refl }
primaries_part (P.Chromaticities rx ry gx gy bx by) =
    own_part PrimariesText primaries_name primary_sets own_primaries ((λ o. refl), ((λ o. refl), ((λ o. refl), tt))) (λ h. h) begins
    (joined_part (joint semicolon (pair_exact comma) (pair_exact comma)) semicolon
    (joined_part (pair_exact comma) semicolon (pair_part comma rx ry) (pair_part comma gx gy))
    (pair_part comma bx by))
  where
    begins : (r : List ℕ) → like_printed (Names.pair comma rx ry ++ semicolon ++ Names.pair comma gx gy ++ semicolon ++ Names.pair comma bx by ++ r) ≡ true
    begins r = simp append_assoc (like_printed_lem rx _)

intent_part : (i : RenderingIntent) {E : List ℕ → Type 0} → Part IntentText intent (intent_name i) i E (Unit {0})
intent_part i = record { only = λ r m b e h. tt; text = λ q. refl }

transfer_part : (t : JxlTransferFunction) {E : List ℕ → Type 0} → Part TransferText transfer (transfer_name t) (transfer_as_read t) E (TransferTwoDigits t)
unfolding transfer transfer_name
transfer_part F.BT709 = record { only = λ r m b e h. tt; text = λ q. refl }
transfer_part F.Linear = record { only = λ r m b e h. tt; text = λ q. refl }
transfer_part F.SRGB = record { only = λ r m b e h. tt; text = λ q. refl }
transfer_part F.PQ = record { only = λ r m b e h. tt; text = λ q. refl }
transfer_part F.DCI = record { only = λ r m b e h. tt; text = λ q. refl }
transfer_part F.HLG = record { only = λ r m b e h. tt; text = λ q. refl }
transfer_part (F.Gamma g) =
    record {
      only = λ r m b e h. (let s = steps (float (seven_decimals g ++ r)) (λ x. found (F.Gamma x)) h in float_only g r s.rest s.value s.first);
      text = λ q. record { tail = seven_decimals g; is = float_text g q; split = refl };
    }

-- ---- the long forms

pub rgb_part : (w : JxlWhitePoint) (p : JxlPrimaries) (t : JxlTransferFunction) (i : RenderingIntent) {E : List ℕ → Type 0}
    → Part RgbText rgb_fields (rgb_text w p t i) (((white_as_read w, primaries_as_read p), i), transfer_as_read t) E
    (((WhiteTwoDigits w × PrimariesTwoDigits p) × Unit {0}) × TransferTwoDigits t)
unfolding rgb_fields rgb_text
rgb_part w p t i =
    let head = headed (ascii "RGB_") white_exact in
    let both = joint underscore head primaries_exact in
    joined_part (joint underscore both intent_exact) underscore
    (joined_part both underscore
    (joined_part head underscore (headed_part (ascii "RGB_") (white_part w)) (primaries_part p))
    (intent_part i)) (transfer_part t)

pub gray_part : (w : JxlWhitePoint) (t : JxlTransferFunction) (i : RenderingIntent) {E : List ℕ → Type 0}
    → Part GrayText gray_fields (gray_text w t i) ((white_as_read w, i), transfer_as_read t) E ((WhiteTwoDigits w × Unit {0}) × TransferTwoDigits t)
unfolding gray_fields gray_text
gray_part w t i =
    let head = headed (ascii "Gra_") white_exact in
    joined_part (joint underscore head intent_exact) underscore
    (joined_part head underscore (headed_part (ascii "Gra_") (white_part w)) (intent_part i)) (transfer_part t)
