-- A printed float in front of a text: the scanner of a float finds one there only if it was printed with at most two whole digits, and no name with
-- an underscore after it looks like one. Assumes nothing.
use Rattle.std.specs.Prelude.{◌≡◌, refl, Bool, true, false, cond, ◌||◌, List, [], ◌∷◌, ◌++◌, ℕ, zero, suc, ◌+◌, ◌*◌, ◌/◌, ◌%◌, ◌^◌, ◌≤◌, ◌<◌, eqb, ltb, length, drop, Float}
use Rattle.std.proofs.Common.{sym, ap, ◌∙◌, append_assoc, zero-lt-suc, arith, le-leb, lt-ltb, ltb-true, ltb-false, eqb→eq, length-append}
use Rattle.std.specs.Float.{nan, inf, fin}
use Rattle.std.specs.Float.Ieee.{size}
use Rattle.buffer.specs.All.{All, none, more}
use Rattle.buffer.specs.AllLaws.{All-append}
use Rattle.buffer.specs.Ascii.{ascii}
use Rattle.buffer.specs.BoolLaws.{holds, both, both_left, never}
use Rattle.digits.specs.Digits.{digit, digits, digits_up_to, last_digits}
use Rattle.digits.specs.DigitsLaws.{digits_append, some-digit, length_digits, length_last}
use Rattle.decimal.specs.Seven.{with_point, seven_decimals}
use Rattle.scanner.specs.Scan.{found, starts_with}
use Rattle.scanner.specs.ScanLaws.{nothing≢found, steps}
use Rattle.decimal_parser.specs.FloatText.{FloatText}
use Rattle.decimal_parser.specs.ParseFloat.{is_digit, unsigned, with_sign, float}
use Rattle.decimal_parser.specs.FloatLaws.{unsigned_holds}
use Rattle.description_round_trip.specs.TwoDigits.{ten_millionths, TwoDigits}
use Rattle.description_round_trip.specs.AsRead.{float_as_read}

-- ---- a printed float as a text that is read

pub float_text : (x : Float) → TwoDigits x → FloatText (float_as_read x) (seven_decimals x)
unfolding seven_decimals
float_text nan h = absurd h
float_text (inf s) h = absurd h
float_text (fin s m e) h = record { negative = s; q = ten_millionths m e; below = h; value = refl; letters = refl }

-- ---- digits

abbrev Digits : List ℕ → Type 0
Digits l = All (λ (c : ℕ). is_digit c ≡ true) l

one : (d : ℕ) → d < 10 → Digits (digit d ∷ [])
one d h = more (both (le-leb 48 (48 + d) (omega arith)) (lt-ltb (48 + d) 58 (omega arith))) none

up_to : (k n : ℕ) → Digits (digits_up_to k n)
unfolding digits_up_to
up_to zero n = one (n % 10) (omega arith)
up_to (suc k) n = go (ltb n 10) refl (All-append (up_to k (n / 10)) (one (n % 10) (omega arith)))
  where
    go : (t : Bool) → ltb n 10 ≡ t → Digits (digits_up_to k (n / 10) ++ (digit (n % 10) ∷ []))
        → Digits (cond t (digit n ∷ []) (digits_up_to k (n / 10) ++ (digit (n % 10) ∷ [])))
    go true e h = one n (ltb-true n 10 e)
    go false e h = h

all_digits : (n : ℕ) → Digits (digits n)
unfolding digits
all_digits n = up_to (size n) n

-- ---- the point

abbrev next : ℕ → ℕ
next zero = zero
next (suc n) = suc (suc n)

-- the place of the point that only digits stand before, the first place being 1, and 0 where there is none
abbrev point_place : List ℕ → ℕ
point_place [] = 0
point_place (c ∷ l) = cond (is_digit c) (next (point_place l)) (cond (eqb c 46) 1 0)

after_digits : (d l : List ℕ) → Digits d → point_place (d ++ (46 ∷ l)) ≡ suc (length d)
after_digits [] l none = refl
after_digits (c ∷ d) l (more h t) = ap (λ (b : Bool). cond b (next (point_place (d ++ (46 ∷ l)))) (cond (eqb c 46) 1 0)) h ∙ ap next (after_digits d l t)

point_of : (q : ℕ) (r : List ℕ) → point_place (with_point q ++ r) ≡ suc (length (digits (q / 10 ^ 7)))
unfolding with_point
point_of q r =
    ap point_place (append_assoc (digits (q / 10 ^ 7)) (46 ∷ last_digits 7 q) r)
    ∙ after_digits (digits (q / 10 ^ 7)) (last_digits 7 q ++ r) (all_digits (q / 10 ^ 7))

-- ---- how many whole digits the scanner takes

three_digits : (n : ℕ) → 100 ≤ n → 3 ≤ length (digits n)
three_digits n h =
    let is : length (digits n) ≡ length (digits (n / 100)) + 2 =
    ap (λ (x : ℕ). length (digits x)) (split n)
    ∙ ap length (digits_append 2 (n / 100) (n % 100) (omega arith) (omega arith))
    ∙ length-append (digits (n / 100)) (last_digits 2 (n % 100))
    ∙ ap (λ (x : ℕ). length (digits (n / 100)) + x) (length_last 2 (n % 100)) in
    let some = some-digit (n / 100) in
    omega arith
  where
    split : (n : ℕ) → n ≡ n / 100 * 10 ^ 2 + n % 100
    split n = omega arith

unsigned_only : (q n : ℕ) (r m : List ℕ) → unsigned (with_point q ++ r) ≡ found n m → q < 10 ^ 9
unsigned_only q n r m e =
    let h = unsigned_holds n (with_point q ++ r) m e in
    let low = h.0 in
    let same : suc (length (digits (q / 10 ^ 7))) ≡ suc (length (digits (n / 10 ^ 7))) = sym (point_of q r) ∙ ap point_place h.1 ∙ point_of n m in
    let few : length (digits (n / 10 ^ 7)) ≤ 2 = length_digits 1 (n / 10 ^ 7) (omega arith) in
    below q (length (digits (q / 10 ^ 7))) (three_digits (q / 10 ^ 7)) (omega arith)
  where
    below : (q k : ℕ) → (100 ≤ q / 10 ^ 7 → 3 ≤ k) → k ≤ 2 → q < 10 ^ 9
    below q k h g = go (ltb q (10 ^ 9)) refl
      where
        go : (t : Bool) → ltb q (10 ^ 9) ≡ t → q < 10 ^ 9
        go true e = ltb-true q (10 ^ 9) e
        go false e =
            let large : 10 ^ 9 ≤ q = ltb-false q (10 ^ 9) e in
            let three : 3 ≤ k = h (omega arith) in
            absurd (omega arith)

with_sign_only : (s : Bool) (q : ℕ) (r m : List ℕ) (y : Float) → with_sign s (with_point q ++ r) ≡ found y m → q < 10 ^ 9
unfolding with_sign
with_sign_only s q r m y e = let k = steps (unsigned (with_point q ++ r)) _ e in unsigned_only q k.value r k.rest k.first

-- a text with a point behind digits begins with no minus
no_minus : (l : List ℕ) (n : ℕ) → point_place l ≡ suc n → starts_with (ascii "-") l ≡ false
no_minus [] n h = refl
no_minus (c ∷ l) n h =
    never (starts_with (ascii "-") (c ∷ l))
    (λ e. none n (ap (λ (x : ℕ). point_place (x ∷ l)) (eqb→eq 45 c (holds (both_left (eqb 45 c) true e))) ∙ h))
  where
    none : (n : ℕ) → 0 ≡ suc n → ⊥
    none n e = omega arith

pub float_only : (x : Float) (r m : List ℕ) (y : Float) → float (seven_decimals x ++ r) ≡ found y m → TwoDigits x
unfolding float seven_decimals
float_only nan r m y h = absurd (nothing≢found h)
float_only (inf true) r m y h = absurd (nothing≢found h)
float_only (inf false) r m y h = absurd (nothing≢found h)
float_only (fin true k e) r m y h = with_sign_only true (ten_millionths k e) r m y h
float_only (fin false k e) r m y h =
    let l = with_point (ten_millionths k e) ++ r in
    let plain : starts_with (ascii "-") l ≡ false = no_minus l (length (digits (ten_millionths k e / 10 ^ 7))) (point_of (ten_millionths k e) r) in
    with_sign_only false (ten_millionths k e) r m y (ap (λ (t : Bool). cond t (with_sign true (drop 1 l)) (with_sign false l)) (sym plain) ∙ h)

-- ---- names

-- whether a text begins with the letter that a minus, "NaN" or "inf" begins with
abbrev no_digit : List ℕ → Bool
no_digit [] = false
no_digit (c ∷ l) = eqb c 45 || (eqb c 78 || eqb c 105)

-- whether a printed float may stand in front
abbrev pub like_printed : List ℕ → Bool
like_printed l = no_digit l || ltb 0 (point_place l)

pub like_printed_lem : (x : Float) (r : List ℕ) → like_printed (seven_decimals x ++ r) ≡ true
unfolding seven_decimals
like_printed_lem nan r = refl
like_printed_lem (inf true) r = refl
like_printed_lem (inf false) r = refl
like_printed_lem (fin true m e) r = refl
like_printed_lem (fin false m e) r =
    let n = length (digits (ten_millionths m e / 10 ^ 7)) in
    let l = with_point (ten_millionths m e) ++ r in
    ap (λ (k : ℕ). no_digit l || ltb 0 k) (point_of (ten_millionths m e) r)
    ∙ ap (λ (t : Bool). no_digit l || t) (lt-ltb 0 (suc n) (zero-lt-suc n))
    ∙ or_true (no_digit l)
  where
    or_true : (b : Bool) → (b || true) ≡ true
    or_true true = refl
    or_true false = refl
