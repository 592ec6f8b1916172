-- The digits, and a float's text, are ASCII.
-- Assumes nothing.
use Rattle.std.specs.Prelude.{Bool, true, false, ◌&&◌, cond, List, [], ◌∷◌, ◌++◌, ℕ, zero, suc, ◌*◌, ◌/◌, ◌%◌, ◌^◌, ◌≤◌, ◌<◌, T, leb, ltb, Float}
use Rattle.std.proofs.Common.{arith, leb→le, ltb→lt, lit≤}
use Rattle.std.specs.Float.{nan, inf, fin}
use Rattle.std.specs.Float.Ieee.{up, down, size}
use Rattle.std.specs.Float.Ieee.Fits.{and_l, and_r}
use Rattle.std.specs.Float.Ieee.Nearest.{closest}
use Rattle.digits.specs.Digits.{digit, last_digits, digits_up_to, digits}
use Rattle.decimal.specs.Seven.{minus, with_point, seven_decimals}
use Rattle.buffer.specs.Ascii.{Ascii}
use Rattle.buffer.specs.All.{none, more}
use Rattle.buffer.specs.AllLaws.{All-append}

-- ---- texts

pub append : (a b : List ℕ) → Ascii a → Ascii b → Ascii (a ++ b)
append a b h g = All-append h g

-- letters that are written out: the test computes
abbrev pub letters : List ℕ → Bool
letters [] = true
letters (a ∷ l) = leb a 127 && letters l

pub written : (l : List ℕ) → T (letters l) → Ascii l
written [] t = none
written (a ∷ l) t = more (leb→le a 127 (and_l (leb a 127) (letters l) t)) (written l (and_r (leb a 127) (letters l) t))

-- ---- digits

one : (d : ℕ) → d < 10 → Ascii (digit d ∷ [])
one d h = let low : digit d ≤ 127 = omega arith in more low none

ascii_last : (k n : ℕ) → Ascii (last_digits k n)
unfolding last_digits
ascii_last zero n = none
ascii_last (suc k) n = append (last_digits k (n / 10)) (digit (n % 10) ∷ []) (ascii_last k (n / 10)) (one (n % 10) (omega arith))

ascii_up_to : (k n : ℕ) → Ascii (digits_up_to k n)
unfolding digits_up_to
ascii_up_to zero n = one (n % 10) (omega arith)
ascii_up_to (suc k) n = go (append (digits_up_to k (n / 10)) (digit (n % 10) ∷ []) (ascii_up_to k (n / 10)) (one (n % 10) (omega arith))) (ltb n 10) (ltb→lt n 10)
  where
    go : Ascii (digits_up_to k (n / 10) ++ (digit (n % 10) ∷ [])) → (t : Bool) → (T t → n < 10) → Ascii (cond t (digit n ∷ []) (digits_up_to k (n / 10) ++ (digit (n % 10) ∷ [])))
    go h true s = one n (s tt)
    go h false s = h

ascii_digits : (n : ℕ) → Ascii (digits n)
unfolding digits
ascii_digits n = ascii_up_to (size n) n

ascii_with_point : (q : ℕ) → Ascii (with_point q)
unfolding with_point
ascii_with_point q = append (digits (q / 10 ^ 7)) (46 ∷ last_digits 7 q) (ascii_digits (q / 10 ^ 7)) (more (lit≤ tt) (ascii_last 7 q))

ascii_minus : (s : Bool) → Ascii (minus s)
ascii_minus true = written (45 ∷ []) tt
ascii_minus false = none

pub ascii_seven : (x : Float) → Ascii (seven_decimals x)
unfolding seven_decimals
ascii_seven nan = written (78 ∷ 97 ∷ 78 ∷ []) tt
ascii_seven (inf s) = append (minus s) (105 ∷ 110 ∷ 102 ∷ []) (ascii_minus s) (written (105 ∷ 110 ∷ 102 ∷ []) tt)
ascii_seven (fin s m e) = append (minus s) (with_point (closest (m * up e * 10 ^ 7) (down e))) (ascii_minus s) (ascii_with_point (closest (m * up e * 10 ^ 7) (down e)))
