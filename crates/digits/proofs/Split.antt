-- A number split at a power of ten, as the functions split it that write the two sides one after the other.
-- Assumes nothing.
use mathlib.Core.Path.{◌≡◌, refl, sym, ap, ◌∙◌, subst}
use mathlib.Core.List.{List, [], ◌∷◌, ◌++◌}
use Prim.Native.Nat.{ℕ, ◌+◌, ◌-◌, ◌*◌, ◌/◌, ◌%◌, ◌^◌, ◌≤◌, ◌<◌}
use native.Mathlib.Nat.{div-add-mod', mod-lt, le-div_iff_mul-le, one-mul, le_trans, le_of_eq}
use native.Mathlib.Omega.{arith}
use Rattle.digits.specs.Digits.{digit, last_digits, digits}
use Rattle.digits.specs.DigitsLaws.{ten_pos, last_append, digits_append, digits_small}

module _ (k n high : ℕ) (e : high ≡ n / 10 ^ k) where
  rest : n - high * 10 ^ k ≡ n % 10 ^ k
  rest = rw e (sub (n / 10 ^ k * 10 ^ k) (n % 10 ^ k) n (div-add-mod' n (10 ^ k)))
    where
      sub : (a b n : ℕ) → a + b ≡ n → n - a ≡ b
      sub a b n h = omega arith

  whole : n ≡ high * 10 ^ k + (n - high * 10 ^ k)
  whole = rw (rest, e) (sym (div-add-mod' n (10 ^ k)))

  rest_lt : n - high * 10 ^ k < 10 ^ k
  rest_lt = rw rest (mod-lt n (ten_pos k))

  pub split_last : (j : ℕ) → last_digits (j + k) n ≡ last_digits j high ++ last_digits k (n - high * 10 ^ k)
  split_last j = ap (last_digits (j + k)) whole ∙ last_append j k high (n - high * 10 ^ k) rest_lt

  pub split_digits : 10 ^ k ≤ n → digits n ≡ digits high ++ last_digits k (n - high * 10 ^ k)
  split_digits h = ap digits whole ∙ digits_append k high (n - high * 10 ^ k) pos rest_lt
    where
      pos : 1 ≤ high
      pos = subst (λ (x : ℕ). 1 ≤ x) (sym e) ((le-div_iff_mul-le (ten_pos k)).1 (le_trans (le_of_eq (one-mul (10 ^ k))) h))

-- two digits with none to leave out
pub two_digits : (n : ℕ) → 10 ≤ n → n < 100 → digits n ≡ last_digits 2 n
unfolding last_digits
two_digits n h g =
    split_digits 1 n (n / 10) refl h
    ∙ ap (λ (l : List ℕ). l ++ last_digits 1 (n - n / 10 * 10)) (digits_small (n / 10) (omega arith) ∙ ap (λ (d : ℕ). digit d ∷ []) (small (n / 10) (omega arith)))
    ∙ sym (split_last 1 n (n / 10) refl 1)
  where
    small : (a : ℕ) → a < 10 → a ≡ a % 10
    small a h = omega arith
