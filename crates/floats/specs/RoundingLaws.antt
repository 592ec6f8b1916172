-- Laws of `closest` and `halves_up`: the rounded number by how twice the rest compares with the divisor, its bounds, and that it depends on
-- the fraction alone. Assumes nothing.
use Rattle.std.specs.Prelude.{◌≡◌, refl, not, T, eqb}
use Rattle.std.proofs.Common.{sym, ap, ap₂, ◌∙◌, subst, le_trans, le_of_lt, lt_irrefl, lt_of_lt_of_le, lt_of_le_of_lt, le_antisymm, mul_comm, mul_assoc, mul_left_comm, mul-one, mul-pos, add-mul, zero-add, div-one, mod-lt, div-add-mod', mod-eq_of_lt, div-lt_iff_lt-mul, le-div_iff_mul-le, add-one, arith, lit<, leb→le, eqb→eq}
use Prim.Native.Nat.{ℕ, suc, ◌+◌, ◌*◌, ◌/◌, ◌%◌, ◌≤◌, ◌<◌, compare, Ordering}
use Rattle.std.proofs.Math.Nat.{mod-one, div-eq_of_lt, add-mul-div_right}
use Rattle.std.proofs.Math.Dec.{is_le, compare_is_eq, nleb→lt, eqb_refl}
use Rattle.std.specs.Float.Ieee.{nearest}
use Rattle.std.specs.Float.Ieee.Fits.{nearest-le}
use Rattle.std.specs.Float.Ieee.Nearest.{closest, closest_same, div_same, nearest-ge}
use Rattle.floats.specs.Rounding.{halves_up}

-- ---- what `compare` answers

module _ (a b : ℕ) where
  orders : (o : Ordering) → (T (is_le o) → a ≤ b) → (T (not (is_le o)) → b < a) → (T (compare_is_eq o) → a ≡ b) → (a ≡ b → T (compare_is_eq o))
      → (a < b → o ≡ Ordering.lt) × (b < a → o ≡ Ordering.gt) × (a ≡ b → o ≡ Ordering.eq)
  orders Ordering.lt h k e n = ((λ x. refl), (λ x. absurd (lt_irrefl a (lt_of_le_of_lt (h tt) x))), (λ x. absurd (n x)))
  orders Ordering.eq h k e n = ((λ x. absurd (lt_irrefl a (subst (λ (y : ℕ). a < y) (sym (e tt)) x))), (λ x. absurd (lt_irrefl b (subst (λ (y : ℕ). b < y) (e tt) x))), (λ x. refl))
  orders Ordering.gt h k e n = ((λ x. absurd (lt_irrefl a (lt_of_lt_of_le x (le_of_lt (k tt))))), (λ x. refl), (λ x. absurd (n x)))

  compared : (a < b → compare a b ≡ Ordering.lt) × (b < a → compare a b ≡ Ordering.gt) × (a ≡ b → compare a b ≡ Ordering.eq)
  compared = orders (compare a b) (leb→le a b) (nleb→lt a b) (eqb→eq a b) (λ (e : a ≡ b). subst (λ (x : ℕ). T (eqb a x)) e (eqb_refl a))

-- ---- to the nearest, a tie to the even number

module _ (a b : ℕ) where
  pub closest-below : a % b * 2 < b → a / b ≡ closest a b
  closest-below h = sym (ap (nearest (a / b)) ((compared (a % b * 2) b).0 h))

  pub closest-above : b < a % b * 2 → a / b + 1 ≡ closest a b
  closest-above h = add-one (a / b) ∙ sym (ap (nearest (a / b)) ((compared (a % b * 2) b).1 h))

  pub closest-tie : b ≤ a % b * 2 → a % b * 2 ≤ b → a / b + a / b % 2 ≡ closest a b
  closest-tie h g = sym (ap (nearest (a / b)) ((compared (a % b * 2) b).2 (le_antisymm g h)))

  pub closest-zero : a * 2 < b → closest a b ≡ 0
  closest-zero h =
      let l : a < b = omega arith in
      ap₂ (λ (w r : ℕ). nearest w (compare (r * 2) b)) (div-eq_of_lt l) (mod-eq_of_lt l) ∙ ap (nearest 0) ((compared (a * 2) b).0 h)

module _ (a b n : ℕ) (B : 0 < b) where
  pub closest-le : a < n * b → closest a b ≤ n
  closest-le h = le_trans (nearest-le (a / b) (compare (a % b * 2) b)) ((div-lt_iff_lt-mul B).1 h)

  pub closest-ge : n * b ≤ a → n ≤ closest a b
  closest-ge h = le_trans ((le-div_iff_mul-le B).1 h) (nearest-ge (a / b) (compare (a % b * 2) b))

pub closest-whole : (n b : ℕ) → 0 < b → closest (n * b) b ≡ n
closest-whole n b B =
    closest_same (n * b) b n 1 B (lit< tt) (mul-one (n * b))
    ∙ ap₂ (λ (w r : ℕ). nearest w (compare (r * 2) 1)) (div-one n) (mod-one n)

-- ---- halves up

module _ (a b : ℕ) (B : 0 < b) where
  apart : halves_up a b ≡ (2 * (a % b) + b) / (2 * b) + a / b
  apart =
      ap (λ (x : ℕ). (2 * x + b) / (2 * b)) (sym (div-add-mod' a b))
      ∙ ap (λ (x : ℕ). x / (2 * b)) (regroup (a / b) (a % b) ∙ ap (λ (x : ℕ). 2 * (a % b) + b + x) (mul_left_comm 2 (a / b) b))
      ∙ add-mul-div_right (2 * (a % b) + b) (a / b) (mul-pos (lit< tt) B)
    where
      regroup : (w r : ℕ) → 2 * (w * b + r) + b ≡ 2 * r + b + 2 * (w * b)
      regroup w r = omega arith

  pub halves_up_below : a % b * 2 < b → a / b ≡ halves_up a b
  halves_up_below h = sym (apart ∙ ap (λ (x : ℕ). x + a / b) (div-eq_of_lt (omega arith)) ∙ zero-add (a / b))

  pub halves_up_above : b ≤ a % b * 2 → a / b + 1 ≡ halves_up a b
  halves_up_above h =
      let rest : a % b < b = mod-lt a B in
      let lo : 1 ≤ (2 * (a % b) + b) / (2 * b) = (le-div_iff_mul-le (mul-pos (lit< tt) B)).1 (omega arith) in
      let hi : (2 * (a % b) + b) / (2 * b) < 2 = (div-lt_iff_lt-mul (mul-pos (lit< tt) B)).1 (omega arith) in
      omega (arith, apart)

  pub halves_up_zero : a * 2 < b → halves_up a b ≡ 0
  halves_up_zero h = div-eq_of_lt (omega arith)

  pub halves_up_le : (n : ℕ) → a ≤ n * b → halves_up a b ≤ n
  halves_up_le n h =
      let less : halves_up a b < suc n = (div-lt_iff_lt-mul (mul-pos (lit< tt) B)).1 (omega arith) in
      omega arith

pub halves_up_whole : (n : ℕ) → halves_up n 1 ≡ n
halves_up_whole n = omega arith

-- equal fractions
pub halves_up_same : (a b c d : ℕ) → 0 < b → 0 < d → a * d ≡ c * b → halves_up a b ≡ halves_up c d
halves_up_same a b c d B D e =
    div_same (2 * a + b) (2 * b) (2 * c + d) (2 * d) (mul-pos (lit< tt) B) (mul-pos (lit< tt) D)
    (add-mul (2 * a) b (2 * d) ∙ ap₂ (λ (x y : ℕ). x + y) (four a d ∙ ap (λ (x : ℕ). 4 * x) e ∙ sym (four c b)) (swap b d) ∙ sym (add-mul (2 * c) d (2 * b)))
  where
    four : (x y : ℕ) → 2 * x * (2 * y) ≡ 4 * (x * y)
    four x y = mul_assoc 2 x (2 * y) ∙ ap (λ (z : ℕ). 2 * z) (mul_left_comm x 2 y) ∙ sym (mul_assoc 2 2 (x * y))

    swap : (x y : ℕ) → x * (2 * y) ≡ y * (2 * x)
    swap x y = mul_left_comm x 2 y ∙ ap (λ (z : ℕ). 2 * z) (mul_comm x y) ∙ mul_left_comm 2 y x
