-- Laws of decimal digits: how the digits of a number are made of those of its parts, and how many there are.
-- Assumes nothing.
use Rattle.std.specs.Prelude.{◌≡◌, refl, Bool, true, false, cond, List, [], ◌∷◌, ◌++◌, ℕ, zero, suc, ◌+◌, ◌*◌, ◌/◌, ◌%◌, ◌^◌, ◌≤◌, ◌<◌, ltb, length}
use Rattle.std.proofs.Common.{sym, ap, ap₂, ◌∙◌, subst, append-nil, append_assoc, le_trans, lt_of_lt_of_le, le_of_eq, mul_assoc, mul-le-mul_right, pow-suc, add-suc, add-zero, add-one, arith, lt-ltb, le-ltb, lit≤, length-append}
use Rattle.std.specs.Float.Ieee.{size}
use Rattle.std.specs.Float.Ieee.Digits.{size-lt}
use Rattle.digits.specs.Digits.{digit, last_digits, digits_up_to, digits}

-- ---- powers of ten

tenth : (x b : ℕ) → (x * 10 + b) / 10 ≡ x + b / 10
tenth x b = omega arith

last : (x b : ℕ) → (x * 10 + b) % 10 ≡ b % 10
last x b = omega arith

less : (x p : ℕ) → x < p * 10 → x / 10 < p
less x p h = omega arith

-- a * 10 ^ (k + 1), as ten times a * 10 ^ k
shift : (a k : ℕ) → a * 10 ^ suc k ≡ a * 10 ^ k * 10
shift a k = ap (λ (x : ℕ). a * x) (pow-suc 10 k) ∙ sym (mul_assoc a (10 ^ k) 10)

pub ten_pos : (k : ℕ) → 1 ≤ 10 ^ k
ten_pos zero = lit≤ tt
ten_pos (suc k) = subst (λ (x : ℕ). 1 ≤ x) (sym (pow-suc 10 k)) (more (10 ^ k) (ten_pos k))
  where
    more : (x : ℕ) → 1 ≤ x → 1 ≤ x * 10
    more x h = omega arith

two_le_ten : (k : ℕ) → 2 ^ k ≤ 10 ^ k
two_le_ten zero = lit≤ tt
two_le_ten (suc k) = subst (λ (x : ℕ). 2 ^ suc k ≤ x) (sym (pow-suc 10 k)) (subst (λ (x : ℕ). x ≤ 10 ^ k * 10) (sym (pow-suc 2 k)) (both (2 ^ k) (10 ^ k) (two_le_ten k)))
  where
    both : (x y : ℕ) → x ≤ y → x * 2 ≤ y * 10
    both x y h = omega arith

-- ---- the last digits

pub length_last : (k n : ℕ) → length (last_digits k n) ≡ k
unfolding last_digits
length_last zero n = refl
length_last (suc k) n = length-append (last_digits k (n / 10)) (digit (n % 10) ∷ []) ∙ ap (λ (x : ℕ). x + 1) (length_last k (n / 10)) ∙ add-one k

pub last_append : (j k a b : ℕ) → b < 10 ^ k → last_digits (j + k) (a * 10 ^ k + b) ≡ last_digits j a ++ last_digits k b
unfolding last_digits
last_append j zero a b h =
    ap₂ (λ (x y : ℕ). last_digits x y) (add-zero j) (none a b h) ∙ sym (append-nil (last_digits j a))
  where
    none : (a b : ℕ) → b < 1 → a * 1 + b ≡ a
    none a b h = omega arith
last_append j (suc k) a b h =
    let x = a * 10 ^ k in
    let s : a * 10 ^ suc k + b ≡ x * 10 + b = ap (λ (y : ℕ). y + b) (shift a k) in
    ap₂ (λ (i y : ℕ). last_digits i y) (add-suc j k) s
    ∙ ap₂ (λ (y d : ℕ). last_digits (j + k) y ++ (digit d ∷ [])) (tenth x b) (last x b)
    ∙ ap (λ (l : List ℕ). l ++ (digit (b % 10) ∷ [])) (last_append j k a (b / 10) (less b (10 ^ k) (subst (λ (p : ℕ). b < p) (pow-suc 10 k) h)))
    ∙ append_assoc (last_digits j a) (last_digits k (b / 10)) (digit (b % 10) ∷ [])

-- the digit in front of the last k
pub last_cons : (k n : ℕ) → n < 10 ^ k → last_digits (1 + k) n ≡ 48 ∷ last_digits k n
unfolding last_digits
last_cons k n h = ap (last_digits (1 + k)) (none n (10 ^ k)) ∙ last_append 1 k 0 n h
  where
    none : (n p : ℕ) → n ≡ 0 * p + n
    none n p = omega arith

-- the last digits do not see what stands above them
pub last_above : (k a b : ℕ) → b < 10 ^ k → last_digits k (a * 10 ^ k + b) ≡ last_digits k b
unfolding last_digits
last_above k a b h = ap (λ (j : ℕ). last_digits j (a * 10 ^ k + b)) (none k) ∙ last_append 0 k a b h
  where
    none : (k : ℕ) → k ≡ 0 + k
    none k = omega arith

-- ---- the digits without leading zeros

small : (n : ℕ) → n < 10 → n % 10 ≡ n
small n h = omega arith

one_digit_lem : (k n : ℕ) → n < 10 → digit (n % 10) ∷ [] ≡ digits_up_to (suc k) n
unfolding digits_up_to
one_digit_lem k n h = ap (λ (d : ℕ). digit d ∷ []) (small n h) ∙ sym (ap (λ (t : Bool). cond t (digit n ∷ []) (digits_up_to k (n / 10) ++ (digit (n % 10) ∷ []))) (lt-ltb n 10 h))

enough : (j k n : ℕ) → n < 10 ^ suc j → n < 10 ^ suc k → digits_up_to j n ≡ digits_up_to k n
unfolding digits_up_to
enough zero zero n h g = refl
enough zero (suc k) n h g = one_digit_lem k n h
enough (suc j) zero n h g = sym (one_digit_lem j n g)
enough (suc j) (suc k) n h g =
    ap (λ (l : List ℕ). cond (ltb n 10) (digit n ∷ []) (l ++ (digit (n % 10) ∷ [])))
    (enough j k (n / 10) (less n (10 ^ suc j) (subst (λ (p : ℕ). n < p) (pow-suc 10 (suc j)) h)) (less n (10 ^ suc k) (subst (λ (p : ℕ). n < p) (pow-suc 10 (suc k)) g)))

within : (n : ℕ) → n < 10 ^ suc (size n)
within n = lt_of_lt_of_le (size-lt n) (le_trans (two_le_ten (size n)) (subst (λ (x : ℕ). 10 ^ size n ≤ x) (sym (pow-suc 10 (size n))) (more (10 ^ size n))))
  where
    more : (x : ℕ) → x ≤ x * 10
    more x = omega arith

digits_is : (k n : ℕ) → n < 10 ^ suc k → digits n ≡ digits_up_to k n
unfolding digits
digits_is k n h = enough (size n) k n (within n) h

pub digits_small : (n : ℕ) → n < 10 → digits n ≡ digit n ∷ []
unfolding digits_up_to
digits_small n h = digits_is 0 n h ∙ ap (λ (d : ℕ). digit d ∷ []) (small n h)

digits_step : (n : ℕ) → 10 ≤ n → digits n ≡ digits (n / 10) ++ (digit (n % 10) ∷ [])
unfolding digits_up_to
digits_step n h =
    let k = size n in
    let g : n < 10 ^ suc (suc k) = lt_of_lt_of_le (within n) (subst (λ (x : ℕ). 10 ^ suc k ≤ x) (sym (pow-suc 10 (suc k))) (more (10 ^ suc k))) in
    digits_is (suc k) n g
    ∙ ap (λ (t : Bool). cond t (digit n ∷ []) (digits_up_to k (n / 10) ++ (digit (n % 10) ∷ []))) (le-ltb n 10 h)
    ∙ ap (λ (l : List ℕ). l ++ (digit (n % 10) ∷ [])) (sym (digits_is k (n / 10) (less n (10 ^ suc k) (subst (λ (p : ℕ). n < p) (pow-suc 10 (suc k)) g))))
  where
    more : (x : ℕ) → x ≤ x * 10
    more x = omega arith

-- below a number above zero, all k digits are written
pub digits_append : (k a b : ℕ) → 0 < a → b < 10 ^ k → digits (a * 10 ^ k + b) ≡ digits a ++ last_digits k b
unfolding last_digits
digits_append zero a b p h = ap digits (none a b h) ∙ sym (append-nil (digits a))
  where
    none : (a b : ℕ) → b < 1 → a * 1 + b ≡ a
    none a b h = omega arith
digits_append (suc k) a b p h =
    let x = a * 10 ^ k in
    let s : a * 10 ^ suc k + b ≡ x * 10 + b = ap (λ (y : ℕ). y + b) (shift a k) in
    let pos : 1 ≤ x = le_trans (ten_pos k) (le_trans (le_of_eq (one (10 ^ k))) (mul-le-mul_right (10 ^ k) p)) in
    ap digits s
    ∙ digits_step (x * 10 + b) (big x b pos)
    ∙ ap₂ (λ (y d : ℕ). digits y ++ (digit d ∷ [])) (tenth x b) (last x b)
    ∙ ap (λ (l : List ℕ). l ++ (digit (b % 10) ∷ [])) (digits_append k a (b / 10) p (less b (10 ^ k) (subst (λ (q : ℕ). b < q) (pow-suc 10 k) h)))
    ∙ append_assoc (digits a) (last_digits k (b / 10)) (digit (b % 10) ∷ [])
  where
    big : (x b : ℕ) → 1 ≤ x → 10 ≤ x * 10 + b
    big x b h = omega arith

    one : (x : ℕ) → x ≡ 1 * x
    one x = omega arith

-- ---- how many

length-up_to : (k n : ℕ) → (1 ≤ length (digits_up_to k n)) × (length (digits_up_to k n) ≤ suc k)
unfolding digits_up_to
length-up_to zero n = (lit≤ tt, lit≤ tt)
length-up_to (suc k) n = go (length-up_to k (n / 10)).1 (ltb n 10)
  where
    more : (l : List ℕ) (d k : ℕ) → length l ≤ suc k → (1 ≤ length (l ++ (d ∷ []))) × (length (l ++ (d ∷ [])) ≤ suc (suc k))
    more l d k h = simp length-append (omega arith)

    none : (d k : ℕ) → (1 ≤ length (d ∷ [])) × (length (d ∷ []) ≤ suc (suc k))
    none d k = omega arith

    go : length (digits_up_to k (n / 10)) ≤ suc k → (t : Bool) → (1 ≤ length (cond t (digit n ∷ []) (digits_up_to k (n / 10) ++ (digit (n % 10) ∷ [])))) × (length (cond t (digit n ∷ []) (digits_up_to k (n / 10) ++ (digit (n % 10) ∷ []))) ≤ suc (suc k))
    go h true = none (digit n) k
    go h false = more (digits_up_to k (n / 10)) (digit (n % 10)) k h

pub some-digit : (n : ℕ) → 1 ≤ length (digits n)
unfolding digits
some-digit n = (length-up_to (size n) n).0

pub length_digits : (k n : ℕ) → n < 10 ^ suc k → length (digits n) ≤ suc k
length_digits k n h = subst (λ (l : List ℕ). length l ≤ suc k) (sym (digits_is k n h)) (length-up_to k n).1
