-- The binary32 pattern of a value: the exponent field and the 23 digits, from the value in units of 2 ^ -149. Assumes nothing.
use Rattle.std.specs.Prelude.{◌≡◌, ◌⊎◌, Bool, cond, ℕ, suc, ◌+◌, ◌-◌, ◌*◌, ◌/◌, ◌^◌, ◌≤◌, ◌<◌, T, ltb, Float}
use Rattle.std.proofs.Common.{sym, ap, ◌∙◌, subst, inl, inr, le_trans, le_of_eq, lt_of_lt_of_le, lt_of_le_of_lt, lt_of_not-le, not-le_of_lt, le_antisymm, mul_assoc, mul-one, mul-le-mul_right, mul-div_cancel, eq-or-lt_of_le, arith, pow-add, pow_mono, shl_lt}
use Rattle.std.proofs.lemmas.Nat.{shl-shr}
use Rattle.std.specs.Float.{nan, inf, fin, binary32}
use Rattle.std.specs.Float.Ieee.{down, size, odd, units, fits, of_bits, to_bits}
use Rattle.std.specs.Float.Ieee.Digits.{size-lt, size-le}
use Rattle.std.specs.Float.Ieee.Fits.{down_pos, odd-fits, inf-fits, cond-fits}
use Rattle.std.specs.Float.Ieee.Exact.{HasValue, units_val}
use Rattle.std.specs.Float.Ieee.Bits.{of_bits-to_bits}

abbrev pattern : ℕ → ℕ → ℕ
pattern c a = c + (size a - 24) * 2 ^ 23 + a / 2 ^ (size a - 24)

to_bits_value : (v : Float) (s : Bool) (a : ℕ) → HasValue v s a (2 ^ 149) → to_bits binary32 v ≡ pattern (cond s (2 ^ 31) 0) a
unfolding to_bits
to_bits_value nan s a h = absurd h
to_bits_value (inf t) s a h = absurd h
to_bits_value (fin t m e) s a h =
    ap (λ (x : ℕ). pattern (cond t (2 ^ 31) 0) x) (ap (λ (x : ℕ). x / down e) h.1 ∙ mul-div_cancel a (down_pos e))
    ∙ ap (λ (u : Bool). pattern (cond u (2 ^ 31) 0) a) h.0

pub size_exact : (a n : ℕ) → 2 ^ a ≤ n → n < 2 ^ suc a → size n ≡ suc a
size_exact a n lo hi =
    le_antisymm (size-le n (suc a) hi)
    (lt_of_not-le (λ (g : size n ≤ a). not-le_of_lt (lt_of_lt_of_le (size-lt n) (pow_mono g)) lo))

pub monus_zero : (z : ℕ) → z ≤ 24 → z - 24 ≡ 0
monus_zero z h = omega arith

pub monus_k : (z k : ℕ) → z ≡ suc (23 + k) → z - 24 ≡ k
monus_k z k h = omega arith

monus_k1 : (z k : ℕ) → z ≡ suc (24 + k) → z - 24 ≡ 1 + k
monus_k1 z k h = omega arith

carry : (c k : ℕ) → c + (1 + k) * 8388608 + 8388608 ≡ c + k * 8388608 + 16777216
carry c k = omega arith

pub more_24 : (k : ℕ) → 24 + k ≡ suc (23 + k)
more_24 k = omega arith

more_25 : (k : ℕ) → 25 + k ≡ suc (24 + k)
more_25 k = omega arith

form_at : (c q k : ℕ) → size (q * 2 ^ k) - 24 ≡ k → pattern c (q * 2 ^ k) ≡ c + k * 2 ^ 23 + q
form_at c q k z = ap (λ (j : ℕ). c + j * 2 ^ 23 + q * 2 ^ k / 2 ^ j) z ∙ ap (λ (x : ℕ). c + k * 2 ^ 23 + x) (shl-shr q k)

form : (c q k : ℕ) → q ≤ 2 ^ 24 → (k ≡ 0) ⊎ (2 ^ 23 ≤ q) → pattern c (q * 2 ^ k) ≡ c + k * 2 ^ 23 + q
form c q k le n = go (eq-or-lt_of_le le) n
  where
    go : (q ≡ 2 ^ 24) ⊎ (q < 2 ^ 24) → (k ≡ 0) ⊎ (2 ^ 23 ≤ q) → pattern c (q * 2 ^ k) ≡ c + k * 2 ^ 23 + q
    go (inr l) (inl z) =
        form_at c q k
        (subst (λ (j : ℕ). size (q * 2 ^ j) - 24 ≡ j) (sym z)
        (monus_zero (size (q * 1)) (size-le (q * 1) 24 (subst (λ (x : ℕ). x < 2 ^ 24) (sym (mul-one q)) l))))
    go (inr l) (inr g) =
        form_at c q k
        (monus_k (size (q * 2 ^ k)) k
        (size_exact (23 + k) (q * 2 ^ k) (le_trans (le_of_eq (pow-add 2 23 k)) (mul-le-mul_right (2 ^ k) g)) (subst (λ (x : ℕ). q * 2 ^ k < 2 ^ x) (more_24 k) (shl_lt 24 k l))))
    go (inl e) m =
        let a : q * 2 ^ k ≡ 2 ^ 24 * 2 ^ k = ap (λ (x : ℕ). x * 2 ^ k) e in
        let z : size (2 ^ 24 * 2 ^ k) - 24 ≡ 1 + k =
        monus_k1 (size (2 ^ 24 * 2 ^ k)) k
        (size_exact (24 + k) (2 ^ 24 * 2 ^ k) (le_of_eq (pow-add 2 24 k)) (subst (λ (x : ℕ). 2 ^ 24 * 2 ^ k < 2 ^ x) (more_25 k) (shl_lt 25 k (omega arith)))) in
        let d : 2 ^ 24 * 2 ^ k ≡ 2 ^ 23 * 2 ^ (1 + k) = sym (ap (λ (x : ℕ). 2 ^ 23 * x) (pow-add 2 1 k) ∙ sym (mul_assoc (2 ^ 23) 2 (2 ^ k))) in
        ap (λ (x : ℕ). pattern c x) a
        ∙ ap (λ (j : ℕ). c + j * 2 ^ 23 + 2 ^ 24 * 2 ^ k / 2 ^ j) z
        ∙ ap (λ (x : ℕ). c + (1 + k) * 2 ^ 23 + x) (ap (λ (x : ℕ). x / 2 ^ (1 + k)) d ∙ shl-shr (2 ^ 23) (1 + k))
        ∙ carry c k
        ∙ ap (λ (x : ℕ). c + k * 2 ^ 23 + x) (sym e)

units-fits : (s : Bool) (q k : ℕ) → q ≤ 2 ^ 24 → q * 2 ^ k < 2 ^ 277 → T (fits binary32 (units binary32 s q k))
unfolding units
units-fits s q k le h =
    cond-fits binary32 (ltb (q * 2 ^ k) (2 ^ 277)) (odd 25 s q k 149) (inf s)
    (odd-fits binary32 25 s q k (lt_of_le_of_lt le (omega arith)) le h) (inf-fits binary32 s)

-- ---- the pattern k * 2 ^ 23 + q stands for q * 2 ^ k units

pub units-bits : (s : Bool) (q k : ℕ) → q ≤ 2 ^ 24 → (k ≡ 0) ⊎ (2 ^ 23 ≤ q) → q * 2 ^ k < 2 ^ 277
    → of_bits binary32 (cond s (2 ^ 31) 0 + k * 2 ^ 23 + q) ≡ units binary32 s q k
units-bits s q k le n h =
    ap (of_bits binary32) (sym (to_bits_value (units binary32 s q k) s (q * 2 ^ k) (units_val binary32 s q k h) ∙ form (cond s (2 ^ 31) 0) q k le n))
    ∙ of_bits-to_bits binary32 (units binary32 s q k) (units-fits s q k le h)
