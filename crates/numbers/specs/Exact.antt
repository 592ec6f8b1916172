-- What the mark of a fixed number says: value × 65536 is whole exactly if the number is the value, so that nothing was lost. Zeros of both signs are
-- whole; a value that rounds to 0 and is none is not. Assumes nothing.
use Rattle.std.specs.Prelude.{Option, Some, None, ℕ, ◌*◌, ◌/◌, ◌%◌, ◌<◌, ◌≡◌, refl, ◌↔◌, Bool, true, false, cond, T, leb, eqb, ℤ, nat_abs}
use Rattle.std.proofs.Common.{sym, ap, subst, ◌∙◌, mul-pos, div-add-mod', zero-mul, arith, eqb→eq, eq-eqb}
use Rattle.std.proofs.Math.Nat.{mul-mod_left, zero-mod}
use Rattle.std.specs.Float.{fin}
use Rattle.std.specs.Float.Ieee.{up, down}
use Rattle.std.specs.Float.Ieee.Fits.{up_pos, down_pos}
use Rattle.floats.specs.Rounding.{halves_up}
use Rattle.floats.specs.RoundingLaws.{halves_up_below}
use Rattle.numbers.specs.Fixed.{some_number, signed, largest, whole_fraction, s15_fixed16, whole}
use Rattle.numbers.specs.FixedLaws.{same_number, nat_abs_signed, no_number}

-- the magnitude is that of the value exactly if there is no rest
module _ (a b : ℕ) (B : 0 < b) where
  exact_if : eqb (a % b) 0 ≡ true → halves_up a b * b ≡ a
  exact_if e =
      let none : a % b ≡ 0 = eqb→eq (a % b) 0 (subst T (sym e) tt) in
      let below : a / b ≡ halves_up a b = halves_up_below a b B (omega arith) in
      ap (λ (q : ℕ). q * b) (sym below) ∙ omega (arith, div-add-mod' a b)

  if_exact : halves_up a b * b ≡ a → eqb (a % b) 0 ≡ true
  if_exact e = eq-eqb (a % b) 0 (ap (λ (x : ℕ). x % b) (sym e) ∙ mul-mod_left (halves_up a b) b)

-- the value is ±(m · up e) / down e
pub whole_exactly_if : (s : Bool) (m : ℕ) (e : ℤ) {z : ℤ} {w : Bool} → s15_fixed16 (fin s m e) ≡ some_number z w
    → (w ≡ true) ↔ (nat_abs z * down e ≡ m * up e * 65536)
unfolding s15_fixed16
whole_exactly_if s m e {z} {w} h = go (leb (m * up e * 65536) (largest * down e)) h
  where
    q : ℕ
    q = halves_up (m * up e * 65536) (down e)

    go : (t : Bool) → cond t (some_number (signed s q) (whole_fraction (m * up e) (down e))) None ≡ some_number z w
        → (w ≡ true) ↔ (nat_abs z * down e ≡ m * up e * 65536)
    go true h =
        let mark : whole_fraction (m * up e) (down e) ≡ w = (same_number h).1 in
        let number : signed s q ≡ z = (same_number h).0 in
        let size : q ≡ nat_abs z = sym (nat_abs_signed s q) ∙ ap nat_abs number in (
          (λ t. ap (λ (k : ℕ). k * down e) (sym size) ∙ exact_if (m * up e * 65536) (down e) (down_pos e) (mark ∙ t)),
          (λ x. sym mark ∙ if_exact (m * up e * 65536) (down e) (down_pos e) (ap (λ (k : ℕ). k * down e) size ∙ x)),
        )
    go false h = absurd (no_number h)

pub zero-whole : (s : Bool) (e : ℤ) → whole (fin s 0 e) ≡ true
unfolding whole
zero-whole s e = eq-eqb (0 * up e * 65536 % down e) 0 (ap (λ (k : ℕ). k * 65536 % down e) (zero-mul (up e)) ∙ zero-mod (down e))

pub rounds_to_zero : (s : Bool) (m : ℕ) (e : ℤ) {z : ℤ} {w : Bool} → s15_fixed16 (fin s m e) ≡ some_number z w → nat_abs z ≡ 0 → 0 < m → w ≡ false
rounds_to_zero s m e {z} {w} h zero some = go w h
  where
    go : (b : Bool) → s15_fixed16 (fin s m e) ≡ some_number z b → b ≡ false
    go false h = refl
    go true h =
        let equal : nat_abs z * down e ≡ m * up e * 65536 = (whole_exactly_if s m e h).0 refl in
        let none : nat_abs z * down e ≡ 0 = ap (λ (k : ℕ). k * down e) zero ∙ zero-mul (down e) in
        let more : 0 < m * up e = mul-pos some (up_pos e) in
        absurd (omega (arith, equal, none, more))
