-- The range of fixed numbers, and what a float that has one tells. Assumes nothing.
use Rattle.std.specs.Prelude.{Option, Some, None, ℕ, zero, suc, ◌*◌, ◌≤◌, ◌<◌, ◌≡◌, refl, Bool, true, false, cond, List, [], ◌∷◌, map, T, leb, ℤ, nat_abs, Float}
use Rattle.std.proofs.Common.{sym, ap, ap₂, ◌∙◌, arith, leb→le, lit≤}
use Rattle.std.specs.Float.{nan, inf, fin}
use Rattle.std.specs.Float.Ieee.{up, down}
use Rattle.std.specs.Float.Ieee.Fits.{down_pos}
use Rattle.buffer.specs.Checked.{is, refused, each}
use Rattle.buffer.specs.CheckedLaws.{both}
use Rattle.floats.specs.Rounding.{halves_up}
use Rattle.floats.specs.RoundingLaws.{halves_up_le}
use Rattle.numbers.specs.Fixed.{some_number, signed, largest, whole_fraction, of_fraction, s15_fixed16, whole, fixed_or, number_of, fixed_number}
use Rattle.numbers.specs.declared.fixed.S15Fixed16.{S15Fixed16}

-- ---- the range

pub nat_abs_signed : (s : Bool) (n : ℕ) → nat_abs (signed s n) ≡ n
nat_abs_signed true zero = refl
nat_abs_signed true (suc n) = refl
nat_abs_signed false n = refl

fraction_within : (s : Bool) (num den : ℕ) → 0 < den → nat_abs (number_of (of_fraction s num den)) ≤ largest
fraction_within s num den d = go (leb (num * 65536) (largest * den)) (leb→le (num * 65536) (largest * den))
  where
    go : (t : Bool) → (T t → num * 65536 ≤ largest * den) → nat_abs (number_of (cond t (some_number (signed s (halves_up (num * 65536) den)) (whole_fraction num den)) None)) ≤ largest
    go true p = rw (nat_abs_signed s (halves_up (num * 65536) den)) (halves_up_le (num * 65536) den d largest (p tt))
    go false p = lit≤ tt

fixed_number_within : (x : Float) → nat_abs (fixed_number x) ≤ largest
unfolding s15_fixed16
fixed_number_within nan = lit≤ tt
fixed_number_within (inf s) = lit≤ tt
fixed_number_within (fin s m e) = fraction_within s (m * up e) (down e) (down_pos e)

number_within : (x : Float) (z : ℤ) {w : Bool} → s15_fixed16 x ≡ some_number z w → nat_abs z ≤ largest
number_within x z e = rw e at (fixed_number_within x)

-- ---- a float that has a fixed number

pub no_number : {z : ℤ} {w : Bool} → None ≡ some_number z w → ⊥
no_number e = let zero_one : ◌≡◌ {A = ℕ} 0 1 = cc in omega arith

abbrev marked : Option S15Fixed16 → Bool
marked (Some s) = s.whole
marked None = false

-- number and mark are told by the answer
pub same_number : {a z : ℤ} {b w : Bool} → some_number a b ≡ some_number z w → (a ≡ z) × (b ≡ w)
same_number e = (ap number_of e, ap marked e)

-- the mark beside the number is that of the float
pub mark_is : (x : Float) {z : ℤ} {w : Bool} → s15_fixed16 x ≡ some_number z w → w ≡ whole x
unfolding s15_fixed16 whole
mark_is nan e = absurd (no_number e)
mark_is (inf s) e = absurd (no_number e)
mark_is (fin s m e) {z} {w} h = go (leb (m * up e * 65536) (largest * down e)) h
  where
    go : (t : Bool) → cond t (some_number (signed s (halves_up (m * up e * 65536) (down e))) (whole_fraction (m * up e) (down e))) None ≡ some_number z w
        → w ≡ whole_fraction (m * up e) (down e)
    go true h = sym (same_number h).1
    go false h = absurd (no_number h)

pub number_if : (n : ℕ) (x : Float) {z : ℤ} → fixed_or n x ≡ is z → s15_fixed16 x ≡ some_number z (whole x)
number_if n x {z} e = go (s15_fixed16 x) refl
  where
    go : (s : Option S15Fixed16) → s15_fixed16 x ≡ s → s15_fixed16 x ≡ some_number z (whole x)
    go (Some s) h = let is_y : fixed_or n x ≡ is s.number = simp h in h ∙ ap₂ some_number (cc) (mark_is x h)
    go None h = let no : fixed_or n x ≡ refused n = simp h in cc

pub within_if : (n : ℕ) (x : Float) {z : ℤ} → fixed_or n x ≡ is z → nat_abs z ≤ largest
within_if n x {z} e = number_within x z (number_if n x e)

-- the fixed numbers of floats that all have one
pub fixed_numbers_are : (n : ℕ) (xs : List Float) (zs : List ℤ) → each (fixed_or n) xs ≡ is zs → map fixed_number xs ≡ zs
fixed_numbers_are n [] zs e = cc
fixed_numbers_are n (x ∷ xs) zs e =
    let p = both (fixed_or n x) _ e in
    let q = both (each (fixed_or n) xs) _ p.second in
    let same : p.value ∷ q.value ≡ zs = cc q.second in
    ap₂ (λ (y : ℤ) (ys : List ℤ). y ∷ ys) (ap number_of (number_if n x p.first)) (fixed_numbers_are n xs q.value q.first) ∙ same
