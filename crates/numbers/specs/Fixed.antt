-- The s15Fixed16Number (ICC.1:2022, clause 4) of a binary32 value: a signed whole number of 65536ths, or none where the value
-- is not finite or lies outside ±32767.994140625 (01, "Fixed number"). Beside the number stands whether value × 65536 is whole (02, order 5).
-- Assumes nothing.
use Rattle.std.specs.Prelude.{Option, Some, None, ℕ, ◌*◌, ◌%◌, Bool, false, cond, leb, eqb, ℤ, pos, neg_ℤ, Float}
use Rattle.std.specs.Float.{nan, inf, fin}
use Rattle.std.specs.Float.Ieee.{up, down}
use Rattle.buffer.specs.Checked.{Checked, is, refused}
use Rattle.floats.specs.Rounding.{halves_up}
use Rattle.numbers.specs.declared.fixed.S15Fixed16.{S15Fixed16}

-- the largest magnitude of a fixed number, 32767.994140625, in 65536ths
abbrev pub largest : ℕ
largest = 2147483264

abbrev pub signed : Bool → ℕ → ℤ
signed negative n = cond negative (neg_ℤ (pos n)) (pos n)

-- whether num / den × 65536 is whole
abbrev pub whole_fraction : ℕ → ℕ → Bool
whole_fraction num den = eqb (num * 65536 % den) 0

abbrev pub some_number : ℤ → Bool → Option S15Fixed16
some_number z w = Some (record { number = z; whole = w })

-- of ±num / den: the magnitude is rounded with halves up, so that the number is rounded with halves away from zero
abbrev pub of_fraction : Bool → ℕ → ℕ → Option S15Fixed16
of_fraction negative num den =
    cond (leb (num * 65536) (largest * den)) (some_number (signed negative (halves_up (num * 65536) den)) (whole_fraction num den)) None

unfoldable pub s15_fixed16 : Float → Option S15Fixed16
s15_fixed16 nan = None
s15_fixed16 (inf s) = None
s15_fixed16 (fin s m e) = of_fraction s (m * up e) (down e)

-- whether value × 65536 is whole; a fixed number of any other value is rounded
unfoldable pub whole : Float → Bool
whole nan = false
whole (inf s) = false
whole (fin s m e) = whole_fraction (m * up e) (down e)

-- What an answer stands for: the number, or the refusal n of 01's list. Which n, 5, 7 or 8, depends on the float's place in the profile.
abbrev pub checked_fixed : ℕ → Option S15Fixed16 → Checked ℤ
checked_fixed n (Some s) = is s.number
checked_fixed n None = refused n

abbrev pub fixed_or : ℕ → Float → Checked ℤ
fixed_or n x = checked_fixed n (s15_fixed16 x)

-- the number of an answer, and the fixed number of a float, where it is known that there is one; else 0
abbrev pub number_of : Option S15Fixed16 → ℤ
number_of (Some s) = s.number
number_of None = pos 0

abbrev pub fixed_number : Float → ℤ
fixed_number x = number_of (s15_fixed16 x)
