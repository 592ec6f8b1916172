-- How many fixed numbers were rounded (02, order 5), of those that are made from a list of floats. Assumes nothing.
use Rattle.std.specs.Prelude.{ℕ, ◌+◌, Bool, cond, List, [], ◌∷◌, Float}
use Rattle.buffer.specs.Checked.{Checked, is, then}
use Rattle.numbers.specs.Fixed.{whole}
pub use Rattle.numbers.specs.declared.fixed.Counted.{Counted}

-- what a number adds to the count, by whether it is whole
abbrev pub one_if_rounded : Bool → ℕ
one_if_rounded w = cond w 0 1

-- how many of the floats are not whole numbers of 65536ths
unfoldable pub rounded_in : List Float → ℕ
rounded_in [] = 0
rounded_in (x ∷ xs) = one_if_rounded (whole x) + rounded_in xs

-- a value whose fixed numbers are made from these floats; what is refused has no count
abbrev pub counted : {A : Type 0} → List Float → Checked A → Checked (Counted A)
counted xs c = then c (λ a. is (record { value = a; rounded = rounded_in xs }))
