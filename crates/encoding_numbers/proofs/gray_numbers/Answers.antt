-- `gray_numbers` meets its contract by what its callees ensure of X and of Z.
use Rattle.std.proofs.Common.{Bool, ℕ, ◌≡◌, rules, refl, sym, ap, ap₂, ◌∙◌, true, List, [], ◌∷◌, ◌+◌, arith, w32}
use mir.Val.{to_z, of_z}
use lib.IntN.{ℤ}
use lib.Ieee.{Float, of_bits}
use Rattle.buffer.specs.Checked.{is, value_or}
use Rattle.floats.specs.Binary32.{one}
use Rattle.linalg.specs.Linalg.{component}
use Rattle.numbers.specs.Fixed.{s15_fixed16, some_number, whole}
use Rattle.numbers.specs.Rounded.{one_if_rounded, rounded_in, counted}
use Rattle.numbers.specs.RoundedLaws.{mark_counts}
use Rattle.color_encoding.specs.declared.WhiteXy.{WhiteXy}
use Rattle.white_point.specs.GrayWhite.{cie_xyz_from_white_cie_xy}
use Rattle.white_point.specs.GrayWhiteLaws.{gray_white_lem}
use Rattle.encoding_numbers.specs.NumbersOf.{gray_numbers, gray_floats}
use Rattle.encoding_numbers.proofs.gray_numbers.Goals as goal

-- Y is 1
one_whole : whole one ≡ true
unfolding whole of_bits
one_whole = refl

white_count : (x z : Float) → rounded_in (x ∷ one ∷ z ∷ []) ≡ one_if_rounded (whole x) + one_if_rounded (whole z)
unfolding rounded_in
white_count x z = omega (arith, ap one_if_rounded one_whole)

both_given : (w : WhiteXy) {v : List Float} → is v ≡ cie_xyz_from_white_cie_xy w
    → {x z : ℤ} {a b : Bool} → s15_fixed16 (component v 0) ≡ some_number x a → s15_fixed16 (component v 2) ≡ some_number z b
    → is (record { value = (x, z); rounded = one_if_rounded a + one_if_rounded b }) ≡ counted (gray_floats w) (gray_numbers w)
both_given w {v} e {x} {z} f g =
    let floats : gray_floats w ≡ component v 0 ∷ one ∷ component v 2 ∷ [] = ap (value_or []) (sym e) ∙ gray_white_lem w (sym e) in
    let count = ap rounded_in floats ∙ white_count _ _ ∙ sym (ap₂ (λ (m n : ℕ). m + n) (mark_counts _ f) (mark_counts _ g)) in
    let numbers : gray_numbers w ≡ is (x, z) = simp (sym e, f, g) in
    rw (numbers, count)

pub returns : goal.returns
returns c =
    let x_fixed = sym c.to_s15_fixed_16.ensures ∙ c.in_ok-x-2.ensures.ok_part in
    let z_fixed = sym c.to_s15_fixed_16-2.ensures ∙ c.in_ok-z.ensures.ok_part in
    let x_same : to_z w32 (of_z w32 c.in_ok-x-2.x.number) ≡ c.in_ok-x-2.x.number = search rules in
    let z_same : to_z w32 (of_z w32 c.in_ok-z.z.number) ≡ c.in_ok-z.z.number = search rules in
    rw (x_same, z_same, c.one_if_rounded.ensures, c.one_if_rounded-2.ensures) (both_given c.args.white c.in_ok-x.ensures x_fixed z_fixed)
