-- The cases of the pattern: no number, an infinity by `infinite_text`, a finite value by `finite-text`.
-- Assumes nothing.
use mathlib.Core.Path.{sym, subst}
use mathlib.Core.Bool.{Bool, true, false, not}
use mathlib.Core.List.{[], ◌∷◌}
use Prim.Native.Nat.{◌+◌, ◌/◌, ◌^◌, ◌≤◌}
use native.Mathlib.Omega.{arith}
use lib.Dec.{T, eqb, lit≤}
use lib.ListN.{length}
use lib.Ieee.{Float, binary32, fits, is_nan, to_bits}
use Rattle.decimal.specs.Seven.{minus, seven_decimals}
use Rattle.buffer.specs.PutsLaws.{then, same, wrote}
use Rattle.floats.specs.FieldsLaws.{equals_itself}
use Rattle.decimal.proofs.Value.{nan-text, b_lt, finite-text, infinite_text}
use Rattle.decimal.proofs.put_seven_decimals.Goals.{After-put_minus-i, Else-x, Start}
use Rattle.decimal.proofs.put_seven_decimals.Goals as goal

abbrev x : Start → Float
x s = s.args.x

-- what owning an `f32` tells: the format holds it
held : (s : Start) → T (fits binary32 (x s))
held s = subst T (sym s.well_formed.1.1.0.1) tt

no_nan : (c : Else-x) → T (not (is_nan (x (goal.at.Else-x c).Start)))
no_nan c = equals_itself (x (goal.at.Else-x c).Start) c.if-x.false

length-minus : (t : Bool) → length (minus t) ≤ 1
length-minus true = lit≤ tt
length-minus false = lit≤ tt

after-sign : (c : After-put_minus-i) → c.put_minus-i.result ≤ c.args.at + 1
after-sign c = omega (arith, c.put_minus-i.ensures.place, length-minus (not (eqb (to_bits binary32 (x ((goal.at.After-put_minus-i c).Start)) / 2 ^ 31) 0)))

pub returns-then-x : goal.returns-then-x
returns-then-x c =
    same (seven_decimals (x (goal.at.returns-then-x c).Start)) (wrote c.args.out.now c.args.at (78 ∷ 97 ∷ 78 ∷ []) c.put_bytes.ensures) (nan-text (x (goal.at.returns-then-x c).Start) c.if-x.true)

pub float_to_bits-bits : goal.float_to_bits-bits
float_to_bits-bits c = no_nan (goal.at.float_to_bits-bits c).Else-x

pub overflow_cast-bits : goal.overflow_cast-bits
overflow_cast-bits c = omega (arith, b_lt (x (goal.at.overflow_cast-bits c).Start) (held (goal.at.overflow_cast-bits c).Start))

pub returns-then-field-eq255 : goal.returns-then-field-eq255
returns-then-field-eq255 c =
    then (seven_decimals (x (goal.at.returns-then-field-eq255 c).Start)) (omega (arith, c.requires)) c.put_minus-i.ensures (wrote _ c.put_minus-i.result (105 ∷ 110 ∷ 102 ∷ []) c.put_bytes-then-field-eq255.ensures)
    (infinite_text (x (goal.at.returns-then-field-eq255 c).Start) (held (goal.at.returns-then-field-eq255 c).Start) (no_nan (goal.at.returns-then-field-eq255 c).Else-x) c.if-field-eq255.true)

pub returns : goal.returns
returns c =
    then (seven_decimals (x (goal.at.returns c).Start)) (omega (arith, c.requires)) c.put_minus-i.ensures c.put_magnitude.ensures
    (finite-text (x (goal.at.returns c).Start) (held (goal.at.returns c).Start) (omega (arith, c.if-field-eq255.false)))
