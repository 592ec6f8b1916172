-- An encoding with maker and model (02, order 6) and the mark "adapted" of gray (02, order 9), and its plan. Assumes nothing.
use Rattle.std.specs.Prelude.{ℕ, Bool, false}
use Rattle.buffer.specs.Checked.{Checked, is, then}
use Rattle.numbers.specs.declared.fixed.Counted.{Counted}
use Rattle.numbers.specs.Rounded.{counted}
use Rattle.color_encoding.specs.declared.JxlColorEncoding.{JxlColorEncoding}
use Rattle.profile.specs.Plan.{Plan, with_device}
use Rattle.encoding_plan.specs.PlanOf.{color_plan}
use Rattle.encoding_plan.specs.FixedFloats.{color_floats}
use Rattle.encoding_plan.specs.declared.Encoding.{Encoding}

-- a color encoding with this mark, this maker and this model
abbrev pub encoding_as : Bool → ℕ → ℕ → JxlColorEncoding → Encoding
encoding_as m a b c = record { color = c; maker = a; model = b; adapted = m }

-- without the mark
abbrev pub encoding_with : ℕ → ℕ → JxlColorEncoding → Encoding
encoding_with a b c = encoding_as false a b c

-- "The job form and typed texts mean zeros", and the mark is off in them
abbrev pub plain_encoding : JxlColorEncoding → Encoding
plain_encoding c = encoding_with 0 0 c

-- the plan of an encoding, of XYB too, has its maker and model
abbrev pub encoding_plan : Encoding → Checked Plan
encoding_plan e = then (color_plan e.adapted e.color) (λ p. is (with_device e.maker e.model p))

-- with the count of rounded numbers, which does not depend on maker and model
abbrev pub counted_encoding_plan : Encoding → Checked (Counted Plan)
counted_encoding_plan e = counted (color_floats e.adapted e.color) (encoding_plan e)
