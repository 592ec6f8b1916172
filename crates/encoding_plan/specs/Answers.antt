-- What an answer of the code stands for: the plan of an encoding, whose text is the encoding's description, with the count of its rounded numbers.
-- Assumes nothing.
use Rattle.buffer.specs.Checked.{Checked, is, then}
use Rattle.color_encoding.specs.declared.JxlColorEncoding.{JxlColorEncoding}
use Rattle.numbers.specs.declared.fixed.Counted.{Counted}
use Rattle.text.specs.Description.{description}
use Rattle.profile.specs.Plan.{Plan}
use Rattle.profile.specs.Numbers as Plans
use Rattle.profile.specs.declared.Numbers.{Numbers}
pub use Rattle.encoding_curve.specs.CurveOf.{reciprocal_refusal}

abbrev pub described : JxlColorEncoding → Checked (Counted Numbers) → Checked (Counted Plan)
described e c = then c (λ n. is (record { value = Plans.plan_of n.value (description e); rounded = n.rounded }))
