-- The bytes of a struct tell the answer by value that was stored there: of every plan, whatever stands behind the struct. Assumes nothing.
use Rattle.std.specs.Prelude.{◌≡◌, List, ◌++◌, ℕ}
use Rattle.profile.specs.Plan.{Plan, Valid}
use Rattle.reading.specs.Reading.{plan_reading}
use Rattle.plan_record.specs.PlanRecord.{plan_record, reading_by}
use Rattle.plan_record.specs.RecordToldLaws.{reading_back, plan_held}

pub record_told : (p : Plan) → Valid p → (rest : List ℕ) → reading_by (plan_record (plan_reading p) ++ rest) ≡ plan_reading p
record_told p v rest = reading_back (plan_reading p) (plan_held p v) rest
