-- The parts of the struct, one after another: the law `run`. Assumes nothing.
use mathlib.Core.Path.{◌≡◌}
use native.Mathlib.Omega.{arith}
use lib.ListN.{length}
use Rattle.profile.specs.Plan.{max_letters}
use Rattle.profile.specs.RunsLaws.{next, done, run}
use Rattle.plan_record.specs.PlanRecordLaws.{record_parts, length-record}
use borrow.Author.Rules.{rules}
use Rattle.plan_record.proofs.put_plan_record.Goals.{Start}
use Rattle.plan_record.proofs.put_plan_record.Goals as goal

module _ (s : Start) where
  chad_nine : length s.args.plan.chad ≡ 9
  chad_nine = search rules

  columns_nine : length s.args.plan.columns ≡ 9
  columns_nine = search rules

  letters-long : length s.args.plan.text ≡ max_letters
  letters-long = search rules

pub returns : goal.returns
returns c =
    let plan = c.args.plan in
    run _ _
    (next (rw c.first_numbers.ensures at c.put_u32s_le-at.ensures)
    (next (rw c.bits.ensures at c.put_u32s_le-at-2.ensures)
    (next (rw c.bits-2.ensures at c.put_u32s_le-at-3.ensures)
    (next c.put_u32_le-at.ensures
    (next c.put_bytes.ensures
    done))))) (omega (arith, ((goal.at.returns c).Start).requires.0)) (record_parts plan) (length-record plan (chad_nine (goal.at.returns c).Start) (columns_nine ((goal.at.returns c).Start)) (letters-long (goal.at.returns c).Start))
